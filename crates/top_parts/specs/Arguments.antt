-- The words of a command line, among the arguments that the system gives.
use Rattle.std.specs.Prelude.{List, [], drop, String, Result, Ok, Err}
use Rattle.std.specs.Vec.Iter.{into_iter_items}
use Rattle.std.specs.declared.alloc.Global.{Global}
use Rattle.std.specs.declared.vec.IntoIter.{IntoIter}
use Rattle.std.specs.declared.io.Error.{Error}

-- the words after the program's name; none where an argument is no text
abbrev pub words_in : Result (IntoIter (String Global) Global) Error → List (String Global)
words_in (Ok all) = drop 1 (into_iter_items all)
words_in (Err error) = []
