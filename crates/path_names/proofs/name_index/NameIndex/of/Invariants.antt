use Rattle.std.proofs.Common.{take}
use Rattle.path_names.specs.NameIndex.{number_at, AreNumbered}
use Rattle.path_names.specs.NameList.{names_of}
use Rattle.path_names.proofs.name_index.NameIndex.of.Given as goal

abbrev pub invariant-loop-number : goal.invariant-loop-number
invariant-loop-number l = AreNumbered (take l.number (names_of l.list)) (number_at l.index)
