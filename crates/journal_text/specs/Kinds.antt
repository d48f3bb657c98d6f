-- The line of an entry in parts: its first word, the numbers that each entry has, and the rest.
-- (For functions and proofs: no promise of the program stands on it.)
use Rattle.std.specs.Prelude.{◌≡◌, ℕ, List, [], ◌∷◌, ◌++◌, codes}
use Rattle.lists.specs.Sums.{one_if}
use Rattle.cache_core.specs.declared.entry.What.{What}
use Rattle.cache_core.specs.declared.entry.What.TheVariants as entries
use Rattle.journal_text.specs.Lines.{fields, way_word}
use Rattle.journal_text.specs.Writable.{HasText}
use Rattle.journal_text.specs.declared.kind.EntryKind.{EntryKind}
use Rattle.journal_text.specs.declared.kind.EntryKind.TheVariants.{Access, Raise, Flush, Lock, Look, Drop}
use Rattle.machine.specs.declared.parameters.Parameters.{Parameters}

-- the first word of a line of this kind
abbrev pub word_of : EntryKind → List ℕ
word_of Access = codes "access"
word_of Raise = codes "raise"
word_of Flush = codes "flush"
word_of Lock = codes "lock"
word_of Look = codes "look"
word_of Drop = codes "drop"

-- the kind of what happened
abbrev pub kind_of : What → EntryKind
kind_of (entries.Access hit way owner rmid mask line) = Access
kind_of entries.Raise = Raise
kind_of entries.Flush = Flush
kind_of (entries.Lock mask first_line) = Lock
kind_of (entries.Look rmid lines) = Look
kind_of (entries.Drop line way) = Drop

-- what stands after the numbers that each entry has
abbrev pub rest_of : What → List ℕ
rest_of (entries.Access hit way owner rmid mask line) = fields (owner.0 ∷ rmid ∷ mask ∷ line ∷ one_if hit ∷ way ∷ [])
rest_of entries.Raise = []
rest_of entries.Flush = []
rest_of (entries.Lock mask first_line) = fields (mask ∷ first_line ∷ [])
rest_of (entries.Look rmid lines) = fields (rmid ∷ lines ∷ [])
rest_of (entries.Drop line way) = fields (line ∷ []) ++ way_word way

-- what happened in this slice is of this kind, has a text, and this is the rest of its line
pub record IsRest (m : Parameters) (i : ℕ) (kind : EntryKind) (rest : List ℕ) (what : What) : Type 0 where
  pub kind_is : kind_of what ≡ kind
  pub writable : HasText m i what
  pub same : rest_of what ≡ rest
