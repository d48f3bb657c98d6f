-- The first looks among entries, while they are noted one by one.
-- (For functions and proofs: no promise of the program stands on it.)
use Rattle.std.specs.BTreeSet.{contains}
use Rattle.std.specs.Ordering.{nat_cmp}
use Rattle.std.specs.Prelude.{◌≡◌, ℕ, ◌+◌, ◌*◌, ◌<◌, ◌⊎◌, ◌++◌, IsSome, List, [], ◌∷◌, Option, Some, None, true}
use Rattle.std.specs.declared.alloc.Global.{Global}
use Rattle.std.specs.declared.collections.BTreeSet.{BTreeSet}
use Rattle.cache_core.specs.declared.entry.SliceEntry.{SliceEntry}
use Rattle.cache_core.specs.declared.entry.What.{What}
use Rattle.cache_core.specs.declared.entry.What.TheVariants as whats
use Rattle.check_parts.specs.JudgedSlices.{HaveLooks}
use Rattle.run_law.specs.Looks.{first_look}
use Rattle.script_ops.specs.Values.{ScriptValue}

-- an op and an RMID as one number
abbrev pub look_number_of : ℕ → ℕ → ℕ → ℕ
look_number_of thread op rmid = (thread * 4294967296 + op) * 65536 + rmid

-- the RMID of a look
abbrev pub looked_rmid : What → Option ℕ
looked_rmid (whats.Access hit way owner rmid mask line) = None
looked_rmid whats.Raise = None
looked_rmid whats.Flush = None
looked_rmid (whats.Lock mask first_line) = None
looked_rmid (whats.Look rmid lines) = Some rmid
looked_rmid (whats.Drop line at) = None

-- an entry is kept, or its number was noted; and then it is noted
pub record KeepsFirst (old new : BTreeSet ℕ Global) (looks more : List SliceEntry) (e : SliceEntry) (number : ℕ) : Type 0 where
  pub kept : ((contains nat_cmp old number ≡ true) × (more ≡ looks)) ⊎ (more ≡ looks ++ e ∷ [])
  pub noted : (other : ℕ) → contains nat_cmp new other ≡ true → (other ≡ number) ⊎ (contains nat_cmp old other ≡ true)

-- these are the first looks among these entries, and what is noted is among them
pub record AreNoted (script : ScriptValue) (entries looks : List SliceEntry) (noted : BTreeSet ℕ Global) : Type 0 where
  pub have : HaveLooks script entries looks
  pub known : (thread op rmid : ℕ) → op < 4294967296 → rmid < 65536 → contains nat_cmp noted (look_number_of thread op rmid) ≡ true → IsSome (first_look thread op rmid looks)
