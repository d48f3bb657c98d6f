-- Classes that are given back.
-- (For functions and proofs: no promise of the program stands on it.)
use Rattle.std.specs.Prelude.{◌≡◌, ◌≢◌, ℕ, true, not, ◌&&◌, IfSome, Option}
use Rattle.hw_ids.specs.Classes.{Classes}
use Rattle.hw_ids.specs.Ids.{contains}
use Rattle.tree_law.specs.Space.{is_id}

-- a class that may be given back, where there is one: it is taken, and not the default group's
abbrev pub MayGive : Classes → Option ℕ → Type 0
MayGive classes class = IfSome class (λ id. (contains id classes.taken ≡ true) × (id ≢ 0))

-- this class is given back, and no other
pub record IsGiven (old new : Classes) (class : Option ℕ) : Type 0 where
  pub count : new.count ≡ old.count
  pub taken : (id : ℕ) → contains id new.taken ≡ (not (is_id id class) && contains id old.taken)
