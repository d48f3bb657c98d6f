-- Classes of service: how many there are, and which are taken.
-- (For functions and proofs: no promise of the program stands on it.)
use Rattle.std.specs.Prelude.{◌≡◌, ℕ, ◌<◌, false, List}
use Rattle.hw_ids.specs.Ids.{contains}

-- the number of classes, and the taken ones in rising order
pub record Classes : Type 0 where
  pub count : ℕ
  pub taken : List ℕ

-- a class of the machine that is not taken
pub record IsFree (classes : Classes) (id : ℕ) : Type 0 where
  pub exists : id < classes.count
  pub not_taken : contains id classes.taken ≡ false

-- none is free
abbrev pub NoneFree : Classes → Type 0
NoneFree classes = (id : ℕ) → ¬ IsFree classes id

-- a free class, and none below it is free
pub record IsLowestFree (classes : Classes) (id : ℕ) : Type 0 where
  pub free : IsFree classes id
  pub lowest : (lower : ℕ) → lower < id → ¬ IsFree classes lower
