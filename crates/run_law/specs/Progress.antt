-- How far a thread has come, as its journals show it.
-- (For functions and proofs: no promise of the program stands on it.)
use Rattle.std.specs.Prelude.{IsSome, Option, if◌then◌else◌, ℕ, ◌<◌, ◌==◌, ◌≡◌, ◌⊎◌}
use Rattle.rc_base.specs.declared.names.Tag.{Tag}

-- How many ops a thread has done; where its next one is a command that holds the tree, how many entries that has made; and where
-- it is an access that has its tag, the tag.
pub record Progress : Type 0 where
  pub next : ℕ
  pub made : Option ℕ
  pub tag : Option Tag

-- the op is the thread's next one, and a command that holds the tree
abbrev pub IsUnderWay : Progress → ℕ → Type 0
IsUnderWay p op = (op ≡ p.next) × IsSome p.made

-- the op is done, or holds the tree
abbrev pub HasBegun : Progress → ℕ → Type 0
HasBegun p op = (op < p.next) ⊎ IsUnderWay p op

-- one thread has this progress now, and the others are where they were
abbrev pub moved : (ℕ → Progress) → ℕ → Progress → ℕ → Progress
moved at t p u = if u == t then p else at u
