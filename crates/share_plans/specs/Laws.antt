-- Laws of the cache that programs share.
-- (For functions and proofs: no promise of the program stands on it.)
use Rattle.std.specs.Prelude.{◌≡◌, ℕ, ◌%◌, ◌^◌, ◌<◌}
use Rattle.share_plans.specs.Sharing.{shared_line}
use Rattle.share_plans.specs.declared.program_use.ProgramUse.{ProgramUse}

-- Lines of memory have numbers below 2^42. In the cache that all share two of them are the same only if their programs and their numbers
-- are.
abbrev pub LinesStayApart : Type 0
LinesStayApart = (sets : ℕ) (u v : ProgramUse) → 0 < sets → u.line < 2 ^ 42 → v.line < 2 ^ 42 → shared_line sets u ≡ shared_line sets v → (u.program ≡ v.program) × (u.line ≡ v.line)

-- And each is in the set of its own number.
abbrev pub LinesKeepSets : Type 0
LinesKeepSets = (sets : ℕ) (u : ProgramUse) → shared_line sets u % sets ≡ u.line % sets
