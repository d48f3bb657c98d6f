-- Which uses were played.
-- (For functions and proofs: no promise of the program stands on it.)
use Rattle.std.specs.Prelude.{◌≡◌, ℕ, ◌+◌, ◌<◌, ◌≤◌, ◌^◌, All, List, [], ◌∷◌, ◌++◌, get_or, length}
use Rattle.way_curve.specs.Counting.{IsCurveOf}
use Rattle.way_curve.specs.IsCurve.{CurveValue}
use Rattle.share_plans.specs.Sharing.{far, lines_of, shared_hits_of, shared_lines}
use Rattle.share_plans.specs.declared.program.Program.{Program}
use Rattle.share_plans.specs.declared.program_use.ProgramUse.{ProgramUse}

-- what is asked: how many programs there are, and the sets and ways of the cache
pub record Asked : Type 0 where
  pub programs : ℕ
  pub sets : ℕ
  pub ways : ℕ

-- what contracts see of one program: its curve, and how many of its uses hit in the cache that all share
pub record OwnValue : Type 0 where
  pub curve : CurveValue
  pub hits : ℕ

-- what contracts see of all: the programs, and the curve of the cache that they share, of which so many ways are asked about
pub record PlayedValue : Type 0 where
  pub ways : ℕ
  pub programs : List OwnValue
  pub shared : CurveValue

-- the uses of this program were played
pub record HasPlayed (asked : Asked) (program : ℕ) (own : OwnValue) (uses : List ProgramUse) : Type 0 where
  pub curve : IsCurveOf asked.sets own.curve (lines_of program uses)
  pub hits : own.hits ≡ shared_hits_of asked.sets asked.ways program uses

-- The uses of each program were played in caches of its own, and all in the one that is shared.
pub record HavePlayed (asked : Asked) (played : PlayedValue) (uses : List ProgramUse) : Type 0 where
  pub ways : played.ways ≡ asked.ways
  pub count : length played.programs ≡ asked.programs
  pub own : (k : ℕ) (d : OwnValue) → k < asked.programs → HasPlayed asked k (get_or played.programs k d) uses
  pub shared : IsCurveOf asked.sets played.shared (shared_lines asked.sets uses)

-- Whatever uses were played, those and these are now.
abbrev pub PlayUses : PlayedValue → PlayedValue → List ProgramUse → Type 0
PlayUses old new more = (asked : Asked) (uses : List ProgramUse) → HavePlayed asked old uses → HavePlayed asked new (uses ++ more)

-- parts of what is played: a cache's ways, few programs, how far their lines stand apart, and fewer uses of each than of all
pub record IsPlayable (ways apart : ℕ) (programs : List OwnValue) (shared : CurveValue) : Type 0 where
  pub some : 0 < shared.sets
  pub few_ways : ways ≤ 32
  pub few : length programs ≤ 32
  pub is_far : apart ≡ far shared.sets
  pub near : apart ≤ 2 ^ 43
  pub counted : All (λ (own : OwnValue). own.curve.uses ≤ shared.uses) programs

-- The uses of each of these programs, from program k on, were played.
abbrev pub ArePlayed : Asked → ℕ → List Program → List OwnValue → List ProgramUse → Type 0
ArePlayed asked k [] [] uses = Unit {0}
ArePlayed asked k [] (own ∷ others) uses = ⊥
ArePlayed asked k (p ∷ programs) [] uses = ⊥
ArePlayed asked k (p ∷ programs) (own ∷ others) uses = (HasPlayed asked k own uses) × (ArePlayed asked (k + 1) programs others uses)
