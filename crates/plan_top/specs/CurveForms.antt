-- What `curve SETS WAYS` asks for, of all uses or of a sample, behind levels or not.
use Rattle.std.specs.Prelude.{ℕ, ◌<◌, ◌≤◌, Bool, true, Option, Some, IfSome}
use Rattle.way_curve.specs.Filtering.{Filtering}
use Rattle.way_curve.specs.Samples.{sample_sets}
use Rattle.way_curve.specs.Sampling.{Sampling}
use Rattle.way_curve.specs.declared.first_level.LevelShape.{LevelShape}
use Rattle.way_curve.specs.declared.first_levels.LevelShapes.{LevelShapes}

-- the sets of the cache, the most ways that it may have, the levels before it, the sample of one line of so many, if one is taken,
-- whether its misses are scaled, and whether first uses are counted
pub record CurveWords : Type 0 where
  pub sets : ℕ
  pub ways : ℕ
  pub levels : LevelShapes
  pub one_of : Option ℕ
  pub is_scaled : Bool
  pub has_first : Bool

-- the same behind an L1
abbrev pub with_l1 : CurveWords → LevelShape → CurveWords
with_l1 form level = record { sets = form.sets; ways = form.ways; levels = record { l1 = Some level; l2 = form.levels.l2 }; one_of = form.one_of; is_scaled = form.is_scaled; has_first = form.has_first }

-- the same behind an L2
abbrev pub with_l2 : CurveWords → LevelShape → CurveWords
with_l2 form level = record { sets = form.sets; ways = form.ways; levels = record { l1 = form.levels.l1; l2 = Some level }; one_of = form.one_of; is_scaled = form.is_scaled; has_first = form.has_first }

-- the same of a sample
abbrev pub with_sample : CurveWords → ℕ → CurveWords
with_sample form one_of = record { sets = form.sets; ways = form.ways; levels = form.levels; one_of = Some one_of; is_scaled = form.is_scaled; has_first = form.has_first }

-- the same with the misses of the sample scaled
abbrev pub with_scale : CurveWords → CurveWords
with_scale form = record { sets = form.sets; ways = form.ways; levels = form.levels; one_of = form.one_of; is_scaled = true; has_first = form.has_first }

-- the same with first uses
abbrev pub with_first : CurveWords → CurveWords
with_first form = record { sets = form.sets; ways = form.ways; levels = form.levels; one_of = form.one_of; is_scaled = form.is_scaled; has_first = true }

-- a form's numbers: there is a set, there are few ways, so it is with each level, and a sample is of one line of 1 or more, but not of
-- more than there are sets
pub record IsInRange (sets ways : ℕ) (levels : LevelShapes) (one_of : Option ℕ) : Type 0 where
  pub some : 0 < sets
  pub few : ways ≤ 32
  pub first : IfSome levels.l1 (λ s. (0 < s.sets) × (s.ways ≤ 32))
  pub second : IfSome levels.l2 (λ s. (0 < s.sets) × (s.ways ≤ 32))
  pub sample : IfSome one_of (λ n. (0 < n) × (n ≤ sets))

-- (For proofs.) what is counted for a form of what the levels leave
abbrev pub sampling_of : CurveWords → Sampling
sampling_of form = record { sets = sample_sets form.one_of form.sets; one_of = form.one_of; has_first = form.has_first }

-- (For proofs.) what is counted for a form
abbrev pub filtering_of : CurveWords → Filtering
filtering_of form = record { levels = form.levels; sampling = sampling_of form }
