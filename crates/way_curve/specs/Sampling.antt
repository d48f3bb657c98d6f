-- Which uses curves of a sample have counted.
-- (For functions and proofs: no promise of the program stands on it.)
use Rattle.std.specs.Prelude.{◌≡◌, ℕ, Bool, List, ◌++◌, Option, IfSome, is_some}
use Rattle.lackey_text.specs.declared.uses.LineUse.{LineUse}
use Rattle.way_curve.specs.Counting.{CurvesValue, HaveCounted}
use Rattle.way_curve.specs.Noted.{HaveNotedUses, NotedUses}
use Rattle.way_curve.specs.Samples.{sampled}

-- what is counted: how many sets the caches have, which sample is taken, if one is, and whether first uses are counted
pub record Sampling : Type 0 where
  pub sets : ℕ
  pub one_of : Option ℕ
  pub has_first : Bool

-- what contracts see: the sample, if one is taken, the curves of its uses, and their different lines, if first uses are counted
pub record SampledValue : Type 0 where
  pub one_of : Option ℕ
  pub curves : CurvesValue
  pub first : Option NotedUses

-- Of these uses the curves are those of the sample, in caches of so many sets, and so are the different lines.
pub record HaveSampled (sampling : Sampling) (c : SampledValue) (uses : List LineUse) : Type 0 where
  pub same : c.one_of ≡ sampling.one_of
  pub counted : HaveCounted sampling.sets c.curves (sampled sampling.one_of uses)
  pub has_first : is_some c.first ≡ sampling.has_first
  pub noted : IfSome c.first (λ noted. HaveNotedUses noted (sampled sampling.one_of uses))

-- Whatever uses were sampled, those and these are now.
abbrev pub AddSampled : SampledValue → SampledValue → List LineUse → Type 0
AddSampled old new more = (sampling : Sampling) (uses : List LineUse) → HaveSampled sampling old uses → HaveSampled sampling new (uses ++ more)

-- Where first uses are counted, whatever uses were noted, those and these are now.
pub record NoteFirst (old new : Option NotedUses) (more : List LineUse) : Type 0 where
  pub kept : is_some new ≡ is_some old
  pub notes : (uses : List LineUse) → IfSome old (λ noted. HaveNotedUses noted uses) → IfSome new (λ noted. HaveNotedUses noted (uses ++ more))
