-- Which uses curves have counted.
use Rattle.std.specs.Prelude.{◌≡◌, ℕ, ◌≤◌, not, List, ◌++◌, map}
use Rattle.std.specs.List.{filter}
use Rattle.lackey_text.specs.declared.uses.LineUse.{LineUse}
use Rattle.way_curve.specs.IsCurve.{CurveValue, IsCurve}

-- (For proofs.) what contracts see: how many uses there are, and the curves of those of data, of those of code, and of all
pub record CurvesValue : Type 0 where
  pub uses : ℕ
  pub of_data : CurveValue
  pub of_code : CurveValue
  pub of_all : CurveValue

-- the lines that are used
abbrev pub all_lines : List LineUse → List ℕ
all_lines uses = map (λ (u : LineUse). u.line) uses

-- the lines that are used as code
abbrev pub code_lines : List LineUse → List ℕ
code_lines uses = all_lines (filter (λ (u : LineUse). u.code) uses)

-- the lines that are used as data
abbrev pub data_lines : List LineUse → List ℕ
data_lines uses = all_lines (filter (λ (u : LineUse). not u.code) uses)

-- (For proofs.) the curve is that of caches of so many sets and of these lines
pub record IsCurveOf (sets : ℕ) (curve : CurveValue) (lines : List ℕ) : Type 0 where
  pub has_sets : curve.sets ≡ sets
  pub is_curve : IsCurve curve lines

-- (For proofs.) The curves are those of caches of so many sets and of these uses, in order.
pub record HaveCounted (sets : ℕ) (curves : CurvesValue) (uses : List LineUse) : Type 0 where
  pub of_data : IsCurveOf sets curves.of_data (data_lines uses)
  pub of_code : IsCurveOf sets curves.of_code (code_lines uses)
  pub of_all : IsCurveOf sets curves.of_all (all_lines uses)

-- (For proofs.) Whatever uses the curves have counted, they have now counted those and these.
abbrev pub AddUses : CurvesValue → CurvesValue → List LineUse → Type 0
AddUses old new more = (sets : ℕ) (uses : List LineUse) → HaveCounted sets old uses → HaveCounted sets new (uses ++ more)

-- (For proofs.) no more uses are of data, or of code, than there are
pub record AreCounted (of_data of_code of_all : CurveValue) : Type 0 where
  pub some_data : of_data.uses ≤ of_all.uses
  pub some_code : of_code.uses ≤ of_all.uses
