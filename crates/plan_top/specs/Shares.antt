-- What `share` makes of a stream.
use Rattle.std.specs.Prelude.{◌≡◌, ℕ, List, [], ◌∷◌, ◌++◌, Err, IsOk, length}
use Rattle.share_plans.specs.Filtering.{Filtering}
use Rattle.share_plans.specs.Reports.{ReportsShares}
use Rattle.share_plans.specs.Streams.{stream_of}
use Rattle.way_curve.specs.CurveTexts.{bad_line_text}
use Rattle.plan_top.specs.ShareForms.{ShareWords, programs_of}

-- a line of these bytes is none of a stream of so many programs, and the text tells the first such
pub record RefusesStream (form : ShareWords) (bytes text : List ℕ) : Type 0 where
  pub line : ℕ
  pub bad : stream_of (length form.wishes) bytes ≡ Err line
  pub told : text ≡ bad_line_text line

-- (For proofs.) what a form reports of bytes, beside which it hands nothing back
abbrev pub reports_shares : ShareWords → List ℕ → Unit {0} → List ℕ → Type 0
reports_shares form bytes nothing text = ReportsShares form.goal form.levels form.sets form.ways (programs_of form) bytes text

-- No line of these bytes that has ended is bad: each beginning of them that ends with a newline is a stream.
abbrev pub HasNoBadTurn : ShareWords → List ℕ → Type 0
HasNoBadTurn form bytes = (ended rest : List ℕ) → bytes ≡ ended ++ 10 ∷ rest → IsOk (stream_of (length form.wishes) (ended ++ 10 ∷ []))

-- (For proofs.) what is asked of the library
abbrev pub asked_by : ShareWords → Filtering
asked_by form = record { levels = form.levels; asked = record { programs = length form.wishes; sets = form.sets; ways = form.ways } }
