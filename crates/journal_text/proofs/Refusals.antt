-- Lines that may not stand.
use Rattle.std.proofs.Common.{◌≡◌, ℕ, ◌<◌, ◌≤◌, true, false, List, codes, refl, ap, ◌∙◌, arith, inl, inr}
use Rattle.rc_base.specs.Texts.{is_text}
use Rattle.journal_text.specs.Lines.{first_line, last_line}
use Rattle.journal_text.specs.LinePositions.{IsEntryLine, LeadsFromEntries, LeadsFromSlices}
use Rattle.journal_text.specs.declared.line_position.LinePosition.{LinePosition}
use Rattle.journal_text.specs.declared.line_position.LinePosition.TheVariants.{Start, InTree, InSlice, Over}
use Rattle.machine.specs.Slices.{slice_count}
use Rattle.script_ops.specs.Values.{ScriptValue}

-- another line than the first
pub first_line-other : (line : List ℕ) → is_text line (codes "journal 1") ≡ false → first_line ≡ line → ⊥
unfolding is_text
first_line-other line other same = let e : is_text first_line first_line ≡ false = ap (λ (l : List ℕ). is_text l first_line) same ∙ other in let is : is_text first_line first_line ≡ true = refl in cc

-- another line than the last
pub last_line-other : (line : List ℕ) → is_text line (codes "end") ≡ false → last_line ≡ line → ⊥
unfolding is_text
last_line-other line other same = let e : is_text last_line last_line ≡ false = ap (λ (l : List ℕ). is_text l last_line) same ∙ other in let is : is_text last_line last_line ≡ true = refl in cc

-- after all slices, another line than the last
pub LeadsFromSlices-none : (script : ScriptValue) (slices : ℕ) (line : List ℕ) → slice_count script.machine ≤ slices → (last_line ≡ line → ⊥) → (next : LinePosition) → LeadsFromSlices script slices line next → ⊥
LeadsFromSlices-none script slices line all other Start led = led
LeadsFromSlices-none script slices line all other InTree led = led
LeadsFromSlices-none script slices line all other (InSlice slice left) led = absurd (omega (arith, all, led.0, led.1.there))
LeadsFromSlices-none script slices line all other Over led = other led.same

-- among entries still to come, another line than that of an entry
pub LeadsFromEntries-none : (script : ScriptValue) (slice left : ℕ) (line : List ℕ) → 0 < left → (IsEntryLine script slice line → ⊥) → (next : LinePosition) → LeadsFromEntries script slice left line next → ⊥
LeadsFromEntries-none script slice left line more other next (inl led) = absurd (omega (arith, more, led.0))
LeadsFromEntries-none script slice left line more other next (inr led) = other led.3
