use Rattle.std.proofs.Common.{◌≡◌, ◌<◌, ℕ, List, length, true, false, sym, ap, ◌∙◌, [], arith}
use Rattle.std.specs.List.{after_first, before_first, list_any}
use Rattle.journal_text.specs.Lines.{first_line}
use Rattle.journal_text.specs.Readings.{parts_of}
use Rattle.rc_base.specs.Texts.{is_text}
use Rattle.check_parts.specs.Division.{division_from}
use Rattle.check_parts.proofs.Divisions.{division_from-here, division_from-later, division_from-none, length-cut, newline, parts_of-first, parts_of-last, parts_of-more}
use Rattle.check_parts.proofs.division.divide.Goals as goal

pub returns-then-is_text-clause-division : goal.returns-then-is_text-clause-division
returns-then-is_text-clause-division c =
    let left = c.lines.left.now in
    let before = c.lines.before in
    let first = parts_of-first left in
    let here : is_text (before_first newline left) first_line ≡ true = sym (ap (λ (line : List ℕ). is_text line first_line) c.cut.ensures.front) ∙ sym (ap (is_text c.cut.result.0.now) c.as_bytes.ensures.value) ∙ sym c.is_text.ensures ∙ c.if-is_text.true in
    sym (c.lines.invariant.division ∙ ap (division_from before) first.1 ∙ division_from-here before (before_first newline left) first.0 here)

pub returns-in_default-clause-division : goal.returns-in_default-clause-division
returns-in_default-clause-division c =
    let left = c.lines.left.now in
    let before = c.lines.before in
    let other : is_text (before_first newline left) first_line ≡ false = sym (ap (λ (line : List ℕ). is_text line first_line) c.cut.ensures.front) ∙ sym (ap (is_text c.cut.result.0.now) c.as_bytes.ensures.value) ∙ sym c.is_text.ensures ∙ c.if-is_text.false in
    let none : list_any newline left ≡ false = rw c.in_default.is at c.cut.ensures.back in
    sym (c.lines.invariant.division ∙ ap (division_from before) (parts_of-last left none) ∙ division_from-later before (before_first newline left) [] other ∙ division_from-none _)

pub lines-preserved : goal.lines-preserved
lines-preserved c =
    let left = c.lines.left.now in
    let before = c.lines.before in
    let line = c.cut.result.0.now in
    let rest = c.in-Some.rest.now in
    let front : line ≡ before_first newline left = c.cut.ensures.front in
    let other : is_text line first_line ≡ false = sym (ap (is_text line) c.as_bytes.ensures.value) ∙ sym c.is_text.ensures ∙ c.if-is_text.false in
    let back : (list_any newline left ≡ true) × (rest ≡ after_first newline left) × (length rest < length left) = rw c.in-Some.is at c.cut.ensures.back in
    let cut = length-cut left back.0 in
    let line_length = ap length front in
    let rest_length = ap length back.1 in
    record {
      division = c.lines.invariant.division ∙ ap (division_from before) (parts_of-more left back.0) ∙ (rw (← front, ← back.1) (division_from-later before line (parts_of rest) other));
      within = omega (arith, c.lines.invariant.within, cut, line_length, rest_length);
      few = omega (arith, c.lines.invariant.few);
    }
