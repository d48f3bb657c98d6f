-- How the reading of a text ends: at a line that may not stand, without journals after the last line, or with journals.
use Rattle.std.proofs.Common.{◌≡◌, ℕ, ◌+◌, ◌-◌, true, false, List, [], ◌∷◌, ◌++◌, length, take, sym, ap, subst, ◌∙◌, arith, append_assoc, length-append}
use Rattle.std.specs.List.{after_first, before_first, list_any}
use Rattle.std.proofs.lemmas.List.{append-nil, append_cancel_left, length_push, take_at}
use Rattle.journal_text.specs.Lines.{journal_lines, text_of}
use Rattle.journal_text.proofs.Fillers.{Begins-held}
use Rattle.journal_text.proofs.OneLines.{whole_lines-journals}
use Rattle.journal_text.proofs.Order.{LeadOn-parts, LeadOn-same}
use Rattle.journal_text.proofs.TextLines.{HasPassed, newline, whole_lines-none, whole_lines-some}
use Rattle.journal_text.proofs.WholeJournals.{LeadOn-journals}
use Rattle.journal_text.specs.LinePositions.{LeadOn, Leads}
use Rattle.journal_text.specs.Readings.{Begins, IsBadLine, IsTextOf, whole_lines}
use Rattle.journal_text.specs.States.{HasRead, Holds, HoldsJournals, ReaderState, journals_in}
use Rattle.journal_text.specs.declared.line_position.LinePosition.{LinePosition}
use Rattle.journal_text.specs.declared.line_position.LinePosition.TheVariants.{Start, Over}
use Rattle.script_ops.specs.Values.{IsLawful, ScriptValue}

-- what was read can be gone on with
Begins-read : (script : ScriptValue) (lines : List (List ℕ)) (s : ReaderState) → HasRead script lines s → Begins script lines
Begins-read script lines s read = Begins-held script s.position lines s.parts read.held

module _ (script : ScriptValue) (lawful : IsLawful script) where
  -- no text of journals begins with lines of which the last leads nowhere
  refused-begins_none : (lines : List (List ℕ)) (line : List ℕ) (position : LinePosition) → LeadOn script Start lines position → ((next : LinePosition) → Leads script position line next → ⊥) → Begins script (lines ++ line ∷ []) → ⊥
  refused-begins_none lines line position led never begins =
      let whole = LeadOn-journals script begins.journals begins.writable in
      let split = LeadOn-parts script Start (lines ++ line ∷ []) begins.rest Over (subst (λ (ls : List (List ℕ)). LeadOn script Start ls Over) begins.whole whole) in
      let last = LeadOn-parts script Start lines (line ∷ []) split.0 split.1 in
      let same : last.0 ≡ position = LeadOn-same script lawful Start lines last.0 position last.1 led in
      never last.2.0 (subst (λ (p : LinePosition). Leads script p line last.2.0) same last.2.1)

  -- a line that leads nowhere is the bad one
  pub IsBadLine-refused : (text : List ℕ) (lines : List (List ℕ)) (left : List ℕ) (s : ReaderState) → HasPassed text lines left → HasRead script lines s → list_any newline left ≡ true
      → ((next : LinePosition) → Leads script s.position (before_first newline left) next → ⊥) → IsBadLine script text (length lines + 1)
  IsBadLine-refused text lines left s passed read any never =
      let line = before_first newline left in
      let more = whole_lines (after_first newline left) in
      let whole : whole_lines text ≡ lines ++ line ∷ more = passed.whole ∙ ap (λ (back : List (List ℕ)). lines ++ back) (whole_lines-some left any) in
      let longer : whole_lines text ≡ (lines ++ line ∷ []) ++ more = whole ∙ sym (append_assoc lines (line ∷ []) more) in
      let n = length lines + 1 in
      let none = refused-begins_none lines line s.position read.led never in
      let count : length (whole_lines text) ≡ length lines + length (line ∷ more) = ap (λ (ls : List (List ℕ)). length ls) whole ∙ length-append lines (line ∷ more) in
      let front : take (n - 1) (whole_lines text) ≡ lines = ap (λ (ls : List (List ℕ)). take (n - 1) ls) whole ∙ take_at lines (line ∷ more) (n - 1) (omega arith) in
      let upto : take n (whole_lines text) ≡ lines ++ line ∷ [] = ap (λ (ls : List (List ℕ)). take n ls) longer ∙ take_at (lines ++ line ∷ []) more n (length_push lines line) in
      record {
        no_journals = λ j is. none (record { journals = j; rest = more; writable = is.writable; whole = sym (whole_lines-journals script lawful text j is) ∙ longer });
        from_one = omega arith;
        to_last = omega (arith, count);
        before = subst (Begins script) (sym front) (Begins-read script lines s read);
        bad = λ within begins. none (subst (Begins script) upto begins);
      }

  -- where no line is left, the text is unfinished or goes on after its end
  pub IsBadLine-unfinished : (text : List ℕ) (lines : List (List ℕ)) (left : List ℕ) (s : ReaderState) → HasPassed text lines left → HasRead script lines s → list_any newline left ≡ false
      → (s.position ≡ Over → left ≡ [] → ⊥) → IsBadLine script text (length lines + 1)
  IsBadLine-unfinished text lines left s passed read none never =
      let whole : whole_lines text ≡ lines = passed.whole ∙ ap (λ (back : List (List ℕ)). lines ++ back) (whole_lines-none left none) ∙ append-nil lines in
      let n = length lines + 1 in
      let count : length (whole_lines text) ≡ length lines = ap (λ (ls : List (List ℕ)). length ls) whole in
      let front : take (n - 1) (whole_lines text) ≡ lines = ap (λ (ls : List (List ℕ)). take (n - 1) ls) (whole ∙ sym (append-nil lines)) ∙ take_at lines [] (n - 1) (omega arith) in
      record {
        no_journals = λ j is.
            (let lines_is : lines ≡ journal_lines script.machine j = sym whole ∙ whole_lines-journals script lawful text j is in
            let over : s.position ≡ Over = LeadOn-same script lawful Start lines s.position Over read.led (subst (λ (ls : List (List ℕ)). LeadOn script Start ls Over) (sym lines_is) (LeadOn-journals script j is.writable)) in
            let nothing : left ≡ [] = append_cancel_left (text_of lines) left [] (sym passed.same ∙ is.same ∙ ap text_of (sym lines_is) ∙ sym (append-nil (text_of lines))) in
            never over nothing);
        from_one = omega arith;
        to_last = omega (arith, count);
        before = subst (Begins script) (sym front) (Begins-read script lines s read);
        bad = λ within begins. absurd (omega (arith, count));
      }

-- the journals of a text that is over
pub IsTextOf-over : (script : ScriptValue) (text : List ℕ) (lines : List (List ℕ)) (left : List ℕ) (s : ReaderState) → HasPassed text lines left → HasRead script lines s → s.position ≡ Over → left ≡ [] → IsTextOf script text (journals_in s.parts)
IsTextOf-over script text lines left s passed read over nothing =
    let held : HoldsJournals script lines s.parts = subst (λ (p : LinePosition). Holds script p lines s.parts) over read.held in
    record {
      writable = held.writable;
      same = passed.same ∙ ap (λ (back : List ℕ). text_of lines ++ back) nothing ∙ append-nil (text_of lines) ∙ ap text_of held.same;
    }
