-- One thing is wrong with an input at most.
use Rattle.std.proofs.Common.{◌≡◌, ℕ, ◌+◌, List, Err, refl, sym, ap, subst, ◌∙◌, arith}
use Rattle.check_parts.specs.BadInputs.{HasBadJournals, HasScript, IsBad, LacksJournals, script_bytes}
use Rattle.check_parts.specs.Division.{journal_part}
use Rattle.check_parts.specs.declared.bad_input.BadInput.{BadInput}
use Rattle.check_parts.specs.declared.bad_input.BadInput.TheVariants.{BadJournal, BadScript, NoJournal, TooLarge}
use Rattle.check_parts.specs.declared.division.Division.{Division}
use Rattle.check_parts.specs.declared.form.Form.{Form}
use Rattle.check_parts.specs.declared.form.Form.TheVariants.{Check, Export}
use Rattle.journal_text.specs.Laws.{BadLinesAreOne}
use Rattle.journal_text.specs.Readings.{IsBadLine}
use Rattle.script_lines.specs.declared.fault.ScriptFault.{ScriptFault}
use Rattle.script_ops.specs.Values.{ScriptValue}
use Rattle.script_text.specs.Reading.{script_of}

-- a text with a script has no fault
good-bad : (form : Form) (bytes : List ℕ) (script : ScriptValue) (fault : ScriptFault) → HasScript form bytes script → script_of (script_bytes form bytes) ≡ Err fault → ⊥
good-bad form bytes script fault has bad = let is = has.is_script in absurd cc

-- a text has one fault
faults-same : (text : List ℕ) (a b : ScriptFault) → script_of text ≡ Err a → script_of text ≡ Err b → a ≡ b
faults-same text a b is_a is_b = cc

-- journals have one bad line
bad_journals-same : BadLinesAreOne → (bytes : List ℕ) (a b : ℕ) → HasBadJournals bytes a → HasBadJournals bytes b → a ≡ b
bad_journals-same lines bytes a b is_a is_b =
    let same_script : is_b.script ≡ is_a.script = (let x = is_a.has_script.is_script in let y = is_b.has_script.is_script in cc) in
    let same_division : is_b.division ≡ is_a.division = (let x = is_a.divides in let y = is_b.divides in cc) in
    let text = journal_part is_a.division bytes in
    let bad : IsBadLine is_a.script text is_b.own_line = subst (λ (d : Division). IsBadLine is_a.script (journal_part d bytes) is_b.own_line) same_division (subst (λ (s : ScriptValue). IsBadLine s (journal_part is_b.division bytes) is_b.own_line) same_script is_b.bad) in
    let same_line : is_a.own_line ≡ is_b.own_line = lines is_a.script text is_a.own_line is_b.own_line is_a.bad bad in
    let same_lines : is_a.division.lines ≡ is_b.division.lines = sym (ap (λ (d : Division). d.lines) same_division) in
    is_a.counted ∙ (ap (λ n. n + is_a.own_line) same_lines ∙ (ap (λ n. is_b.division.lines + n) same_line ∙ sym is_b.counted))

-- an input has journals or none
journals-none : (bytes : List ℕ) (line : ℕ) → LacksJournals bytes → HasBadJournals bytes line → ⊥
journals-none bytes line lacks has = let none = lacks.none in let some = has.divides in absurd cc

-- whatever is wrong with it
pub bad_inputs_are_one : BadLinesAreOne → (form : Form) (bytes : List ℕ) (a b : BadInput) → IsBad form bytes a → IsBad form bytes b → a ≡ b
bad_inputs_are_one lines form bytes TooLarge TooLarge is_a is_b = refl
bad_inputs_are_one lines form bytes TooLarge (BadScript g) is_a is_b = absurd (omega (arith, is_a, is_b.0))
bad_inputs_are_one lines form bytes (BadScript f) TooLarge is_a is_b = absurd (omega (arith, is_a.0, is_b))
bad_inputs_are_one lines form bytes (BadScript f) (BadScript g) is_a is_b = ap BadScript (faults-same (script_bytes form bytes) f g is_a.1 is_b.1)
bad_inputs_are_one lines (Export play) bytes NoJournal b is_a is_b = absurd is_a
bad_inputs_are_one lines (Export play) bytes (BadJournal line) b is_a is_b = absurd is_a
bad_inputs_are_one lines (Export play) bytes TooLarge NoJournal is_a is_b = absurd is_b
bad_inputs_are_one lines (Export play) bytes TooLarge (BadJournal line) is_a is_b = absurd is_b
bad_inputs_are_one lines (Export play) bytes (BadScript f) NoJournal is_a is_b = absurd is_b
bad_inputs_are_one lines (Export play) bytes (BadScript f) (BadJournal line) is_a is_b = absurd is_b
bad_inputs_are_one lines Check bytes TooLarge NoJournal is_a is_b = absurd (omega (arith, is_a, is_b.has_script.few))
bad_inputs_are_one lines Check bytes TooLarge (BadJournal line) is_a is_b = absurd (omega (arith, is_a, is_b.has_script.few))
bad_inputs_are_one lines Check bytes (BadScript f) NoJournal is_a is_b = absurd (good-bad Check bytes is_b.script f is_b.has_script is_a.1)
bad_inputs_are_one lines Check bytes (BadScript f) (BadJournal line) is_a is_b = absurd (good-bad Check bytes is_b.script f is_b.has_script is_a.1)
bad_inputs_are_one lines Check bytes NoJournal TooLarge is_a is_b = absurd (omega (arith, is_b, is_a.has_script.few))
bad_inputs_are_one lines Check bytes NoJournal (BadScript g) is_a is_b = absurd (good-bad Check bytes is_a.script g is_a.has_script is_b.1)
bad_inputs_are_one lines Check bytes NoJournal NoJournal is_a is_b = refl
bad_inputs_are_one lines Check bytes NoJournal (BadJournal line) is_a is_b = absurd (journals-none bytes line is_a is_b)
bad_inputs_are_one lines Check bytes (BadJournal line) TooLarge is_a is_b = absurd (omega (arith, is_b, is_a.has_script.few))
bad_inputs_are_one lines Check bytes (BadJournal line) (BadScript g) is_a is_b = absurd (good-bad Check bytes is_a.script g is_a.has_script is_b.1)
bad_inputs_are_one lines Check bytes (BadJournal line) NoJournal is_a is_b = absurd (journals-none bytes line is_b is_a)
bad_inputs_are_one lines Check bytes (BadJournal line) (BadJournal other) is_a is_b = ap BadJournal (bad_journals-same lines bytes line other is_a is_b)
