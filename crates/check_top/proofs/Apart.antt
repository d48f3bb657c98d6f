-- An input is not both refused and reported on.
use Rattle.std.proofs.Common.{◌≡◌, ℕ, List, subst, arith}
use Rattle.check_parts.specs.BadInputs.{HasScript, IsBad}
use Rattle.check_parts.specs.Division.{journal_part}
use Rattle.check_parts.specs.Inputs.{HoldsJournals}
use Rattle.check_parts.specs.declared.bad_input.BadInput.{BadInput}
use Rattle.check_parts.specs.declared.bad_input.BadInput.TheVariants.{BadJournal, BadScript, NoJournal, TooLarge}
use Rattle.check_parts.specs.declared.division.Division.{Division}
use Rattle.check_parts.specs.declared.form.Form.{Form}
use Rattle.check_parts.specs.declared.form.Form.TheVariants.{Check, Export}
use Rattle.check_parts.specs.declared.form.Play.{Play}
use Rattle.check_top.specs.Endings.{Refuses, Reports}
use Rattle.check_top.specs.declared.checked.Checked.{Checked}
use Rattle.journal_text.specs.Readings.{IsTextOf}
use Rattle.run_law.specs.Journals.{JournalsValue}
use Rattle.script_ops.specs.Values.{ScriptValue}

-- for an export
good_export : (play : Play) (bytes : List ℕ) (script : ScriptValue) (why : BadInput) → HasScript (Export play) bytes script → IsBad (Export play) bytes why → ⊥
good_export play bytes script TooLarge has bad = omega (arith, has.few, bad)
good_export play bytes script (BadScript fault) has bad = let is = has.is_script in let no = bad.1 in absurd cc
good_export play bytes script NoJournal has bad = bad
good_export play bytes script (BadJournal line) has bad = bad

-- for a check
good_check : (bytes : List ℕ) (script : ScriptValue) (run : JournalsValue) (why : BadInput) → HoldsJournals bytes script run → IsBad Check bytes why → ⊥
good_check bytes script run TooLarge holds bad = omega (arith, holds.has_script.few, bad)
good_check bytes script run (BadScript fault) holds bad = let is = holds.has_script.is_script in let no = bad.1 in absurd cc
good_check bytes script run NoJournal holds bad = let is = holds.divides in let no = bad.none in absurd cc
good_check bytes script run (BadJournal line) holds bad =
    let same_script : script ≡ bad.script = (let is = holds.has_script.is_script in let is' = bad.has_script.is_script in cc) in
    let same_division : holds.division ≡ bad.division = (let is = holds.divides in let is' = bad.divides in cc) in
    bad.bad.no_journals run
    (subst (λ (d : Division). IsTextOf bad.script (journal_part d bytes) run) same_division (subst (λ (s : ScriptValue). IsTextOf s (journal_part holds.division bytes) run) same_script holds.text))

-- for any form
pub apart : (form : Form) (bytes line : List ℕ) (found : Checked) (text : List ℕ) → Refuses form bytes line → Reports form bytes found text → ⊥
apart (Export play) bytes line found text refused exported = good_export play bytes exported.script refused.bad exported.has_script refused.is_bad
apart Check bytes line found text refused checked = good_check bytes checked.script found.journals refused.bad checked.holds refused.is_bad
