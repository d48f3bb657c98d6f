-- What is kept of journals until a command comes that no run goes on with.
use Rattle.std.proofs.Common.{◌≡◌, ℕ, List, [], ◌∷◌, ◌++◌, length, Option, Some, None, Result, Ok, Err, refl, sym, ◌∙◌, subst}
use Rattle.std.specs.Prelude.{IfOk, OnOk}
use Rattle.check_parts.specs.Inputs.{HoldsJournals}
use Rattle.check_parts.specs.Judging.{HasSlices, KeepsAll, KeepsCommand, KeepsExpected, KeepsToo}
use Rattle.check_parts.specs.LeftJournals.{IsLeft, KeepsLeft, kept_in}
use Rattle.check_parts.specs.declared.expected_journals.ExpectedJournals.{ExpectedJournals}
use Rattle.check_parts.specs.declared.left_journals.LeftJournals.{LeftJournals}
use Rattle.journal_check.proofs.laws.UnexpectedCommands.{HasUnexpected-last, HasUnexpected-push}
use Rattle.journal_check.specs.CommandCounts.{AreCountsToTwo, HasUnexpected}
use Rattle.journal_check.specs.ExpectedCommands.{IsExpected}
use Rattle.check_parts.specs.declared.judged_slices.JudgedSlices.{JudgedSlices}
use Rattle.journal_text.specs.States.{PartsRead, journals_in, with_command}
use Rattle.machine.specs.Slices.{slice_count}
use Rattle.run_law.specs.TreeHistory.{TreeEntryValue}
use Rattle.script_ops.specs.Values.{ScriptValue}

-- what is shown of an `Ok` is shown of one fact by another
pub OnOk-map : {A E : Type 0} {P Q : Type 0} (r : Result A E) → (P → Q) → OnOk r P → OnOk r Q
OnOk-map (Ok a) f h = f h
OnOk-map (Err e) f h = tt

-- the same of a value that is there
pub IfOk-map : {A E : Type 0} {P Q : A → Type 0} (r : Result A E) → ((a : A) → P a → Q a) → IfOk r P → IfOk r Q
IfOk-map (Ok a) f h = f a h
IfOk-map (Err e) f h = tt

-- a part more is kept, where anything was
pub KeepsToo-kept : (script : ScriptValue) (before : Option LeftJournals) (old new : LeftJournals) (more : PartsRead → PartsRead) → before ≡ Some old → ((parts : PartsRead) → KeepsLeft old script parts → KeepsLeft new script (more parts)) → KeepsToo script before (Some new) more
KeepsToo-kept script before old new more is step = subst (λ (o : Option LeftJournals). KeepsToo script o (Some new) more) (sym is) (new, refl, step)

-- and a command more
pub KeepsCommand-kept : (script : ScriptValue) (before : Option LeftJournals) (old new : LeftJournals) (h : TreeEntryValue) → before ≡ Some old → ((parts : PartsRead) → parts.slices ≡ [] → KeepsLeft old script parts → KeepsLeft new script (with_command parts h)) → KeepsCommand script before (Some new) h
KeepsCommand-kept script before old new h is step = subst (λ (o : Option LeftJournals). KeepsCommand script o (Some new) h) (sym is) (new, refl, step)

module _ (script : ScriptValue) where
  -- one part more that is no command
  KeepsAll-part : (old new : Option LeftJournals) (more : PartsRead → PartsRead) (parts : PartsRead) → (more parts).tree ≡ parts.tree → KeepsToo script old new more → KeepsAll script old parts → KeepsAll script new (more parts)
  KeepsAll-part (Some old) new more parts tree (left, is, step) all = subst (λ (o : Option LeftJournals). KeepsAll script o (more parts)) (sym is) (step parts all)
  KeepsAll-part None new more parts tree none has = subst (λ (o : Option LeftJournals). KeepsAll script o (more parts)) (sym none) (subst (HasUnexpected script) (sym tree) has)

  -- one command more
  pub KeepsAll-command : (old new : Option LeftJournals) (h : TreeEntryValue) (parts : PartsRead) → parts.slices ≡ [] → KeepsCommand script old new h → KeepsAll script old parts → KeepsAll script new (with_command parts h)
  KeepsAll-command (Some old) new h parts slices (left, is, step) all = subst (λ (o : Option LeftJournals). KeepsAll script o (with_command parts h)) (sym is) (step parts slices all)
  KeepsAll-command None new h parts slices none has = subst (λ (o : Option LeftJournals). KeepsAll script o (with_command parts h)) (sym none) (HasUnexpected-push script parts.tree h has)

  -- a part that is no command
  pub KeepsExpected-part : (old new : ExpectedJournals) (more : PartsRead → PartsRead) (parts : PartsRead) → new.counts ≡ old.counts → (more parts).tree ≡ parts.tree → KeepsToo script old.left new.left more → KeepsExpected old script parts
      → KeepsExpected new script (more parts)
  KeepsExpected-part old new more parts counts tree too keeps = record {
    counts = rw counts (rw tree keeps.counts);
    all = KeepsAll-part old.left new.left more parts tree too keeps.all;
  }

  -- where anything was kept of journals, there is a list for each slice
  pub HasSlices-held : (kept : ExpectedJournals) (bytes : List ℕ) (parts : PartsRead) → KeepsExpected kept script parts → HoldsJournals bytes script (journals_in parts) → HasSlices script kept.left
  HasSlices-held kept bytes parts keeps holds = held kept.left keeps.all
    where
      of : (left : LeftJournals) (judged : Option JudgedSlices) → IsLeft script judged (kept_in left) parts → length (kept_in left).slices ≡ slice_count script.machine
      of left None same = subst (λ (p : PartsRead). length p.slices ≡ slice_count script.machine) same holds.text.writable.all
      of left (Some judged) rest = rest.count ∙ holds.text.writable.all

      held : (o : Option LeftJournals) → KeepsAll script o parts → HasSlices script o
      held (Some left) keeps = of left left.judged keeps
      held None has = tt

  -- a command that is expected
  pub KeepsExpected-command : (old new : ExpectedJournals) (h : TreeEntryValue) (parts : PartsRead) → parts.slices ≡ [] → AreCountsToTwo script new.counts (parts.tree ++ h ∷ []) → KeepsCommand script old.left new.left h
      → KeepsExpected old script parts → KeepsExpected new script (with_command parts h)
  KeepsExpected-command old new h parts slices counts too keeps = record { counts = counts; all = KeepsAll-command old.left new.left h parts slices too keeps.all }

  -- and one that is not
  pub KeepsExpected-unexpected : (new : ExpectedJournals) (h : TreeEntryValue) (parts : PartsRead) → AreCountsToTwo script new.counts (parts.tree ++ h ∷ []) → new.left ≡ None → (IsExpected script parts.tree h → ⊥)
      → KeepsExpected new script (with_command parts h)
  KeepsExpected-unexpected new h parts counts none never = record {
    counts = counts;
    all = subst (λ (o : Option LeftJournals). KeepsAll script o (with_command parts h)) (sym none) (HasUnexpected-last script parts.tree h never);
  }

  -- what is left, where anything was kept
  pub KeepsLeft-kept : (kept : ExpectedJournals) (left : LeftJournals) (parts : PartsRead) → kept.left ≡ Some left → KeepsExpected kept script parts → KeepsLeft left script parts
  KeepsLeft-kept kept left parts is keeps = subst (λ (o : Option LeftJournals). KeepsAll script o parts) is keeps.all

  -- an entry was not expected, where nothing was kept
  pub HasUnexpected-kept : (kept : ExpectedJournals) (parts : PartsRead) → kept.left ≡ None → KeepsExpected kept script parts → HasUnexpected script parts.tree
  HasUnexpected-kept kept parts none keeps = subst (λ (o : Option LeftJournals). KeepsAll script o parts) none keeps.all
