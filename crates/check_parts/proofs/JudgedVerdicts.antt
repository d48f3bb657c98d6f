-- Verdicts on journals of which slices were judged before.
use Rattle.std.proofs.Common.{◌≡◌, ◌<◌, inl, inr, length, Option, Some, None, refl, arith}
use Rattle.std.proofs.lemmas.Bool.{cases_lt, le-ltb, lt-ltb}
use Rattle.check_parts.specs.JudgedSlices.{IsFound, earlier_of, found_in}
use Rattle.journal_check.specs.Verdicts.{HoldBefore, Holds, IsFirstFalse, IsVerdict, rank}
use Rattle.journal_check.specs.declared.verdict.Clause.{Clause}
use Rattle.journal_check.specs.declared.verdict.Clause.TheVariants as clauses
use Rattle.journal_check.specs.declared.verdict.Verdict.{Verdict}
use Rattle.journal_check.specs.declared.verdict.Verdict.TheVariants.{Yes, No}
use Rattle.machine.specs.Slices.{slice_count}
use Rattle.run_law.specs.Clauses.{EntriesStandOnce, MeetsClauses, RunsByClauses}
use Rattle.run_law.specs.Journals.{JournalsValue}
use Rattle.run_law.specs.Looks.{AreMatched}
use Rattle.script_ops.specs.Values.{ScriptValue}

-- each clause of those that are met
Holds-met : (script : ScriptValue) (j : JournalsValue) → MeetsClauses script j → (c : Clause) → Holds script j c
Holds-met script j met clauses.CommandsStandOnce = met.commands_once
Holds-met script j met clauses.TreeIsLegal = met.tree_legal
Holds-met script j met clauses.SlicesAreLegal = met.slices_legal
Holds-met script j met clauses.AccessesAreTrue = met.accesses_true
Holds-met script j met clauses.OthersAreTrue = met.others_true
Holds-met script j met clauses.StandAfterCommands = met.after_commands
Holds-met script j met clauses.LooksAreMatched = met.looks_matched
Holds-met script j met clauses.EntriesStandOnce = met.entries_once
Holds-met script j met clauses.MarksInOrder = met.marks
Holds-met script j met clauses.EntriesInOrder = met.entries_in_order

-- a verdict finds the clause before that of the looks that is false first
pub IsFound-verdict : (script : ScriptValue) (j : JournalsValue) → RunsByClauses → length j.slices ≡ slice_count script.machine → (v : Verdict) → IsVerdict script j v → IsFound script j (found_in v)
IsFound-verdict script j runs count Yes says = λ c before. Holds-met script j ((runs script j count).0 says) c
IsFound-verdict script j runs count (No clause) says = elim (cases_lt (rank clause) (rank clauses.LooksAreMatched)) [
  | inl early ↦ rw (lt-ltb (rank clause) (rank clauses.LooksAreMatched) early) (early, says)
  | inr late ↦ rw (le-ltb (rank clause) (rank clauses.LooksAreMatched) late) (λ c before. says.before c (omega (arith, before, late)))
]

-- nothing is found of two where nothing is found of the first
pub earlier_of-none : (a b : Option Clause) → earlier_of a b ≡ None → a ≡ None
earlier_of-none None b is = refl
earlier_of-none (Some x) None is = is
earlier_of-none (Some x) (Some y) is = elim (cases_lt (rank x) (rank y)) [
  | inl less ↦ absurd (let wrong : Some x ≡ None = rw (lt-ltb (rank x) (rank y) less) at is in cc)
  | inr more ↦ absurd (let wrong : Some y ≡ None = rw (le-ltb (rank x) (rank y) more) at is in cc)
]

-- ---- where all clauses before that of the looks hold

module _ (script : ScriptValue) (j : JournalsValue) (holds : HoldBefore script j clauses.LooksAreMatched) where
  -- the looks are the first that are false
  pub IsFirstFalse-looks : (AreMatched script j → ⊥) → IsFirstFalse script j clauses.LooksAreMatched
  IsFirstFalse-looks never = record { before = holds; false_here = never }

  -- one clause more
  Holds-looks : AreMatched script j → (c : Clause) → rank c < rank clauses.EntriesStandOnce → Holds script j c
  Holds-looks matched clauses.CommandsStandOnce before = holds clauses.CommandsStandOnce (omega arith)
  Holds-looks matched clauses.TreeIsLegal before = holds clauses.TreeIsLegal (omega arith)
  Holds-looks matched clauses.SlicesAreLegal before = holds clauses.SlicesAreLegal (omega arith)
  Holds-looks matched clauses.AccessesAreTrue before = holds clauses.AccessesAreTrue (omega arith)
  Holds-looks matched clauses.OthersAreTrue before = holds clauses.OthersAreTrue (omega arith)
  Holds-looks matched clauses.StandAfterCommands before = holds clauses.StandAfterCommands (omega arith)
  Holds-looks matched clauses.LooksAreMatched before = matched
  Holds-looks matched clauses.EntriesStandOnce before = absurd (omega (arith, before))
  Holds-looks matched clauses.MarksInOrder before = absurd (omega (arith, before))
  Holds-looks matched clauses.EntriesInOrder before = absurd (omega (arith, before))

  -- the entries of ops are, where the looks are matched
  pub IsFirstFalse-entries : AreMatched script j → (EntriesStandOnce script j → ⊥) → IsFirstFalse script j clauses.EntriesStandOnce
  IsFirstFalse-entries matched never = record { before = λ c before. Holds-looks matched c before; false_here = never }
