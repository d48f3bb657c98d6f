-- The clauses in their order, one after the other.
use Rattle.std.proofs.Common.{◌≡◌, ℕ, ◌+◌, ◌<◌, zero, suc, refl, sym, ap, subst, ◌∙◌, arith, below_more}
use Rattle.journal_check.specs.Verdicts.{HoldBefore, Holds, rank}
use Rattle.journal_check.specs.declared.verdict.Clause.{Clause}
use Rattle.journal_check.specs.declared.verdict.Clause.TheVariants as clauses
use Rattle.run_law.specs.Clauses.{AccessesAreTrue, CommandsStandOnce, EntriesStandOnce, OthersAreTrue, SlicesAreLegal, StandAfterCommands, TreeIsLegal}
use Rattle.run_law.specs.Growth.{MarksInOrder}
use Rattle.run_law.specs.Journals.{JournalsValue}
use Rattle.run_law.specs.Looks.{AreMatched}
use Rattle.script_ops.specs.Values.{ScriptValue}

-- the clause at a place of their order
abbrev clause_at : ℕ → Clause
clause_at zero = clauses.CommandsStandOnce
clause_at (suc zero) = clauses.TreeIsLegal
clause_at (suc (suc zero)) = clauses.SlicesAreLegal
clause_at (suc (suc (suc zero))) = clauses.AccessesAreTrue
clause_at (suc (suc (suc (suc zero)))) = clauses.OthersAreTrue
clause_at (suc (suc (suc (suc (suc zero))))) = clauses.StandAfterCommands
clause_at (suc (suc (suc (suc (suc (suc zero)))))) = clauses.LooksAreMatched
clause_at (suc (suc (suc (suc (suc (suc (suc zero))))))) = clauses.EntriesStandOnce
clause_at (suc (suc (suc (suc (suc (suc (suc (suc zero)))))))) = clauses.MarksInOrder
clause_at (suc (suc (suc (suc (suc (suc (suc (suc (suc n))))))))) = clauses.EntriesInOrder

clause_at-rank : (clause : Clause) → clause_at (rank clause) ≡ clause
clause_at-rank clauses.CommandsStandOnce = refl
clause_at-rank clauses.TreeIsLegal = refl
clause_at-rank clauses.SlicesAreLegal = refl
clause_at-rank clauses.AccessesAreTrue = refl
clause_at-rank clauses.OthersAreTrue = refl
clause_at-rank clauses.StandAfterCommands = refl
clause_at-rank clauses.LooksAreMatched = refl
clause_at-rank clauses.EntriesStandOnce = refl
clause_at-rank clauses.MarksInOrder = refl
clause_at-rank clauses.EntriesInOrder = refl

-- no two clauses have one place
rank-same : (a b : Clause) → rank a ≡ rank b → a ≡ b
rank-same a b same = sym (clause_at-rank a) ∙ ap clause_at same ∙ clause_at-rank b

-- none is before the first
pub HoldBefore-first : (script : ScriptValue) (j : JournalsValue) → HoldBefore script j clauses.CommandsStandOnce
HoldBefore-first script j c before = absurd (omega (arith, before))

-- one clause more holds
pub HoldBefore-next :
    (script : ScriptValue) (j : JournalsValue) (clause next : Clause)
    → rank next ≡ rank clause + 1 → HoldBefore script j clause → Holds script j clause
    → HoldBefore script j next
HoldBefore-next script j clause next step before here c earlier =
    let all : (k : ℕ) → k < rank clause + 1 → (c : Clause) → rank c ≡ k → Holds script j c = below_more
    (λ k. (c : Clause) → rank c ≡ k → Holds script j c)
    (rank clause)
    (λ k below c is. before c (subst (λ n. n < rank clause) (sym is) below))
    (λ c is. subst (λ (x : Clause). Holds script j x) (sym (rank-same c clause is)) here) in
    all (rank c) (omega (arith, earlier, step)) c refl

-- ---- as many clauses as hold

module _ (script : ScriptValue) (j : JournalsValue) where
  pub HoldBefore-tree : CommandsStandOnce script j → HoldBefore script j clauses.TreeIsLegal
  HoldBefore-tree once = HoldBefore-next script j clauses.CommandsStandOnce clauses.TreeIsLegal refl (HoldBefore-first script j) once

  pub HoldBefore-slices : CommandsStandOnce script j → TreeIsLegal script j → HoldBefore script j clauses.SlicesAreLegal
  HoldBefore-slices once legal = HoldBefore-next script j clauses.TreeIsLegal clauses.SlicesAreLegal refl (HoldBefore-tree once) legal

  pub HoldBefore-accesses : CommandsStandOnce script j → TreeIsLegal script j → SlicesAreLegal script j → HoldBefore script j clauses.AccessesAreTrue
  HoldBefore-accesses once legal slices = HoldBefore-next script j clauses.SlicesAreLegal clauses.AccessesAreTrue refl (HoldBefore-slices once legal) slices

  pub HoldBefore-others : CommandsStandOnce script j → TreeIsLegal script j → SlicesAreLegal script j → AccessesAreTrue script j → HoldBefore script j clauses.OthersAreTrue
  HoldBefore-others once legal slices accesses = HoldBefore-next script j clauses.AccessesAreTrue clauses.OthersAreTrue refl (HoldBefore-accesses once legal slices) accesses

  pub HoldBefore-after : CommandsStandOnce script j → TreeIsLegal script j → SlicesAreLegal script j → AccessesAreTrue script j → OthersAreTrue script j → HoldBefore script j clauses.StandAfterCommands
  HoldBefore-after once legal slices accesses others = HoldBefore-next script j clauses.OthersAreTrue clauses.StandAfterCommands refl (HoldBefore-others once legal slices accesses) others

  pub HoldBefore-looks : CommandsStandOnce script j → TreeIsLegal script j → SlicesAreLegal script j → AccessesAreTrue script j → OthersAreTrue script j → StandAfterCommands script j → HoldBefore script j clauses.LooksAreMatched
  HoldBefore-looks once legal slices accesses others after = HoldBefore-next script j clauses.StandAfterCommands clauses.LooksAreMatched refl (HoldBefore-after once legal slices accesses others) after

  pub HoldBefore-entries : CommandsStandOnce script j → TreeIsLegal script j → SlicesAreLegal script j → AccessesAreTrue script j → OthersAreTrue script j → StandAfterCommands script j → AreMatched script j → HoldBefore script j clauses.EntriesStandOnce
  HoldBefore-entries once legal slices accesses others after matched = HoldBefore-next script j clauses.LooksAreMatched clauses.EntriesStandOnce refl (HoldBefore-looks once legal slices accesses others after) matched

  pub HoldBefore-marks : CommandsStandOnce script j → TreeIsLegal script j → SlicesAreLegal script j → AccessesAreTrue script j → OthersAreTrue script j → StandAfterCommands script j → AreMatched script j → EntriesStandOnce script j → HoldBefore script j clauses.MarksInOrder
  HoldBefore-marks once legal slices accesses others after matched made = HoldBefore-next script j clauses.EntriesStandOnce clauses.MarksInOrder refl (HoldBefore-entries once legal slices accesses others after matched) made

  pub HoldBefore-order : CommandsStandOnce script j → TreeIsLegal script j → SlicesAreLegal script j → AccessesAreTrue script j → OthersAreTrue script j → StandAfterCommands script j → AreMatched script j → EntriesStandOnce script j → MarksInOrder script j → HoldBefore script j clauses.EntriesInOrder
  HoldBefore-order once legal slices accesses others after matched made marks = HoldBefore-next script j clauses.MarksInOrder clauses.EntriesInOrder refl (HoldBefore-marks once legal slices accesses others after matched made) marks
