-- Counts of a history of the tree that comes entry by entry.
use Rattle.std.proofs.Common.{◌≡◌, ◌↔◌, ℕ, ◌+◌, ◌<◌, inl, inr, List, [], ◌∷◌, ◌++◌, length, filter, Some, sym, ap, ◌∙◌, subst, arith}
use Rattle.std.proofs.lemmas.Bool.{cases_Bool}
use Rattle.std.proofs.lemmas.Option.{slice_get_within}
use Rattle.journal_check.proofs.Counts.{CountsOne-changed, length-filter_push}
use Rattle.journal_check.proofs.TableNumbers.{IsTableOf-changed, changed, row-there}
use Rattle.journal_check.proofs.laws.Told.{IsSome-some, number_at-op}
use Rattle.journal_check.specs.CommandCounts.{AreCountsToTwo, HasUnexpected, IsCountToTwo}
use Rattle.journal_check.specs.ExpectedCommands.{CanTake, IsExpected, UnexpectedCommandsFail}
use Rattle.journal_check.specs.Tables.{AllOnes, AreTakenOnce, AreZero, IsTableOf, number_at, row_of}
use Rattle.journal_check.specs.Verdicts.{IsVerdict}
use Rattle.journal_check.specs.declared.verdict.Clause.TheVariants as clauses
use Rattle.journal_check.specs.declared.verdict.Verdict.TheVariants.{No}
use Rattle.journal_check.proofs.FirstFalse.{HoldBefore-first, HoldBefore-tree}
use Rattle.lists.specs.Sums.{one_if}
use Rattle.run_law.proofs.laws.Pairs.{both_eqb-true}
use Rattle.run_law.specs.Journals.{JournalsValue}
use Rattle.run_law.specs.Truth.{is_taken_from}
use Rattle.run_law.specs.TreeHistory.{TreeEntryValue}
use Rattle.script_ops.specs.Values.{IsLawful, ScriptValue, op_at}

-- one more of both
IsCountToTwo-more : (n count more : ℕ) → IsCountToTwo n count → IsCountToTwo (n + more) (count + more)
IsCountToTwo-more n count more (inl same) = inl (ap (λ (k : ℕ). k + more) same)
IsCountToTwo-more n count more (inr many) = inr (omega (arith, many.0), omega (arith, many.1))

-- a number that is greater than 1 stays as it is
IsCountToTwo-many : (n count more : ℕ) → 1 < n → IsCountToTwo n count → IsCountToTwo n (count + more)
IsCountToTwo-many n count more many (inl same) = inr (many, omega (arith, many, same))
IsCountToTwo-many n count more many (inr both) = inr (many, omega (arith, both.1))

-- nothing is counted at first
pub AreCountsToTwo-nil : (script : ScriptValue) (table : List (List ℕ)) → IsTableOf script table → ((thread : ℕ) → AreZero (row_of table thread)) → AreCountsToTwo script table []
AreCountsToTwo-nil script table is zero = record { is_table = is; counts = λ t o n at. inl (zero t o n at) }

module _ (script : ScriptValue) (table : List (List ℕ)) (tree : List TreeEntryValue) (counts : AreCountsToTwo script table tree) where
  -- how often an op stands there with one entry more
  more : (h : TreeEntryValue) (t o : ℕ) → length (filter (is_taken_from t o) tree) + one_if (is_taken_from t o h) ≡ length (filter (is_taken_from t o) (tree ++ h ∷ []))
  more h t o = sym (length-filter_push (is_taken_from t o) tree h)

  -- an entry is counted
  pub AreCountsToTwo-changed : (h : TreeEntryValue) (n : ℕ) → number_at table h.thread h.op ≡ Some n → AreCountsToTwo script (changed table h.thread h.op (n + 1)) (tree ++ h ∷ [])
  AreCountsToTwo-changed h n old =
      let here = row-there table h.thread h.op n old in
      let there = slice_get_within (row_of table h.thread) h.op n old in
      let one = CountsOne-changed table h n here there old in
      record {
        is_table = IsTableOf-changed table h.thread h.op (n + 1) here there script counts.is_table;
        counts = λ t o k at.
            (let it = one t o k at in
            subst (IsCountToTwo k) (more h t o) (subst (λ (m : ℕ). IsCountToTwo m (length (filter (is_taken_from t o) tree) + one_if (is_taken_from t o h))) (sym it.2)
            (IsCountToTwo-more it.0 (length (filter (is_taken_from t o) tree)) (one_if (is_taken_from t o h)) (counts.counts t o it.0 it.1))));
      }

  -- an entry changes no number, where that of its op is greater than 1, or it is of no op
  pub AreCountsToTwo-same : (h : TreeEntryValue) → ((n : ℕ) → number_at table h.thread h.op ≡ Some n → 1 < n) → AreCountsToTwo script table (tree ++ h ∷ [])
  AreCountsToTwo-same h many = record {
    is_table = counts.is_table;
    counts = λ t o k at.
        (let count = length (filter (is_taken_from t o) tree) in
        let old = counts.counts t o k at in
        subst (IsCountToTwo k) (more h t o) (elim (cases_Bool (is_taken_from t o h)) [
          | inl mine ↦
              let names = both_eqb-true h.thread t h.op o mine in
              let own : number_at table h.thread h.op ≡ Some k = subst (λ x. number_at table h.thread x ≡ Some k) (sym names.1) (subst (λ x. number_at table x o ≡ Some k) (sym names.0) at) in
              IsCountToTwo-many k count (one_if (is_taken_from t o h)) (many k own) old
          | inr other ↦
              let none : count ≡ count + one_if (is_taken_from t o h) = rw other (omega arith) in
              subst (IsCountToTwo k) none old
        ]));
  }

  -- each command once is each number one
  pub AllOnes-counted : AllOnes script table ↔ AreTakenOnce script tree
  AllOnes-counted = (to, back)
    where
      one : (n count : ℕ) → IsCountToTwo n count → n ≡ 1 → count ≡ 1
      one n count (inl same) is = sym same ∙ is
      one n count (inr many) is = absurd (omega (arith, many.0, is))

      single : (n count : ℕ) → IsCountToTwo n count → count ≡ 1 → n ≡ 1
      single n count (inl same) is = same ∙ is
      single n count (inr many) is = absurd (omega (arith, many.1, is))

      to : AllOnes script table → AreTakenOnce script tree
      to ones t o c there command =
          let it = number_at-op script table t o counts.is_table (IsSome-some (op_at script t o) c there) in
          one it.0 (length (filter (is_taken_from t o) tree)) (counts.counts t o it.0 it.1) (ones t o it.0 c there command it.1)

      back : AreTakenOnce script tree → AllOnes script table
      back once t o n c there command at = single n (length (filter (is_taken_from t o) tree)) (counts.counts t o n at) (once t o c there command)

  -- the first command of its op is expected where its op can be taken so
  pub IsExpected-first : (h : TreeEntryValue) → number_at table h.thread h.op ≡ Some 0 → CanTake script h ↔ IsExpected script tree h
  IsExpected-first h is = ((λ can. record { can = can; first = none (length (filter (is_taken_from h.thread h.op) tree)) (counts.counts h.thread h.op 0 is) }), (λ expected. expected.can))
    where
      none : (count : ℕ) → IsCountToTwo 0 count → count ≡ 0
      none count (inl same) = sym same
      none count (inr many) = absurd (omega (arith, many.0))

  -- an expected entry is of an op that was not counted
  pub IsExpected-zero : (h : TreeEntryValue) → IsExpected script tree h → number_at table h.thread h.op ≡ Some 0
  IsExpected-zero h expected =
      let it = number_at-op script table h.thread h.op counts.is_table (IsSome-some (op_at script h.thread h.op) expected.can.command expected.can.is) in
      subst (λ (n : ℕ). number_at table h.thread h.op ≡ Some n) (zero it.0 (length (filter (is_taken_from h.thread h.op) tree)) (counts.counts h.thread h.op it.0 it.1) expected.first) it.1
    where
      zero : (n count : ℕ) → IsCountToTwo n count → count ≡ 0 → n ≡ 0
      zero n count (inl same) is = same ∙ is
      zero n count (inr many) is = absurd (omega (arith, many.1, is))

-- ---- verdicts

module _ (script : ScriptValue) (j : JournalsValue) where
  -- a command does not stand once
  pub IsVerdict-commands : (AreTakenOnce script j.tree → ⊥) → IsVerdict script j (No clauses.CommandsStandOnce)
  IsVerdict-commands never = record { before = HoldBefore-first script j; false_here = never }

  -- each stands once, and one is not expected
  pub IsVerdict-tree : UnexpectedCommandsFail → IsLawful script → AreTakenOnce script j.tree → HasUnexpected script j.tree → IsVerdict script j (No clauses.TreeIsLegal)
  IsVerdict-tree fail lawful once has = record {
    before = HoldBefore-tree script j once;
    false_here = λ legal. fail script j has.position has.entry lawful has.there has.unexpected once legal;
  }
