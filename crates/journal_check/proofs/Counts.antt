-- How often each op stands among the entries of the tree, and in the table.
use Rattle.std.proofs.Common.{◌≡◌, ◌↔◌, ℕ, ◌+◌, ◌<◌, ◌≤◌, Bool, true, false, inl, inr, List, [], ◌∷◌, ◌++◌, length, filter, map, take, get_or, Some, sym, ap, ◌∙◌, subst, arith}
use Rattle.std.proofs.lemmas.Bool.{cases_Bool}
use Rattle.std.proofs.lemmas.List.{length-map, length-take-le, map_more}
use Rattle.journal_check.proofs.TableNumbers.{changed, number_at-other, number_at-own}
use Rattle.journal_check.proofs.laws.Told.{number_at-op, IsSome-some}
use Rattle.journal_check.specs.Tables.{AllOnes, AreCounts, AreTakenOnce, CountsOne, IsTableOf, number_at, row_of}
use Rattle.lists.specs.Sums.{one_if}
use Rattle.run_law.proofs.laws.Pairs.{both_eqb-same, both_eqb-true}
use Rattle.run_law.specs.Entries.{entry_value}
use Rattle.run_law.specs.Truth.{is_taken_from}
use Rattle.run_law.specs.TreeHistory.{TreeEntryValue}
use Rattle.run_law.specs.declared.journals.TreeEntry.{TreeEntry}
use Rattle.script_ops.specs.Values.{ScriptValue, op_at}

-- a filter of one element more
pub length-filter_push : (p : TreeEntryValue → Bool) (xs : List TreeEntryValue) (x : TreeEntryValue) → length (filter p (xs ++ x ∷ [])) ≡ length (filter p xs) + one_if (p x)
length-filter_push p [] x = elim (cases_Bool (p x)) [ inl passes ↦ rw passes (omega arith) | inr fails ↦ rw fails (omega arith) ]
length-filter_push p (y ∷ xs) x =
    let rest = length-filter_push p xs x in
    elim (cases_Bool (p y)) [ inl passes ↦ rw passes (omega (arith, rest)) | inr fails ↦ rw fails rest ]

-- a filter is no longer than the list
pub length-filter_le : (p : TreeEntryValue → Bool) (xs : List TreeEntryValue) → length (filter p xs) ≤ length xs
length-filter_le p [] = omega arith
length-filter_le p (x ∷ xs) =
    let rest = length-filter_le p xs in
    elim (cases_Bool (p x)) [ inl passes ↦ rw passes (omega arith) | inr fails ↦ rw fails (omega arith) ]

-- one more for the op of an entry
pub CountsOne-changed : (table : List (List ℕ)) (h : TreeEntryValue) (n : ℕ) → h.thread < length table → h.op < length (row_of table h.thread) → number_at table h.thread h.op ≡ Some n
    → CountsOne table (changed table h.thread h.op (n + 1)) h
CountsOne-changed table h n here there old t o m is = elim (cases_Bool (is_taken_from t o h)) [
  | inl mine ↦
      let names = both_eqb-true h.thread t h.op o mine in
      let own : number_at (changed table h.thread h.op (n + 1)) t o ≡ Some (n + 1) =
      subst (λ x. number_at (changed table h.thread h.op (n + 1)) x o ≡ Some (n + 1)) names.0 (subst (λ x. number_at (changed table h.thread h.op (n + 1)) h.thread x ≡ Some (n + 1)) names.1 (number_at-own table h.thread h.op (n + 1) here there)) in
      let same : m ≡ n + 1 = cc in
      let had : number_at table t o ≡ Some n = subst (λ x. number_at table x o ≡ Some n) names.0 (subst (λ x. number_at table h.thread x ≡ Some n) names.1 old) in
      (n, had, rw mine same)
  | inr other ↦
      let apart : t ≡ h.thread → o ≡ h.op → ⊥ = λ a b. (let yes : is_taken_from t o h ≡ true = both_eqb-same h.thread t h.op o (sym a) (sym b) in let wrong : true ≡ false = sym yes ∙ other in cc) in
      (m, sym (number_at-other table h.thread h.op (n + 1) here there t o apart) ∙ is, rw other (omega arith))
]

-- none at first
pub AreCounts-more : (old new : List (List ℕ)) (es : List TreeEntry) (i : ℕ) (e : TreeEntry) → i < length es → e ≡ get_or es i e → AreCounts old (map entry_value (take i es)) → CountsOne old new (entry_value e)
    → AreCounts new (map entry_value (take (i + 1) es))
AreCounts-more old new es i e within at before one t o n is =
    let it = one t o n is in
    let had : it.0 ≡ length (filter (is_taken_from t o) (map entry_value (take i es))) = before t o it.0 it.1 in
    let more : map entry_value (take (i + 1) es) ≡ map entry_value (take i es) ++ entry_value e ∷ [] = map_more entry_value es i e within ∙ ap (λ (x : TreeEntry). map entry_value (take i es) ++ entry_value x ∷ []) (sym at) in
    it.2 ∙ (ap (λ x. x + one_if (is_taken_from t o (entry_value e))) had
    ∙ (sym (length-filter_push (is_taken_from t o) (map entry_value (take i es)) (entry_value e)) ∙ ap (λ xs. length (filter (is_taken_from t o) xs)) (sym more)))

-- a count is at most the number of the entries
pub AreCounts-le : (table : List (List ℕ)) (es : List TreeEntry) (i t o n : ℕ) → i ≤ length es → AreCounts table (map entry_value (take i es)) → number_at table t o ≡ Some n → n ≤ i
AreCounts-le table es i t o n within counts is =
    let count = counts t o n is in
    omega (arith, count, length-filter_le (is_taken_from t o) (map entry_value (take i es)), length-map (take i es) entry_value, length-take-le i es within)

-- each command once is each count one
pub AllOnes-once : (script : ScriptValue) (table : List (List ℕ)) (tree : List TreeEntryValue) → IsTableOf script table → AreCounts table tree → AllOnes script table ↔ AreTakenOnce script tree
AllOnes-once script table tree is counts = (to, back)
  where
    to : AllOnes script table → AreTakenOnce script tree
    to ones t o c there command =
        let it = number_at-op script table t o is (IsSome-some (op_at script t o) c there) in
        sym (counts t o it.0 it.1) ∙ ones t o it.0 c there command it.1

    back : AreTakenOnce script tree → AllOnes script table
    back once t o n c there command at = counts t o n at ∙ once t o c there command
