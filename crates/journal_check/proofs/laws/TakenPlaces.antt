-- The places of the commands in the tree's history, one after the other.
use Rattle.std.proofs.Common.{◌≡◌, ℕ, zero, suc, ◌+◌, ◌-◌, ◌<◌, ◌≤◌, Bool, true, false, inl, inr, List, [], ◌∷◌, length, filter, take, Option, Some, None, refl, sym, ap, ◌∙◌, subst, arith}
use Rattle.std.specs.Prelude.{IsTrue}
use Rattle.std.proofs.lemmas.Bool.{cases_Bool, cases_lt}
use Rattle.std.proofs.lemmas.Option.{get_or_from_slice_get, slice_get_within}
use Rattle.journal_check.proofs.TableNumbers.{changed, number_at-other, number_at-own}
use Rattle.journal_check.proofs.laws.Told.{IsSome-some}
use Rattle.journal_check.specs.Places.{AreOwnPlaces, ArePlaces, ArePlacesUpTo}
use Rattle.journal_check.specs.Tables.{AreTakenOnce, AreZero, number_at, row_of}
use Rattle.rc_base.proofs.laws.Histories.{EachFollows-at}
use Rattle.run_law.proofs.laws.Pairs.{both_eqb-same, both_eqb-true}
use Rattle.run_law.specs.Journals.{At}
use Rattle.run_law.specs.Ops.{is_command}
use Rattle.run_law.specs.Truth.{is_taken_from}
use Rattle.run_law.specs.TreeHistory.{CommandMayFollow, IsCommandThat, IsLegalTree, TreeEntryValue}
use Rattle.script_ops.specs.Values.{ScriptValue, op_at}
use Rattle.script_ops.specs.declared.op.Op.{Op}

-- ---- one element that passes

-- something that passes is counted
pub length-filter_some : {A : Type 0} (p : A → Bool) (xs : List A) (i : ℕ) (x : A) → At xs i x → IsTrue (p x) → 0 < length (filter p xs)
length-filter_some p [] i x at passes = absurd cc
length-filter_some p (y ∷ xs) zero x at passes =
    let same : y ≡ x = cc in
    let own : p y ≡ true = ap p same ∙ passes in
    rw own (omega arith)
length-filter_some p (y ∷ xs) (suc i) x at passes =
    let rest = length-filter_some p xs i x at passes in
    elim (cases_Bool (p y)) [ inl own ↦ rw own (omega arith) | inr other ↦ rw other rest ]

-- two that pass are one
pub At-filter_one : {A : Type 0} (p : A → Bool) (xs : List A) (i k : ℕ) (x y : A) → length (filter p xs) ≤ 1 → At xs i x → IsTrue (p x) → At xs k y → IsTrue (p y) → i ≡ k
At-filter_one p [] i k x y one at passes there also = absurd cc
At-filter_one p (z ∷ xs) zero zero x y one at passes there also = refl
At-filter_one p (z ∷ xs) zero (suc k) x y one at passes there also =
    let same : z ≡ x = cc in
    let own : p z ≡ true = ap p same ∙ passes in
    let some = length-filter_some p xs k y there also in
    let count : suc (length (filter p xs)) ≤ 1 = rw own at one in
    absurd (omega arith)
At-filter_one p (z ∷ xs) (suc i) zero x y one at passes there also =
    let same : z ≡ y = cc in
    let own : p z ≡ true = ap p same ∙ also in
    let some = length-filter_some p xs i x at passes in
    let count : suc (length (filter p xs)) ≤ 1 = rw own at one in
    absurd (omega arith)
At-filter_one p (z ∷ xs) (suc i) (suc k) x y one at passes there also =
    let few : length (filter p xs) ≤ 1 = elim (cases_Bool (p z)) [
      | inl own ↦ (let count : suc (length (filter p xs)) ≤ 1 = rw own at one in omega arith)
      | inr other ↦ (let count : length (filter p xs) ≤ 1 = rw other at one in count)
    ] in
    ap suc (At-filter_one p xs i k x y few at passes there also)

-- something that is counted is there
pub At-filter_some : {A : Type 0} (p : A → Bool) (xs : List A) → 0 < length (filter p xs) → (i : ℕ) × (x : A) × At xs i x × IsTrue (p x)
At-filter_some p [] some = absurd (omega arith)
At-filter_some p (y ∷ xs) some = elim (cases_Bool (p y)) [
  | inl own ↦ (0, y, refl, own)
  | inr other ↦
      let rest : 0 < length (filter p xs) = rw other at some in
      let it = At-filter_some p xs rest in
      (suc it.0, it.1, it.2, it.3)
]

-- ---- a legal history

-- an entry's op is a command of the script
CommandMayFollow-at : (script : ScriptValue) (tree : List TreeEntryValue) (k : ℕ) (h : TreeEntryValue) → IsLegalTree script tree → At tree k h → CommandMayFollow script (take k tree) h
CommandMayFollow-at script tree k h legal at =
    subst (λ e. CommandMayFollow script (take k tree) e) (get_or_from_slice_get tree k h h at) (EachFollows-at (CommandMayFollow script) tree k h legal (slice_get_within tree k h at))

-- what is said of a command is said of an op
IsCommandThat-is_command : (P : Op → Type 0) (op : Option Op) → IsCommandThat P op → (c : Op) × (op ≡ Some c) × IsTrue (is_command c)
IsCommandThat-is_command P None h = absurd h
IsCommandThat-is_command P (Some c) h = (c, refl, h.0)

-- the op of an entry of a legal history
pub command-legal : (script : ScriptValue) (tree : List TreeEntryValue) (k : ℕ) (h : TreeEntryValue) → IsLegalTree script tree → At tree k h → (c : Op) × (op_at script h.thread h.op ≡ Some c) × IsTrue (is_command c)
command-legal script tree k h legal at = IsCommandThat-is_command _ (op_at script h.thread h.op) (CommandMayFollow-at script tree k h legal at)

-- ---- places

-- none at first
pub ArePlacesUpTo-zero : (table : List (List ℕ)) (tree : List TreeEntryValue) → ((thread : ℕ) → AreZero (row_of table thread)) → ArePlacesUpTo table tree 0
ArePlacesUpTo-zero table tree zero_all = record {
  taken = λ t o k m h below at mine is. absurd (omega (arith, below));
  place = λ t o k is. absurd (let wrong = zero_all t o (k + 1) is in omega (arith, wrong));
}

-- one more
pub ArePlacesUpTo-suc : (script : ScriptValue) (table : List (List ℕ)) (tree : List TreeEntryValue) (n : ℕ) (h : TreeEntryValue) → IsLegalTree script tree → AreTakenOnce script tree → At tree n h
    → h.thread < length table → h.op < length (row_of table h.thread) → ArePlacesUpTo table tree n → ArePlacesUpTo (changed table h.thread h.op (n + 1)) tree (n + 1)
ArePlacesUpTo-suc script table tree n h legal once at here there old = record {
  taken = λ t o k m x below is mine number. elim (cases_Bool (is_taken_from t o h)) [
    | inl own ↦
        let names = both_eqb-true h.thread t h.op o own in
        let it = command-legal script tree n h legal at in
        let op_is : op_at script t o ≡ Some it.0 = subst (λ u. op_at script u o ≡ Some it.0) names.0 (subst (λ p. op_at script h.thread p ≡ Some it.0) names.1 it.1) in
        let few : length (filter (is_taken_from t o) tree) ≤ 1 = (let one = once t o it.0 op_is it.2 in omega arith) in
        let same : k ≡ n = At-filter_one (is_taken_from t o) tree k n x h few is mine at own in
        let own_number : number_at (changed table h.thread h.op (n + 1)) t o ≡ Some (n + 1) =
        subst (λ u. number_at (changed table h.thread h.op (n + 1)) u o ≡ Some (n + 1)) names.0 (subst (λ p. number_at (changed table h.thread h.op (n + 1)) h.thread p ≡ Some (n + 1)) names.1 (number_at-own table h.thread h.op (n + 1) here there)) in
        let value : m ≡ n + 1 = cc in
        omega arith
    | inr other ↦
        let kept : number_at table t o ≡ Some m = sym (number_at-other table h.thread h.op (n + 1) here there t o (apart t o other)) ∙ number in
        elim (cases_lt k n) [
          | inl before ↦ old.taken t o k m x before is mine kept
          | inr after ↦ absurd (
              let last : k ≡ n = omega (arith, below, after) in
              let is_too : At tree n x = subst (λ i. At tree i x) last is in
              let same : x ≡ h = cc in
              let wrong : is_taken_from t o h ≡ true = subst (λ (y : TreeEntryValue). IsTrue (is_taken_from t o y)) same mine in
              let clash : true ≡ false = sym wrong ∙ other in cc)
        ]
  ];
  place = λ t o k number. elim (cases_Bool (is_taken_from t o h)) [
    | inl own ↦
        let names = both_eqb-true h.thread t h.op o own in
        let own_number : number_at (changed table h.thread h.op (n + 1)) t o ≡ Some (n + 1) =
        subst (λ u. number_at (changed table h.thread h.op (n + 1)) u o ≡ Some (n + 1)) names.0 (subst (λ p. number_at (changed table h.thread h.op (n + 1)) h.thread p ≡ Some (n + 1)) names.1 (number_at-own table h.thread h.op (n + 1) here there)) in
        let value : k + 1 ≡ n + 1 = cc in
        let same : n ≡ k = omega arith in
        (h, omega arith, subst (λ i. At tree i h) same at, own)
    | inr other ↦
        let kept : number_at table t o ≡ Some (k + 1) = sym (number_at-other table h.thread h.op (n + 1) here there t o (apart t o other)) ∙ number in
        let it = old.place t o k kept in
        (it.0, (let below = it.1 in omega arith), it.2, it.3)
  ];
}
  where
    apart : (t o : ℕ) → is_taken_from t o h ≡ false → t ≡ h.thread → o ≡ h.op → ⊥
    apart t o other a b = (let own : is_taken_from t o h ≡ true = both_eqb-same h.thread t h.op o (sym a) (sym b) in let wrong : true ≡ false = sym own ∙ other in cc)

-- all
pub ArePlaces-all : (script : ScriptValue) (table : List (List ℕ)) (tree : List TreeEntryValue) (n : ℕ) → IsLegalTree script tree → length tree ≤ n → ArePlacesUpTo table tree n → ArePlaces script table tree
ArePlaces-all script table tree n legal all places = record {
  of_ops = λ k h at. (let it = command-legal script tree k h legal at in IsSome-some (op_at script h.thread h.op) it.0 it.1);
  taken = λ t o k m h at mine is. places.taken t o k m h (let within = slice_get_within tree k h at in omega (arith, within, all)) at mine is;
  place = λ t o k is. (let it = places.place t o k is in (it.0, it.2, it.3));
}

-- no two ops have one place, and places are few
pub AreOwnPlaces-places : (script : ScriptValue) (table : List (List ℕ)) (tree : List TreeEntryValue) → length tree ≤ 4000000 → ArePlaces script table tree → AreOwnPlaces table
AreOwnPlaces-places script table tree few places = record {
  differ = λ t o u p n first second some.
      let back : (n - 1) + 1 ≡ n = omega arith in
      let a = places.place t o (n - 1) (first ∙ ap Some (sym back)) in
      let b = places.place u p (n - 1) (second ∙ ap Some (sym back)) in
      let at_a = a.1 in
      let at_b = b.1 in
      let same : a.0 ≡ b.0 = cc in
      let mine = both_eqb-true a.0.thread t a.0.op o a.2 in
      let its = both_eqb-true b.0.thread u b.0.op p b.2 in
      (sym mine.0 ∙ (ap (λ (h : TreeEntryValue). h.thread) same ∙ its.0), sym mine.1 ∙ (ap (λ (h : TreeEntryValue). h.op) same ∙ its.1));
  few = λ t o n is. elim (cases_lt 0 n) [
    | inl some ↦
        let back : (n - 1) + 1 ≡ n = omega arith in
        let a = places.place t o (n - 1) (is ∙ ap Some (sym back)) in
        let within = slice_get_within tree (n - 1) a.0 a.1 in
        omega arith
    | inr none ↦ omega arith
  ];
}
