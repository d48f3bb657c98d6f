-- When ops began, entry by entry.
use Rattle.std.proofs.Common.{◌≡◌, ℕ, ◌+◌, ◌<◌, ◌≤◌, ◌⊎◌, ◌%◌, ◌==◌, inl, inr, true, false, List, length, filter, Some, refl, sym, ap, ◌∙◌, subst, arith}
use Rattle.std.specs.Prelude.{IsTrue}
use Rattle.std.proofs.lemmas.Bool.{cases_Bool, cases_lt, eqb-false, eqb-true}
use Rattle.std.proofs.lemmas.Option.{slice_get_within}
use Rattle.cache_core.specs.declared.entry.SliceEntry.{SliceEntry}
use Rattle.journal_check.proofs.TableNumbers.{changed, number_at-other, number_at-own}
use Rattle.journal_check.proofs.laws.TakenPlaces.{At-filter_one, command-legal, length-filter_some}
use Rattle.journal_check.proofs.laws.Told.{slice_at-past}
use Rattle.journal_check.specs.Begun.{AreBegun, IsSeen}
use Rattle.journal_check.specs.Tables.{AreTakenOnce, number_at, row_of}
use Rattle.run_law.specs.Clauses.{EntriesStandOnce}
use Rattle.lists.proofs.Sums.{one_if-le}
use Rattle.lists.specs.Sums.{one_if}
use Rattle.machine.proofs.laws.Domains.{domain_of-lt}
use Rattle.machine.proofs.laws.Slices.{slice_number-lt}
use Rattle.machine.specs.Maps.{domain_of, line_of}
use Rattle.machine.specs.Slices.{slice_count, slice_of_line}
use Rattle.run_law.proofs.laws.Pairs.{both_eqb-same, both_eqb-true}
use Rattle.run_law.specs.Journals.{At, JournalsValue, slice_at}
use Rattle.run_law.specs.Ops.{is_command}
use Rattle.run_law.specs.Order.{Makes}
use Rattle.run_law.specs.Truth.{is_made_by, is_taken_from}
use Rattle.run_law.specs.TreeHistory.{IsLegalTree, TreeEntryValue}
use Rattle.script_ops.specs.Fits.{Fits}
use Rattle.script_ops.specs.Values.{IsLawful, ScriptValue, op_at}
use Rattle.script_ops.specs.declared.op.Op.{Op}
use Rattle.script_ops.specs.declared.op.Op.TheVariants as ops

-- the number of another op stays, the number of this one is new
number-changed : (table : List (List ℕ)) (thread op n t o m : ℕ) → thread < length table → op < length (row_of table thread) → number_at (changed table thread op n) t o ≡ Some m
    → ((t ≡ thread) × (o ≡ op) × (m ≡ n)) ⊎ ((t ≡ thread → o ≡ op → ⊥) × (number_at table t o ≡ Some m))
number-changed table thread op n t o m here there is = elim (cases_Bool (t == thread)) [
  | inl first ↦ elim (cases_Bool (o == op)) [
    | inl second ↦
        let a = eqb-true t thread first in
        let b = eqb-true o op second in
        let own : number_at (changed table thread op n) t o ≡ Some n = subst (λ x. number_at (changed table thread op n) x o ≡ Some n) (sym a) (subst (λ x. number_at (changed table thread op n) thread x ≡ Some n) (sym b) (number_at-own table thread op n here there)) in
        inl (a, b, (let same : m ≡ n = cc in same))
    | inr second ↦ (let apart : t ≡ thread → o ≡ op → ⊥ = λ a b. eqb-false o op second b in inr (apart, sym (number_at-other table thread op n here there t o apart) ∙ is))
  ]
  | inr first ↦ (let apart : t ≡ thread → o ≡ op → ⊥ = λ a b. eqb-false t thread first a in inr (apart, sym (number_at-other table thread op n here there t o apart) ∙ is))
]

-- one command more
pub AreBegun-command : (script : ScriptValue) (j : JournalsValue) (table : List (List ℕ)) (k : ℕ) (h : TreeEntryValue) → IsLegalTree script j.tree → AreTakenOnce script j.tree → At j.tree k h
    → h.thread < length table → h.op < length (row_of table h.thread) → AreBegun script j k 0 0 table → AreBegun script j (k + 1) 0 0 (changed table h.thread h.op k)
AreBegun-command script j table k h legal once at here there begun = record {
  taken = λ t o n m x below is mine number. elim (number-changed table h.thread h.op k t o m here there number) [
    | inl own ↦
        let it = command-legal script j.tree k h legal at in
        let op_is : op_at script t o ≡ Some it.0 = subst (λ u. op_at script u o ≡ Some it.0) (sym own.0) (subst (λ p. op_at script h.thread p ≡ Some it.0) (sym own.1) it.1) in
        let few : length (filter (is_taken_from t o) j.tree) ≤ 1 = (let one = once t o it.0 op_is it.2 in omega arith) in
        let its : IsTrue (is_taken_from t o h) = both_eqb-same h.thread t h.op o (sym own.0) (sym own.1) in
        let same : n ≡ k = At-filter_one (is_taken_from t o) j.tree n k x h few is mine at its in
        own.2 ∙ sym same
    | inr other ↦ elim (cases_lt n k) [
      | inl before ↦ begun.taken t o n m x before is mine other.1
      | inr after ↦ absurd (
          let last : n ≡ k = omega (arith, below, after) in
          let is_too : At j.tree k x = subst (λ i. At j.tree i x) last is in
          let same : x ≡ h = cc in
          let names = both_eqb-true h.thread t h.op o (subst (λ (y : TreeEntryValue). IsTrue (is_taken_from t o y)) same mine) in
          other.0 (sym names.0) (sym names.1))
    ]
  ];
  made = λ t o a p m e c seen is mine op_is kind number. elim seen [ inl less ↦ absurd (omega (arith, less)) | inr none ↦ absurd (let less = none.1 in omega (arith, less)) ];
}

-- before the first
pub AreBegun-zero : (script : ScriptValue) (j : JournalsValue) (table : List (List ℕ)) → AreBegun script j 0 0 0 table
AreBegun-zero script j table = record {
  taken = λ t o n m x below is mine number. absurd (omega (arith, below));
  made = λ t o a p m e c seen is mine op_is kind number. elim seen [ inl less ↦ absurd (omega (arith, less)) | inr none ↦ absurd (let less = none.1 in omega (arith, less)) ];
}

-- the slice of the line of an access
abbrev pub home_of : ScriptValue → Op → ℕ
home_of script (ops.Access task cpu addr) = slice_of_line script.machine (domain_of script.machine cpu) (line_of addr)
home_of script c = 0

-- the entries that an access makes in a slice: one in its own
pub made-access : (script : ScriptValue) (j : JournalsValue) (i t o : ℕ) (c : Op) (xs : List SliceEntry) → is_command c ≡ false → Makes script j i t o c xs → length xs ≡ one_if (i == home_of script c)
made-access script j i t o (ops.Access task cpu addr) xs kind makes = makes
made-access script j i t o c xs kind makes = absurd cc

-- a number of one that is some is of the same
one_if-some : (a b : ℕ) → 0 < one_if (a == b) → a ≡ b
one_if-some a b some = elim (cases_Bool (a == b)) [
  | inl same ↦ eqb-true a b same
  | inr other ↦ absurd (let none : one_if (a == b) ≡ 0 = rw other refl in omega arith)
]

module _ (script : ScriptValue) (j : JournalsValue) (all : length j.slices ≡ slice_count script.machine) (made : EntriesStandOnce script j) where
  -- a slice with an entry is one of the machine
  pub slice-there : (a p : ℕ) (x : SliceEntry) → At (slice_at j a) p x → a < slice_count script.machine
  slice-there a p x at = elim (cases_lt a (length j.slices)) [ inl within ↦ omega arith | inr past ↦ absurd (slice_at-past j a p x past at) ]

  -- an entry of an access is in its slice
  at-home : (t o a p : ℕ) (c : Op) (x : SliceEntry) → op_at script t o ≡ Some c → is_command c ≡ false → At (slice_at j a) p x → IsTrue (is_made_by t o x) → a ≡ home_of script c
  at-home t o a p c x is kind at mine =
      let count = made-access script j a t o c (filter (is_made_by t o) (slice_at j a)) kind (made.each a t o c (slice-there a p x at) is) in
      let some = length-filter_some (is_made_by t o) (slice_at j a) p x at mine in
      one_if-some a (home_of script c) (omega arith)

  -- and there is one
  pub same-epoch : (t o a p b q : ℕ) (c : Op) (x y : SliceEntry) → op_at script t o ≡ Some c → is_command c ≡ false → At (slice_at j a) p x → IsTrue (is_made_by t o x) → At (slice_at j b) q y → IsTrue (is_made_by t o y) → x.epoch ≡ y.epoch
  same-epoch t o a p b q c x y is kind at mine there also =
      let same : a ≡ b = at-home t o a p c x is kind at mine ∙ sym (at-home t o b q c y is kind there also) in
      let here : At (slice_at j a) q y = subst (λ i. At (slice_at j i) q y) (sym same) there in
      let count = made-access script j a t o c (filter (is_made_by t o) (slice_at j a)) kind (made.each a t o c (slice-there a p x at) is) in
      let few : one_if (a == home_of script c) ≤ 1 = one_if-le (a == home_of script c) in
      let place : p ≡ q = At-filter_one (is_made_by t o) (slice_at j a) p q x y (omega arith) at mine here also in
      let its : At (slice_at j a) p y = subst (λ n. At (slice_at j a) n y) (sym place) here in
      let one : x ≡ y = cc in
      ap (λ (e : SliceEntry). e.epoch) one

  module _ (legal : IsLegalTree script j.tree) (table : List (List ℕ)) (i n : ℕ) (e : SliceEntry) (at : At (slice_at j i) n e) (begun : AreBegun script j (length j.tree) i n table) where
    -- an entry that was seen, or this one
    seen-suc : (a p : ℕ) → IsSeen i (n + 1) a p → IsSeen i n a p ⊎ ((a ≡ i) × (p ≡ n))
    seen-suc a p (inl less) = inl (inl less)
    seen-suc a p (inr own) = elim (cases_lt p n) [
      | inl before ↦ inl (inr (own.0, before))
      | inr after ↦ inr (own.0, (let below = own.1 in omega arith))
    ]

    -- this one
    seen-here : (a p : ℕ) (x : SliceEntry) → (a ≡ i) × (p ≡ n) → At (slice_at j a) p x → x ≡ e
    seen-here a p x same there =
        let its : At (slice_at j i) n x = subst (λ k. At (slice_at j i) k x) same.1 (subst (λ b. At (slice_at j b) p x) same.0 there) in
        let one : x ≡ e = cc in
        one

    -- an entry of an access
    pub AreBegun-access : (c : Op) → op_at script e.thread e.op ≡ Some c → is_command c ≡ false → e.thread < length table → e.op < length (row_of table e.thread) → AreBegun script j (length j.tree) i (n + 1) (changed table e.thread e.op e.epoch)
    AreBegun-access c is kind here there = record {
      taken = λ t o k m h below taken_at mine number. elim (number-changed table e.thread e.op e.epoch t o m here there number) [
        | inl own ↦ absurd (
            let it = command-legal script j.tree k h legal taken_at in
            let names = both_eqb-true h.thread t h.op o mine in
            let its : op_at script e.thread e.op ≡ Some it.0 = subst (λ u. op_at script u e.op ≡ Some it.0) (names.0 ∙ own.0) (subst (λ p. op_at script h.thread p ≡ Some it.0) (names.1 ∙ own.1) it.1) in
            let one : it.0 ≡ c = cc in
            let wrong : true ≡ false = sym it.2 ∙ (ap is_command one ∙ kind) in
            cc)
        | inr other ↦ begun.taken t o k m h below taken_at mine other.1
      ];
      made = λ t o a p m x d seen x_at mine is_d kind_d number. elim (number-changed table e.thread e.op e.epoch t o m here there number) [
        | inl own ↦
            let its : IsTrue (is_made_by t o e) = both_eqb-same e.thread t e.op o (sym own.0) (sym own.1) in
            own.2 ∙ sym (same-epoch t o a p i n d x e is_d kind_d x_at mine at its)
        | inr other ↦ elim (seen-suc a p seen) [
          | inl before ↦ begun.made t o a p m x d before x_at mine is_d kind_d other.1
          | inr last ↦ absurd (
              let one = seen-here a p x last x_at in
              let names = both_eqb-true e.thread t e.op o (subst (λ (y : SliceEntry). IsTrue (is_made_by t o y)) one mine) in
              other.0 (sym names.0) (sym names.1))
        ]
      ];
    }

    -- one of no access
    pub AreBegun-skip : ((c : Op) → op_at script e.thread e.op ≡ Some c → is_command c ≡ false → ⊥) → AreBegun script j (length j.tree) i (n + 1) table
    AreBegun-skip none = record {
      taken = begun.taken;
      made = λ t o a p m x d seen x_at mine is_d kind_d number. elim (seen-suc a p seen) [
        | inl before ↦ begun.made t o a p m x d before x_at mine is_d kind_d number
        | inr last ↦ absurd (
            let one = seen-here a p x last x_at in
            let names = both_eqb-true e.thread t e.op o (subst (λ (y : SliceEntry). IsTrue (is_made_by t o y)) one mine) in
            none d (subst (λ u. op_at script u e.op ≡ Some d) (sym names.0) (subst (λ q. op_at script t q ≡ Some d) (sym names.1) is_d)) kind_d)
      ];
    }

-- a whole slice
pub AreBegun-slice : (script : ScriptValue) (j : JournalsValue) (table : List (List ℕ)) (k i n : ℕ) → length (slice_at j i) ≤ n → AreBegun script j k i n table → AreBegun script j k (i + 1) 0 table
AreBegun-slice script j table k i n whole begun = record {
  taken = begun.taken;
  made = λ t o a p m x d seen x_at mine is_d kind_d number. begun.made t o a p m x d (back a p x seen x_at) x_at mine is_d kind_d number;
}
  where
    back : (a p : ℕ) (x : SliceEntry) → IsSeen (i + 1) 0 a p → At (slice_at j a) p x → IsSeen i n a p
    back a p x (inr none) x_at = absurd (let less = none.1 in omega arith)
    back a p x (inl less) x_at = elim (cases_lt a i) [
      | inl before ↦ inl before
      | inr after ↦
          let same : a ≡ i = omega arith in
          let within = slice_get_within (slice_at j i) p x (subst (λ b. At (slice_at j b) p x) same x_at) in
          inr (same, omega arith)
    ]

-- the slice of an access is one of the machine
pub home-there : (script : ScriptValue) (c : Op) → IsLawful script → Fits script.machine script.tasks c → is_command c ≡ false → home_of script c < slice_count script.machine
home-there script (ops.Access task cpu addr) lawful fits kind =
    let some = lawful.in_range.some_slice in
    slice_number-lt script.machine (domain_of script.machine cpu) (line_of addr % script.machine.sets % script.machine.slices) (domain_of-lt script.machine cpu lawful.in_range fits.1) (omega arith)
home-there script c lawful fits kind = absurd cc
