-- Marks of accesses, entry by entry.
use Rattle.std.proofs.Common.{◌≡◌, ℕ, zero, suc, ◌+◌, ◌<◌, ◌≤◌, ◌==◌, ◌&&◌, Bool, true, false, inl, inr, List, [], ◌∷◌, length, filter, take, Some, None, refl, sym, ap, ◌∙◌, subst, arith}
use Rattle.std.proofs.lemmas.Bool.{cases_Bool, cases_lt, eqb-true}
use Rattle.std.proofs.lemmas.List.{take_all}
use Rattle.std.proofs.lemmas.List.Filters.{length-filter_more}
use Rattle.std.proofs.lemmas.Option.{get_or_from_slice_get, slice_get_within}
use Rattle.cache_core.specs.declared.entry.SliceEntry.{SliceEntry}
use Rattle.journal_check.proofs.TableNumbers.{changed, number_at-other, number_at-own}
use Rattle.journal_check.proofs.laws.TakenPlaces.{length-filter_some}
use Rattle.journal_check.specs.Begun.{IsSeen}
use Rattle.journal_check.specs.Homes.{AreAtHome, AreMarked, MarksOp, count_before, count_in, home_at, home_of}
use Rattle.journal_check.specs.Tables.{AreZero, number_at, row_of}
use Rattle.journal_check.proofs.AccessHomes.{home-count, some-home}
use Rattle.lists.proofs.Sums.{one_if-le, sum_below-suc, sum_below-zero}
use Rattle.lists.specs.Sums.{one_if, sum_below}
use Rattle.run_law.proofs.laws.Pairs.{both_eqb-same, both_eqb-true}
use Rattle.run_law.specs.Journals.{At, JournalsValue, slice_at}
use Rattle.run_law.specs.Truth.{is_made_by}
use Rattle.script_ops.specs.Values.{ScriptValue, op_at}
use Rattle.script_ops.specs.declared.op.Op.{Op}

-- a number that is one of another is not one of this
pub one_if-apart : (i k : ℕ) → (i ≡ k → ⊥) → one_if (i == k) ≡ 0
one_if-apart i k apart = elim (cases_Bool (i == k)) [
  | inl same ↦ absurd (apart (eqb-true i k same))
  | inr other ↦ rw other refl
]

-- fewer entries have fewer that pass
length-filter_take : {A : Type 0} (p : A → Bool) (xs : List A) (k : ℕ) → length (filter p (take k xs)) ≤ length (filter p xs)
length-filter_take p xs zero = omega arith
length-filter_take p [] (suc k) = omega arith
length-filter_take p (x ∷ xs) (suc k) =
    let rest = length-filter_take p xs k in
    elim (cases_Bool (p x)) [ inl passes ↦ rw passes (omega (arith, rest)) | inr fails ↦ rw fails rest ]

-- a mark for an op without one
pub MarksOp-changed : (table : List (List ℕ)) (thread op : ℕ) → thread < length table → op < length (row_of table thread) → number_at table thread op ≡ Some 0 → MarksOp table (changed table thread op 1) thread op
MarksOp-changed table thread op here there old = record {
  none = old;
  changed = λ t o n is. elim (cases_Bool ((thread == t) && (op == o))) [
    | inl mine ↦
        let names = both_eqb-true thread t op o mine in
        let own : number_at (changed table thread op 1) t o ≡ Some 1 =
        subst (λ x. number_at (changed table thread op 1) x o ≡ Some 1) names.0 (subst (λ x. number_at (changed table thread op 1) thread x ≡ Some 1) names.1 (number_at-own table thread op 1 here there)) in
        let same : n ≡ 1 = cc in
        let had : number_at table t o ≡ Some 0 = subst (λ x. number_at table x o ≡ Some 0) names.0 (subst (λ x. number_at table thread x ≡ Some 0) names.1 old) in
        (0, had, rw mine same)
    | inr other ↦
        let apart : t ≡ thread → o ≡ op → ⊥ = λ a b. (let yes : ((thread == t) && (op == o)) ≡ true = both_eqb-same thread t op o (sym a) (sym b) in let wrong : true ≡ false = sym yes ∙ other in cc) in
        (n, sym (number_at-other table thread op 1 here there t o apart) ∙ is, rw other (omega arith))
  ];
}

module _ (script : ScriptValue) (j : JournalsValue) where
  -- the op that a home is of
  pub home_at-op : (t o home : ℕ) → home_at script t o ≡ Some home → (c : Op) × (op_at script t o ≡ Some c) × (home_of script.machine c ≡ Some home)
  home_at-op t o home is = some-home (home_of script.machine) (op_at script t o) home is

  -- an entry of an op has the op's home
  pub home_at-made : (t o : ℕ) (e : SliceEntry) → is_made_by t o e ≡ true → home_at script e.thread e.op ≡ home_at script t o
  home_at-made t o e mine =
      let names = both_eqb-true e.thread t e.op o mine in
      ap (λ x. home_at script x e.op) names.0 ∙ ap (λ x. home_at script t x) names.1

  -- where accesses are at home, one stands once in its home and nowhere else
  pub count-home : AreAtHome script j → (t o home a : ℕ) → home_at script t o ≡ Some home → a < length j.slices → count_in j t o a ≡ one_if (a == home)
  count-home all t o home a is within =
      let op = home_at-op t o home is in
      (home-count script.machine a (count_in j t o a) home op.0 op.2).0 (all a within t o op.0 op.1)

  -- ---- one entry more

  module _ (i p : ℕ) (e : SliceEntry) (at : At (slice_at j i) p e) where
    count-more : (t o : ℕ) → count_before j t o i (p + 1) ≡ count_before j t o i p + one_if (is_made_by t o e)
    count-more t o =
        let es = slice_at j i in
        let more : length (filter (is_made_by t o) (take (p + 1) es)) ≡ length (filter (is_made_by t o) (take p es)) + one_if (is_made_by t o e) =
        length-filter_more (is_made_by t o) es p e (slice_get_within es p e at) ∙ ap (λ (x : SliceEntry). length (filter (is_made_by t o) (take p es)) + one_if (is_made_by t o x)) (get_or_from_slice_get es p e e at) in
        omega (arith, more)

    -- one that is at home
    homes-more : (table : List (List ℕ)) → AreMarked script j i p table → ((home : ℕ) → home_at script e.thread e.op ≡ Some home → home ≡ i)
        → (a q home : ℕ) (x : SliceEntry) → IsSeen i (p + 1) a q → At (slice_at j a) q x → home_at script x.thread x.op ≡ Some home → a ≡ home
    homes-more table marked own a q home x (inl before) there is = marked.homes a q home x (inl before) there is
    homes-more table marked own a q home x (inr here) there is = elim (cases_lt q p) [
      | inl less ↦ marked.homes a q home x (inr (here.0, less)) there is
      | inr after ↦
          let same : q ≡ p = omega (arith, after, here.1) in
          let its : At (slice_at j i) p x = subst (λ n. At (slice_at j i) n x) same (subst (λ b. At (slice_at j b) q x) here.0 there) in
          let one : x ≡ e = cc in
          here.0 ∙ sym (own home (subst (λ (y : SliceEntry). home_at script y.thread y.op ≡ Some home) one is))
    ]

    -- one of no access
    pub AreMarked-skip : (table : List (List ℕ)) → home_at script e.thread e.op ≡ None → AreMarked script j i p table → AreMarked script j i (p + 1) table
    AreMarked-skip table none marked = record {
      counts = λ t o home m is number.
          let other : is_made_by t o e ≡ false = elim (cases_Bool (is_made_by t o e)) [
            | inl mine ↦ (let wrong : None ≡ Some home = sym none ∙ (home_at-made t o e mine ∙ is) in absurd cc)
            | inr other ↦ other
          ] in
          let none_more : one_if (is_made_by t o e) ≡ 0 = rw other refl in
          let before = marked.counts t o home m is number in
          let more = count-more t o in
          omega (arith, before, more, none_more);
      homes = homes-more table marked (λ home is. (let wrong : None ≡ Some home = sym none ∙ is in absurd cc));
    }

    -- one that is the first of its access, in its home
    pub AreMarked-more : (old new : List (List ℕ)) → home_at script e.thread e.op ≡ Some i → MarksOp old new e.thread e.op → AreMarked script j i p old → AreMarked script j i (p + 1) new
    AreMarked-more old new own marks marked = record {
      counts = λ t o home m is number.
          let it = marks.changed t o m number in
          let before = marked.counts t o home it.0 is it.1 in
          let more = count-more t o in
          let same : m ≡ it.0 + one_if (is_made_by t o e) = it.2 in
          omega (arith, before, more, same);
      homes = homes-more old marked (λ home is. (let same : Some home ≡ Some i = sym is ∙ own in cc));
    }

    -- one that is not in its home
    pub elsewhere-AreAtHome : (home : ℕ) → home_at script e.thread e.op ≡ Some home → (home ≡ i → ⊥) → i < length j.slices → AreAtHome script j → ⊥
    elsewhere-AreAtHome home is apart within all =
        let count = count-home all e.thread e.op home i is within in
        let none = one_if-apart i home (λ same. apart (sym same)) in
        let some = length-filter_some (is_made_by e.thread e.op) (slice_at j i) p e at (both_eqb-same e.thread e.thread e.op e.op refl refl) in
        omega (arith, count, none, some)

    -- one that is the second of its access
    pub second-AreAtHome : (table : List (List ℕ)) (m : ℕ) → home_at script e.thread e.op ≡ Some i → AreMarked script j i p table → number_at table e.thread e.op ≡ Some m → 0 < m → i < length j.slices → AreAtHome script j → ⊥
    second-AreAtHome table m is marked number some within all =
        let t = e.thread in
        let o = e.op in
        let before = marked.counts t o i m is number in
        let earlier : sum_below i (count_in j t o) ≡ 0 = sum_below-zero i (count_in j t o) (λ a less. count-home all t o i a is (omega (arith, less, within)) ∙ one_if-apart a i (λ same. omega (arith, less, same))) in
        let own : one_if (is_made_by t o e) ≡ 1 = (let mine : is_made_by t o e ≡ true = both_eqb-same t t o o refl refl in rw mine refl) in
        let more = count-more t o in
        let few = length-filter_take (is_made_by t o) (slice_at j i) (p + 1) in
        let count = count-home all t o i i is within in
        let one = one_if-le (i == i) in
        omega (arith, before, earlier, own, more, few, count, one, some)

  -- ---- from slice to slice

  -- at the start
  pub AreMarked-zero : (table : List (List ℕ)) → ((thread : ℕ) → AreZero (row_of table thread)) → AreMarked script j 0 0 table
  AreMarked-zero table zeros = record {
    counts = λ t o home m is number. zeros t o m number;
    homes = λ a p home e seen at is. elim seen [ inl before ↦ absurd (omega arith) | inr here ↦ absurd (let less = here.1 in omega arith) ];
  }

  -- at the end of a slice
  pub AreMarked-slice : (table : List (List ℕ)) (i n : ℕ) → length (slice_at j i) ≤ n → AreMarked script j i n table → AreMarked script j (i + 1) 0 table
  AreMarked-slice table i n past marked = record {
    counts = λ t o home m is number.
        let before = marked.counts t o home m is number in
        let whole : length (filter (is_made_by t o) (take n (slice_at j i))) ≡ count_in j t o i = ap (λ (es : List SliceEntry). length (filter (is_made_by t o) es)) (take_all n (slice_at j i) past) in
        let more = sum_below-suc i (count_in j t o) in
        omega (arith, before, whole, more);
    homes = λ a p home e seen at is. elim seen [
      | inl before ↦ elim (cases_lt a i) [
        | inl less ↦ marked.homes a p home e (inl less) at is
        | inr after ↦
            let same : a ≡ i = omega arith in
            let within = slice_get_within (slice_at j i) p e (subst (λ b. At (slice_at j b) p e) same at) in
            marked.homes a p home e (inr (same, omega (arith, within, past))) at is
      ]
      | inr here ↦ absurd (let less = here.1 in omega arith)
    ];
  }
