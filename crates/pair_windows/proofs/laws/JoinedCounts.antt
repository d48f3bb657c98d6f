-- What is counted of a group in the joined list is what is counted of its uses.
use Rattle.std.proofs.Common.{◌≡◌, ℕ, zero, suc, ◌+◌, ◌-◌, Bool, true, false, not, ◌&&◌, ◌||◌, eqb, List, [], ◌∷◌, ◌++◌, length, filter, Option, Some, None, inl, inr, refl, sym, ap, ap₂, ◌∙◌, arith}
use Rattle.std.specs.Prelude.{count_by}
use Rattle.std.specs.List.{flat_map, list_any, range_with_len}
use Rattle.std.proofs.lemmas.Bool.{cases_Bool}
use Rattle.std.proofs.lemmas.List.{append-nil, length-append}
use Rattle.std.proofs.lemmas.List.Concat.{flat_map-append}
use Rattle.std.proofs.lemmas.List.Elements.{filter-append}
use Rattle.std.proofs.lemmas.List.Sums.{length-filter}
use Rattle.cache_core.specs.declared.entry.SliceEntry.{SliceEntry}
use Rattle.cache_core.specs.declared.entry.What.TheVariants.{Access, Flush}
use Rattle.lists.specs.Sums.{one_if}
use Rattle.pair_text.specs.Values.{PairScriptValue, epoch_at, op_at}
use Rattle.pair_text.specs.declared.op.PairOp.{PairOp}
use Rattle.pair_text.specs.declared.op.PairOp.TheVariants as ops
use Rattle.pair_text.specs.declared.side.Side.TheVariants.{Second}
use Rattle.pair_law.proofs.laws.Cuts.{range_with_len-append}
use Rattle.pair_law.proofs.laws.Undecided.{is_loaded_use-flush}
use Rattle.pair_law.specs.Entries.{entry}
use Rattle.pair_law.specs.JointWindows as joint
use Rattle.pair_law.specs.LevelRuns.{domain_on, user_at}
use Rattle.pair_law.specs.WindowLaws.{count_uses, counts_use}
use Rattle.pair_windows.specs.Joined.{joined, joined_at, joined_of_op}
use Rattle.pair_windows.specs.JointWindows.{is_use_of}
use Rattle.private_lru.specs.Covered as lru
use Rattle.private_lru.specs.GroupCounts.{accesses_of}

-- ---- lists

list_any-append : {X : Type 0} (p : X → Bool) (xs ys : List X) → list_any p (xs ++ ys) ≡ (list_any p xs || list_any p ys)
list_any-append p [] ys = refl
list_any-append p (x ∷ xs) ys = elim (cases_Bool (p x)) [
  | inl is ↦ rw is refl
  | inr is_not ↦ rw is_not (list_any-append p xs ys)
]

list_any-flat_map : {X Y : Type 0} (p : Y → Bool) (q : X → Bool) (g : X → List Y) → ((x : X) → list_any p (g x) ≡ q x) → (xs : List X) → list_any p (flat_map g xs) ≡ list_any q xs
list_any-flat_map p q g each [] = refl
list_any-flat_map p q g each (x ∷ xs) = list_any-append p (g x) (flat_map g xs) ∙ ap₂ (λ (a b : Bool). a || b) (each x) (list_any-flat_map p q g each xs)

-- how many pass
abbrev count : {X : Type 0} → (X → Bool) → List X → ℕ
count p xs = length (filter p xs)

count-cons : {X : Type 0} (p : X → Bool) (x : X) (xs : List X) → count p (x ∷ xs) ≡ one_if (p x) + count p xs
count-cons p x xs = elim (cases_Bool (p x)) [
  | inl is ↦ rw is (omega arith)
  | inr is_not ↦ rw is_not (omega arith)
]

count-flat_map : {X Y : Type 0} (p : Y → Bool) (q : X → Bool) (g : X → List Y) → ((x : X) → count p (g x) ≡ one_if (q x)) → (xs : List X) → count p (flat_map g xs) ≡ count q xs
count-flat_map p q g each [] = refl
count-flat_map p q g each (x ∷ xs) =
    let rest = count-flat_map p q g each xs in
    let both : count p (g x ++ flat_map g xs) ≡ count p (g x) + count p (flat_map g xs) = ap length (filter-append p (g x) (flat_map g xs)) ∙ length-append (filter p (g x)) (filter p (flat_map g xs)) in
    let here = each x in
    let cons = count-cons q x xs in
    omega (arith, rest, both, here, cons)

module _ (script : PairScriptValue) (domain : ℕ) (hits : ℕ → ℕ → ℕ → Bool) (group : ℕ) where
  -- ---- uses

  count-use : (i : ℕ) (o : Option PairOp) → count (λ (e : SliceEntry). lru.is_own group e.what) (joined_of_op script domain hits i o) ≡ one_if (is_use_of script domain group i o)
  count-use i (Some (ops.Use task cpu line code)) = elim (cases_Bool (eqb (domain_on script Second cpu) domain)) [
    | inl in_domain ↦ rw in_domain (elim (cases_Bool (eqb (user_at script i task).0 group)) [ inl is ↦ rw is refl | inr is_not ↦ rw is_not refl ])
    | inr other ↦ rw other refl
  ]
  count-use i (Some ops.Flush) = refl
  count-use i (Some (ops.Mkdir name)) = refl
  count-use i (Some (ops.Rmdir name)) = refl
  count-use i (Some (ops.Write file text)) = refl
  count-use i (Some (ops.Read file)) = refl
  count-use i None = refl

  pub accesses-joined : (from n : ℕ) → accesses_of group (joined script domain hits from n) ≡ count_by (λ i. is_use_of script domain group i (op_at script i)) (range_with_len from n)
  accesses-joined from n =
      sym (length-filter (λ (e : SliceEntry). lru.is_own group e.what) (joined script domain hits from n))
      ∙ (count-flat_map (λ (e : SliceEntry). lru.is_own group e.what) (λ i. is_use_of script domain group i (op_at script i)) (joined_at script domain hits) (λ i. count-use i (op_at script i)) (range_with_len from n)
      ∙ length-filter (λ i. is_use_of script domain group i (op_at script i)) (range_with_len from n))

  -- ---- lines that the group uses

  any-use : (x i : ℕ) (o : Option PairOp) → list_any (λ (e : SliceEntry). lru.is_use group x e.what) (joined_of_op script domain hits i o) ≡ joint.is_own_use script domain group x i o
  any-use x i (Some (ops.Use task cpu line code)) = elim (cases_Bool (eqb (domain_on script Second cpu) domain)) [
    | inl in_domain ↦ rw in_domain (elim (cases_Bool (eqb (user_at script i task).0 group)) [ inl is ↦ rw is (elim (cases_Bool (eqb line x)) [ inl same ↦ rw same refl | inr differs ↦ rw differs refl ]) | inr is_not ↦ rw is_not refl ])
    | inr other ↦ rw other refl
  ]
  any-use x i (Some ops.Flush) = refl
  any-use x i (Some (ops.Mkdir name)) = refl
  any-use x i (Some (ops.Rmdir name)) = refl
  any-use x i (Some (ops.Write file text)) = refl
  any-use x i (Some (ops.Read file)) = refl
  any-use x i None = refl

  module _ (from to : ℕ) where
    -- the entries of the window
    abbrev window : List SliceEntry
    window = joined script domain hits (from + 1) (to - (from + 1))

    uses_line-joined : (x : ℕ) → lru.uses_line group window x ≡ joint.uses_line script domain group from to x
    uses_line-joined x = list_any-flat_map (λ (e : SliceEntry). lru.is_use group x e.what) (λ i. joint.is_own_use script domain group x i (op_at script i)) (joined_at script domain hits) (λ i. any-use x i (op_at script i)) (range_with_len (from + 1) (to - (from + 1)))

    any-other : (i : ℕ) (o : Option PairOp) → list_any (λ (e : SliceEntry). lru.is_other_use group window e.what) (joined_of_op script domain hits i o) ≡ joint.is_other_use script domain group from to i o
    any-other i (Some (ops.Use task cpu line code)) = elim (cases_Bool (eqb (domain_on script Second cpu) domain)) [
      | inl in_domain ↦ rw in_domain (elim (cases_Bool (eqb (user_at script i task).0 group)) [
        | inl is ↦ rw is refl
        | inr is_not ↦ rw is_not (elim (cases_Bool (lru.uses_line group window line)) [
          | inl used ↦ let there = sym (uses_line-joined line) ∙ used in rw (used, there) refl
          | inr unused ↦ let none = sym (uses_line-joined line) ∙ unused in rw (unused, none) refl
        ])
      ])
      | inr other ↦ rw other refl
    ]
    any-other i (Some ops.Flush) = refl
    any-other i (Some (ops.Mkdir name)) = refl
    any-other i (Some (ops.Rmdir name)) = refl
    any-other i (Some (ops.Write file text)) = refl
    any-other i (Some (ops.Read file)) = refl
    any-other i None = refl

    -- a flush loads no line
    no-loaded : (sets : ℕ) (es : List SliceEntry) → list_any (λ (e : SliceEntry). lru.is_loaded_use sets group Flush e.what) es ≡ false
    no-loaded sets [] = refl
    no-loaded sets (e ∷ es) = rw (is_loaded_use-flush sets group e.what) (no-loaded sets es)

    -- ---- covered uses

    is_covered-joined : (sets k : ℕ) → lru.is_covered sets group Flush window (joined script domain hits (from + 1) k) ≡ joint.is_covered script domain group from to (from + 1 + k)
    is_covered-joined sets k =
        let count : from + 1 + k - (from + 1) ≡ k = omega arith in
        let others = list_any-flat_map (λ (e : SliceEntry). lru.is_other_use group window e.what) (λ i. joint.is_other_use script domain group from to i (op_at script i)) (joined_at script domain hits) (λ i. any-other i (op_at script i)) (range_with_len (from + 1) k) in
        ap₂ (λ (a b : Bool). not a && not b) (no-loaded sets window) (others ∙ ap (λ n. list_any (λ i. joint.is_other_use script domain group from to i (op_at script i)) (range_with_len (from + 1) n)) (sym count))

    module _ (sets : ℕ) (P : SliceEntry → Bool) (p : ℕ → ℕ → ℕ → Bool)
        (agrees : (i task cpu line : ℕ) → eqb (user_at script i task).0 group ≡ true → P (entry i (epoch_at script i) (Access (hits i cpu line) 0 (user_at script i task) 0 0 line)) ≡ p i cpu line) where
      -- the covered accesses of a list that stands after some earlier entries
      abbrev after : List SliceEntry → List SliceEntry → List SliceEntry
      after earlier rest = lru.covered_after sets group Flush window earlier rest

      -- an op more
      count-op : (i : ℕ) (o : Option PairOp) (earlier rest : List SliceEntry) → lru.is_covered sets group Flush window earlier ≡ joint.is_covered script domain group from to i
          → count P (after earlier (joined_of_op script domain hits i o ++ rest)) ≡ one_if (counts_use script domain group from to (p i) i o) + count P (after (earlier ++ joined_of_op script domain hits i o) rest)
      count-op i (Some (ops.Use task cpu line code)) earlier rest same = elim (cases_Bool (eqb (domain_on script Second cpu) domain)) [
        | inr other ↦ rw (other, append-nil earlier) (omega arith)
        | inl in_domain ↦ rw in_domain (elim (cases_Bool (eqb (user_at script i task).0 group)) [
          | inr is_not ↦ rw is_not (omega arith)
          | inl is ↦ rw is (elim (cases_Bool (joint.is_covered script domain group from to i)) [
            | inr uncovered ↦ let here = same ∙ uncovered in rw (uncovered, here) (omega arith)
            | inl covered ↦
                let here = same ∙ covered in
                let e : SliceEntry = entry i (epoch_at script i) (Access (hits i cpu line) 0 (user_at script i task) 0 0 line) in
                let cons = count-cons P e (after (earlier ++ e ∷ []) rest) in
                let told = agrees i task cpu line is in
                rw (covered, here) (cons ∙ ap (λ b. one_if b + count P (after (earlier ++ e ∷ []) rest)) told)
          ])
        ])
      ]
      count-op i (Some ops.Flush) earlier rest same = omega arith
      count-op i (Some (ops.Mkdir name)) earlier rest same = rw (append-nil earlier) (omega arith)
      count-op i (Some (ops.Rmdir name)) earlier rest same = rw (append-nil earlier) (omega arith)
      count-op i (Some (ops.Write file text)) earlier rest same = rw (append-nil earlier) (omega arith)
      count-op i (Some (ops.Read file)) earlier rest same = rw (append-nil earlier) (omega arith)
      count-op i None earlier rest same = rw (append-nil earlier) (omega arith)

      -- all ops from a place of the window on
      count-joined : (m k : ℕ) → count P (after (joined script domain hits (from + 1) k) (joined script domain hits (from + 1 + k) m)) ≡ count (λ i. counts_use script domain group from to (p i) i (op_at script i)) (range_with_len (from + 1 + k) m)
      count-joined zero k = refl
      count-joined (suc m) k =
          let i : ℕ = from + 1 + k in
          let f : ℕ → List SliceEntry = joined_at script domain hits in
          let q : ℕ → Bool = λ n. counts_use script domain group from to (p n) n (op_at script n) in
          let next : i + 1 ≡ from + 1 + (k + 1) = omega arith in
          let cut : range_with_len i (suc m) ≡ i ∷ range_with_len (i + 1) m = range_with_len-append i 1 m (suc m) (i + 1) (omega arith) refl in
          let before : joined script domain hits (from + 1) (k + 1) ≡ joined script domain hits (from + 1) k ++ f i =
          ap (flat_map f) (range_with_len-append (from + 1) k 1 (k + 1) i refl refl) ∙ (flat_map-append f (range_with_len (from + 1) k) (i ∷ []) ∙ ap (λ (l : List SliceEntry). joined script domain hits (from + 1) k ++ l) (append-nil (f i))) in
          let here = count-op i (op_at script i) (joined script domain hits (from + 1) k) (joined script domain hits (i + 1) m) (is_covered-joined sets k) in
          let rest = count-joined m (k + 1) in
          let moved : count P (after (joined script domain hits (from + 1) k ++ f i) (joined script domain hits (i + 1) m)) ≡ count q (range_with_len (i + 1) m) =
          ap₂ (λ (a : List SliceEntry) (n : ℕ). count P (after a (joined script domain hits n m))) (sym before) next ∙ (rest ∙ ap (λ n. count q (range_with_len n m)) (sym next)) in
          ap (λ (l : List ℕ). count P (after (joined script domain hits (from + 1) k) (flat_map f l))) cut
          ∙ (here ∙ (ap (λ n. one_if (q i) + n) moved ∙ (sym (count-cons q i (range_with_len (i + 1) m)) ∙ ap (count q) (sym cut))))

      -- the covered uses of the window that pass the test
      pub count-covered : count P (lru.covered sets group Flush window) ≡ count_uses script domain group from to p
      count-covered =
          let first : from + 1 + 0 ≡ from + 1 = omega arith in
          ap (λ n. count P (after [] (joined script domain hits n (to - (from + 1))))) (sym first)
          ∙ (count-joined (to - (from + 1)) 0 ∙ (ap (λ n. count (λ i. counts_use script domain group from to (p i) i (op_at script i)) (range_with_len n (to - (from + 1)))) first
          ∙ length-filter (λ i. counts_use script domain group from to (p i) i (op_at script i)) (range_with_len (from + 1) (to - (from + 1)))))
