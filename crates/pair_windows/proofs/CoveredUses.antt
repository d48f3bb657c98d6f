-- What is counted of the covered uses of a window, by the tables of hits.
use Rattle.std.proofs.Common.{◌≡◌, ℕ, ◌+◌, ◌-◌, ◌<◌, Bool, true, false, not, ◌&&◌, cond, eqb, List, [], ◌∷◌, length, filter, Option, None, Some, inl, inr, refl, sym, ap, ap₂, ◌∙◌, arith}
use Rattle.std.specs.List.{range_with_len}
use Rattle.std.proofs.lemmas.Bool.{cases_Bool, eqb-true}
use Rattle.std.proofs.lemmas.List.Sums.{length-filter}
use Rattle.pair_windows.specs.Hits.{AreHits}
use Rattle.pair_windows.specs.JointWindows.{hits_l2, hits_l3, reaches_l3}
use Rattle.pair_windows.specs.Segments.{hit_l2, hit_l3}
use Rattle.lists.proofs.Filters.{filter-same}
use Rattle.machine.specs.declared.parameters.Parameters.{Parameters}
use Rattle.pair_text.specs.Values.{IsLawful, PairScriptValue, op_at}
use Rattle.pair_text.specs.declared.op.PairOp.{PairOp}
use Rattle.pair_text.specs.declared.op.PairOp.TheVariants as ops
use Rattle.pair_text.specs.declared.side.Side.TheVariants.{First, Second}
use Rattle.pair_law.proofs.laws.LevelWindows.{HitsAsPrivate-joint_window}
use Rattle.pair_law.specs.Entries.{slice_in}
use Rattle.pair_law.specs.JointWindows.{IsJointWindow, is_covered}
use Rattle.pair_law.specs.RunLaws.{HitsAsPrivate}
use Rattle.pair_law.specs.LevelRuns.{IsLevelRun, LevelJournalsValue, domain_on, has_at, is_hit, user_at}
use Rattle.pair_law.specs.WindowLaws.{count_uses, counts_use}
use Rattle.rc_base.specs.declared.names.Gid.{Gid}

-- ---- tests of uses

-- Two tests agree on the covered uses of a group in a window.
abbrev pub AgreeOnCovered : PairScriptValue → ℕ → ℕ → ℕ → ℕ → (ℕ → ℕ → ℕ → Bool) → (ℕ → ℕ → ℕ → Bool) → Type 0
AgreeOnCovered script domain group from to p q =
    (i task cpu line : ℕ) (code : Bool) → from < i → i < to → op_at script i ≡ Some (ops.Use task cpu line code) → domain_on script Second cpu ≡ domain → (user_at script i task).0 ≡ group
    → is_covered script domain group from to i ≡ true → p i cpu line ≡ q i cpu line

module _ (script : PairScriptValue) (domain group from to : ℕ) where
  -- the places of the window
  abbrev places : List ℕ
  places = range_with_len (from + 1) (to - (from + 1))

  -- whether a use counts by a test
  abbrev by_test : (ℕ → ℕ → ℕ → Bool) → ℕ → Bool
  by_test p i = counts_use script domain group from to (p i) i (op_at script i)

  -- tests that agree on covered uses count the same
  pub count_uses-agree : (p q : ℕ → ℕ → ℕ → Bool) → AgreeOnCovered script domain group from to p q → count_uses script domain group from to p ≡ count_uses script domain group from to q
  count_uses-agree p q each =
      sym (length-filter (by_test p) places) ∙ (ap length (filter-same (by_test p) (by_test q) (from + 1) (to - (from + 1)) (λ i low high. at i (omega arith) (omega arith) (op_at script i) refl)) ∙ length-filter (by_test q) places)
    where
      at : (i : ℕ) → from < i → i < to → (o : Option PairOp) → op_at script i ≡ o → counts_use script domain group from to (p i) i o ≡ counts_use script domain group from to (q i) i o
      at i low high (Some (ops.Use task cpu line code)) is = elim (cases_Bool (eqb (domain_on script Second cpu) domain)) [
        | inl a ↦ elim (cases_Bool (eqb (user_at script i task).0 group)) [
          | inl b ↦ elim (cases_Bool (is_covered script domain group from to i)) [
            | inl c ↦ ap (λ (r : Bool). (eqb (domain_on script Second cpu) domain && eqb (user_at script i task).0 group) && (is_covered script domain group from to i && r))
                (each i task cpu line code low high is (eqb-true (domain_on script Second cpu) domain a) (eqb-true (user_at script i task).0 group b) c)
            | inr c ↦ rw c refl
          ]
          | inr b ↦ rw (a, b) refl
        ]
        | inr a ↦ rw a refl
      ]
      at i low high (Some ops.Flush) is = refl
      at i low high (Some (ops.Mkdir name)) is = refl
      at i low high (Some (ops.Rmdir name)) is = refl
      at i low high (Some (ops.Write file text)) is = refl
      at i low high (Some (ops.Read file)) is = refl
      at i low high None is = refl

  -- ---- those that pass a test and those that fail it

  both-cons : (a b c : Bool) (i : ℕ) (xs ys zs : List ℕ) → length (cond a (i ∷ []) []) + length (cond b (i ∷ []) []) ≡ length (cond c (i ∷ []) []) → length xs + length ys ≡ length zs
      → length (cond a (i ∷ xs) xs) + length (cond b (i ∷ ys) ys) ≡ length (cond c (i ∷ zs) zs)
  both-cons true true c i xs ys zs here rest = absurd (two c here)
    where
      two : (c : Bool) → length (i ∷ []) + length (i ∷ []) ≡ length (cond c (i ∷ []) []) → ⊥
      two true e = omega (arith, e)
      two false e = omega (arith, e)
  both-cons true false true i xs ys zs here rest = omega (arith, rest)
  both-cons true false false i xs ys zs here rest = absurd (omega (arith, here))
  both-cons false true true i xs ys zs here rest = omega (arith, rest)
  both-cons false true false i xs ys zs here rest = absurd (omega (arith, here))
  both-cons false false true i xs ys zs here rest = absurd (omega (arith, here))
  both-cons false false false i xs ys zs here rest = omega (arith, rest)

  module _ (p : ℕ → ℕ → ℕ → Bool) where
    abbrev fails : ℕ → ℕ → ℕ → Bool
    fails i cpu line = not (p i cpu line)

    abbrev always : ℕ → ℕ → ℕ → Bool
    always i cpu line = true

    both-op : (i : ℕ) (o : Option PairOp)
        → length (cond (counts_use script domain group from to (p i) i o) (i ∷ []) []) + length (cond (counts_use script domain group from to (fails i) i o) (i ∷ []) []) ≡ length (cond (counts_use script domain group from to (always i) i o) (i ∷ []) [])
    both-op i (Some (ops.Use task cpu line code)) = elim (cases_Bool (eqb (domain_on script Second cpu) domain && eqb (user_at script i task).0 group)) [
      | inr a ↦ rw a (omega arith)
      | inl a ↦ elim (cases_Bool (is_covered script domain group from to i)) [
        | inr b ↦ rw (a, b) (omega arith)
        | inl b ↦ elim (cases_Bool (p i cpu line)) [ inl c ↦ rw (a, b, c) (omega arith) | inr c ↦ rw (a, b, c) (omega arith) ]
      ]
    ]
    both-op i (Some ops.Flush) = omega arith
    both-op i (Some (ops.Mkdir name)) = omega arith
    both-op i (Some (ops.Rmdir name)) = omega arith
    both-op i (Some (ops.Write file text)) = omega arith
    both-op i (Some (ops.Read file)) = omega arith
    both-op i None = omega arith

    both : (xs : List ℕ) → length (filter (by_test p) xs) + length (filter (by_test fails) xs) ≡ length (filter (by_test always) xs)
    both [] = omega arith
    both (i ∷ xs) = both-cons (by_test p i) (by_test fails i) (by_test always i) i (filter (by_test p) xs) (filter (by_test fails) xs) (filter (by_test always) xs) (both-op i (op_at script i)) (both xs)

    pub count_uses-both : count_uses script domain group from to p + count_uses script domain group from to (λ i cpu line. not (p i cpu line)) ≡ count_uses script domain group from to (λ i cpu line. true)
    count_uses-both = omega (arith, both places, length-filter (by_test p) places, length-filter (by_test fails) places, length-filter (by_test always) places)

-- ---- by the tables of hits

module _ (script : PairScriptValue) (j : LevelJournalsValue) (below : Parameters) (domain from to : ℕ) (group : Gid) (mask : ℕ) (masks : ℕ → ℕ) (last : ℕ) (lawful : IsLawful script)
    (two : script.machines.l2 ≡ Some below) (run : IsLevelRun script j) (window : IsJointWindow script domain from to group mask masks last) (a b : List Bool) (first : AreHits script First j.l2 a)
    (second : AreHits script Second j.l3 b) where
  hits_as : (i task cpu line : ℕ) (code : Bool) → from < i → i < to → op_at script i ≡ Some (ops.Use task cpu line code) → domain_on script Second cpu ≡ domain → (user_at script i task).0 ≡ group.0
      → is_covered script domain group.0 from to i ≡ true → HitsAsPrivate script j domain from group mask masks i cpu line
  hits_as i task cpu line code low high is there mine covered = HitsAsPrivate-joint_window script j below domain from to group mask masks last i task cpu line code lawful two run window low high is there mine covered

  -- the uses that hit the L2
  pub count-hits_l2 : count_uses script domain group.0 from to (hits_l2 script domain j) ≡ count_uses script domain group.0 from to (hit_l2 a)
  count-hits_l2 = count_uses-agree script domain group.0 from to (hits_l2 script domain j) (hit_l2 a) (λ i task cpu line code low high is there mine covered. sym (first.each i task cpu line code is))

  -- those that are asked of the L3
  reaches-fails : AgreeOnCovered script domain group.0 from to (reaches_l3 script domain j) (λ i cpu line. not (hit_l2 a i cpu line))
  reaches-fails = λ i task cpu line code low high is there mine covered.
      let h = hits_as i task cpu line code low high is there mine covered in
      h.asked ∙ ap not (sym h.l2 ∙ sym (first.each i task cpu line code is))

  pub count-reaches_l3 : count_uses script domain group.0 from to (reaches_l3 script domain j) ≡ count_uses script domain group.0 from to (λ i cpu line. true) - count_uses script domain group.0 from to (hit_l2 a)
  count-reaches_l3 =
      let same = count_uses-agree script domain group.0 from to (reaches_l3 script domain j) (λ i cpu line. not (hit_l2 a i cpu line)) reaches-fails in
      let sum = count_uses-both script domain group.0 from to (hit_l2 a) in
      omega (arith, same, sum)

  -- those that hit the L3
  pub count-hits_l3 : count_uses script domain group.0 from to (hits_l3 script domain j) ≡ count_uses script domain group.0 from to (hit_l3 a b)
  count-hits_l3 = count_uses-agree script domain group.0 from to (hits_l3 script domain j) (hit_l3 a b) (λ i task cpu line code low high is there mine covered.
      let missed = reaches-fails i task cpu line code low high is there mine covered in
      let at : has_at (slice_in j.l3 domain) i is_hit ≡ has_at (slice_in j.l3 (domain_on script Second cpu)) i is_hit = ap (λ x. has_at (slice_in j.l3 x) i is_hit) (sym there) in
      ap₂ (λ (x y : Bool). x && y) missed (at ∙ sym (second.each i task cpu line code is)))
