-- A group's items in a cache are its uses that are asked there.
use Rattle.std.proofs.Common.{◌≡◌, ℕ, ◌+◌, ◌-◌, ◌%◌, ◌<◌, Bool, true, false, not, ◌==◌, List, [], ◌∷◌, ◌++◌, filter, map, Option, None, Some, inl, inr, refl, sym, ap, ◌∙◌, arith}
use Rattle.std.specs.List.{flat_map, range_with_len}
use Rattle.std.proofs.lemmas.Bool.{cases_Bool}
use Rattle.std.proofs.lemmas.List.{map-append}
use Rattle.std.proofs.lemmas.List.Elements.{filter-append}
use Rattle.cache_core.specs.declared.entry.SliceEntry.{SliceEntry}
use Rattle.pair_text.specs.Values.{PairScriptValue, op_at}
use Rattle.pair_text.specs.declared.op.PairOp.{PairOp}
use Rattle.pair_text.specs.declared.op.PairOp.TheVariants as ops
use Rattle.pair_text.specs.declared.side.Side.TheVariants.{First, Second}
use Rattle.pair_law.proofs.laws.Cuts.{flat_map-flat_map, flat_map-range_same}
use Rattle.pair_law.specs.LevelRuns.{LevelJournalsValue, asked_at, asked_of_op, domain_on, reaches, user_at}
use Rattle.pair_law.specs.PrivateLevels.{l2_hits, l2_line, l2_lines, l3_line, l3_lines, uses_of_set}
use Rattle.private_lru.specs.Covered.{item_of, items}
use Rattle.private_lru.specs.declared.item.Item.{Item}
use Rattle.private_lru.specs.declared.item.Item.TheVariants.{Use}

-- the uses of lines that are put together
uses_of_set-flat_map : {X : Type 0} (sets set : ℕ) (h : X → List ℕ) (xs : List X) → uses_of_set sets set (flat_map h xs) ≡ flat_map (λ x. uses_of_set sets set (h x)) xs
uses_of_set-flat_map sets set h [] = refl
uses_of_set-flat_map sets set h (x ∷ xs) =
    let q : ℕ → Bool = λ line. line % sets == set in
    ap (map Use) (filter-append q (h x) (flat_map h xs))
    ∙ (map-append Use (filter q (h x)) (filter q (flat_map h xs))
    ∙ ap (λ (l : List Item). uses_of_set sets set (h x) ++ l) (uses_of_set-flat_map sets set h xs))

module _ (script : PairScriptValue) (j : LevelJournalsValue) (group mask : ℕ) (masks : ℕ → ℕ) (from : ℕ) (sets set : ℕ) (own : ℕ → Bool) where
  -- what an entry says of the set
  abbrev item : SliceEntry → List Item
  item y = item_of sets group set own y.what

  -- at the L2
  item-l2 : (x k : ℕ) (o : Option PairOp) → flat_map item (asked_of_op script j First x k o) ≡ uses_of_set sets set (l2_line script group mask masks from x k o)
  item-l2 x k (Some (ops.Use task cpu line code)) = elim (cases_Bool (domain_on script First cpu == x)) [
    | inl a ↦ elim (cases_Bool ((user_at script k task).0 == group)) [
      | inl b ↦ elim (cases_Bool (line % sets == set)) [
        | inl c ↦ rw (a, b, c) refl
        | inr c ↦ rw (a, b, c) refl
      ]
      | inr b ↦ rw (a, b) refl
    ]
    | inr a ↦ rw a refl
  ]
  item-l2 x k (Some ops.Flush) = refl
  item-l2 x k (Some (ops.Mkdir name)) = refl
  item-l2 x k (Some (ops.Rmdir name)) = refl
  item-l2 x k (Some (ops.Write file text)) = refl
  item-l2 x k (Some (ops.Read file)) = refl
  item-l2 x k None = refl

  pub items-l2 : (x i : ℕ) → items sets group set own (flat_map (asked_at script j First x) (range_with_len (from + 1) (i - (from + 1)))) ≡ uses_of_set sets set (l2_lines script group mask masks from x i)
  items-l2 x i =
      flat_map-flat_map item (asked_at script j First x) (range_with_len (from + 1) (i - (from + 1)))
      ∙ (flat_map-range_same (λ k. flat_map item (asked_at script j First x k)) (λ k. uses_of_set sets set (l2_line script group mask masks from x k (op_at script k))) (from + 1) (i - (from + 1)) (λ k low high. item-l2 x k (op_at script k))
      ∙ sym (uses_of_set-flat_map sets set (λ k. l2_line script group mask masks from x k (op_at script k)) (range_with_len (from + 1) (i - (from + 1)))))

  -- at the L3, where the group's uses reach it just where they miss in the private L2
  module _ (domain i : ℕ) (missed : (k task cpu line : ℕ) (code : Bool) → from < k → k < i → op_at script k ≡ Some (ops.Use task cpu line code) → (domain_on script Second cpu == domain) ≡ true → ((user_at script k task).0 == group) ≡ true
      → reaches script j Second k cpu ≡ not (l2_hits script group mask masks from (domain_on script First cpu) k line)) where
    item-l3 : (k : ℕ) → from < k → k < i → (o : Option PairOp) → op_at script k ≡ o → flat_map item (asked_of_op script j Second domain k o) ≡ uses_of_set sets set (l3_line script group mask masks from domain k o)
    item-l3 k late early (Some (ops.Use task cpu line code)) is = elim (cases_Bool (domain_on script Second cpu == domain)) [
      | inl a ↦ elim (cases_Bool ((user_at script k task).0 == group)) [
        | inl b ↦
            let m : reaches script j Second k cpu ≡ not (l2_hits script group mask masks from (domain_on script First cpu) k line) = missed k task cpu line code late early is a b in
            elim (cases_Bool (l2_hits script group mask masks from (domain_on script First cpu) k line)) [
              | inl h ↦ let n : reaches script j Second k cpu ≡ false = m ∙ ap not h in rw (a, b, n, h) refl
              | inr h ↦
                  let n : reaches script j Second k cpu ≡ true = m ∙ ap not h in
                  elim (cases_Bool (line % sets == set)) [
                    | inl c ↦ rw (a, b, n, h, c) (rw b refl)
                    | inr c ↦ rw (a, b, n, h, c) (rw b refl)
                  ]
            ]
        | inr b ↦ elim (cases_Bool (reaches script j Second k cpu)) [
          | inl n ↦ rw (a, b, n) (rw b refl)
          | inr n ↦ rw (a, b, n) refl
        ]
      ]
      | inr a ↦ rw a refl
    ]
    item-l3 k late early (Some ops.Flush) is = refl
    item-l3 k late early (Some (ops.Mkdir name)) is = refl
    item-l3 k late early (Some (ops.Rmdir name)) is = refl
    item-l3 k late early (Some (ops.Write file text)) is = refl
    item-l3 k late early (Some (ops.Read file)) is = refl
    item-l3 k late early None is = refl

    pub items-l3 : items sets group set own (flat_map (asked_at script j Second domain) (range_with_len (from + 1) (i - (from + 1)))) ≡ uses_of_set sets set (l3_lines script group mask masks from domain i)
    items-l3 =
        flat_map-flat_map item (asked_at script j Second domain) (range_with_len (from + 1) (i - (from + 1)))
        ∙ (flat_map-range_same (λ k. flat_map item (asked_at script j Second domain k)) (λ k. uses_of_set sets set (l3_line script group mask masks from domain k (op_at script k))) (from + 1) (i - (from + 1))
        (λ k low high. item-l3 k (omega arith) (omega arith) (op_at script k) refl)
        ∙ sym (uses_of_set-flat_map sets set (λ k. l3_line script group mask masks from domain k (op_at script k)) (range_with_len (from + 1) (i - (from + 1)))))
