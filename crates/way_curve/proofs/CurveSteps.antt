-- What a use and a drop add to a curve.
use Rattle.std.proofs.Common.{◌≡◌, ℕ, ◌+◌, ◌%◌, ◌<◌, ◌≤◌, true, ◌==◌, List, [], ◌∷◌, ◌++◌, length, take, get_or, set, sum, replicate, Option, arith, refl, sym, ◌∙◌, ap, subst}
use Rattle.std.specs.List.{position}
use Rattle.std.proofs.lemmas.Bool.{eq-eqb}
use Rattle.std.proofs.lemmas.List.{take-replicate}
use Rattle.std.proofs.lemmas.List.Folds.{sum_by-replicate}
use Rattle.lists.specs.Sums.{one_if}
use Rattle.private_lru.specs.declared.item.Item.{Item}
use Rattle.private_lru.specs.declared.item.Item.TheVariants.{Use, Drop}
use Rattle.way_curve.specs.Curves.{is_set_hit, uses_of_set}
use Rattle.way_curve.specs.Distances.{is_below}
use Rattle.way_curve.specs.IsCurve.{AddsItem, AddsUse, CurveValue, IsCurve, IsItemCurve}
use Rattle.way_curve.specs.ItemCurves.{is_item_hit, items_of_set, line_of}
use Rattle.way_curve.specs.Slots.{Serve, dropped, empty_slots, has_line, pushed}
use Rattle.way_curve.proofs.Alive.{uses}
use Rattle.way_curve.proofs.ItemLists.{item_hits_after-push, item_hits_after-uses, items_of_set-other, items_of_set-own, items_of_set-uses, uses-push, uses_in-push, uses_in-uses, uses_of_set-other, uses_of_set-own}
use Rattle.way_curve.proofs.Serving.{Serve-drop, Serve-each, Serve-hit, Serve-none, Serve-use}

-- ---- a level

-- the slots of each set after a use
pub recent-more : (sets : ℕ) (recent : List (List (Option ℕ))) (lines : List ℕ) (x : ℕ) → x % sets < sets → length recent ≡ sets
    → ((s : ℕ) → s < sets → Serve (get_or recent s []) (uses_of_set sets s lines))
    → (s : ℕ) → s < sets → Serve (get_or (set recent (x % sets) (pushed x (dropped x (get_or recent (x % sets) [])))) s []) (uses_of_set sets s (lines ++ x ∷ []))
recent-more sets recent lines x below len serve =
    let own : ℕ = x % sets in
    let slots : List (Option ℕ) = get_or recent own [] in
    Serve-each sets own recent (pushed x (dropped x slots)) (λ s. uses_of_set sets s lines) (λ s. uses_of_set sets s (lines ++ x ∷ [])) len
    (subst (λ (l : List Item). Serve (pushed x (dropped x slots)) l) (sym (uses_of_set-own sets own x lines (eq-eqb own own refl))) (Serve-use slots (uses_of_set sets own lines) x (serve own below)))
    (λ s other. uses_of_set-other sets s x lines other) serve

-- a use hits just where its slot is one of as many as there are ways
pub is_below-hit : (sets ways x : ℕ) (lines : List ℕ) (slots : List (Option ℕ)) → ways ≤ 32 → Serve slots (uses_of_set sets (x % sets) lines)
    → is_below ways (position (has_line x) slots) ≡ is_set_hit sets ways lines x
is_below-hit sets ways x lines slots le serve = Serve-hit slots (uses_of_set sets (x % sets) lines) x serve ways le

-- ---- a curve of uses and drops

module _ (sets count : ℕ) (recent : List (List (Option ℕ))) (at : List ℕ) (items : List Item) (x : ℕ) where
  -- the curve of these items
  abbrev is_curve : Type 0
  is_curve = IsItemCurve (record { sets = sets; uses = count; recent = recent; at_distance = at }) items

  -- the slots of each set after an item
  recent-item : (item : Item) (new : List (Option ℕ)) → x % sets < sets → length recent ≡ sets → is_curve → line_of item ≡ x → Serve new (items_of_set sets (x % sets) items ++ item ∷ [])
      → (s : ℕ) → s < sets → Serve (get_or (set recent (x % sets) new) s []) (items_of_set sets s (items ++ item ∷ []))
  recent-item item new below len curve is now =
      let own : ℕ = x % sets in
      let here : (line_of item % sets == own) ≡ true = ap (λ (y : ℕ). y % sets == own) is ∙ eq-eqb own own refl in
      Serve-each sets own recent new (λ s. items_of_set sets s items) (λ s. items_of_set sets s (items ++ item ∷ [])) len
      (subst (λ (l : List Item). Serve new l) (sym (items_of_set-own sets own items item here)) now)
      (λ s other. items_of_set-other sets s items item (ap (λ (y : ℕ). y % sets == s) is ∙ other)) curve.recent

  -- a use more
  pub IsItemCurve-use : (new_at : List ℕ) (slot : Option ℕ) → x % sets < sets → length recent ≡ sets
      → slot ≡ position (has_line x) (get_or recent (x % sets) [])
      → ((most : ℕ) → most ≤ 32 → sum (take most new_at) ≡ sum (take most at) + one_if (is_below most slot))
      → is_curve
      → IsItemCurve (record { sets = sets; uses = count + 1; recent = set recent (x % sets) (pushed x (dropped x (get_or recent (x % sets) []))); at_distance = new_at }) (items ++ Use x ∷ [])
  IsItemCurve-use new_at slot below len is counted curve =
      let own : ℕ = x % sets in
      let slots : List (Option ℕ) = get_or recent own [] in
      record {
        uses = omega (arith, curve.uses, uses_in-push items (Use x));
        recent = recent-item (Use x) (pushed x (dropped x slots)) below len curve refl (Serve-use slots (items_of_set sets own items) x (curve.recent own below));
        hits = λ ways le.
            let same : one_if (is_below ways slot) ≡ one_if (is_item_hit sets ways items (Use x)) =
            ap one_if (ap (λ (o : Option ℕ). is_below ways o) is ∙ Serve-hit slots (items_of_set sets own items) x (curve.recent own below) ways le) in
            omega (arith, counted ways le, curve.hits ways le, same, item_hits_after-push sets ways [] items (Use x));
      }

  -- a drop more
  pub IsItemCurve-drop : x % sets < sets → length recent ≡ sets → is_curve
      → IsItemCurve (record { sets = sets; uses = count; recent = set recent (x % sets) (dropped x (get_or recent (x % sets) [])); at_distance = at }) (items ++ Drop x ∷ [])
  IsItemCurve-drop below len curve =
      let own : ℕ = x % sets in
      let slots : List (Option ℕ) = get_or recent own [] in
      record {
        uses = omega (arith, curve.uses, uses_in-push items (Drop x));
        recent = recent-item (Drop x) (dropped x slots) below len curve refl (Serve-drop slots (items_of_set sets own items) x (curve.recent own below));
        hits = λ ways le. omega (arith, curve.hits ways le, item_hits_after-push sets ways [] items (Drop x));
      }

-- a curve of no items
pub IsItemCurve-nil : (sets : ℕ) (recent : List (List (Option ℕ))) → recent ≡ replicate sets empty_slots → IsItemCurve (record { sets = length recent; uses = 0; recent = recent; at_distance = replicate 32 0 }) []
IsItemCurve-nil sets recent made = record {
  uses = refl;
  recent = Serve-none sets recent made;
  hits = λ ways le. ap sum (take-replicate ways 32 0 le) ∙ (sum_by-replicate (λ (x : ℕ). x) ways 0 ∙ omega arith);
}

-- ---- a curve of uses alone

-- it is one of items
pub IsItemCurve-uses : (curve : CurveValue) (lines : List ℕ) → IsCurve curve lines → IsItemCurve curve (uses lines)
IsItemCurve-uses curve lines is = record {
  uses = is.uses ∙ sym (uses_in-uses lines);
  recent = λ s lt. subst (λ (l : List Item). Serve (get_or curve.recent s []) l) (sym (items_of_set-uses curve.sets s lines)) (is.recent s lt);
  hits = λ ways le. is.hits ways le ∙ sym (item_hits_after-uses curve.sets ways [] lines);
}

-- one of items that are uses is one of lines
pub IsCurve-items : (curve : CurveValue) (lines : List ℕ) → IsItemCurve curve (uses lines) → IsCurve curve lines
IsCurve-items curve lines is = record {
  uses = is.uses ∙ uses_in-uses lines;
  recent = λ s lt. subst (λ (l : List Item). Serve (get_or curve.recent s []) l) (items_of_set-uses curve.sets s lines) (is.recent s lt);
  hits = λ ways le. is.hits ways le ∙ item_hits_after-uses curve.sets ways [] lines;
}

-- what adds a use to items adds it to lines
pub AddsUse-item : (old new : CurveValue) (x : ℕ) → AddsItem old new (Use x) → AddsUse old new x
AddsUse-item old new x adds = λ lines is.
    IsCurve-items new (lines ++ x ∷ []) (subst (λ (l : List Item). IsItemCurve new l) (uses-push lines x) (adds (uses lines) (IsItemCurve-uses old lines is)))
