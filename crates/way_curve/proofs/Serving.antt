-- The slots of a set after one item more.
use Rattle.std.proofs.Common.{◌≡◌, ◌≢◌, ℕ, zero, suc, ◌<◌, ◌≤◌, false, ◌==◌, List, [], ◌∷◌, ◌++◌, length, take, reverse, replicate, get_or, set, Option, None, arith, refl, sym, ◌∙◌, ap, subst, inl, inr}
use Rattle.std.specs.List.{position}
use Rattle.std.proofs.lemmas.Bool.{cases_Bool, eqb-true, eqb-false}
use Rattle.std.proofs.lemmas.List.{get_or-replicate, get_or-set_other, get_or-set_same, length-replicate, reverse-append, take-replicate}
use Rattle.private_lru.specs.Private.{alive, among, private_hit, without}
use Rattle.private_lru.specs.declared.item.Item.{Item}
use Rattle.private_lru.specs.declared.item.Item.TheVariants.{Use, Drop}
use Rattle.way_curve.specs.Distances.{is_below}
use Rattle.way_curve.specs.Shifts.{without_first}
use Rattle.way_curve.specs.Slots.{Serve, dropped, empty_slots, has_line, kept, lines_in, pushed}
use Rattle.way_curve.proofs.Alive.{reverse-uses, uses}
use Rattle.way_curve.proofs.Fronts.{without_first-differ}
use Rattle.way_curve.proofs.KeptLines.{AllDiffer-kept, kept-uses, private_hit-kept}
use Rattle.way_curve.proofs.SlotLists.{is_below-slot, length-dropped, length-pushed, lines_in-dropped, lines_in-pushed}

-- holes alone have no lines
lines_in-holes : (n : ℕ) → lines_in (replicate {A = Option ℕ} n None) ≡ []
lines_in-holes zero = refl
lines_in-holes (suc n) = lines_in-holes n

-- they are the slots before all items
pub Serve-nil : Serve empty_slots []
unfolding empty_slots
Serve-nil = record {
  all = length-replicate {A = Option ℕ} 32 None;
  lines = λ ways le. ap lines_in (take-replicate ways 32 None le) ∙ lines_in-holes ways;
}

-- and of each set of which no line was used
pub Serve-none : (sets : ℕ) (recent : List (List (Option ℕ))) → recent ≡ replicate sets empty_slots → (s : ℕ) → s < length recent → Serve (get_or recent s []) []
Serve-none sets recent made s lt =
    let few : s < sets = subst (λ (n : ℕ). s < n) (ap length made ∙ length-replicate sets empty_slots) lt in
    subst (λ (slots : List (Option ℕ)). Serve slots []) (sym (ap (λ (r : List (List (Option ℕ))). get_or r s []) made ∙ get_or-replicate sets s empty_slots [] few)) Serve-nil

module _ (slots : List (Option ℕ)) (items : List Item) (x : ℕ) (serve : Serve slots items) where
  -- the lines in the first slots after a drop
  lines-dropped : (ways : ℕ) → ways ≤ 32 → lines_in (take ways (dropped x slots)) ≡ without x (kept ways (reverse items))
  lines-dropped ways le =
      lines_in-dropped x ways slots
      ∙ (ap (λ (l : List ℕ). without_first x l) (serve.lines ways le) ∙ without_first-differ x (kept ways (reverse items)) (AllDiffer-kept ways (reverse items)))

  -- the slots after a drop
  pub Serve-drop : Serve (dropped x slots) (items ++ Drop x ∷ [])
  Serve-drop = record {
    all = length-dropped x slots ∙ serve.all;
    lines = λ ways le. lines-dropped ways le ∙ ap (kept ways) (sym (reverse-append items (Drop x ∷ [])));
  }

  -- and after a use
  pub Serve-use : Serve (pushed x (dropped x slots)) (items ++ Use x ∷ [])
  Serve-use = record {
    all = length-pushed x (dropped x slots) ∙ (length-dropped x slots ∙ serve.all);
    lines = λ ways le.
        lines_in-pushed x ways (dropped x slots) (omega (arith, le, length-dropped x slots, serve.all))
        ∙ (ap (λ (l : List ℕ). take ways (x ∷ l)) (lines-dropped ways le) ∙ ap (kept ways) (sym (reverse-append items (Use x ∷ []))));
  }

  -- a use hits where its slot is one of as many as there are ways
  pub Serve-hit : (ways : ℕ) → ways ≤ 32 → is_below ways (position (has_line x) slots) ≡ private_hit ways items x
  Serve-hit ways le = is_below-slot x ways slots ∙ (ap (λ (l : List ℕ). among x l) (serve.lines ways le) ∙ sym (private_hit-kept ways x items))

-- slots after uses that leave the same lines alive
pub Serve-uses : (slots : List (Option ℕ)) (before after : List ℕ) → alive (uses (reverse before)) ≡ alive (uses (reverse after)) → Serve slots (uses before) → Serve slots (uses after)
Serve-uses slots before after same serve = record {
  all = serve.all;
  lines = λ ways le.
      serve.lines ways le
      ∙ (ap (kept ways) (reverse-uses before) ∙ (kept-uses ways (reverse before)
      ∙ (ap (λ (l : List ℕ). take ways l) same ∙ (sym (kept-uses ways (reverse after)) ∙ ap (kept ways) (sym (reverse-uses after))))));
}

-- the slots of each set after one item more of one of the sets
pub Serve-each : (sets own : ℕ) (recent : List (List (Option ℕ))) (new : List (Option ℕ)) (before after : ℕ → List Item)
    → length recent ≡ sets → Serve new (after own) → ((s : ℕ) → (own == s) ≡ false → after s ≡ before s)
    → ((s : ℕ) → s < sets → Serve (get_or recent s []) (before s))
    → (s : ℕ) → s < sets → Serve (get_or (set recent own new) s []) (after s)
Serve-each sets own recent new before after len now same serve = λ s lt. elim (cases_Bool (own == s)) [
  | inl here ↦
      let at : own ≡ s = eqb-true own s here in
      let place : get_or (set recent own new) s [] ≡ new = ap (λ (k : ℕ). get_or (set recent k new) s []) at ∙ get_or-set_same recent s new [] (subst (λ (n : ℕ). s < n) (sym len) lt) in
      subst (λ (slots : List (Option ℕ)). Serve slots (after s)) (sym place) (subst (λ (k : ℕ). Serve new (after k)) at now)
  | inr other ↦
      let ne : s ≢ own = λ e. eqb-false own s other (sym e) in
      subst (λ (slots : List (Option ℕ)). Serve slots (after s)) (sym (get_or-set_other recent own s new [] ne))
      (subst (λ (items : List Item). Serve (get_or recent s []) items) (sym (same s other)) (serve s lt))
]
