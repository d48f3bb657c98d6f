-- The counts of the domains, changed one after the other.
use Rattle.std.proofs.Common.{◌≡◌, ℕ, zero, suc, ◌+◌, ◌<◌, ◌≤◌, List, [], ◌∷◌, length, get_or, set, length-set, inl, inr, refl, sym, subst, ap, ◌∙◌, arith}
use Rattle.std.proofs.lemmas.Bool.{cases_eq}
use Rattle.std.proofs.lemmas.List.{get_or-set_other, get_or-set_same}
use Rattle.group_tree.specs.declared.mode_counts.ModeCounts.{ModeCounts}

-- those below a domain are changed, and the others are not
pub record AreChangedBelow (change : ℕ → ModeCounts → ModeCounts) (old now : List ModeCounts) (domain : ℕ) : Type 0 where
  pub size : length now ≡ 8
  pub below : (i : ℕ) (d : ModeCounts) → i < domain → get_or now i d ≡ change i (get_or old i d)
  pub above : (i : ℕ) (d : ModeCounts) → domain ≤ i → get_or now i d ≡ get_or old i d

-- an element that is there is the same beside any default
get_or-default : (xs : List ModeCounts) (i : ℕ) (d e : ModeCounts) → i < length xs → get_or xs i d ≡ get_or xs i e
get_or-default [] i d e within = absurd (omega arith)
get_or-default (x ∷ xs) zero d e within = refl
get_or-default (x ∷ xs) (suc i) d e within = get_or-default xs i d e (omega arith)

-- then the next one is
pub AreChangedBelow-next : (change : ℕ → ModeCounts → ModeCounts) (old now : List ModeCounts) (k : ℕ) (new default : ModeCounts) → k < 8 → new ≡ change k (get_or now k default) → AreChangedBelow change old now k
    → AreChangedBelow change old (set now k new) (k + 1)
AreChangedBelow-next change old now k new default exists is are = record { size = length-set now k new ∙ are.size; below = below; above = above }
  where
    here : (d : ModeCounts) → get_or (set now k new) k d ≡ change k (get_or old k d)
    here d =
        get_or-set_same now k new d (omega (arith, are.size))
        ∙ (is ∙ ap (change k) (get_or-default now k default d (omega (arith, are.size)) ∙ are.above k d (omega arith)))

    below : (i : ℕ) (d : ModeCounts) → i < k + 1 → get_or (set now k new) i d ≡ change i (get_or old i d)
    below i d lt = elim (cases_eq i k) [
      | inl same ↦ subst (λ (n : ℕ). get_or (set now k new) n d ≡ change n (get_or old n d)) (sym same) (here d)
      | inr other ↦ get_or-set_other now k i new d other ∙ are.below i d (omega (arith, other))
    ]

    above : (i : ℕ) (d : ModeCounts) → k + 1 ≤ i → get_or (set now k new) i d ≡ get_or old i d
    above i d le = get_or-set_other now k i new d (λ e. absurd (omega (arith, e, le))) ∙ are.above i d (omega arith)
