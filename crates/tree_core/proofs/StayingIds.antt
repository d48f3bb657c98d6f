-- The ids that are taken where some groups go: those of the groups that stay.
use Rattle.std.proofs.Common.{◌≡◌, ℕ, ◌<◌, Bool, true, false, not, ◌&&◌, List, length, filter, get_or, Option, None, Some, inl, inr, refl, sym, subst, ap, ap₂, ◌∙◌, arith}
use Rattle.std.specs.List.{AllPairs, list_any}
use Rattle.std.proofs.lemmas.Bool.{cases_lt, eqb-true}
use Rattle.std.proofs.lemmas.List.{get_or_default}
use Rattle.std.proofs.lemmas.List.Folds.{list_any_at, list_any_none}
use Rattle.group_tree.specs.declared.group.Group.{Group}
use Rattle.hw_ids.specs.Classes.{Classes}
use Rattle.hw_ids.specs.Ids.{contains}
use Rattle.hw_ids.specs.MonitoringIds.{MonitoringIds}
use Rattle.machine.specs.declared.parameters.Parameters.{Parameters}
use Rattle.tree_core.proofs.TakenIds.{list_any-filter}
use Rattle.tree_core.specs.Tables.{AreTaken}
use Rattle.tree_law.specs.Sound.{Differ, IdsDiffer}
use Rattle.tree_law.specs.Space.{is_id}

-- an optional id that is this one
pub is_id-some : (id : ℕ) (o : Option ℕ) → is_id id o ≡ true → o ≡ Some id
is_id-some id None e = absurd (let f : false ≡ true = e in cc)
is_id-some id (Some n) e = ap Some (eqb-true n id e)

-- no two places have the same id
differ-same : (id : ℕ) (a b : Option ℕ) → Differ a b → a ≡ Some id → b ≡ Some id → ⊥
differ-same id a b differ is is' = subst (λ (x : Option ℕ). Differ (Some id) x) is' (subst (λ (x : Option ℕ). Differ x b) is differ) refl

-- both, by the second where that is there
and-second : (a b p : Bool) → (p ≡ true → a ≡ b) → (a && p) ≡ (b && p)
and-second a b true same = ap (λ (x : Bool). x && true) (same refl)
and-second a b false same = none a ∙ sym (none b)
  where
    none : (x : Bool) → (x && false) ≡ false
    none true = refl
    none false = refl

-- whether some group that goes has this id
abbrev pub goes_with_id : (Group → Bool) → (Group → Option ℕ) → ℕ → List Group → Bool
goes_with_id goes of id groups = list_any (λ (g : Group). goes g && is_id id (of g)) groups

module _ (groups : List Group) (goes : Group → Bool) (of : Group → Option ℕ) (apart : AllPairs (λ (a b : Group). Differ (of a) (of b)) groups) where
  -- two groups with one id stand at one place
  pub place-id : (id i j : ℕ) (d : Group) → i < length groups → j < length groups → is_id id (of (get_or groups i d)) ≡ true → is_id id (of (get_or groups j d)) ≡ true → i ≡ j
  place-id id i j d within within' is is' = elim (cases_lt i j) [
    | inl lt ↦ absurd (differ-same id (of (get_or groups i d)) (of (get_or groups j d)) (apart i j d lt within') (is_id-some id (of (get_or groups i d)) is) (is_id-some id (of (get_or groups j d)) is'))
    | inr le ↦ elim (cases_lt j i) [
      | inl lt ↦ absurd (differ-same id (of (get_or groups j d)) (of (get_or groups i d)) (apart j i d lt within) (is_id-some id (of (get_or groups j d)) is') (is_id-some id (of (get_or groups i d)) is))
      | inr le' ↦ omega arith
    ]
  ]

  -- the group with an id goes where some group with that id does
  goes-with_id : (id k : ℕ) (d : Group) → k < length groups → is_id id (of (get_or groups k d)) ≡ true → goes (get_or groups k d) ≡ goes_with_id goes of id groups
  goes-with_id id k d within is = at (goes (get_or groups k d)) refl
    where
      at : (b : Bool) → goes (get_or groups k d) ≡ b → b ≡ list_any (λ (g : Group). goes g && is_id id (of g)) groups
      at true e = sym (list_any_at (λ (g : Group). goes g && is_id id (of g)) groups k d within (ap₂ (λ (a b : Bool). a && b) e is))
      at false e = sym (list_any_none (λ (g : Group). goes g && is_id id (of g)) groups (λ j d' within'. other j d' within' (is_id id (of (get_or groups j d'))) refl))
        where
          other : (j : ℕ) (d' : Group) → j < length groups → (b : Bool) → is_id id (of (get_or groups j d')) ≡ b → (goes (get_or groups j d') && is_id id (of (get_or groups j d'))) ≡ false
          other j d' within' false e' = ap (λ (b : Bool). goes (get_or groups j d') && b) e' ∙ none (goes (get_or groups j d'))
            where
              none : (x : Bool) → (x && false) ≡ false
              none true = refl
              none false = refl
          other j d' within' true e' =
              let same : get_or groups j d ≡ get_or groups j d' = get_or_default groups j d d' within' in
              let here : j ≡ k = place-id id j k d within' within (ap (λ (g : Group). is_id id (of g)) same ∙ e') is in
              ap (λ (g : Group). goes g && is_id id (of g)) (sym same ∙ ap (λ (n : ℕ). get_or groups n d) here) ∙ ap (λ (b : Bool). b && is_id id (of (get_or groups k d))) e

  -- the ids of those that stay
  pub list_any-staying : (id : ℕ) → list_any (λ (g : Group). is_id id (of g)) (filter (λ (g : Group). not (goes g)) groups) ≡ (not (goes_with_id goes of id groups) && list_any (λ (g : Group). is_id id (of g)) groups)
  list_any-staying id = list_any-filter (λ (g : Group). is_id id (of g)) (λ (g : Group). not (goes g)) (not (goes_with_id goes of id groups)) groups
      (λ k d within. and-second (not (goes (get_or groups k d))) (not (goes_with_id goes of id groups)) (is_id id (of (get_or groups k d))) (λ is. ap not (goes-with_id id k d within is)))

-- the ids that are taken are those of the groups that stay, where those of the groups that go are given back
pub AreTaken-staying : (m : Parameters) (groups : List Group) (goes : Group → Bool) (classes classes' : Classes) (rmids rmids' : MonitoringIds) → AreTaken m groups classes rmids → AllPairs IdsDiffer groups
    → classes'.count ≡ classes.count → ((id : ℕ) → contains id classes'.taken ≡ (not (goes_with_id goes (λ (g : Group). g.class) id groups) && contains id classes.taken))
    → rmids'.count ≡ rmids.count → ((id : ℕ) → contains id rmids'.taken ≡ (not (goes_with_id goes (λ (g : Group). g.rmid) id groups) && contains id rmids.taken))
    → AreTaken m (filter (λ (g : Group). not (goes g)) groups) classes' rmids'
AreTaken-staying m groups goes classes classes' rmids rmids' taken apart class_count class_taken rmid_count rmid_taken = record {
  class_count = class_count ∙ taken.class_count;
  class_taken = λ id. class_taken id ∙ ap (λ (b : Bool). not (goes_with_id goes (λ (g : Group). g.class) id groups) && b) (taken.class_taken id) ∙ sym (list_any-staying groups goes (λ (g : Group). g.class) (λ i j d lt within. (apart i j d lt within).0) id);
  rmid_count = rmid_count ∙ taken.rmid_count;
  rmid_taken = λ id. rmid_taken id ∙ ap (λ (b : Bool). not (goes_with_id goes (λ (g : Group). g.rmid) id groups) && b) (taken.rmid_taken id) ∙ sym (list_any-staying groups goes (λ (g : Group). g.rmid) (λ i j d lt within. (apart i j d lt within).1) id);
}
