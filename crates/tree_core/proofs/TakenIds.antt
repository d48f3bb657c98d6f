-- The ids that are taken are those of the groups, also after a group more, a group less, and other masks.
use Rattle.std.proofs.Common.{◌≡◌, ℕ, suc, ◌<◌, Bool, true, false, ◌&&◌, ◌||◌, cond, eqb, List, [], ◌∷◌, ◌++◌, length, filter, get_or, Option, Some, refl, sym, ap, ap₂, ◌∙◌, arith}
use Rattle.std.specs.List.{list_any}
use Rattle.std.proofs.lemmas.Bool.{eq-eqb, eqb-false, eqb-true, ne_eqb}
use Rattle.std.proofs.lemmas.List.Folds.{list_any-append}
use Rattle.group_tree.specs.declared.group.Group.{Group}
use Rattle.hw_ids.proofs.laws.Membership.{contains-with_id}
use Rattle.hw_ids.specs.Classes.{Classes}
use Rattle.hw_ids.specs.MonitoringIds.{MonitoringIds}
use Rattle.machine.specs.declared.parameters.Parameters.{Parameters}
use Rattle.tree_core.specs.Tables.{AreTaken}
use Rattle.tree_core.specs.Taking.{ClassTaken, RmidTaken}
use Rattle.tree_law.specs.Space.{is_id}

-- a comparison, turned
pub eqb-turned : (a b : ℕ) → eqb a b ≡ eqb b a
eqb-turned a b = either (eqb a b) refl
  where
    either : (x : Bool) → eqb a b ≡ x → x ≡ eqb b a
    either true is = sym (eq-eqb b a (sym (eqb-true a b is)))
    either false is = sym (ne_eqb b a (λ e. eqb-false a b is (sym e)))

-- ---- a group more

-- an id more is among the groups' ids where the group is
pub or-eqb_swap : (id other : ℕ) (had : Bool) → (eqb other id || had) ≡ (had || (eqb id other || false))
or-eqb_swap id other had = ap (λ (b : Bool). b || had) (eqb-turned other id) ∙ at (eqb id other) had
  where
    at : (b h : Bool) → (b || h) ≡ (h || (b || false))
    at true true = refl
    at true false = refl
    at false true = refl
    at false false = refl

-- with a group more, its ids are taken too
pub AreTaken-push : (m : Parameters) (groups : List Group) (classes classes' : Classes) (rmids rmids' : MonitoringIds) (g : Group) (class rmid : ℕ) → AreTaken m groups classes rmids → ClassTaken classes classes' class → RmidTaken rmids rmids' rmid
    → g.class ≡ Some class → g.rmid ≡ Some rmid → AreTaken m (groups ++ g ∷ []) classes' rmids'
AreTaken-push m groups classes classes' rmids rmids' g class rmid taken class_taken rmid_taken is_class is_rmid = rw (class_taken.taken, rmid_taken.taken) (record {
  class_count = taken.class_count;
  class_taken = λ id. contains-with_id class id classes.taken ∙ ap (λ (b : Bool). eqb id class || b) (taken.class_taken id) ∙ or-eqb_swap class id (list_any (λ (x : Group). is_id id x.class) groups)
      ∙ ap (λ (c : Option ℕ). list_any (λ (x : Group). is_id id x.class) groups || (is_id id c || false)) (sym is_class) ∙ sym (list_any-append (λ (x : Group). is_id id x.class) groups (g ∷ []));
  rmid_count = taken.rmid_count;
  rmid_taken = λ id. contains-with_id rmid id rmids.taken ∙ ap (λ (b : Bool). eqb id rmid || b) (taken.rmid_taken id) ∙ or-eqb_swap rmid id (list_any (λ (x : Group). is_id id x.rmid) groups)
      ∙ ap (λ (c : Option ℕ). list_any (λ (x : Group). is_id id x.rmid) groups || (is_id id c || false)) (sym is_rmid) ∙ sym (list_any-append (λ (x : Group). is_id id x.rmid) groups (g ∷ []));
})

-- ---- a group less

-- of those that a filter keeps, some pass
pub list_any-filter : {X : Type 0} (p q : X → Bool) (b : Bool) (xs : List X) → ((k : ℕ) (d : X) → k < length xs → (q (get_or xs k d) && p (get_or xs k d)) ≡ (b && p (get_or xs k d))) → list_any p (filter q xs) ≡ (b && list_any p xs)
list_any-filter p q b [] same = none b
  where
    none : (b : Bool) → false ≡ (b && false)
    none true = refl
    none false = refl
list_any-filter p q b (x ∷ xs) same = at (q x) b (same 0 x (omega arith)) (list_any-filter p q b xs (λ k d within. same (suc k) d (omega arith)))
  where
    at : (qx b : Bool) → (qx && p x) ≡ (b && p x) → list_any p (filter q xs) ≡ (b && list_any p xs) → list_any p (cond qx (x ∷ filter q xs) (filter q xs)) ≡ (b && (p x || list_any p xs))
    at true true e rest = ap (λ (r : Bool). p x || r) rest
    at true false e rest = ap₂ (λ (a r : Bool). a || r) e rest
    at false true e rest = rest ∙ ap (λ (a : Bool). a || list_any p xs) e
    at false false e rest = rest
