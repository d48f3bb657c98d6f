-- The lowest free ids.
use Rattle.std.proofs.Common.{◌≡◌, ℕ, ◌<◌, Bool, true, false, find, get_or, Option, None, Some, sym, subst, ◌∙◌, arith, zero-add}
use Rattle.std.specs.List.{All, list_any, range_with_len}
use Rattle.std.proofs.lemmas.Bool.{eqb-false, not-true}
use Rattle.std.proofs.lemmas.List.FromFn.{get_or-range_with_len, length-range_with_len}
use Rattle.group_tree.specs.declared.group.Group.{Group}
use Rattle.hw_ids.specs.Ids.{contains}
use Rattle.lists.proofs.Tests.{find-found, All-from_none}
use Rattle.machine.specs.declared.parameters.Parameters.{Parameters}
use Rattle.tree_law.specs.Sound.{Differ, IsUsed}
use Rattle.tree_law.specs.Space.{class_is_free, free_class, free_rmid, is_id, rmid_is_free}
use Rattle.tree_law.specs.State.{State}
use Rattle.lists.proofs.Choices.{and-not_true}

-- what is found in a range is below its end
pub find-range : (p : ℕ → Bool) (n id : ℕ) → find p (range_with_len 0 n) ≡ Some id → (id < n) × (p id ≡ true)
find-range p n id found =
    let f = find-found p (range_with_len 0 n) id found in
    let within : f.place < n = omega (arith, f.within, length-range_with_len 0 n) in
    let is : f.place ≡ id = sym (get_or-range_with_len 0 n f.place 0 within ∙ zero-add f.place) ∙ f.at 0 in
    (subst (λ (k : ℕ). k < n) is within, f.passes)

-- what holds of all of a range holds of each number below its end
pub All-range : (P : ℕ → Type 0) (n : ℕ) → All P (range_with_len 0 n) → (k : ℕ) → k < n → P k
All-range P n all k lt = subst P (get_or-range_with_len 0 n k 0 lt ∙ zero-add k) (all k 0 (omega (arith, length-range_with_len 0 n)))

-- an id that is not this one differs from it
pub Differ-is_id : (id : ℕ) (o : Option ℕ) → is_id id o ≡ false → Differ (Some id) o
Differ-is_id id None e = tt
Differ-is_id id (Some other) e = λ same. eqb-false other id e (sym same)

-- the lowest free RMID is the machine's, not in limbo, and no group has it
pub free_rmid-some : (m : Parameters) (s : State) (id : ℕ) → free_rmid m s ≡ Some id → IsUsed m s.limbo id × All (λ (g : Group). Differ (Some id) g.rmid) s.groups
free_rmid-some m s id found =
    let f = find-range (rmid_is_free s) m.rmids id found in
    let both = and-not_true (list_any (λ (g : Group). is_id id g.rmid) s.groups) (contains id s.limbo) f.1 in
    ((f.0, both.1), λ k d within. Differ-is_id id (get_or s.groups k d).rmid (All-from_none (λ (g : Group). is_id id g.rmid) s.groups both.0 k d within))

-- the lowest free class is the machine's, and no group has it
pub free_class-some : (m : Parameters) (s : State) (id : ℕ) → free_class m s ≡ Some id → (id < m.classes) × All (λ (g : Group). Differ (Some id) g.class) s.groups
free_class-some m s id found =
    let f = find-range (class_is_free s) m.classes id found in
    let none = not-true (list_any (λ (g : Group). is_id id g.class) s.groups) f.1 in
    (f.0, λ k d within. Differ-is_id id (get_or s.groups k d).class (All-from_none (λ (g : Group). is_id id g.class) s.groups none k d within))
