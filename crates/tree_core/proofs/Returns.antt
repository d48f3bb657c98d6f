-- Ids that are taken and given back.
use Rattle.std.proofs.Common.{◌≡◌, ℕ, Bool, true, false, not, ◌||◌, ◌&&◌, eqb, List, refl, sym, ap, ◌∙◌}
use Rattle.std.proofs.lemmas.Bool.{eqb-true}
use Rattle.hw_ids.proofs.laws.Membership.{contains-with_id, contains-without}
use Rattle.hw_ids.specs.Classes.{Classes}
use Rattle.hw_ids.specs.Ids.{contains, with_id, without}
use Rattle.hw_ids.specs.MonitoringIds.{MonitoringIds}
use Rattle.group_tree.specs.declared.group.Group.{Group}
use Rattle.machine.specs.declared.parameters.Parameters.{Parameters}
use Rattle.tree_core.specs.Tables.{AreTaken}
use Rattle.tree_core.specs.Taking.{ClassesStay, ClassTaken, RmidsStay, SameMembers}

-- taken and given back, an id leaves the members as they were
pub SameMembers-returned : (ids : List ℕ) (id : ℕ) → contains id ids ≡ false → SameMembers ids (without id (with_id id ids))
SameMembers-returned ids id free other =
    contains-without id other (with_id id ids) ∙ ap (λ (b : Bool). not (eqb other id) && b) (contains-with_id id other ids) ∙ at (eqb other id) refl
  where
    at : (b : Bool) → eqb other id ≡ b → (not b && (b || contains other ids)) ≡ contains other ids
    at true is = sym (ap (λ (n : ℕ). contains n ids) (eqb-true other id is) ∙ free)
    at false is = refl

-- a class that is taken and given back leaves the classes as they were
pub ClassesStay-returned : (old mid new : Classes) (class : ℕ) → ClassTaken old mid class → new ≡ record mid { taken = without class mid.taken } → ClassesStay old new
ClassesStay-returned old mid new class taken back = record {
  count = ap (λ (c : Classes). c.count) back ∙ ap (λ (c : Classes). c.count) taken.taken;
  members = λ id. ap (λ (c : Classes). contains id c.taken) back ∙ ap (λ (c : Classes). contains id (without class c.taken)) taken.taken ∙ SameMembers-returned old.taken class taken.lowest.free.not_taken id;
}

-- ids with the same members, counts and limbo are taken as before
pub AreTaken-same_members : (m : Parameters) (groups : List Group) (classes classes' : Classes) (rmids rmids' : MonitoringIds) → AreTaken m groups classes rmids → ClassesStay classes classes' → RmidsStay rmids rmids' → AreTaken m groups classes' rmids'
AreTaken-same_members m groups classes classes' rmids rmids' taken same_classes same_rmids = record {
  class_count = same_classes.count ∙ taken.class_count;
  class_taken = λ id. same_classes.members id ∙ taken.class_taken id;
  rmid_count = same_rmids.count ∙ taken.rmid_count;
  rmid_taken = λ id. same_rmids.members id ∙ taken.rmid_taken id;
}

-- the same classes are as they were
pub ClassesStay-same : (classes : Classes) → ClassesStay classes classes
ClassesStay-same classes = record { count = refl; members = λ id. refl }

-- and so are the same RMIDs
pub RmidsStay-same : (old new : MonitoringIds) → new ≡ old → RmidsStay old new
RmidsStay-same old new same = record {
  count = ap (λ (r : MonitoringIds). r.count) same;
  threshold = ap (λ (r : MonitoringIds). r.threshold) same;
  limbo = ap (λ (r : MonitoringIds). r.limbo) same;
  members = λ id. ap (λ (r : MonitoringIds). contains id r.taken) same;
}
