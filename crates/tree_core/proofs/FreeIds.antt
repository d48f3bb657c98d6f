-- The lowest free ids, by the tables of those taken.
use Rattle.std.proofs.Common.{◌≡◌, ℕ, ◌<◌, Bool, true, false, not, ◌&&◌, Some, None, refl, sym, subst, ap, ap₂, ◌∙◌, arith}
use Rattle.hw_ids.specs.Classes as class_table
use Rattle.hw_ids.specs.Classes.{Classes}
use Rattle.hw_ids.specs.Ids.{contains}
use Rattle.hw_ids.specs.MonitoringIds as rmid_table
use Rattle.hw_ids.specs.MonitoringIds.{MonitoringIds}
use Rattle.machine.specs.declared.parameters.Parameters.{Parameters}
use Rattle.lists.proofs.RangeTests.{find-least, find-none}
use Rattle.tree_core.specs.Tables.{AreTaken}
use Rattle.tree_law.specs.Space.{class_is_free, free_class, free_rmid, rmid_is_free}
use Rattle.tree_law.specs.State.{State}

-- ---- classes

-- a class is free in the state where the table does not have it
class_is_free-contains : (m : Parameters) (s : State) (classes : Classes) (rmids : MonitoringIds) (id : ℕ) → AreTaken m s.groups classes rmids → class_is_free s id ≡ not (contains id classes.taken)
class_is_free-contains m s classes rmids id taken = ap not (sym (taken.class_taken id))

-- a class of the machine's that the table does not have is free there
IsFree-class : (m : Parameters) (s : State) (classes : Classes) (rmids : MonitoringIds) (id : ℕ) → AreTaken m s.groups classes rmids → id < m.classes → contains id classes.taken ≡ false → class_table.IsFree classes id
IsFree-class m s classes rmids id taken below none = record { exists = subst (λ (n : ℕ). id < n) (sym taken.class_count) below; not_taken = none }

-- a class that is not free is taken
class_is_free-false : (m : Parameters) (s : State) (classes : Classes) (rmids : MonitoringIds) (id : ℕ) → AreTaken m s.groups classes rmids → id < m.classes → ¬ (class_table.IsFree classes id) → class_is_free s id ≡ false
class_is_free-false m s classes rmids id taken below isnt = class_is_free-contains m s classes rmids id taken ∙ at (contains id classes.taken) refl
  where
    at : (b : Bool) → contains id classes.taken ≡ b → not b ≡ false
    at true is = refl
    at false is = absurd (isnt (IsFree-class m s classes rmids id taken below is))

-- the lowest free class of the table is that of the state
pub free_class-lowest : (m : Parameters) (s : State) (classes : Classes) (rmids : MonitoringIds) (id : ℕ) → AreTaken m s.groups classes rmids → class_table.IsLowestFree classes id → free_class m s ≡ Some id
free_class-lowest m s classes rmids id taken lowest =
    let below : id < m.classes = subst (λ (n : ℕ). id < n) taken.class_count lowest.free.exists in
    find-least (class_is_free s) m.classes id below
    (λ k lt. class_is_free-false m s classes rmids k taken (under k id m.classes lt below) (lowest.lowest k lt))
    (class_is_free-contains m s classes rmids id taken ∙ ap not lowest.free.not_taken)
  where
    under : (a b n : ℕ) → a < b → b < n → a < n
    under a b n lt below = omega arith

-- no class is free in the state where none is in the table
pub free_class-none : (m : Parameters) (s : State) (classes : Classes) (rmids : MonitoringIds) → AreTaken m s.groups classes rmids → class_table.NoneFree classes → free_class m s ≡ None
free_class-none m s classes rmids taken none = find-none (class_is_free s) m.classes (λ k lt. class_is_free-false m s classes rmids k taken lt (none k))

-- ---- RMIDs

-- an RMID is free in the state where the table has it neither taken nor in limbo
rmid_is_free-contains : (m : Parameters) (s : State) (classes : Classes) (rmids : MonitoringIds) (id : ℕ) → AreTaken m s.groups classes rmids → s.limbo ≡ rmids.limbo → rmid_is_free s id ≡ (not (contains id rmids.taken) && not (contains id rmids.limbo))
rmid_is_free-contains m s classes rmids id taken limbo = ap₂ (λ (a b : Bool). not a && not b) (sym (taken.rmid_taken id)) (ap (contains id) limbo)

-- an RMID that is not free in the table is not free in the state
rmid_is_free-false : (m : Parameters) (s : State) (classes : Classes) (rmids : MonitoringIds) (id : ℕ) → AreTaken m s.groups classes rmids → s.limbo ≡ rmids.limbo → id < m.rmids → ¬ (rmid_table.IsFree rmids id) → rmid_is_free s id ≡ false
rmid_is_free-false m s classes rmids id taken limbo below isnt = rmid_is_free-contains m s classes rmids id taken limbo ∙ at (contains id rmids.taken) (contains id rmids.limbo) refl refl
  where
    at : (a b : Bool) → contains id rmids.taken ≡ a → contains id rmids.limbo ≡ b → (not a && not b) ≡ false
    at true b is waits = refl
    at false true is waits = refl
    at false false is waits = absurd (isnt (record { exists = subst (λ (n : ℕ). id < n) (sym taken.rmid_count) below; not_taken = is; not_in_limbo = waits }))

-- the lowest free RMID of the table is that of the state
pub free_rmid-lowest : (m : Parameters) (s : State) (classes : Classes) (rmids : MonitoringIds) (id : ℕ) → AreTaken m s.groups classes rmids → s.limbo ≡ rmids.limbo → rmid_table.IsLowestFree rmids id → free_rmid m s ≡ Some id
free_rmid-lowest m s classes rmids id taken limbo lowest =
    let below : id < m.rmids = subst (λ (n : ℕ). id < n) taken.rmid_count lowest.free.exists in
    find-least (rmid_is_free s) m.rmids id below
    (λ k lt. rmid_is_free-false m s classes rmids k taken limbo (under k id m.rmids lt below) (lowest.lowest k lt))
    (rmid_is_free-contains m s classes rmids id taken limbo ∙ rw (lowest.free.not_taken, lowest.free.not_in_limbo) refl)
  where
    under : (a b n : ℕ) → a < b → b < n → a < n
    under a b n lt below = omega arith

-- no RMID is free in the state where none is in the table
pub free_rmid-none : (m : Parameters) (s : State) (classes : Classes) (rmids : MonitoringIds) → AreTaken m s.groups classes rmids → s.limbo ≡ rmids.limbo → rmid_table.NoneFree rmids → free_rmid m s ≡ None
free_rmid-none m s classes rmids taken limbo none = find-none (rmid_is_free s) m.rmids (λ k lt. rmid_is_free-false m s classes rmids k taken limbo lt (none k))
