-- Taking the ids of a new group.
-- (For functions and proofs: no promise of the program stands on it.)
use Rattle.std.specs.Prelude.{◌≡◌, ◌⊎◌, ℕ, ◌==◌, Bool, true, false, if◌then◌else◌, List, length, Result, Ok, Err}
use Rattle.hw_ids.specs.Classes as classes
use Rattle.hw_ids.specs.Classes.{Classes}
use Rattle.hw_ids.specs.Ids.{contains, with_id}
use Rattle.hw_ids.specs.MonitoringIds as rmids
use Rattle.hw_ids.specs.MonitoringIds.{MonitoringIds}
use Rattle.rc_base.specs.Replies.{refused}
use Rattle.rc_base.specs.declared.replies.Reply.{Reply}
use Rattle.rc_base.specs.declared.replies.Why.TheVariants.{OutOfClosids, OutOfRmids, RmidsBusy}
use Rattle.tree_core.specs.declared.taking.NewIds.{NewIds}

-- two sets of ids have the same members
abbrev pub SameMembers : List ℕ → List ℕ → Type 0
SameMembers old new = (id : ℕ) → contains id new ≡ contains id old

-- the reply to a lack of RMIDs
abbrev pub rmid_reply : MonitoringIds → Reply
rmid_reply ids = if length ids.limbo == 0 then refused OutOfRmids 0 else refused RmidsBusy 0

-- the lowest free RMID is taken
pub record RmidTaken (old new : MonitoringIds) (rmid : ℕ) : Type 0 where
  pub lowest : rmids.IsLowestFree old rmid
  pub taken : new ≡ record old { taken = with_id rmid old.taken }

-- why none is taken: no RMID is free
abbrev pub NoneTaken : MonitoringIds → Reply → Type 0
NoneTaken old reply = rmids.NoneFree old × (reply ≡ rmid_reply old)

-- the RMID that was taken, or why none was
abbrev pub TakesRmid : MonitoringIds → MonitoringIds → Result ℕ Reply → Type 0
TakesRmid old new (Ok rmid) = RmidTaken old new rmid
TakesRmid old new (Err reply) = (new ≡ old) × NoneTaken old reply

-- the lowest free class is taken
pub record ClassTaken (old new : Classes) (class : ℕ) : Type 0 where
  pub lowest : classes.IsLowestFree old class
  pub taken : new ≡ record old { taken = with_id class old.taken }

-- the same classes are taken as before
pub record ClassesStay (old new : Classes) : Type 0 where
  pub count : new.count ≡ old.count
  pub members : SameMembers old.taken new.taken

-- the answer whether a class is free
abbrev pub HasClass : Classes → Bool → Type 0
HasClass old true = (class : ℕ) × classes.IsLowestFree old class
HasClass old false = classes.NoneFree old

-- why no ids are taken: no class is free, or one is free and no RMID
abbrev pub NoIds : Classes → MonitoringIds → Reply → Type 0
NoIds old ids reply = (classes.NoneFree old × (reply ≡ refused OutOfClosids 0)) ⊎ (((class : ℕ) × classes.IsLowestFree old class) × NoneTaken ids reply)

-- the ids that were taken, or why none were
abbrev pub TakesIds : Classes → Classes → MonitoringIds → MonitoringIds → Result NewIds Reply → Type 0
TakesIds old new ids ids' (Ok new_ids) = ClassTaken old new new_ids.class × RmidTaken ids ids' new_ids.rmid
TakesIds old new ids ids' (Err reply) = ClassesStay old new × (ids' ≡ ids) × NoIds old ids reply

-- the same RMIDs are taken and in limbo as before
pub record RmidsStay (old new : MonitoringIds) : Type 0 where
  pub count : new.count ≡ old.count
  pub threshold : new.threshold ≡ old.threshold
  pub limbo : new.limbo ≡ old.limbo
  pub members : SameMembers old.taken new.taken
