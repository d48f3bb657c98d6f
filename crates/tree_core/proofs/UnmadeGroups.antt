-- A place for a group that no directory of a group has: an RMID is looked for, and no group is made.
use Rattle.std.proofs.Common.{◌≡◌, ◌≢◌, ℕ, Bool, true, false, not, ◌&&◌, cond, List, find, Option, None, Some, is_none, is_some, refl, sym, ap, ap₂, ◌∙◌, arith}
use Rattle.std.specs.Option.{option_map}
use Rattle.std.proofs.lemmas.Bool.{le-ltb}
use Rattle.group_tree.specs.Records.{blank}
use Rattle.hw_ids.specs.Ids as ids
use Rattle.hw_ids.specs.Ids.{contains, with_id}
use Rattle.hw_ids.specs.MonitoringIds.{MonitoringIds, after_free}
use Rattle.machine.specs.declared.parameters.Parameters.{Parameters}
use Rattle.path_names.specs.declared.dirs.DirRef.TheVariants.{Root, Info, InfoL3, InfoL3Mon, Ctrl, MonGroups, Mon, MonData, MonDomain}
use Rattle.path_names.specs.declared.path_ref.PathRef.{PathRef}
use Rattle.path_names.specs.declared.path_ref.PathRef.TheVariants.{Dir, File, Free, Nowhere}
use Rattle.rc_base.specs.declared.replies.Why.TheVariants.{Locking, NoSpace, OutOfClosids, OutOfRmids, RmidsBusy}
use Rattle.script_ops.specs.declared.op.Op.TheVariants.{Mkdir}
use Rattle.tree_core.proofs.KeptTables.{IsDefault-first, contains-rmid, length-positive}
use Rattle.tree_core.proofs.Refusals.{refusal-in_place}
use Rattle.tree_core.proofs.Returns.{SameMembers-returned}
use Rattle.tree_core.specs.Kept.{Keeps}
use Rattle.tree_core.specs.Places.{place_reasons}
use Rattle.tree_core.specs.Tables.{Tables}
use Rattle.tree_core.specs.Taking.{RmidTaken, RmidsStay}
use Rattle.tree_law.specs.Existing.{is_group_directory}
use Rattle.tree_law.specs.Refusals.{Refusal, plain}
use Rattle.tree_law.specs.Space.{free_class, free_rmid, full_domain}
use Rattle.tree_law.specs.State.{State}
use Rattle.tree_law.specs.Steps.{accepted, refusal}
use Rattle.tree_law.specs.commands.Mkdir as mkdir
use Rattle.tree_law.specs.commands.Mkdir.{against, has_closed_parent, makes_control, with_argument}
use Rattle.tree_law.specs.commands.Mode.{rmid_refusal}

-- what a path is not that is no group's directory
record MakesNone (m : Parameters) (s : State) (path : PathRef) : Type 0 where
  pub control : makes_control path ≡ false
  pub parent : has_closed_parent s path ≡ false
  pub left : mkdir.accepted m s path ≡ s

MakesNone-path : (m : Parameters) (s : State) (path : PathRef) → is_group_directory path ≡ false → MakesNone m s path
unfolding mkdir.accepted
MakesNone-path m s (Dir (Ctrl name)) is = absurd (let f : true ≡ false = is in cc)
MakesNone-path m s (Dir (Mon owner name)) is = absurd (let f : true ≡ false = is in cc)
MakesNone-path m s (Dir Root) is = record { control = refl; parent = refl; left = refl }
MakesNone-path m s (Dir Info) is = record { control = refl; parent = refl; left = refl }
MakesNone-path m s (Dir InfoL3) is = record { control = refl; parent = refl; left = refl }
MakesNone-path m s (Dir InfoL3Mon) is = record { control = refl; parent = refl; left = refl }
MakesNone-path m s (Dir (MonGroups owner)) is = record { control = refl; parent = refl; left = refl }
MakesNone-path m s (Dir (MonData holder)) is = record { control = refl; parent = refl; left = refl }
MakesNone-path m s (Dir (MonDomain holder domain)) is = record { control = refl; parent = refl; left = refl }
MakesNone-path m s (File dir kind) is = record { control = refl; parent = refl; left = refl }
MakesNone-path m s (Free dir name) is = record { control = refl; parent = refl; left = refl }
MakesNone-path m s (Nowhere name) is = record { control = refl; parent = refl; left = refl }

module _ (m : Parameters) (s : State) (path : PathRef) (nameless : is_group_directory path ≡ false) where
  -- a lack of RMIDs alone is against it
  pub refusal-nameless : find (against m s path) place_reasons ≡ None → refusal m s (Mkdir path) ≡ rmid_refusal m s
  refusal-nameless none =
      let makes = MakesNone-path m s path nameless in
      refusal-in_place m s path none
      ∙ ap₂ (λ (a b : Bool). lacks a b (is_none (free_rmid m s)) (mkdir.none_in_limbo s)) makes.control makes.parent
      ∙ at (is_none (free_rmid m s)) (mkdir.none_in_limbo s)
    where
      lacks : Bool → Bool → Bool → Bool → Option Refusal
      lacks control parent rmid limbo = option_map (with_argument m s) (cond (control && is_none (free_class m s)) (Some OutOfClosids) (cond (control && is_some (full_domain m s)) (Some NoSpace) (cond parent (Some Locking) (cond (rmid && limbo) (Some OutOfRmids) (cond (rmid && not limbo) (Some RmidsBusy) None)))))

      at : (rmid limbo : Bool) → lacks false false rmid limbo ≡ cond rmid (Some (plain (cond limbo OutOfRmids RmidsBusy))) None
      at true true = refl
      at true false = refl
      at false limbo = refl

  -- and nothing changes
  pub accepted-nameless : (looks : List ℕ) → accepted m s (Mkdir path) looks ≡ s
  accepted-nameless looks = (MakesNone-path m s path nameless).left

module _ {m : Parameters} {t : Tables} {s : State} {epoch : ℕ} (keeps : Keeps m t s epoch) (mid : MonitoringIds) (rmid : ℕ) (taken : RmidTaken t.rmids mid rmid) where
  pub rmid-not_zero : rmid ≢ 0
  rmid-not_zero zeroth =
      let first = IsDefault-first s.groups blank keeps.sound.named.first in
      let there = contains-rmid keeps 0 blank 0 (length-positive s.groups keeps.sound.named.first) first.rmid in
      let f : true ≡ false = sym there ∙ ap (λ (n : ℕ). contains n t.rmids.taken) (sym zeroth) ∙ taken.lowest.free.not_taken in cc

  -- and then the same are taken and in limbo as before
  pub RmidsStay-returned : (new : MonitoringIds) → new ≡ after_free mid rmid 0 → RmidsStay t.rmids new
  RmidsStay-returned new is = record {
    count = ap (λ (r : MonitoringIds). r.count) is ∙ ap (λ (r : MonitoringIds). r.count) taken.taken;
    threshold = ap (λ (r : MonitoringIds). r.threshold) is ∙ ap (λ (r : MonitoringIds). r.threshold) taken.taken;
    limbo = ap (λ (r : MonitoringIds). r.limbo) is ∙ ap (λ (b : Bool). cond b (with_id rmid mid.limbo) mid.limbo) (le-ltb mid.threshold 0 (omega arith)) ∙ ap (λ (r : MonitoringIds). r.limbo) taken.taken;
    members = λ id. ap (λ (r : MonitoringIds). contains id r.taken) is ∙ ap (λ (r : MonitoringIds). contains id (ids.without rmid r.taken)) taken.taken ∙ SameMembers-returned t.rmids.taken rmid taken.lowest.free.not_taken id;
  }
