-- What making a control group answers and leaves.
use Rattle.std.proofs.Common.{◌≡◌, ℕ, ◌+◌, ◌≤◌, Bool, true, false, cond, eqb, List, [], ◌∷◌, ◌++◌, length, find, Option, None, Some, is_some, inl, inr, refl, sym, subst, ap, ◌∙◌, arith}
use Rattle.group_tree.specs.Lists.{GroupList}
use Rattle.group_tree.specs.declared.group.Group.{Group}
use Rattle.hw_ids.specs.Classes.{Classes}
use Rattle.hw_ids.specs.MonitoringIds.{MonitoringIds}
use Rattle.machine.specs.Ranges.{InRange}
use Rattle.machine.specs.declared.parameters.Parameters.{Parameters}
use Rattle.path_names.specs.declared.dirs.DirRef.TheVariants.{Ctrl}
use Rattle.path_names.specs.declared.names.NameId.{NameId}
use Rattle.path_names.specs.declared.path_ref.PathRef.TheVariants.{Dir}
use Rattle.rc_base.specs.Replies.{refused}
use Rattle.rc_base.specs.declared.replies.Reply.{Reply}
use Rattle.rc_base.specs.declared.replies.Reply.TheVariants as replies
use Rattle.rc_base.specs.declared.replies.Why.TheVariants.{OutOfRmids, RmidsBusy}
use Rattle.script_ops.specs.declared.op.Op.TheVariants.{Mkdir}
use Rattle.tree_core.proofs.FreeIds.{free_class-lowest, free_class-none, free_rmid-lowest, free_rmid-none}
use Rattle.tree_core.proofs.Outcomes.{needs-nothing, next-accepted}
use Rattle.tree_core.proofs.Refusals.{IsRefused, IsRefused-no_class, IsRefused-no_rmid, refusal-no_lack}
use Rattle.tree_core.proofs.Returns.{AreTaken-same_members}
use Rattle.tree_core.proofs.Soundness.{IsSound-from_status}
use Rattle.tree_law.proofs.laws.Steps.{next-sound}
use Rattle.tree_core.proofs.TakenIds.{AreTaken-push}
use Rattle.tree_core.specs.Kept.{Keeps}
use Rattle.tree_core.specs.Places.{place_reasons}
use Rattle.tree_core.specs.Tables.{Tables}
use Rattle.tree_core.specs.Taking.{ClassTaken, ClassesStay, HasClass, NoIds, RmidTaken, RmidsStay}
use Rattle.tree_law.specs.Sound.{IsSound}
use Rattle.tree_law.specs.Space.{free_class, free_rmid, full_domain}
use Rattle.tree_law.specs.State.{Outcome, State}
use Rattle.tree_law.specs.Steps.{accepted, refusal}
use Rattle.tree_law.specs.commands.Mkdir.{against, initial_masks, new_control}
use Rattle.tree_law.specs.commands.Mkdir as mkdir

-- the reply to a lack of RMIDs, where these are in limbo
abbrev lack_reply : List ℕ → Reply
lack_reply limbo = cond (eqb (length limbo) 0) (refused OutOfRmids 0) (refused RmidsBusy 0)

module _ {m : Parameters} {t : Tables} {s : State} {epoch : ℕ} (keeps : Keeps m t s epoch) where
  -- ---- a control group that is refused

  -- where no ids are taken, the reason is the reply
  pub IsRefused-no_ids : (name : NameId) (reply : Reply) → find (against m s (Dir (Ctrl name))) place_reasons ≡ None → full_domain m s ≡ None → NoIds t.classes t.rmids reply → IsRefused m s (Dir (Ctrl name)) reply
  IsRefused-no_ids name reply none space (inl (spent, is)) = subst (IsRefused m s (Dir (Ctrl name))) (sym is) (IsRefused-no_class m s name none (free_class-none m s t.classes t.rmids keeps.stands.taken spent))
  IsRefused-no_ids name reply none space (inr (some, lack)) =
      let class_is : free_class m s ≡ Some some.0 = free_class-lowest m s t.classes t.rmids some.0 keeps.stands.taken some.1 in
      subst (IsRefused m s (Dir (Ctrl name))) (sym (lack.1 ∙ ap (λ (limbo : List ℕ). lack_reply limbo) keeps.stands.limbo))
      (IsRefused-no_rmid m s name some.0 none class_is space (free_rmid-none m s t.classes t.rmids keeps.stands.taken (sym keeps.stands.limbo) lack.0))

  -- ---- whether a class is free

  -- the table tells it as the state does
  pub is_some-free_class : (free : Bool) → HasClass t.classes free → free ≡ is_some (free_class m s)
  is_some-free_class true some = sym (ap is_some (free_class-lowest m s t.classes t.rmids some.0 keeps.stands.taken some.1))
  is_some-free_class false none = sym (ap is_some (free_class-none m s t.classes t.rmids keeps.stands.taken none))

  -- ids that were given back
  pub Keeps-same_ids : (classes : Classes) (rmids : MonitoringIds) → ClassesStay t.classes classes → RmidsStay t.rmids rmids → Keeps m (record t { classes = classes; rmids = rmids }) s epoch
  Keeps-same_ids classes rmids same_classes same_rmids = record {
    stands = record {
      groups = keeps.stands.groups;
      tasks = keeps.stands.tasks;
      cpus = keeps.stands.cpus;
      limbo = same_rmids.limbo ∙ keeps.stands.limbo;
      threshold = same_rmids.threshold ∙ keeps.stands.threshold;
      regions = keeps.stands.regions;
      locks = keeps.stands.locks;
      shareable = keeps.stands.shareable;
      taken = AreTaken-same_members m s.groups t.classes classes t.rmids rmids keeps.stands.taken same_classes same_rmids;
      gids_left = keeps.stands.gids_left;
      locks_left = keeps.stands.locks_left;
    };
    sound = keeps.sound;
    few_tasks = keeps.few_tasks;
  }

  -- ---- a control group that is made

  module _ (name : NameId) (class rmid : ℕ) (classes' : Classes) (rmids' : MonitoringIds) (place : find (against m s (Dir (Ctrl name))) place_reasons ≡ None) (space : full_domain m s ≡ None) (class_taken : ClassTaken t.classes classes' class) (rmid_taken : RmidTaken t.rmids rmids' rmid) where
    -- the class that was taken is the lowest free one of the state
    free_class-taken : free_class m s ≡ Some class
    free_class-taken = free_class-lowest m s t.classes t.rmids class keeps.stands.taken class_taken.lowest

    -- the RMID that was taken is the lowest free one of the state
    free_rmid-taken : free_rmid m s ≡ Some rmid
    free_rmid-taken = free_rmid-lowest m s t.classes t.rmids rmid keeps.stands.taken (sym keeps.stands.limbo) rmid_taken.lowest

    -- nothing is against making it
    pub refusal-none : refusal m s (Mkdir (Dir (Ctrl name))) ≡ None
    refusal-none = refusal-no_lack m s name class rmid place free_class-taken space free_rmid-taken

    -- the record of the new group
    abbrev pub control_record : List ℕ → Group
    control_record masks = record (new_control m s name) { class = Some class; rmid = Some rmid; masks = masks }

    -- its record is that of a new control group
    control_record-new : (masks : List ℕ) → masks ≡ initial_masks m s → control_record masks ≡ new_control m s name
    control_record-new masks is_masks =
        ap (λ (all : List ℕ). record (new_control m s name) { class = Some class; rmid = Some rmid; masks = all }) is_masks
        ∙ ap (λ (c : Option ℕ). record (new_control m s name) { class = c; rmid = Some rmid }) (sym free_class-taken)
        ∙ ap (λ (r : Option ℕ). record (new_control m s name) { rmid = r }) (sym free_rmid-taken)

    -- the state with it
    abbrev pub with_control : List ℕ → State
    with_control masks = record s { groups = s.groups ++ control_record masks ∷ []; next_gid = s.next_gid + 1 }

    -- the state with it is the one after the command
    pub with_control-accepted : (masks : List ℕ) (looks : List ℕ) → masks ≡ initial_masks m s → with_control masks ≡ accepted m s (Mkdir (Dir (Ctrl name))) looks
    unfolding mkdir.accepted
    with_control-accepted masks looks is_masks = ap (λ (g : Group). record s { groups = s.groups ++ g ∷ []; next_gid = s.next_gid + 1 }) (control_record-new masks is_masks)

    -- which is sound
    IsSound-with_control : (masks : List ℕ) → InRange m → masks ≡ initial_masks m s → IsSound m (with_control masks)
    IsSound-with_control masks range is_masks =
        let op = Mkdir (Dir (Ctrl name)) in
        let next = next-sound m s op [] range keeps.sound tt (ap length (sym (needs-nothing m s op refl))) in
        let after = subst (λ (o : Outcome). IsSound m o.state) (next-accepted m s op [] refusal-none) next in
        subst (IsSound m) (sym (with_control-accepted masks [] is_masks)) (IsSound-from_status m (accepted m s op []) replies.Ok after)

    -- and which the type keeps
    pub Keeps-with_control : (masks : List ℕ) (groups : GroupList) (after : State) → InRange m → masks ≡ initial_masks m s → groups.groups ≡ t.groups.groups ++ control_record masks ∷ [] → groups.shareable ≡ t.groups.shareable → s.next_gid ≤ epoch
        → after ≡ with_control masks → Keeps m (record t { groups = groups; classes = classes'; rmids = rmids' }) after epoch
    Keeps-with_control masks groups after range is_masks is_groups shareable gids is = subst (λ (x : State). Keeps m (record t { groups = groups; classes = classes'; rmids = rmids' }) x epoch) (sym is) (record {
      stands = record {
        groups = is_groups ∙ ap (λ (gs : List Group). gs ++ control_record masks ∷ []) keeps.stands.groups;
        tasks = keeps.stands.tasks;
        cpus = keeps.stands.cpus;
        limbo = ap (λ (r : MonitoringIds). r.limbo) rmid_taken.taken ∙ keeps.stands.limbo;
        threshold = ap (λ (r : MonitoringIds). r.threshold) rmid_taken.taken ∙ keeps.stands.threshold;
        regions = keeps.stands.regions;
        locks = keeps.stands.locks;
        shareable = shareable ∙ keeps.stands.shareable;
        taken = AreTaken-push m s.groups t.classes classes' t.rmids rmids' (control_record masks) class rmid keeps.stands.taken class_taken rmid_taken refl refl;
        gids_left = omega (arith, gids);
        locks_left = keeps.stands.locks_left;
      };
      sound = IsSound-with_control masks range is_masks;
      few_tasks = keeps.few_tasks;
    })
