-- What making a monitor group answers and leaves.
use Rattle.std.proofs.Common.{◌≡◌, ℕ, ◌+◌, ◌≤◌, Bool, true, false, not, ◌&&◌, ◌||◌, cond, eqb, List, [], ◌∷◌, ◌++◌, length, find, Option, None, Some, is_none, is_some, Err, refl, sym, subst, ap, ap₂, ◌∙◌, arith}
use Rattle.std.specs.List.{list_any}
use Rattle.std.specs.Option.{option_map, option_map_or}
use Rattle.std.proofs.lemmas.List.Folds.{list_any-append}
use Rattle.group_tree.specs.Lists.{GroupList}
use Rattle.group_tree.specs.declared.group.Group.{Group}
use Rattle.hw_ids.proofs.laws.Membership.{contains-with_id}
use Rattle.hw_ids.specs.Classes.{Classes}
use Rattle.hw_ids.specs.MonitoringIds.{MonitoringIds}
use Rattle.machine.specs.Ranges.{InRange}
use Rattle.machine.specs.declared.parameters.Parameters.{Parameters}
use Rattle.path_names.specs.declared.dirs.DirRef.TheVariants.{Mon}
use Rattle.path_names.specs.declared.dirs.Owner.{Owner}
use Rattle.path_names.specs.declared.names.NameId.{NameId}
use Rattle.path_names.specs.declared.path_ref.PathRef.TheVariants.{Dir}
use Rattle.rc_base.specs.Replies.{refused}
use Rattle.rc_base.specs.declared.names.Gid.{Gid}
use Rattle.rc_base.specs.declared.replies.Reply.{Reply}
use Rattle.rc_base.specs.declared.replies.Reply.TheVariants as replies
use Rattle.rc_base.specs.declared.replies.Why.TheVariants.{Locking, OutOfRmids, RmidsBusy}
use Rattle.script_ops.specs.declared.op.Op.TheVariants.{Mkdir}
use Rattle.tree_core.proofs.FreeIds.{free_rmid-lowest, free_rmid-none}
use Rattle.tree_core.proofs.Outcomes.{needs-nothing, next-accepted}
use Rattle.tree_core.proofs.Refusals.{IsPlace-find_none, IsRefused, IsRefused-by, refusal-in_place}
use Rattle.tree_core.proofs.Soundness.{IsSound-from_status}
use Rattle.tree_core.proofs.TakenIds.{or-eqb_swap}
use Rattle.tree_core.specs.Kept.{Keeps}
use Rattle.tree_core.specs.Places.{place_reasons}
use Rattle.tree_core.specs.Tables.{AreTaken, Tables}
use Rattle.tree_core.specs.Taking.{RmidTaken, TakesRmid}
use Rattle.tree_law.proofs.laws.Steps.{next-sound}
use Rattle.tree_law.specs.Existing.{owner_gid}
use Rattle.tree_law.specs.Places.{is_closed}
use Rattle.tree_law.specs.Refusals.{Refusal, plain}
use Rattle.tree_law.specs.Sound.{IsSound}
use Rattle.tree_law.specs.Space.{free_rmid, is_id}
use Rattle.tree_law.specs.State.{Outcome, State}
use Rattle.tree_law.specs.Steps.{accepted, refusal}
use Rattle.tree_law.specs.commands.Mkdir.{against, new_monitor, with_argument}
use Rattle.tree_law.specs.commands.Mkdir as mkdir

-- its parent is there
pub owner_gid-place : (m : Parameters) (s : State) (owner : Owner) (name : NameId) → find (against m s (Dir (Mon owner name))) place_reasons ≡ None → owner_gid s owner ≡ None → ⊥
owner_gid-place m s owner name place none =
    let held = (IsPlace-find_none m s (Dir (Mon owner name)) place).held in
    let f : true ≡ false = sym (ap (λ (o : Option Gid). not (is_some o)) none) ∙ held in
    cc

-- with a monitor group more, its RMID is taken too
pub AreTaken-push_monitor : (m : Parameters) (groups : List Group) (classes : Classes) (rmids rmids' : MonitoringIds) (g : Group) (rmid : ℕ) → AreTaken m groups classes rmids → RmidTaken rmids rmids' rmid → g.class ≡ None → g.rmid ≡ Some rmid → AreTaken m (groups ++ g ∷ []) classes rmids'
AreTaken-push_monitor m groups classes rmids rmids' g rmid taken rmid_taken no_class is_rmid = rw rmid_taken.taken (record {
  class_count = taken.class_count;
  class_taken = λ id. taken.class_taken id ∙ or-false (list_any (λ (x : Group). is_id id x.class) groups) ∙ ap (λ (c : Option ℕ). list_any (λ (x : Group). is_id id x.class) groups || (is_id id c || false)) (sym no_class)
      ∙ sym (list_any-append (λ (x : Group). is_id id x.class) groups (g ∷ []));
  rmid_count = taken.rmid_count;
  rmid_taken = λ id. contains-with_id rmid id rmids.taken ∙ ap (λ (b : Bool). eqb id rmid || b) (taken.rmid_taken id) ∙ or-eqb_swap rmid id (list_any (λ (x : Group). is_id id x.rmid) groups)
      ∙ ap (λ (c : Option ℕ). list_any (λ (x : Group). is_id id x.rmid) groups || (is_id id c || false)) (sym is_rmid) ∙ sym (list_any-append (λ (x : Group). is_id id x.rmid) groups (g ∷ []));
})
  where
    or-false : (b : Bool) → b ≡ (b || false)
    or-false true = refl
    or-false false = refl

-- the lacks of a monitor group: each test stands for itself
abbrev lacks_of : Parameters → State → Bool → Bool → Bool → Option Refusal
lacks_of m s closed rmid limbo = option_map (with_argument m s) (cond closed (Some Locking) (cond (rmid && limbo) (Some OutOfRmids) (cond (rmid && not limbo) (Some RmidsBusy) None)))

module _ {m : Parameters} {t : Tables} {s : State} {epoch : ℕ} (keeps : Keeps m t s epoch) (owner : Owner) (name : NameId) (parent : Gid) (place : find (against m s (Dir (Mon owner name))) place_reasons ≡ None) (is_owner : owner_gid s owner ≡ Some parent) where
  -- what is against making it is a closed parent, or a lack of RMIDs
  refusal-lacks_of : refusal m s (Mkdir (Dir (Mon owner name))) ≡ lacks_of m s (is_closed s parent) (is_none (free_rmid m s)) (eqb (length s.limbo) 0)
  refusal-lacks_of = refusal-in_place m s (Dir (Mon owner name)) place ∙ ap (λ (o : Option Gid). lacks_of m s (option_map_or (is_closed s) o false) (is_none (free_rmid m s)) (eqb (length s.limbo) 0)) is_owner

  -- beside a closed parent it is refused
  pub IsRefused-closed : is_closed s parent ≡ true → IsRefused m s (Dir (Mon owner name)) (refused Locking 0)
  IsRefused-closed closed = IsRefused-by m s (Dir (Mon owner name)) (plain Locking) (refusal-lacks_of ∙ ap (λ (b : Bool). lacks_of m s b (is_none (free_rmid m s)) (eqb (length s.limbo) 0)) closed)

  module _ (open_parent : is_closed s parent ≡ false) where
    -- where RMIDs are lacking, the limbo tells the reply
    IsRefused-limbo : (limbo : Bool) → refusal m s (Mkdir (Dir (Mon owner name))) ≡ lacks_of m s false true limbo → IsRefused m s (Dir (Mon owner name)) (cond limbo (refused OutOfRmids 0) (refused RmidsBusy 0))
    IsRefused-limbo true is = IsRefused-by m s (Dir (Mon owner name)) (plain OutOfRmids) is
    IsRefused-limbo false is = IsRefused-by m s (Dir (Mon owner name)) (plain RmidsBusy) is

    -- without a free RMID it is refused
    pub IsRefused-no_rmid : (rmids' : MonitoringIds) (reply : Reply) → TakesRmid t.rmids rmids' (Err reply) → IsRefused m s (Dir (Mon owner name)) reply
    IsRefused-no_rmid rmids' reply taken =
        let none = free_rmid-none m s t.classes t.rmids keeps.stands.taken (sym keeps.stands.limbo) taken.1.0 in
        let said : reply ≡ cond (eqb (length s.limbo) 0) (refused OutOfRmids 0) (refused RmidsBusy 0) = taken.1.1 ∙ ap (λ (limbo : List ℕ). cond (eqb (length limbo) 0) (refused OutOfRmids 0) (refused RmidsBusy 0)) keeps.stands.limbo in
        subst (IsRefused m s (Dir (Mon owner name))) (sym said) (IsRefused-limbo (eqb (length s.limbo) 0) (refusal-lacks_of ∙ ap₂ (λ (b : Bool) (o : Option ℕ). lacks_of m s b (is_none o) (eqb (length s.limbo) 0)) open_parent none))

    module _ (rmid : ℕ) (rmids' : MonitoringIds) (rmid_taken : RmidTaken t.rmids rmids' rmid) where
      -- the RMID that was taken is the lowest free one of the state
      free_rmid-taken : free_rmid m s ≡ Some rmid
      free_rmid-taken = free_rmid-lowest m s t.classes t.rmids rmid keeps.stands.taken (sym keeps.stands.limbo) rmid_taken.lowest

      -- nothing is against making it
      pub refusal-none : refusal m s (Mkdir (Dir (Mon owner name))) ≡ None
      refusal-none = refusal-lacks_of ∙ ap₂ (λ (b : Bool) (o : Option ℕ). lacks_of m s b (is_none o) (eqb (length s.limbo) 0)) open_parent free_rmid-taken

      -- the record of the new group
      abbrev pub monitor_record : Group
      monitor_record = record (new_monitor m s name parent) { rmid = Some rmid }

      -- the state with it
      abbrev pub with_monitor : State
      with_monitor = record s { groups = s.groups ++ monitor_record ∷ []; next_gid = s.next_gid + 1 }

      -- is the one after the command
      pub with_monitor-accepted : (looks : List ℕ) → with_monitor ≡ accepted m s (Mkdir (Dir (Mon owner name))) looks
      unfolding mkdir.accepted
      with_monitor-accepted looks =
          ap (λ (o : Option ℕ). record s { groups = s.groups ++ record (new_monitor m s name parent) { rmid = o } ∷ []; next_gid = s.next_gid + 1 }) (sym free_rmid-taken)
          ∙ ap (mkdir.with_monitor m s name) (sym is_owner)

      -- which is sound
      IsSound-with_monitor : InRange m → IsSound m with_monitor
      IsSound-with_monitor range =
          let op = Mkdir (Dir (Mon owner name)) in
          let next = next-sound m s op [] range keeps.sound tt (ap (λ (xs : List (ℕ × ℕ)). length xs) (sym (needs-nothing m s op refl))) in
          let after = subst (λ (o : Outcome). IsSound m o.state) (next-accepted m s op [] refusal-none) next in
          subst (IsSound m) (sym (with_monitor-accepted [])) (IsSound-from_status m (accepted m s op []) replies.Ok after)

      -- and which the type keeps
      pub Keeps-with_monitor : (groups : GroupList) (after : State) → InRange m → groups.groups ≡ t.groups.groups ++ monitor_record ∷ [] → groups.shareable ≡ t.groups.shareable → s.next_gid ≤ epoch → after ≡ with_monitor
          → Keeps m (record t { groups = groups; rmids = rmids' }) after epoch
      Keeps-with_monitor groups after range is_groups shareable gids is = subst (λ (x : State). Keeps m (record t { groups = groups; rmids = rmids' }) x epoch) (sym is) (record {
        stands = record {
          groups = is_groups ∙ ap (λ (gs : List Group). gs ++ monitor_record ∷ []) keeps.stands.groups;
          tasks = keeps.stands.tasks;
          cpus = keeps.stands.cpus;
          limbo = ap (λ (r : MonitoringIds). r.limbo) rmid_taken.taken ∙ keeps.stands.limbo;
          threshold = ap (λ (r : MonitoringIds). r.threshold) rmid_taken.taken ∙ keeps.stands.threshold;
          regions = keeps.stands.regions;
          locks = keeps.stands.locks;
          shareable = shareable ∙ keeps.stands.shareable;
          taken = AreTaken-push_monitor m s.groups t.classes t.rmids rmids' monitor_record rmid keeps.stands.taken rmid_taken refl refl;
          gids_left = omega (arith, gids);
          locks_left = keeps.stands.locks_left;
        };
        sound = IsSound-with_monitor range;
        few_tasks = keeps.few_tasks;
      })
