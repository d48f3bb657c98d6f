-- What removing a control group leaves.
use Rattle.std.proofs.Common.{◌≡◌, ◌≢◌, ℕ, ◌*◌, ◌<◌, Bool, true, false, not, ◌&&◌, ◌||◌, cond, List, [], ◌∷◌, length, map, filter, get_or, take, Option, None, Some, IsNone, refl, sym, subst, ap, ap₂, ◌∙◌}
use Rattle.std.specs.Option.{option_map_or}
use Rattle.std.proofs.lemmas.Bool.{ne_eqb}
use Rattle.std.proofs.lemmas.List.Folds.{list_any_none}
use Rattle.cpu_binding.specs.Groups as cpu_groups
use Rattle.cpu_binding.specs.declared.groups.CpuGroups.{CpuGroups}
use Rattle.group_tree.specs.Lists.{GroupList, has_group, without}
use Rattle.group_tree.specs.Records.{has_gid, is_monitor_of}
use Rattle.group_tree.specs.declared.group.Group.{Group}
use Rattle.group_tree.specs.declared.group_kind.GroupKind.{GroupKind}
use Rattle.group_tree.specs.declared.group_kind.GroupKind.TheVariants.{Control, Monitor}
use Rattle.hw_ids.specs.Classes.{Classes}
use Rattle.hw_ids.specs.Ids.{contains}
use Rattle.hw_ids.specs.MonitoringIds.{MonitoringIds}
use Rattle.lists.proofs.Keyed.{get_or-key, place-key}
use Rattle.lists.proofs.Tests.{list_any-kept}
use Rattle.machine.specs.Ranges.{InRange}
use Rattle.machine.specs.declared.parameters.Parameters.{Parameters}
use Rattle.path_names.specs.declared.dirs.DirRef.TheVariants.{Ctrl}
use Rattle.path_names.specs.declared.names.NameId.{NameId}
use Rattle.path_names.specs.declared.path_ref.PathRef.TheVariants.{Dir}
use Rattle.rc_base.specs.Gids.{default_gid}
use Rattle.rc_base.specs.declared.names.Gid.{Gid}
use Rattle.script_ops.specs.declared.op.Op.TheVariants.{Rmdir}
use Rattle.task_binding.specs.Bindings as bindings
use Rattle.task_binding.specs.declared.binding.Binding.{Binding}
use Rattle.tree_core.proofs.ControlGroups.{ControlAt-found}
use Rattle.tree_core.proofs.FoundGroups.{has_group-found}
use Rattle.tree_core.proofs.GoingGroups.{MayFree-going, contains-rmids_with, freed-differ, list_any-goes_with, list_any-has_gid}
use Rattle.tree_core.proofs.KeptTables.{IsDefault-first, length-positive}
use Rattle.tree_core.proofs.NeededCounts.{length-counts_in}
use Rattle.tree_core.proofs.Outcomes.{needs-accepted, next-accepted}
use Rattle.tree_core.proofs.RemovedGroups.{Keeps-gone, length-changed_le}
use Rattle.tree_core.proofs.ReturnedCpus.{map-cpu_after}
use Rattle.tree_core.proofs.RmidLists.{is_monitor_of-counted}
use Rattle.tree_core.proofs.StayingIds.{goes_with_id}
use Rattle.tree_core.specs.Found.{IsControl}
use Rattle.tree_core.specs.Kept.{Keeps}
use Rattle.tree_core.specs.Removals.{off_monitors}
use Rattle.tree_core.specs.RmidLists.{Frees, MayFree}
use Rattle.tree_core.specs.Tables.{Tables}
use Rattle.tree_core.specs.declared.control.Control as found_groups
use Rattle.tree_law.proofs.laws.Steps.{next-sound}
use Rattle.tree_law.specs.Existing.{directory_gid}
use Rattle.tree_law.specs.Freeing.{counts_of, limbo_after, rmids_with}
use Rattle.tree_law.specs.Sound.{HasIds, IsSound}
use Rattle.tree_law.specs.Space.{is_id}
use Rattle.tree_law.specs.State.{Outcome, State}
use Rattle.tree_law.specs.Steps.{accepted, needs, refusal}
use Rattle.tree_law.specs.commands.Rmdir.{cpu_after, goes_with, region_after, staying, without_control}
use Rattle.tree_law.specs.commands.Rmdir as rmdir
use Rattle.pseudo_lock.specs.Regions as regions
use Rattle.pseudo_lock.specs.Regions.{RegionTable, without_group}
use Rattle.pseudo_lock.specs.declared.region.Region.{Region}
use Rattle.std.proofs.lemmas.List.{take-map}
use Rattle.tree_core.specs.Given.{IsGiven}
use Rattle.group_tree.proofs.laws.Records.{is_monitor_of-control}

-- without its monitor groups and then without it, the groups are those that stay
pub without-off_monitors : (gid : Gid) (groups : List Group) → without gid (off_monitors gid groups) ≡ staying gid groups
without-off_monitors gid [] = refl
without-off_monitors gid (g ∷ gs) = at (is_monitor_of gid g.kind) (without-off_monitors gid gs)
  where
    with_monitor : (own : Bool) → without gid (off_monitors gid gs) ≡ staying gid gs → without gid (off_monitors gid gs) ≡ cond (not (cond own true true)) (g ∷ staying gid gs) (staying gid gs)
    with_monitor true rest = rest
    with_monitor false rest = rest

    with_other : (own : Bool) → without gid (off_monitors gid gs) ≡ staying gid gs → cond (not own) (g ∷ without gid (off_monitors gid gs)) (without gid (off_monitors gid gs)) ≡ cond (not (cond own true false)) (g ∷ staying gid gs) (staying gid gs)
    with_other true rest = rest
    with_other false rest = ap (λ (gs : List Group). g ∷ gs) rest

    at : (mon : Bool) → without gid (off_monitors gid gs) ≡ staying gid gs → filter (λ (x : Group). not (has_gid gid x)) (cond (not mon) (g ∷ off_monitors gid gs) (off_monitors gid gs)) ≡ cond (not (cond (has_gid gid g) true mon)) (g ∷ staying gid gs) (staying gid gs)
    at true rest = with_monitor (has_gid gid g) rest
    at false rest = with_other (has_gid gid g) rest

-- a monitor group has no class
class-monitor : (groups : List Group) (gid : Gid) (kind : GroupKind) (g : Group) (id : ℕ) → HasIds groups kind g → (is_monitor_of gid kind && is_id id g.class) ≡ false
class-monitor groups gid Control g id has = refl
class-monitor groups gid (Monitor parent) g id has = at (is_monitor_of gid (Monitor parent)) g.class has.0
  where
    at : (b : Bool) (o : Option ℕ) → IsNone o → (b && is_id id o) ≡ false
    at true None none = refl
    at false None none = refl
    at b (Some n) none = absurd (let f : true ≡ false = none in cc)

module _ {m : Parameters} {t : Tables} {s : State} {epoch : ℕ} (keeps : Keeps m t s epoch) (name : NameId) (found : found_groups.Control) (named : directory_gid s (Ctrl name) ≡ Some found.gid) (control : IsControl s found) (nothing : refusal m s (Rmdir (Dir (Ctrl name))) ≡ None)
    (freed : List ℕ) (is_freed : freed ≡ rmdir.freed s (Dir (Ctrl name))) where
  -- the RMIDs that it frees
  freed-with : freed ≡ rmids_with s found.gid
  unfolding rmdir.freed
  freed-with = is_freed ∙ ap (λ (gid : Option Gid). option_map_or (rmids_with s) gid []) named

  -- and their counts are what it needs
  needs-freed : needs m s (Rmdir (Dir (Ctrl name))) ≡ counts_of m freed
  needs-freed = needs-accepted m s (Rmdir (Dir (Ctrl name))) nothing ∙ ap (counts_of m) (sym is_freed)

  -- there is one look for each domain of each
  pub length-looks : (looks : List ℕ) → length looks ≡ length (needs m s (Rmdir (Dir (Ctrl name)))) → length looks ≡ length freed * m.domains
  length-looks looks count = count ∙ ap (λ (xs : List (ℕ × ℕ)). length xs) needs-freed ∙ length-counts_in 0 m.domains freed

  -- they are those of the groups that go
  contains-freed : (id : ℕ) → contains id freed ≡ goes_with_id (goes_with found.gid) (λ (g : Group). g.rmid) id s.groups
  contains-freed id = (let at = ControlAt-found s found control in ap (contains id) freed-with ∙ contains-rmids_with keeps found.gid at.group id at.there)

  -- and may be freed
  pub MayFree-control : InRange m → MayFree t.rmids.taken freed
  MayFree-control range = MayFree-going keeps (goes_with found.gid) freed contains-freed stays (freed-differ keeps (Rmdir (Dir (Ctrl name))) freed range needs-freed)
    where
      stays : (d : Group) → goes_with found.gid (get_or s.groups 0 d) ≡ false
      stays d =
          let first = IsDefault-first s.groups d keeps.sound.named.first in
          ap₂ (λ (a b : Bool). cond a true b) (ne_eqb found.gid.0 (get_or s.groups 0 d).gid.0 (λ e. control.other_gid (e ∙ first.gid))) (is_monitor_of-counted found.gid (get_or s.groups 0 d) first.counted)

  -- no monitor group of it is the default group
  pub not_default-monitor : (k : ℕ) (d : Group) → k < length s.groups → is_monitor_of found.gid (get_or s.groups k d).kind ≡ true → (get_or s.groups k d).gid.0 ≢ 0
  not_default-monitor k d within monitor zeroth =
      let first = IsDefault-first s.groups d keeps.sound.named.first in
      let place : k ≡ 0 = place-key (λ (x : Group). x.gid.0) s.groups k 0 d keeps.sound.named.gids within (length-positive s.groups keeps.sound.named.first) (zeroth ∙ sym first.gid) in
      let none = is_monitor_of-counted found.gid (get_or s.groups 0 d) first.counted in
      let f : true ≡ false = sym monitor ∙ ap (λ (n : ℕ). is_monitor_of found.gid (get_or s.groups n d).kind) place ∙ none in
      cc

  -- without its monitor groups it is still there
  pub has_group-off_monitors : has_group found.gid (off_monitors found.gid s.groups) ≡ true
  has_group-off_monitors =
      let at = ControlAt-found s found control in
      list_any-kept (has_gid found.gid) (λ (g : Group). not (is_monitor_of found.gid g.kind)) s.groups (λ k d within is.
      let same : get_or s.groups k d ≡ at.group = get_or-key (λ (x : Group). x.gid.0) s.groups (record at.group { gid = found.gid }) at.group keeps.sound.named.gids at.there k d within is in
      ap (λ (g : Group). not (is_monitor_of found.gid g.kind)) same ∙ ap not (is_monitor_of-control found.gid at.group.kind at.kind))
      (has_group-found s.groups found.gid at.group at.there)

  -- the class that goes is its own
  class-goes : (id : ℕ) → is_id id found.class ≡ goes_with_id (goes_with found.gid) (λ (g : Group). g.class) id s.groups
  class-goes id =
      let at = ControlAt-found s found control in
      sym (ap (is_id id) at.class) ∙ or-none (is_id id at.group.class)
      ∙ ap₂ (λ (a b : Bool). a || b) (sym (list_any-has_gid keeps found.gid at.group (λ (g : Group). is_id id g.class) at.there))
      (sym (list_any_none (λ (g : Group). is_monitor_of found.gid g.kind && is_id id g.class) s.groups (λ k d within. class-monitor s.groups found.gid (get_or s.groups k d).kind (get_or s.groups k d) id (keeps.sound.numbered.ids k d within))))
      ∙ sym (list_any-goes_with found.gid (λ (g : Group). is_id id g.class) s.groups)
    where
      or-none : (b : Bool) → b ≡ (b || false)
      or-none true = refl
      or-none false = refl

  module _ (looks : List ℕ) (groups' : GroupList) (tasks' : List Binding) (cpus' : List CpuGroups) (classes' : Classes) (rmids' : MonitoringIds) (regions' : RegionTable) (range : InRange m) (count : length looks ≡ length (needs m s (Rmdir (Dir (Ctrl name)))))
      (is_groups : groups'.groups ≡ without found.gid (off_monitors found.gid t.groups.groups)) (shareable : groups'.shareable ≡ t.groups.shareable) (is_tasks : tasks' ≡ bindings.changed (bindings.has_control found.gid) (bindings.joined default_gid) t.tasks)
      (is_cpus : cpu_groups.Changes (cpu_groups.after_control found.gid 0) t.cpus cpus') (is_classes : IsGiven t.classes classes' found.class) (is_rmids : Frees m freed looks t.rmids rmids') (is_regions : regions' ≡ without_group found.gid t.regions) where
    -- the state without it
    abbrev pub left_control : State
    left_control = record s { groups = staying found.gid s.groups; tasks = tasks'; cpus = cpus'; limbo = rmids'.limbo; regions = take m.domains regions'.places; locks = regions'.placed }

    -- the region of the group is gone
    regions-left : take m.domains regions'.places ≡ map (region_after found.gid) s.regions
    regions-left = ap (λ (r : RegionTable). take m.domains r.places) is_regions ∙ take-map (regions.without found.gid) m.domains t.regions.places ∙ map-same (take m.domains t.regions.places) ∙ ap (map (region_after found.gid)) keeps.stands.regions
      where
        map-same : (rs : List (Option Region)) → map (regions.without found.gid) rs ≡ map (region_after found.gid) rs
        map-same [] = refl
        map-same (None ∷ rs) = ap (λ (more : List (Option Region)). None ∷ more) (map-same rs)
        map-same (Some r ∷ rs) = ap (λ (more : List (Option Region)). region_after found.gid (Some r) ∷ more) (map-same rs)

    -- is the one after the command
    pub left_control-accepted : left_control ≡ accepted m s (Rmdir (Dir (Ctrl name))) looks
    unfolding rmdir.accepted
    left_control-accepted =
        ap (λ (ts : List Binding). record left_control { tasks = ts }) (is_tasks ∙ ap (bindings.changed (bindings.has_control found.gid) (bindings.joined default_gid)) keeps.stands.tasks)
        ∙ ap (λ (cs : List CpuGroups). record left_control { tasks = moved; cpus = cs }) (map-cpu_after found.gid t.cpus cpus' is_cpus ∙ ap (map (cpu_after found.gid)) keeps.stands.cpus)
        ∙ ap (λ (limbo : List ℕ). record left_control { tasks = moved; cpus = map (cpu_after found.gid) s.cpus; limbo = limbo }) (is_rmids.limbo ∙ ap₂ (λ (h : ℕ) (limbo : List ℕ). limbo_after m h limbo freed looks) keeps.stands.threshold keeps.stands.limbo)
        ∙ ap (λ (rs : List (Option Region)). record (without_control m s found.gid freed looks) { regions = rs; locks = regions'.placed }) regions-left
        ∙ ap (λ (n : ℕ). record (without_control m s found.gid freed looks) { locks = n }) (ap (λ (r : RegionTable). r.placed) is_regions ∙ keeps.stands.locks)
        ∙ ap (λ (rmids : List ℕ). without_control m s found.gid rmids looks) is_freed
        ∙ sym (ap (λ (gid : Option Gid). option_map_or (λ i. without_control m s i (rmdir.freed s (Dir (Ctrl name))) looks) gid s) named)
      where
        moved : List Binding
        moved = bindings.changed (bindings.has_control found.gid) (bindings.joined default_gid) s.tasks

    -- which is sound
    IsSound-control : (after : State) → after ≡ left_control → IsSound m after
    IsSound-control after is =
        let op = Rmdir (Dir (Ctrl name)) in
        let next = next-sound m s op looks range keeps.sound tt count in
        subst (IsSound m) (sym (is ∙ left_control-accepted)) (subst (λ (o : Outcome). IsSound m o.state) (next-accepted m s op looks nothing) next)

    -- and which the type keeps
    pub Keeps-control : (after : State) → after ≡ left_control → Keeps m (record t { groups = groups'; tasks = tasks'; cpus = cpus'; classes = classes'; rmids = rmids'; regions = regions' }) after epoch
    Keeps-control after is = Keeps-gone keeps (goes_with found.gid) freed looks groups' tasks' cpus' classes' rmids' regions' after (is_groups ∙ without-off_monitors found.gid t.groups.groups) shareable
        is_classes.count
        (λ id. is_classes.taken id ∙ ap (λ (b : Bool). not b && contains id t.classes.taken) (class-goes id))
        is_rmids contains-freed (length-changed_le keeps (goes_with found.gid) (bindings.has_control found.gid) (bindings.joined default_gid) tasks' is_tasks) (ap (λ (r : RegionTable). r.placed) is_regions) is (IsSound-control after is)
