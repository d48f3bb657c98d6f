-- What removing a monitor group leaves.
use Rattle.std.proofs.Common.{◌≡◌, ℕ, suc, ◌*◌, ◌<◌, Bool, true, false, not, ◌&&◌, cond, List, [], ◌∷◌, length, map, find, get_or, Option, None, Some, IsNone, refl, sym, subst, ap, ap₂, ◌∙◌, arith}
use Rattle.std.specs.Option.{option_and_then, option_map, option_map_or}
use Rattle.std.proofs.lemmas.Bool.{eqb-true, ne_eqb}
use Rattle.cpu_binding.specs.Groups as cpu_groups
use Rattle.cpu_binding.specs.declared.groups.CpuGroups.{CpuGroups}
use Rattle.group_tree.specs.Lists.{GroupList, without}
use Rattle.group_tree.specs.Records.{has_gid, is_monitor_named, is_monitor_of}
use Rattle.group_tree.specs.declared.group.Group.{Group}
use Rattle.group_tree.specs.declared.group_kind.GroupKind.{GroupKind}
use Rattle.group_tree.specs.declared.group_kind.GroupKind.TheVariants.{Control, Monitor}
use Rattle.hw_ids.specs.Ids.{contains}
use Rattle.hw_ids.specs.MonitoringIds.{MonitoringIds}
use Rattle.pseudo_lock.specs.declared.region.Region.{Region}
use Rattle.machine.specs.Ranges.{InRange}
use Rattle.machine.specs.declared.parameters.Parameters.{Parameters}
use Rattle.path_names.specs.declared.dirs.DirRef.TheVariants.{Mon}
use Rattle.path_names.specs.declared.dirs.Owner.{Owner}
use Rattle.path_names.specs.declared.names.NameId.{NameId}
use Rattle.path_names.specs.declared.path_ref.PathRef.TheVariants.{Dir}
use Rattle.rc_base.specs.declared.names.Gid.{Gid}
use Rattle.script_ops.specs.declared.op.Op.TheVariants.{Rmdir}
use Rattle.task_binding.specs.Bindings as bindings
use Rattle.task_binding.specs.declared.binding.Binding.{Binding}
use Rattle.tree_core.proofs.GoingGroups.{MayFree-going, contains-rmids_of, freed-differ, list_any-has_gid}
use Rattle.tree_core.proofs.KeptTables.{HasIds-found, IsDefault-first}
use Rattle.tree_core.proofs.MonitorGroups.{MonitorAt-named, control-parent, gid-named_monitor}
use Rattle.tree_core.proofs.NeededCounts.{length-counts_in}
use Rattle.tree_core.proofs.Outcomes.{needs-accepted, next-accepted}
use Rattle.tree_core.proofs.RemovedGroups.{Keeps-gone, length-changed_le}
use Rattle.tree_core.proofs.ReturnedCpus.{map-cpu_uncounted}
use Rattle.tree_core.proofs.StayingIds.{goes_with_id}
use Rattle.tree_core.specs.Kept.{Keeps}
use Rattle.tree_core.specs.RmidLists.{Frees, MayFree}
use Rattle.tree_core.specs.Tables.{Tables}
use Rattle.tree_law.proofs.laws.Steps.{next-sound}
use Rattle.tree_law.specs.Existing.{directory_gid, group_of, owner_gid}
use Rattle.tree_law.specs.Freeing.{counts_of, limbo_after, rmids_of}
use Rattle.tree_law.specs.Sound.{HasIds, IsBound, IsSound}
use Rattle.tree_law.specs.Space.{is_id}
use Rattle.tree_law.specs.State.{Outcome, State}
use Rattle.tree_law.specs.Steps.{accepted, needs, refusal}
use Rattle.tree_law.specs.commands.Rmdir.{cpu_uncounted, uncounted, without_monitor}
use Rattle.tree_law.specs.commands.Rmdir as rmdir

-- the group of the name among its monitor groups
pub directory_gid-monitor : (s : State) (owner : Owner) (name : NameId) (parent : Gid) → owner_gid s owner ≡ Some parent → directory_gid s (Mon owner name) ≡ option_map (λ (g : Group). g.gid) (find (is_monitor_named parent name) s.groups)
directory_gid-monitor s owner name parent is = ap (option_and_then (λ parent. option_map (λ (g : Group). g.gid) (find (is_monitor_named parent name) s.groups))) is

-- two changes that agree where they are made
changed-same : (which : Binding → Bool) (how how' : Binding → Binding) (tasks : List Binding) → ((k : ℕ) (d : Binding) → k < length tasks → which (get_or tasks k d) ≡ true → how (get_or tasks k d) ≡ how' (get_or tasks k d)) → bindings.changed which how tasks ≡ bindings.changed which how' tasks
changed-same which how how' [] same = refl
changed-same which how how' (b ∷ bs) same = ap₂ (λ (x : Binding) (rest : List Binding). x ∷ rest) (at (which b) refl) (changed-same which how how' bs (λ k d within is. same (suc k) d (omega arith) is))
  where
    at : (c : Bool) → which b ≡ c → cond c (how b) b ≡ cond c (how' b) b
    at true is = same 0 b (omega arith) is
    at false is = refl

-- a monitor group has no class
class-none : (groups : List Group) (parent : Gid) (kind : GroupKind) (g : Group) → is_monitor_of parent kind ≡ true → HasIds groups kind g → g.class ≡ None
class-none groups parent Control g of has = absurd (let f : false ≡ true = of in cc)
class-none groups parent (Monitor p) g of has = at g.class has.0
  where
    at : (o : Option ℕ) → IsNone o → o ≡ None
    at None none = refl
    at (Some n) none = absurd (let f : true ≡ false = none in cc)

module _ {m : Parameters} {t : Tables} {s : State} {epoch : ℕ} (keeps : Keeps m t s epoch) (owner : Owner) (name : NameId) (parent gid : Gid) (is_owner : owner_gid s owner ≡ Some parent) (named : option_map (λ (g : Group). g.gid) (find (is_monitor_named parent name) s.groups) ≡ Some gid)
    (nothing : refusal m s (Rmdir (Dir (Mon owner name))) ≡ None) (freed : List ℕ) (is_freed : freed ≡ rmdir.freed s (Dir (Mon owner name))) where
  -- the directory is the group's
  directory_gid-is : directory_gid s (Mon owner name) ≡ Some gid
  directory_gid-is = directory_gid-monitor s owner name parent is_owner ∙ named

  -- the RMID that it frees
  freed-own : freed ≡ option_map_or rmids_of (group_of s gid) []
  unfolding rmdir.freed
  freed-own = is_freed ∙ ap (λ (o : Option Gid). option_map_or (λ gid. option_map_or rmids_of (group_of s gid) []) o []) directory_gid-is

  -- and its counts are what it needs
  needs-freed : needs m s (Rmdir (Dir (Mon owner name))) ≡ counts_of m freed
  needs-freed = needs-accepted m s (Rmdir (Dir (Mon owner name))) nothing ∙ ap (counts_of m) (sym is_freed)

  -- there is one look for each domain
  pub length-looks : (looks : List ℕ) → length looks ≡ length (needs m s (Rmdir (Dir (Mon owner name)))) → length looks ≡ length freed * m.domains
  length-looks looks count = count ∙ ap (λ (xs : List (ℕ × ℕ)). length xs) needs-freed ∙ length-counts_in 0 m.domains freed

  -- it is that of the group that goes
  contains-freed : (id : ℕ) → contains id freed ≡ goes_with_id (has_gid gid) (λ (g : Group). g.rmid) id s.groups
  contains-freed id = (let at = MonitorAt-named keeps parent name gid named in ap (contains id) freed-own ∙ contains-rmids_of keeps gid at.group id at.there)

  -- and may be freed
  pub MayFree-monitor : InRange m → MayFree t.rmids.taken freed
  MayFree-monitor range = MayFree-going keeps (has_gid gid) freed contains-freed stays (freed-differ keeps (Rmdir (Dir (Mon owner name))) freed range needs-freed)
    where
      stays : (d : Group) → has_gid gid (get_or s.groups 0 d) ≡ false
      stays d = (let first = IsDefault-first s.groups d keeps.sound.named.first in ne_eqb gid.0 (get_or s.groups 0 d).gid.0 (λ e. gid-named_monitor keeps parent name gid named (e ∙ first.gid)))

  -- no class goes
  class-goes : (id : ℕ) → goes_with_id (has_gid gid) (λ (g : Group). g.class) id s.groups ≡ false
  class-goes id =
      let at = MonitorAt-named keeps parent name gid named in
      list_any-has_gid keeps gid at.group (λ (g : Group). is_id id g.class) at.there ∙ ap (is_id id) (class-none s.groups parent at.group.kind at.group at.of (HasIds-found keeps gid at.group at.there))

  -- its tasks are its parent's
  changed-uncounted : bindings.changed (bindings.has_monitor gid) (bindings.counted parent) s.tasks ≡ bindings.changed (bindings.has_monitor gid) uncounted s.tasks
  changed-uncounted = changed-same (bindings.has_monitor gid) (bindings.counted parent) uncounted s.tasks (λ k d within is.
      let b = get_or s.tasks k d in
      let bound : IsBound s.groups b = keeps.sound.tasks.each k d within in
      ap (λ (control : Gid). bindings.counted control b) (sym (control-parent keeps parent name gid named b.control b.monitor bound.0 bound.1 (eqb-true b.monitor.0 gid.0 is))))

  module _ (looks : List ℕ) (groups' : GroupList) (tasks' : List Binding) (cpus' : List CpuGroups) (rmids' : MonitoringIds) (range : InRange m) (count : length looks ≡ length (needs m s (Rmdir (Dir (Mon owner name)))))
      (is_groups : groups'.groups ≡ without gid t.groups.groups) (shareable : groups'.shareable ≡ t.groups.shareable) (is_tasks : tasks' ≡ bindings.changed (bindings.has_monitor gid) (bindings.counted parent) t.tasks)
      (is_cpus : cpu_groups.Changes (cpu_groups.after_monitor gid 0) t.cpus cpus') (is_rmids : Frees m freed looks t.rmids rmids') where
    -- the state without it
    abbrev pub left_monitor : State
    left_monitor = record s { groups = without gid s.groups; tasks = tasks'; cpus = cpus'; limbo = rmids'.limbo }

    -- is the one after the command
    pub left_monitor-accepted : left_monitor ≡ accepted m s (Rmdir (Dir (Mon owner name))) looks
    unfolding rmdir.accepted
    left_monitor-accepted =
        ap (λ (ts : List Binding). record left_monitor { tasks = ts }) (is_tasks ∙ ap (bindings.changed (bindings.has_monitor gid) (bindings.counted parent)) keeps.stands.tasks ∙ changed-uncounted)
        ∙ ap (λ (cs : List CpuGroups). record left_monitor { tasks = moved; cpus = cs }) (map-cpu_uncounted gid t.cpus cpus' is_cpus ∙ ap (map (cpu_uncounted gid)) keeps.stands.cpus)
        ∙ ap (λ (limbo : List ℕ). record left_monitor { tasks = moved; cpus = map (cpu_uncounted gid) s.cpus; limbo = limbo }) (is_rmids.limbo ∙ ap₂ (λ (h : ℕ) (limbo : List ℕ). limbo_after m h limbo freed looks) keeps.stands.threshold keeps.stands.limbo)
        ∙ ap (λ (rmids : List ℕ). without_monitor m s gid rmids looks) is_freed
        ∙ sym (ap (λ (o : Option Gid). option_map_or (λ i. without_monitor m s i (rmdir.freed s (Dir (Mon owner name))) looks) o s) directory_gid-is)
      where
        moved : List Binding
        moved = bindings.changed (bindings.has_monitor gid) uncounted s.tasks

    -- which is sound
    IsSound-monitor : (after : State) → after ≡ left_monitor → IsSound m after
    IsSound-monitor after is =
        let op = Rmdir (Dir (Mon owner name)) in
        let next = next-sound m s op looks range keeps.sound tt count in
        subst (IsSound m) (sym (is ∙ left_monitor-accepted)) (subst (λ (o : Outcome). IsSound m o.state) (next-accepted m s op looks nothing) next)

    -- and which the type keeps
    pub Keeps-monitor : (after : State) → after ≡ left_monitor → Keeps m (record t { groups = groups'; tasks = tasks'; cpus = cpus'; rmids = rmids' }) after epoch
    Keeps-monitor after is = Keeps-gone keeps (has_gid gid) freed looks groups' tasks' cpus' t.classes rmids' t.regions after is_groups shareable refl
        (λ id. sym (ap (λ (b : Bool). not b && contains id t.classes.taken) (class-goes id)))
        is_rmids contains-freed (length-changed_le keeps (has_gid gid) (bindings.has_monitor gid) (bindings.counted parent) tasks' is_tasks) refl
        (is ∙ sym (ap (λ (rs : List (Option Region)). record left_monitor { regions = rs; locks = t.regions.placed }) keeps.stands.regions ∙ ap (λ (n : ℕ). record left_monitor { locks = n }) keeps.stands.locks))
        (IsSound-monitor after is)
