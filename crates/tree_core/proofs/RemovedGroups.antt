-- What removing groups leaves.
use Rattle.std.proofs.Common.{◌≡◌, ℕ, ◌-◌, ◌*◌, ◌^◌, ◌<◌, ◌≤◌, Bool, not, ◌&&◌, cond, List, length, filter, take, refl, sym, subst, ap, ◌∙◌, arith}
use Rattle.std.proofs.lemmas.List.{length-map}
use Rattle.std.proofs.lemmas.Nat.{mul-le}
use Rattle.cpu_binding.specs.declared.groups.CpuGroups.{CpuGroups}
use Rattle.group_tree.specs.Lists.{GroupList}
use Rattle.group_tree.specs.declared.group.Group.{Group}
use Rattle.hw_ids.specs.Classes.{Classes}
use Rattle.hw_ids.specs.Ids.{contains}
use Rattle.hw_ids.specs.MonitoringIds.{MonitoringIds}
use Rattle.machine.specs.Maps.{cache_bytes}
use Rattle.machine.specs.Ranges.{InRange}
use Rattle.machine.specs.declared.parameters.Parameters.{Parameters}
use Rattle.pseudo_lock.specs.Regions.{RegionTable}
use Rattle.script_ops.specs.declared.limits.TheConstants.{MOST_TASKS}
use Rattle.task_binding.specs.Bindings as bindings
use Rattle.task_binding.specs.declared.binding.Binding.{Binding}
use Rattle.tree_core.proofs.StayingIds.{AreTaken-staying, goes_with_id}
use Rattle.tree_core.specs.Kept.{Keeps}
use Rattle.tree_core.specs.RmidLists.{Frees}
use Rattle.tree_core.specs.Tables.{Tables}
use Rattle.tree_law.specs.Sound.{IsSound}
use Rattle.tree_law.specs.State.{State}

-- a threshold of at most the bytes of one cache is below every saturated number of bytes
pub threshold-lt : (m : Parameters) → InRange m → (threshold : ℕ) → threshold ≤ cache_bytes m → threshold < 2 ^ 64 - 1
threshold-lt m range threshold is =
    let bytes = mul-le (m.sets * 64) m.ways (65536 * 64) 32 (let few = range.set_limit in omega arith) range.way_limit in
    omega arith

-- states that differ in five parts alone
pub State-parts : (s : State) (groups groups' : List Group) (tasks tasks' : List Binding) (cpus cpus' : List CpuGroups) (limbo : List ℕ) (threshold threshold' : ℕ) → groups ≡ groups' → tasks ≡ tasks' → cpus ≡ cpus' → threshold ≡ threshold'
    → record s { groups = groups; tasks = tasks; cpus = cpus; limbo = limbo; threshold = threshold } ≡ record s { groups = groups'; tasks = tasks'; cpus = cpus'; limbo = limbo; threshold = threshold' }
State-parts s groups groups' tasks tasks' cpus cpus' limbo threshold threshold' e f g h =
    ap (λ (x : List Group). record s { groups = x; tasks = tasks; cpus = cpus; limbo = limbo; threshold = threshold }) e
    ∙ ap (λ (x : List Binding). record s { groups = groups'; tasks = x; cpus = cpus; limbo = limbo; threshold = threshold }) f
    ∙ ap (λ (x : List CpuGroups). record s { groups = groups'; tasks = tasks'; cpus = x; limbo = limbo; threshold = threshold }) g
    ∙ ap (λ (n : ℕ). record s { groups = groups'; tasks = tasks'; cpus = cpus'; limbo = limbo; threshold = n }) h

module _ {m : Parameters} {t : Tables} {s : State} {epoch : ℕ} (keeps : Keeps m t s epoch) (goes : Group → Bool) where
  -- the groups that stay
  abbrev pub staying : List Group → List Group
  staying groups = filter (λ (g : Group). not (goes g)) groups

  -- the threshold is below every saturated number of bytes
  pub table_threshold-lt : InRange m → t.rmids.threshold < 2 ^ 64 - 1
  table_threshold-lt range = threshold-lt m range t.rmids.threshold (subst (λ (n : ℕ). n ≤ cache_bytes m) (sym keeps.stands.threshold) keeps.sound.threshold)

  -- tasks that change are as few as before
  pub length-changed_le : (which : Binding → Bool) (how : Binding → Binding) (tasks' : List Binding) → tasks' ≡ bindings.changed which how t.tasks → length tasks' ≤ MOST_TASKS
  length-changed_le which how tasks' is =
      let same : length tasks' ≡ length s.tasks = ap (λ (bs : List Binding). length bs) is ∙ length-map t.tasks (λ b. cond (which b) (how b) b) ∙ ap (λ (bs : List Binding). length bs) keeps.stands.tasks in
      omega (arith, same, keeps.few_tasks)

  -- what the type keeps where these groups are gone, and their RMIDs are freed
  pub Keeps-gone : (freed looks : List ℕ) (groups' : GroupList) (tasks' : List Binding) (cpus' : List CpuGroups) (classes' : Classes) (rmids' : MonitoringIds) (regions' : RegionTable) (after : State)
      → groups'.groups ≡ staying t.groups.groups → groups'.shareable ≡ t.groups.shareable
      → classes'.count ≡ t.classes.count → ((id : ℕ) → contains id classes'.taken ≡ (not (goes_with_id goes (λ (g : Group). g.class) id s.groups) && contains id t.classes.taken))
      → Frees m freed looks t.rmids rmids' → ((id : ℕ) → contains id freed ≡ goes_with_id goes (λ (g : Group). g.rmid) id s.groups)
      → length tasks' ≤ MOST_TASKS → regions'.placed ≡ t.regions.placed → after ≡ record s { groups = staying s.groups; tasks = tasks'; cpus = cpus'; limbo = rmids'.limbo; regions = take m.domains regions'.places; locks = regions'.placed } → IsSound m after
      → Keeps m (record t { groups = groups'; tasks = tasks'; cpus = cpus'; classes = classes'; rmids = rmids'; regions = regions' }) after epoch
  Keeps-gone freed looks groups' tasks' cpus' classes' rmids' regions' after is_groups shareable class_count class_taken is_rmids is_freed few placed is sound =
      subst (λ (x : State). Keeps m (record t { groups = groups'; tasks = tasks'; cpus = cpus'; classes = classes'; rmids = rmids'; regions = regions' }) x epoch) (sym is) (record {
        stands = record {
          groups = is_groups ∙ ap staying keeps.stands.groups;
          tasks = refl;
          cpus = refl;
          limbo = refl;
          threshold = is_rmids.threshold ∙ keeps.stands.threshold;
          regions = refl;
          locks = refl;
          shareable = shareable ∙ keeps.stands.shareable;
          taken = AreTaken-staying m s.groups goes t.classes classes' t.rmids rmids' keeps.stands.taken keeps.sound.numbered.apart class_count class_taken is_rmids.count
              (λ id. is_rmids.taken id ∙ ap (λ (b : Bool). not b && contains id t.rmids.taken) (is_freed id));
          gids_left = keeps.stands.gids_left;
          locks_left = subst (λ (n : ℕ). n ≤ epoch) (sym (placed ∙ keeps.stands.locks)) keeps.stands.locks_left;
        };
        sound = subst (IsSound m) is sound;
        few_tasks = few;
      })
