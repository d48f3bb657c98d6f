-- A write of `cpus` keeps a sound tree.
use Rattle.std.proofs.Common.{◌≡◌, ℕ, Bool, true, false, not, ◌&&◌, cond, List, find, get_or, Option, Some, None, Result, Ok, Err, refl, ap, ◌∙◌}
use Rattle.std.specs.List.{All, list_any, enumerate_from}
use Rattle.std.proofs.lemmas.Bool.{eq-eqb, eqb-true}
use Rattle.std.proofs.lemmas.List.{length-map}
use Rattle.std.proofs.lemmas.List.FromFn.{length-enumerate_from}
use Rattle.std.proofs.lemmas.List.Elements.{All-map}
use Rattle.cpu_binding.specs.Groups.{after_control, after_monitor, has_control, has_monitor, joined, opening_cpu}
use Rattle.cpu_binding.specs.Sets.{has_cpu}
use Rattle.cpu_binding.specs.declared.groups.CpuGroups.{CpuGroups}
use Rattle.cpu_lists.specs.declared.fault.CpuFault.{CpuFault}
use Rattle.group_tree.specs.Records.{has_gid, is_monitor_of}
use Rattle.group_tree.specs.declared.group.Group.{Group}
use Rattle.group_tree.specs.declared.group_kind.GroupKind.{GroupKind}
use Rattle.group_tree.specs.declared.group_kind.GroupKind.TheVariants.{Control, Monitor}
use Rattle.lists.proofs.Tests.{All-enumerate_from}
use Rattle.lists.proofs.Choices.{cond-case}
use Rattle.lists.proofs.Tests.{All-from_none}
use Rattle.machine.specs.declared.parameters.Parameters.{Parameters}
use Rattle.rc_base.specs.declared.names.Gid.{Gid}
use Rattle.rc_base.specs.declared.replies.Why.TheVariants.{Locking, NotParents}
use Rattle.tree_law.proofs.Groups.{IsCounted-found, IsCounted-default, IsOf-found, is_counted-open}
use Rattle.tree_law.proofs.TaskMoves.{MayTake}
use Rattle.tree_law.specs.Places.{controlling, is_closed}
use Rattle.tree_law.specs.Refusals.{Refusal, plain}
use Rattle.tree_law.specs.Sound.{IsCounted, IsOf, IsServed, IsSound}
use Rattle.tree_law.specs.State.{State}
use Rattle.tree_law.specs.commands.Cpus.{accepted, against_set, cpu_after, cpus_after, is_strange, refusal, set_of}

module _ (groups : List Group) (gid : Gid) (set : ℕ) where
  -- a CPU of a control group's set, or one that it drops
  IsServed-after_control : (cpu : ℕ) (c : CpuGroups) → IsCounted groups gid → IsCounted groups (record { 0 = 0 }) → IsServed groups c → IsServed groups (after_control gid set cpu c)
  IsServed-after_control cpu c may default served =
      cond-case (IsServed groups) (has_cpu set cpu) (joined gid) (cond (has_control gid c) opening_cpu c) (λ is. (may, tt))
      (λ is. cond-case (IsServed groups) (has_control gid c) opening_cpu c (λ mine. (default, tt)) (λ other. served))

  -- the same of a monitor group
  IsServed-after_monitor : (parent : Gid) (cpu : ℕ) (c : CpuGroups) → ((control : Gid) → control.0 ≡ parent.0 → IsOf groups control gid) → is_strange parent set (cpu, c) ≡ false → IsServed groups c → IsServed groups (after_monitor gid set cpu c)
  IsServed-after_monitor parent cpu c may known served =
      cond-case (IsServed groups) (has_cpu set cpu) (record { control = c.control; monitor = Some gid }) (cond (has_monitor gid c) (joined c.control) c)
      (λ is. (served.0, may c.control (eqb-true c.control.0 parent.0 (parents (has_cpu set cpu) (has_control parent c) is known))))
      (λ is. cond-case (IsServed groups) (has_monitor gid c) (joined c.control) c (λ mine. (served.0, tt)) (λ other. served))
    where
      parents : (a b : Bool) → a ≡ true → (a && not b) ≡ false → b ≡ true
      parents true true is known = refl
      parents true false is known = absurd (let f : true ≡ false = known in cc)
      parents false b is known = absurd (let f : false ≡ true = is in cc)

  -- each CPU is served after a write of a set that nothing is against
  All-cpus_after : (kind : GroupKind) (cpus : List CpuGroups) → MayTake groups gid kind → IsCounted groups (record { 0 = 0 }) → against_set gid kind cpus set ≡ None → All (IsServed groups) cpus → All (IsServed groups) (cpus_after gid kind set cpus)
  All-cpus_after Control cpus may default none all = All-map (IsServed groups) (cpu_after gid Control set) (enumerate_from 0 cpus)
      (λ k d within. IsServed-after_control (get_or (enumerate_from 0 cpus) k d).0 (get_or (enumerate_from 0 cpus) k d).1 may default (All-enumerate_from (IsServed groups) 0 cpus all k d within))
  All-cpus_after (Monitor parent) cpus may default none all = All-map (IsServed groups) (cpu_after gid (Monitor parent) set) (enumerate_from 0 cpus)
      (λ k d within. IsServed-after_monitor parent (get_or (enumerate_from 0 cpus) k d).0 (get_or (enumerate_from 0 cpus) k d).1 may
      (All-from_none (is_strange parent set) (enumerate_from 0 cpus) (known (list_any (is_strange parent set) (enumerate_from 0 cpus)) none) k d within)
      (All-enumerate_from (IsServed groups) 0 cpus all k d within))
    where
      known : (b : Bool) → cond {A = Option Refusal} b (Some (plain NotParents)) None ≡ None → b ≡ false
      known true e = absurd (let f : Some (plain NotParents) ≡ None = e in cc)
      known false e = refl

-- a group that is not being locked may take tasks and CPUs
pub MayTake-open : (s : State) (g : Group) → find (has_gid g.gid) s.groups ≡ Some g → is_closed s (controlling g.gid g.kind) ≡ false → MayTake s.groups g.gid g.kind
MayTake-open s g found opened = at g.kind refl opened
  where
    at : (kind : GroupKind) → g.kind ≡ kind → is_closed s (controlling g.gid kind) ≡ false → MayTake s.groups g.gid kind
    at Control is opened = IsCounted-found g.gid s.groups g found (is_counted-open s g.gid g found opened)
    at (Monitor parent) is opened = λ control same. IsOf-found g.gid control s.groups g found (ap (λ (k : GroupKind). is_monitor_of control k) is ∙ eq-eqb control.0 parent.0 same)

-- an accepted write of CPUs keeps a sound tree
pub cpus-sound : (m : Parameters) (s : State) (g : Group) (read : Result (List ℕ) CpuFault) → IsSound m s → find (has_gid g.gid) s.groups ≡ Some g → refusal s g read ≡ None → IsSound m (accepted s g read)
unfolding accepted refusal
cpus-sound m s g (Err fault) sound found none = sound
cpus-sound m s g (Ok numbers) sound found none = at (is_closed s (controlling g.gid g.kind)) refl none
  where
    at : (b : Bool) → is_closed s (controlling g.gid g.kind) ≡ b → cond b (Some (plain Locking)) (against_set g.gid g.kind s.cpus (set_of numbers)) ≡ None
        → IsSound m (record s { cpus = cpus_after g.gid g.kind (set_of numbers) s.cpus })
    at true is e = absurd (let f : Some (plain Locking) ≡ None = e in cc)
    at false is e = record {
      named = sound.named;
      numbered = sound.numbered;
      masks = sound.masks;
      regions = sound.regions;
      lines = sound.lines;
      threshold = sound.threshold;
      tasks = sound.tasks;
      cpus = record {
        count = length-map (enumerate_from 0 s.cpus) (cpu_after g.gid g.kind (set_of numbers)) ∙ length-enumerate_from 0 s.cpus ∙ sound.cpus.count;
        each = All-cpus_after s.groups g.gid (set_of numbers) g.kind s.cpus (MayTake-open s g found is) (IsCounted-default s.groups s.next_gid sound.named) e sound.cpus.each;
      };
    }
