-- What the lines so far keep to: their machines and their tasks.
use Rattle.std.proofs.Common.{◌≡◌, ℕ, ◌%◌, ◌<◌, ◌≤◌, Bool, true, false, cond, ◌&&◌, eqb, leb, List, [], ◌∷◌, All, Contains, Option, Some, None, Result, Ok, Err, IfOk, IfSome, option_and_then, refl, subst, arith, leb-true}
use Rattle.std.specs.List.{list_any}
use Rattle.std.proofs.lemmas.Bool.{and_parts, eqb-true}
use Rattle.machine.proofs.laws.Ranges.{is_machine-true}
use Rattle.machine.specs.Ranges.{is_machine}
use Rattle.pair_text.specs.Values.{AreMachines, HasShortName, Machines}
use Rattle.pair_text.specs.declared.op.PairOp.{PairOp}
use Rattle.pair_text.specs.declared.op.PairOp.TheVariants as ops
use Rattle.pair_text.specs.declared.pair_keys.PairKeys.{PairKeys}
use Rattle.pair_text.specs.PairKeys.{l2_from, machine_from, machines_from, machines_of, no_pair_keys, pair_keys_from}
use Rattle.pair_text.specs.PairLines.{PairState, fault_if, or_fault}
use Rattle.pair_text.specs.declared.fault.PairFault.{PairFault}
use Rattle.pair_text.specs.declared.kind.PairKind.{PairKind}
use Rattle.pair_text.specs.declared.kind.PairKind.TheVariants.{Cdp, Levels}
use Rattle.pair_text.specs.declared.kind.Place.{Place}
use Rattle.pair_text.specs.declared.kind.Place.TheVariants as places
use Rattle.script_lines.proofs.laws.TaskLists.{IsOrdered-tasks_of}
use Rattle.script_lines.proofs.laws.TaskRanges.{RiseFrom-with_range}
use Rattle.rc_base.specs.Faults.{◌>>=◌}
use Rattle.script_lines.specs.Tasks.{RiseFrom, count_of, declared, declared_from, ids_of, meets, tasks_of, with_range}
use Rattle.script_lines.specs.declared.fault.LineFault.{LineFault}
use Rattle.script_lines.specs.declared.tasks.TaskRange.{TaskRange}

-- ---- results

module _ {B : Type 0} (P : B → Type 0) where
  -- what follows a value
  pub IfOk-bind : {A : Type 0} (r : Result A PairFault) (f : A → Result B PairFault) → ((a : A) → r ≡ Ok a → IfOk (f a) P) → IfOk (r >>= f) P
  IfOk-bind (Ok a) f h = h a refl
  IfOk-bind (Err e) f h = tt

  -- what follows a value that may be missing
  pub IfOk-or_fault : {A : Type 0} (o : Option A) (fault : LineFault) (f : A → Result B PairFault) → ((a : A) → o ≡ Some a → IfOk (f a) P) → IfOk (or_fault o fault >>= f) P
  IfOk-or_fault None fault f h = tt
  IfOk-or_fault (Some a) fault f h = h a refl

  -- what follows a test
  pub IfOk-fault_if : (b : Bool) (fault : LineFault) (f : Unit {0} → Result B PairFault) → (b ≡ false → IfOk (f tt) P) → IfOk (fault_if b fault >>= f) P
  IfOk-fault_if true fault f h = tt
  IfOk-fault_if false fault f h = h refl

-- ---- states

-- a use is of a declared task and of a CPU of the machine, and a new group's name is short
abbrev pub FitsAt : ℕ → List ℕ → PairOp → Type 0
FitsAt cpus tasks (ops.Use task cpu line code) = Contains tasks task × (cpu < cpus)
FitsAt cpus tasks op = HasShortName op

-- before any op
abbrev pub is_early : Place → Bool
is_early places.Start = true
is_early places.Head = true
is_early place = false

-- the task and the CPU of an open trace
abbrev pub IsTraced : ℕ → List ℕ → Place → Type 0
IsTraced cpus tasks (places.Trace task cpu) = Contains tasks task × (cpu < cpus)
IsTraced cpus tasks place = Unit {0}

-- what the lines so far keep to
pub record IsReady (s : PairState) : Type 0 where
  pub machines : AreMachines s.machines
  pub tasks : RiseFrom 0 s.tasks
  pub few_tasks : count_of s.tasks ≤ 4096
  pub fit : All (FitsAt s.machines.machine.cpus (ids_of s.tasks)) s.ops
  pub traced : IsTraced s.machines.machine.cpus (ids_of s.tasks) s.place
  pub bare : is_early s.place ≡ true → s.ops ≡ []

-- ---- machines

-- the machine of a script on data and code masks
AreMachines-cdp : (k : PairKeys) → is_machine (machine_from Cdp k) ≡ true → 2 ≤ (machine_from Cdp k).classes → AreMachines (record { machine = machine_from Cdp k; l2 = None })
AreMachines-cdp k fits classes = record { in_range = is_machine-true (machine_from Cdp k) fits; one_slice = refl; some_class = omega (arith, classes); below = tt }

-- the machines of a script on two levels
AreMachines-levels : (k : PairKeys) → is_machine (machine_from Levels k) ≡ true → is_machine (l2_from k) ≡ true → (l2_from k).domains % (machine_from Levels k).domains ≡ 0 → AreMachines (record { machine = machine_from Levels k; l2 = Some (l2_from k) })
AreMachines-levels k fits l2 whole = record {
  in_range = is_machine-true (machine_from Levels k) fits;
  one_slice = refl;
  some_class = (is_machine-true (machine_from Levels k) fits).some_class;
  below = record { in_range = is_machine-true (l2_from k) l2; same_cpus = refl; whole = whole; one_slice = refl };
}

-- machines that keys give
IfSome-machines_from : (kind : PairKind) (k : PairKeys) → IfSome (machines_from kind k) AreMachines
unfolding machines_from
IfSome-machines_from Cdp k = at (is_machine (machine_from Cdp k) && leb 2 (machine_from Cdp k).classes) refl
  where
    at : (b : Bool) → (is_machine (machine_from Cdp k) && leb 2 (machine_from Cdp k).classes) ≡ b → IfSome (cond b (Some (record { machine = machine_from Cdp k; l2 = None })) None) AreMachines
    at true e = let p = and_parts (is_machine (machine_from Cdp k)) _ e in AreMachines-cdp k p.0 (leb-true _ _ p.1)
    at false e = tt
IfSome-machines_from Levels k = at (is_machine (machine_from Levels k) && (is_machine (l2_from k) && eqb ((l2_from k).domains % (machine_from Levels k).domains) 0)) refl
  where
    at : (b : Bool) → (is_machine (machine_from Levels k) && (is_machine (l2_from k) && eqb ((l2_from k).domains % (machine_from Levels k).domains) 0)) ≡ b → IfSome (cond b (Some (record { machine = machine_from Levels k; l2 = Some (l2_from k) })) None) AreMachines
    at true e =
        let p = and_parts (is_machine (machine_from Levels k)) _ e in
        let q = and_parts (is_machine (l2_from k)) _ p.1 in
        AreMachines-levels k p.0 q.0 (eqb-true _ _ q.1)
    at false e = tt

-- the machines of a machine line
pub AreMachines-machines_of : (kind : PairKind) (ws : List (List ℕ)) (m : Machines) → machines_of kind ws ≡ Some m → AreMachines m
AreMachines-machines_of kind ws m e = at (pair_keys_from kind no_pair_keys ws) e
  where
    at : (o : Option PairKeys) → option_and_then (machines_from kind) o ≡ Some m → AreMachines m
    at None e = absurd cc
    at (Some k) e = subst (λ (o : Option Machines). IfSome o AreMachines) e (IfSome-machines_from kind k)

-- ---- tasks

module _ (task_first : (word : List ℕ) (t : TaskRange) → tasks_of word ≡ Some t → t.first ≤ t.last) where
  RiseFrom-declared_from : (all : List TaskRange) (ws : List (List ℕ)) (p : List TaskRange) → RiseFrom 0 all → declared_from all ws ≡ Some p → RiseFrom 0 p
  unfolding declared_from
  RiseFrom-declared_from all [] p rise e = subst (λ (o : Option (List TaskRange)). IfSome o (RiseFrom 0)) e rise
  RiseFrom-declared_from all (w ∷ ws) p rise e = at (λ t rises f. RiseFrom-declared_from (with_range t all) ws p rises f) (tasks_of w) refl e
    where
      inner : ((t : TaskRange) → RiseFrom 0 (with_range t all) → declared_from (with_range t all) ws ≡ Some p → RiseFrom 0 p) → (t : TaskRange) → tasks_of w ≡ Some t → (b : Bool) → list_any (meets t) all ≡ b → cond b None (declared_from (with_range t all) ws) ≡ Some p → RiseFrom 0 p
      inner next t is true some e = absurd cc
      inner next t is false none e = next t (RiseFrom-with_range 0 all t rise (omega arith) (task_first w t is) none) e

      at : ((t : TaskRange) → RiseFrom 0 (with_range t all) → declared_from (with_range t all) ws ≡ Some p → RiseFrom 0 p) → (o : Option TaskRange) → tasks_of w ≡ o → option_and_then (λ t. cond (list_any (meets t) all) None (declared_from (with_range t all) ws)) o ≡ Some p → RiseFrom 0 p
      at next None is e = absurd cc
      at next (Some t) is e = inner next t is (list_any (meets t) all) refl e

-- the tasks of a line, after those before
pub RiseFrom-declared : (all : List TaskRange) (ws : List (List ℕ)) (p : List TaskRange) → RiseFrom 0 all → declared all ws ≡ Some p → RiseFrom 0 p
RiseFrom-declared all [] p rise e = absurd cc
RiseFrom-declared all (w ∷ ws) p rise e = RiseFrom-declared_from IsOrdered-tasks_of all (w ∷ ws) p rise e
