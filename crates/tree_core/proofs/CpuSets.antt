-- The groups of CPUs after a set was given, and what is against a set.
use Rattle.std.proofs.Common.{◌≡◌, ℕ, suc, ◌+◌, ◌<◌, Bool, true, false, not, ◌&&◌, cond, List, [], ◌∷◌, length, map, get_or, None, Some, Result, Ok, Err, IsErr, refl, sym, subst, ap, ap₂, ◌∙◌, arith}
use Rattle.std.specs.Prelude.{◌↔◌}
use Rattle.std.specs.List.{enumerate_from, list_any}
use Rattle.std.proofs.lemmas.Bool.{and_parts, eqb-true, not-true}
use Rattle.std.proofs.lemmas.List.{get_or_default}
use Rattle.std.proofs.lemmas.List.FromFn.{get_or-enumerate_from, length-enumerate_from}
use Rattle.std.proofs.lemmas.List.Folds.{Any-from_list_any, list_any_at}
use Rattle.cpu_binding.specs.Groups.{Changes, DropsSome, HasOthers, after_control, after_monitor, has_control, opening_cpu}
use Rattle.cpu_binding.specs.Sets.{has_cpu}
use Rattle.cpu_binding.specs.declared.groups.CpuGroups.{CpuGroups}
use Rattle.group_tree.specs.declared.group_kind.GroupKind.TheVariants.{Control, Monitor}
use Rattle.rc_base.specs.Gids.{default_gid, is_default}
use Rattle.rc_base.specs.declared.names.Gid.{Gid}
use Rattle.rc_base.specs.declared.replies.Why.TheVariants.{DropsDefault, NotParents}
use Rattle.tree_law.specs.Refusals.{plain}
use Rattle.tree_law.specs.commands.Cpus.{against_set, cpus_after, is_dropped, is_strange}

-- ---- the groups of the CPUs after a change

-- a list that was changed place by place
list-changed : (how : ℕ → CpuGroups → CpuGroups) (n : ℕ) (before after : List CpuGroups) → length after ≡ length before
    → ((cpu : ℕ) (d : CpuGroups) → cpu < length before → get_or after cpu d ≡ how (n + cpu) (get_or before cpu d)) → after ≡ map (λ (e : ℕ × CpuGroups). how e.0 e.1) (enumerate_from n before)
list-changed how n [] [] count each = refl
list-changed how n [] (y ∷ ys) count each = absurd (omega arith)
list-changed how n (x ∷ xs) [] count each = absurd (omega arith)
list-changed how n (x ∷ xs) (y ∷ ys) count each =
    let first : n + 0 ≡ n = omega arith in
    ap₂ (λ (c : CpuGroups) (cs : List CpuGroups). c ∷ cs) (each 0 x (omega arith) ∙ ap (λ (i : ℕ). how i x) first)
    (list-changed how (n + 1) xs ys (omega arith) (λ cpu d within. let place : n + suc cpu ≡ n + 1 + cpu = omega arith in each (suc cpu) d (omega arith) ∙ ap (λ (i : ℕ). how i (get_or xs cpu d)) place))

-- the groups of the CPUs after a control group took a set
pub cpus_after-control : (gid : Gid) (set : ℕ) (before after : List CpuGroups) → Changes (after_control gid set) before after → after ≡ cpus_after gid Control set before
cpus_after-control gid set before after changes = list-changed (after_control gid set) 0 before after changes.count
    (λ cpu d within. let place : cpu ≡ 0 + cpu = omega arith in changes.each cpu d within ∙ ap (λ (i : ℕ). after_control gid set i (get_or before cpu d)) place)

-- and after a monitor group took one
pub cpus_after-monitor : (gid parent : Gid) (set : ℕ) (before after : List CpuGroups) → Changes (after_monitor gid set) before after → after ≡ cpus_after gid (Monitor parent) set before
cpus_after-monitor gid parent set before after changes = list-changed (after_monitor gid set) 0 before after changes.count
    (λ cpu d within. let place : cpu ≡ 0 + cpu = omega arith in changes.each cpu d within ∙ ap (λ (i : ℕ). after_monitor gid set i (get_or before cpu d)) place)

-- ---- what is against a set

-- a CPU with its number
get_or-enumerate : (cpus : List CpuGroups) (k : ℕ) (d : ℕ × CpuGroups) → k < length cpus → get_or (enumerate_from 0 cpus) k d ≡ (k, get_or cpus k d.1)
get_or-enumerate cpus k d within = let place : 0 + k ≡ k = omega arith in get_or-enumerate_from 0 cpus k d within ∙ ap {B = ℕ × CpuGroups} (λ n. (n, get_or cpus k d.1)) place

module _ (test : ℕ × CpuGroups → Bool) (cpus : List CpuGroups) where
  -- some CPU passes a test, at its place
  abbrev pub Passes : Type 0
  Passes = (cpu : ℕ) × (cpu < length cpus) × (test (cpu, get_or cpus cpu opening_cpu) ≡ true)

  -- such a CPU is found
  pub list_any-passes : Passes → list_any test (enumerate_from 0 cpus) ≡ true
  list_any-passes p = list_any_at test (enumerate_from 0 cpus) p.0 (p.0, opening_cpu) (omega (arith, p.1, length-enumerate_from 0 cpus))
      (ap test (get_or-enumerate cpus p.0 (p.0, opening_cpu) p.1) ∙ p.2)

  -- what is found is such a CPU
  pub Passes-list_any : list_any test (enumerate_from 0 cpus) ≡ true → Passes
  Passes-list_any some =
      let x = Any-from_list_any test (enumerate_from 0 cpus) some in
      let within : x.0 < length cpus = omega (arith, x.2, length-enumerate_from 0 cpus) in
      let found : (x.0, get_or cpus x.0 opening_cpu) ≡ x.1 = sym (get_or-enumerate cpus x.0 (x.0, opening_cpu) within) ∙ get_or_default (enumerate_from 0 cpus) x.0 (x.0, opening_cpu) x.1 x.2 ∙ x.3 in
      (x.0, within, ap test found ∙ x.4)

-- two tests that pass
both-true : (a b : Bool) → a ≡ true → b ≡ true → (a && b) ≡ true
both-true true true is is' = refl
both-true true false is is' = is'
both-true false b is is' = is

-- the default group drops some CPU
DropsSome-passes : (set : ℕ) (cpus : List CpuGroups) → Passes (is_dropped set) cpus → DropsSome set cpus
DropsSome-passes set cpus p =
    let both = and_parts (has_control default_gid (get_or cpus p.0 opening_cpu)) (not (has_cpu set p.0)) p.2 in
    (p.0, p.1, both.0, not-true (has_cpu set p.0) both.1)

Passes-drops : (set : ℕ) (cpus : List CpuGroups) → DropsSome set cpus → Passes (is_dropped set) cpus
Passes-drops set cpus d = (d.0, d.1, both-true (has_control default_gid (get_or cpus d.0 opening_cpu)) (not (has_cpu set d.0)) d.2 (ap not d.3))

-- a CPU of a set is not the parent's
HasOthers-passes : (parent : Gid) (set : ℕ) (cpus : List CpuGroups) → Passes (is_strange parent set) cpus → HasOthers parent set cpus
HasOthers-passes parent set cpus p =
    let both = and_parts (has_cpu set p.0) (not (has_control parent (get_or cpus p.0 opening_cpu))) p.2 in
    (p.0, p.1, not-true (has_control parent (get_or cpus p.0 opening_cpu)) both.1, both.0)

Passes-others : (parent : Gid) (set : ℕ) (cpus : List CpuGroups) → HasOthers parent set cpus → Passes (is_strange parent set) cpus
Passes-others parent set cpus h = (h.0, h.1, both-true (has_cpu set h.0) (not (has_control parent (get_or cpus h.0 opening_cpu))) h.3 (ap not h.2))

-- what is not refused is not against the set
pub not-refused : {E X : Type 0} (r : Result Unit E) (u : Unit) → (IsErr r ↔ X) → r ≡ Ok u → X → ⊥
not-refused r u when is x = at r is (when.1 x)
  where
    at : {E : Type 0} (o : Result Unit E) → o ≡ Ok u → IsErr o → ⊥
    at (Ok v) e err = let f : false ≡ true = err in cc
    at (Err v) e err = let f : Err v ≡ Ok u = e in cc

-- an error is one
pub is_err-true : {E : Type 0} (r : Result Unit E) (e : E) → r ≡ Err e → IsErr r
is_err-true r e is = subst IsErr (sym is) refl

-- nothing is against the set of a control group
pub against-control_none : (gid : Gid) (set : ℕ) (cpus : List CpuGroups) → ((gid ≡ default_gid) × DropsSome set cpus → ⊥) → against_set gid Control cpus set ≡ None
against-control_none gid set cpus none = at (is_default gid) (list_any (is_dropped set) (enumerate_from 0 cpus)) refl refl
  where
    gid_of : ℕ → Gid
    gid_of n = record { 0 = n }

    at : (a b : Bool) → is_default gid ≡ a → list_any (is_dropped set) (enumerate_from 0 cpus) ≡ b → cond (a && b) (Some (plain DropsDefault)) None ≡ None
    at true true is some = absurd (none (ap gid_of (eqb-true gid.0 0 is), DropsSome-passes set cpus (Passes-list_any (is_dropped set) cpus some)))
    at true false is some = refl
    at false b is some = refl

-- the default group would drop a CPU
pub against-control_some : (gid : Gid) (set : ℕ) (cpus : List CpuGroups) → (gid ≡ default_gid) × DropsSome set cpus → against_set gid Control cpus set ≡ Some (plain DropsDefault)
against-control_some gid set cpus drops =
    ap (λ (b : Bool). cond b (Some (plain DropsDefault)) None) (both-true (is_default gid) (list_any (is_dropped set) (enumerate_from 0 cpus)) (ap is_default drops.0) (list_any-passes (is_dropped set) cpus (Passes-drops set cpus drops.1)))

-- nothing is against the set of a monitor group
pub against-monitor_none : (gid parent : Gid) (set : ℕ) (cpus : List CpuGroups) → (HasOthers parent set cpus → ⊥) → against_set gid (Monitor parent) cpus set ≡ None
against-monitor_none gid parent set cpus none = at (list_any (is_strange parent set) (enumerate_from 0 cpus)) refl
  where
    at : (b : Bool) → list_any (is_strange parent set) (enumerate_from 0 cpus) ≡ b → cond b (Some (plain NotParents)) None ≡ None
    at true some = absurd (none (HasOthers-passes parent set cpus (Passes-list_any (is_strange parent set) cpus some)))
    at false some = refl

-- a monitor group would hold a CPU that is not its parent's
pub against-monitor_some : (gid parent : Gid) (set : ℕ) (cpus : List CpuGroups) → HasOthers parent set cpus → against_set gid (Monitor parent) cpus set ≡ Some (plain NotParents)
against-monitor_some gid parent set cpus others = ap (λ (b : Bool). cond b (Some (plain NotParents)) None) (list_any-passes (is_strange parent set) cpus (Passes-others parent set cpus others))
