-- What the tests of a change of mode say of the group.
use Rattle.std.proofs.Common.{◌≡◌, ◌≢◌, true, false, not, ◌&&◌, cond, eqb, List, [], ◌∷◌, None, Some, IsSome, Result, Ok, Err, refl, sym, subst, ap, ◌∙◌}
use Rattle.std.proofs.lemmas.Bool.{not-false}
use Rattle.group_tree.specs.Records.{is_control, is_mode}
use Rattle.group_tree.specs.declared.group.Group.{Group}
use Rattle.group_tree.specs.declared.group_kind.GroupKind.{GroupKind}
use Rattle.group_tree.specs.declared.group_kind.GroupKind.TheVariants.{Control, Monitor}
use Rattle.mode_rules.specs.Refusals.{first_of}
use Rattle.mode_rules.specs.Setup.{Holdings, entry_refusal, keeps_out}
use Rattle.rc_base.specs.declared.names.Mode.{Mode}
use Rattle.rc_base.specs.declared.names.Mode.TheVariants.{Shareable, Exclusive, LockSetup, Locked}
use Rattle.rc_base.specs.declared.replies.Why.{Why}
use Rattle.rc_base.specs.declared.replies.Why.TheVariants.{DefaultGroup, HasMonGroups, HasTasks, HasCpus}
use Rattle.tree_law.proofs.laws.Refusals.{cond-Ok}
use Rattle.tree_law.specs.Counted.{is_counted_mode}
use Rattle.tree_law.specs.Refusals.{plain}
use Rattle.tree_law.specs.Sound.{HasIds, HasIdsOf}
use Rattle.tree_law.specs.commands.Mode.{reason_of}
use Rattle.tree_law.specs.commands.Schemata.{is_locked}

-- a group that nothing keeps out of pseudo-locksetup
pub record MayEnter (h : Holdings) : Type 0 where
  pub other : h.is_default ≡ false
  pub monitors : eqb h.monitors 0 ≡ true
  pub tasks : eqb h.tasks 0 ≡ true
  pub cpus : eqb h.cpus 0 ≡ true

-- a group that nothing keeps out of pseudo-locksetup may enter it
pub MayEnter-none : (h : Holdings) → reason_of (entry_refusal h) ≡ None → MayEnter h
unfolding entry_refusal
MayEnter-none h none =
    let is = entered (first_of (keeps_out h) (DefaultGroup ∷ HasMonGroups ∷ HasTasks ∷ HasCpus ∷ [])) none in
    let one = cond-Ok h.is_default DefaultGroup _ tt is in
    let two = cond-Ok (not (eqb h.monitors 0)) HasMonGroups _ tt one.1 in
    let three = cond-Ok (not (eqb h.tasks 0)) HasTasks _ tt two.1 in
    let four = cond-Ok (not (eqb h.cpus 0)) HasCpus _ tt three.1 in
    record { other = one.0; monitors = not-false (eqb h.monitors 0) two.0; tasks = not-false (eqb h.tasks 0) three.0; cpus = not-false (eqb h.cpus 0) four.0 }
  where
    entered : (r : Result (Unit {0}) Why) → reason_of r ≡ None → r ≡ Ok tt
    entered (Ok u) e = refl
    entered (Err why) e = absurd (let f : Some (plain why) ≡ None = e in cc)

-- a control group that is not pseudo-locked has a class
pub IsSome-class : (groups : List Group) (kind : GroupKind) (g : Group) → is_control kind ≡ true → is_locked g.mode ≡ false → HasIds groups kind g → IsSome g.class
IsSome-class groups (Monitor p) g control unlocked has = absurd (let f : false ≡ true = control in cc)
IsSome-class groups Control g control unlocked has = at g.mode unlocked has
  where
    at : (mode : Mode) → is_locked mode ≡ false → HasIdsOf mode g → IsSome g.class
    at Shareable u h = h.0
    at Exclusive u h = h.0
    at LockSetup u h = h.0
    at Locked u h = absurd (let f : true ≡ false = u in cc)

-- a mode that fails the test of locked is another mode
pub is_locked-false : (mode : Mode) → is_locked mode ≡ false → mode ≢ Locked
is_locked-false mode unlocked e = let f : true ≡ false = sym (ap is_locked e) ∙ unlocked in cc

-- a group in another mode is not pseudo-locked
pub has_mode-unlocked : (kind : GroupKind) (mode : Mode) → is_locked mode ≡ false → (is_control kind && is_mode Locked mode) ≡ false
has_mode-unlocked (Monitor p) mode e = refl
has_mode-unlocked Control Shareable e = refl
has_mode-unlocked Control Exclusive e = refl
has_mode-unlocked Control LockSetup e = refl
has_mode-unlocked Control Locked e = e

-- a control group has the ids of its kind where it has those of its mode
pub HasIds-control : (groups : List Group) (kind : GroupKind) (new : Group) (mode : Mode) → new.mode ≡ mode → is_control kind ≡ true → HasIdsOf mode new → HasIds groups kind new
HasIds-control groups Control new mode is control has = subst (λ (x : Mode). HasIdsOf x new) (sym is) has
HasIds-control groups (Monitor p) new mode is control has = absurd (let f : false ≡ true = control in cc)

-- in a counted mode a class and an RMID are the ids
pub HasIdsOf-counted : (mode : Mode) (new : Group) → is_counted_mode mode ≡ true → IsSome new.class → IsSome new.rmid → HasIdsOf mode new
HasIdsOf-counted Shareable new c class rmid = (class, rmid)
HasIdsOf-counted Exclusive new c class rmid = (class, rmid)
HasIdsOf-counted LockSetup new c class rmid = absurd (let f : false ≡ true = c in cc)
HasIdsOf-counted Locked new c class rmid = absurd (let f : false ≡ true = c in cc)

-- a control group in a counted mode is counted
pub cond-counted : (kind : GroupKind) (mode : Mode) → is_control kind ≡ true → is_counted_mode mode ≡ true → cond (is_control kind) (is_counted_mode mode) false ≡ true
cond-counted Control mode control counted = counted
cond-counted (Monitor p) mode control counted = absurd (let f : false ≡ true = control in cc)

-- a counted mode is not locked
pub is_locked-counted : (mode : Mode) → is_counted_mode mode ≡ true → is_locked mode ≡ false
is_locked-counted Shareable e = refl
is_locked-counted Exclusive e = refl
is_locked-counted LockSetup e = refl
is_locked-counted Locked e = absurd (let f : false ≡ true = e in cc)
