-- No more groups get ways than there are classes.
use Rattle.std.proofs.Common.{◌≡◌, ◌≢◌, ℕ, suc, ◌<◌, ◌≤◌, true, false, List, [], ◌∷◌, length, Option, Some, None, cond, refl, sym, arith, true≢false, inl, inr}
use Rattle.std.specs.Prelude.{All, AllPairs, IfSome, IsSome, filter}
use Rattle.std.specs.List.{flat_map}
use Rattle.std.specs.Option.{option_to_list}
use Rattle.std.proofs.lemmas.Bool.{cases_Bool}
use Rattle.std.proofs.lemmas.List.{length-append}
use Rattle.group_tree.specs.Records.{is_control}
use Rattle.group_tree.specs.declared.group.Group.{Group}
use Rattle.group_tree.specs.declared.group_kind.GroupKind.{GroupKind}
use Rattle.group_tree.specs.declared.group_kind.GroupKind.TheVariants.{Control, Monitor}
use Rattle.machine.specs.declared.parameters.Parameters.{Parameters}
use Rattle.rc_base.specs.declared.names.Mode.{Mode}
use Rattle.rc_base.specs.declared.names.Mode.TheVariants.{Shareable, Exclusive, LockSetup, Locked}
use Rattle.tree_law.proofs.laws.DistinctIds.{length-ids_of}
use Rattle.tree_law.specs.Counted.{is_counted, is_counted_mode}
use Rattle.tree_law.specs.Sound.{Differ, HasIds, HasIdsOf, IsSound}
use Rattle.tree_law.specs.State.{State}
use Rattle.way_plans.specs.Plans.{planned}

-- the classes of these groups
classes_of : List Group → List ℕ
classes_of groups = flat_map (λ (g : Group). option_to_list g.class) groups

-- where they differ and are below one, they are no more than that
length-classes_of : (n : ℕ) (groups : List Group) → AllPairs (λ (a b : Group). Differ a.class b.class) groups → All (λ (g : Group). IfSome g.class (λ id. id < n)) groups
    → length (classes_of groups) ≤ n
unfolding classes_of
length-classes_of n groups pairs below = length-ids_of (λ (g : Group). g.class) n groups pairs below

-- a counted group has a class
class-counted : (groups : List Group) (g : Group) → HasIds groups g.kind g → is_counted g ≡ true → IsSome g.class
class-counted groups g = by_kind g.kind
  where
    by_mode : (mode : Mode) → HasIdsOf mode g → is_counted_mode mode ≡ true → IsSome g.class
    by_mode Shareable ids is = ids.0
    by_mode Exclusive ids is = ids.0
    by_mode LockSetup ids is = absurd (true≢false (sym is))
    by_mode Locked ids is = absurd (true≢false (sym is))

    by_kind : (kind : GroupKind) → HasIds groups kind g → cond (is_control kind) (is_counted_mode g.mode) false ≡ true → IsSome g.class
    by_kind Control ids is = by_mode g.mode ids is
    by_kind (Monitor parent) ids is = absurd (true≢false (sym is))

-- so there are no more counted groups than classes of groups
length-counted : (all groups : List Group) → All (λ (g : Group). HasIds all g.kind g) groups → length (filter is_counted groups) ≤ length (classes_of groups)
unfolding classes_of
length-counted all [] ids = omega arith
length-counted all (g ∷ groups) ids =
    let rest = length-counted all groups (λ k d within. ids (suc k) d (omega (arith, within))) in
    let sum = length-append (option_to_list g.class) (classes_of groups) in
    elim (cases_Bool (is_counted g)) [
      | inl is ↦ let one = some g.class (class-counted all g (ids 0 g (omega arith)) is) in rw is (omega (arith, rest, sum, one))
      | inr is ↦ rw is (omega (arith, rest, sum))
    ]
  where
    some : (o : Option ℕ) → IsSome o → length (option_to_list o) ≡ 1
    some None is = absurd (true≢false (sym is))
    some (Some id) is = refl

-- no more groups get ways than there are classes
pub length-planned : (m : Parameters) (s : State) → IsSound m s → length (planned s) ≤ m.classes
length-planned m s sound =
    let counted = length-counted s.groups s.groups sound.numbered.ids in
    let few = length-classes_of m.classes s.groups (λ i j d before within. (sound.numbered.apart i j d before within).0) sound.numbered.classes in
    omega (arith, counted, few)
