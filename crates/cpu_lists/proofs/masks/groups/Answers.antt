use Rattle.std.proofs.Common.{◌≡◌, ℕ, ◌^◌, ◌<◌, true, false, List, [], ◌∷◌, ◌++◌, length, Some, None, sym, ap, subst, ◌∙◌, refl}
use Rattle.std.specs.List.{list_any, before_first, after_first}
use Rattle.cpu_lists.specs.Masks.{group_of, value_of, comma}
use Rattle.cpu_lists.proofs.Pieces.{SoFar, SoFar-nil, each-bad_piece, each-last_piece, SoFar-next_piece}
use Rattle.cpu_lists.proofs.Members.{Collects-zero, Collects-cpus_in, Collects-value_of_push, group_of-lt, AllByRecursion-push}
use Rattle.cpu_lists.proofs.masks.groups.Goals as goal

pub groups-init : goal.groups-init
groups-init c = record { done = ([], SoFar-nil group_of c.args.text.now, tt, Collects-zero) }

pub returns-in_default : goal.returns-in_default
returns-in_default c =
    let so = c.groups.invariant.done in
    let none : group_of (before_first comma c.groups.left.now) ≡ None = ap group_of (sym c.cut.ensures.front) ∙ sym c.in_default.ensures in
    rw (each-bad_piece group_of c.args.text.now c.groups.left.now so.0 so.1 none) refl

pub returns-in_default-more : goal.returns-in_default-more
returns-in_default-more c =
    let so = c.groups.invariant.done in
    let one : group_of (before_first comma c.groups.left.now) ≡ Some c.in-Some.group = ap group_of (sym c.cut.ensures.front) ∙ sym c.in-Some.ensures in
    let no_comma : list_any comma c.groups.left.now ≡ false = rw c.in_default-more.is at c.cut.ensures.back in
    rw (each-last_piece group_of c.args.text.now c.groups.left.now so.0 c.in-Some.group so.1 no_comma one)
    (Collects-cpus_in (so.0 ++ c.in-Some.group ∷ []) c.with_group-found.result (AllByRecursion-push (λ n. n < 2 ^ 32) so.0 c.in-Some.group so.2 (group_of-lt (before_first comma c.groups.left.now) c.in-Some.group one))
    (Collects-value_of_push so.0 c.in-Some.group c.with_group-found.result (c.with_group-found.ensures (value_of so.0) so.3)))

pub groups-preserved : goal.groups-preserved
groups-preserved c =
    let so = c.groups.invariant.done in
    let one : group_of (before_first comma c.groups.left.now) ≡ Some c.in-Some.group = ap group_of (sym c.cut.ensures.front) ∙ sym c.in-Some.ensures in
    let back : (list_any comma c.groups.left.now ≡ true) × (c.in-Some-more.rest.now ≡ after_first comma c.groups.left.now) × (length c.in-Some-more.rest.now < length c.groups.left.now) = rw c.in-Some-more.is at c.cut.ensures.back in
    record {
      done = (
        so.0 ++ c.in-Some.group ∷ [],
        subst (λ (rest : List ℕ). SoFar group_of c.args.text.now rest (so.0 ++ c.in-Some.group ∷ [])) (sym back.1) (SoFar-next_piece group_of c.args.text.now c.groups.left.now so.0 c.in-Some.group so.1 back.0 one),
        AllByRecursion-push (λ n. n < 2 ^ 32) so.0 c.in-Some.group so.2 (group_of-lt (before_first comma c.groups.left.now) c.in-Some.group one),
        Collects-value_of_push so.0 c.in-Some.group c.with_group-found.result (c.with_group-found.ensures (value_of so.0) so.3),
      );
    }
