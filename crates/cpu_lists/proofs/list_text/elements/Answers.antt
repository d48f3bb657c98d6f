use Rattle.std.proofs.Common.{◌≡◌, ℕ, ◌<◌, true, false, List, [], ◌∷◌, ◌++◌, length, Some, None, sym, ap, subst, ◌∙◌, refl}
use Rattle.std.specs.List.{list_any, before_first, after_first, flat_map}
use Rattle.cpu_lists.specs.Sets.{is_among}
use Rattle.cpu_lists.specs.Masks.{comma}
use Rattle.cpu_lists.specs.Lists.{run_of, numbers_in}
use Rattle.cpu_lists.proofs.Pieces.{SoFar, SoFar-nil, each-bad_piece, each-last_piece, SoFar-next_piece}
use Rattle.cpu_lists.proofs.Members.{Collects-nil, Collects-flat_map_push}
use Rattle.cpu_lists.proofs.list_text.elements.Goals as goal

pub elements-init : goal.elements-init
elements-init c = record { done = ([], SoFar-nil run_of c.args.text.now, Collects-nil) }

pub returns-in_default : goal.returns-in_default
returns-in_default c =
    let so = c.elements.invariant.done in
    let none : run_of (before_first comma c.elements.left.now) ≡ None = ap run_of (sym c.cut.ensures.front) ∙ sym c.in_default.ensures.value in
    rw (each-bad_piece run_of c.args.text.now c.elements.left.now so.0 so.1 none) refl

pub returns-in_default-more : goal.returns-in_default-more
returns-in_default-more c =
    let so = c.elements.invariant.done in
    let one : run_of (before_first comma c.elements.left.now) ≡ Some c.in-Some.run' = ap run_of (sym c.cut.ensures.front) ∙ sym c.in-Some.ensures.value in
    let no_comma : list_any comma c.elements.left.now ≡ false = rw c.in_default-more.is at c.cut.ensures.back in
    rw (each-last_piece run_of c.args.text.now c.elements.left.now so.0 c.in-Some.run' so.1 no_comma one)
    (Collects-flat_map_push so.0 c.in-Some.run' c.with_run-found.result c.in-Some.ensures.ordered (c.with_run-found.ensures (is_among (flat_map numbers_in so.0)) so.2))

pub elements-preserved : goal.elements-preserved
elements-preserved c =
    let so = c.elements.invariant.done in
    let one : run_of (before_first comma c.elements.left.now) ≡ Some c.in-Some.run' = ap run_of (sym c.cut.ensures.front) ∙ sym c.in-Some.ensures.value in
    let back : (list_any comma c.elements.left.now ≡ true) × (c.in-Some-more.rest.now ≡ after_first comma c.elements.left.now) × (length c.in-Some-more.rest.now < length c.elements.left.now) = rw c.in-Some-more.is at c.cut.ensures.back in
    record {
      done = (
        so.0 ++ c.in-Some.run' ∷ [],
        subst (λ (rest : List ℕ). SoFar run_of c.args.text.now rest (so.0 ++ c.in-Some.run' ∷ [])) (sym back.1) (SoFar-next_piece run_of c.args.text.now c.elements.left.now so.0 c.in-Some.run' so.1 back.0 one),
        Collects-flat_map_push so.0 c.in-Some.run' c.with_run-found.result c.in-Some.ensures.ordered (c.with_run-found.ensures (is_among (flat_map numbers_in so.0)) so.2),
      );
    }
