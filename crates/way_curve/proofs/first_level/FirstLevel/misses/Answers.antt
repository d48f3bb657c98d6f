use Rattle.std.proofs.Common.{◌≡◌, ℕ, ◌%◌, ◌<◌, List, [], ◌∷◌, ◌++◌, length, set, get_or, Option, vec_len, not, rules, refl, sym, ap, ◌∙◌, subst, length-set}
use Rattle.std.specs.Prelude.{position}
use Rattle.std.proofs.Math.Nat.{mod-lt}
use Rattle.std.proofs.lemmas.List.{get_or_default}
use Rattle.way_curve.specs.Curves.{is_set_hit}
use Rattle.way_curve.specs.Distances.{is_below}
use Rattle.way_curve.specs.FirstLevels.{is_missing}
use Rattle.way_curve.specs.LevelSteps.{HasUsed, LevelValue}
use Rattle.way_curve.specs.Slots.{dropped, has_line, pushed}
use Rattle.way_curve.proofs.CurveSteps.{is_below-hit, recent-more}
use Rattle.way_curve.proofs.first_level.FirstLevel.misses.Goals as goal

pub returns-clause-used : goal.returns-clause-used
returns-clause-used c = λ lines used.
    let sets = c.self.inside.recent.items in
    let x = c.args.line in
    let long : vec_len c.self.inside.recent ≡ length sets = search rules in
    let place : c.set_of-set.result ≡ x % length sets = c.set_of-set.ensures ∙ ap (λ (n : ℕ). x % n) (c.len.ensures ∙ long) in
    let below : x % length sets < length sets = mod-lt x c.self.invariant.some in
    let own : c.index_mut.result.now ≡ get_or sets (x % length sets) [] = c.index_mut.ensures.value ∙ (ap (λ (k : ℕ). get_or sets k c.index_mut.result.now) place ∙ get_or_default sets (x % length sets) c.index_mut.result.now [] below) in
    let is : HasUsed _ lines = subst (λ (v : LevelValue). HasUsed v lines) (sym c.self.view_is) used in
    let next = recent-more (length sets) sets lines x below refl is.recent in
    let moved : c.note-distance.new.self ≡ pushed x (dropped x (get_or sets (x % length sets) [])) = c.note-distance.ensures.moved ∙ ap (λ (l : List (Option ℕ)). pushed x (dropped x l)) own in
    let kept : set sets c.set_of-set.result c.note-distance.new.self ≡ set sets (x % length sets) (pushed x (dropped x (get_or sets (x % length sets) []))) =
    ap (λ (k : ℕ). set sets k c.note-distance.new.self) place ∙ ap (λ (l : List (Option ℕ)). set sets (x % length sets) l) moved in
    subst (λ (n : ℕ). HasUsed (record { shape = record { sets = n; ways = c.self.inside.ways }; recent = set sets c.set_of-set.result c.note-distance.new.self }) (lines ++ x ∷ []))
    (sym (length-set sets c.set_of-set.result c.note-distance.new.self))
    (subst (λ (r : List (List (Option ℕ))). HasUsed (record { shape = record { sets = length sets; ways = c.self.inside.ways }; recent = r }) (lines ++ x ∷ [])) (sym kept) (record { recent = next }))

pub returns-clause-misses : goal.returns-clause-misses
returns-clause-misses c = λ lines used.
    let sets = c.self.inside.recent.items in
    let ways = c.self.inside.ways in
    let x = c.args.line in
    let long : vec_len c.self.inside.recent ≡ length sets = search rules in
    let place : c.set_of-set.result ≡ x % length sets = c.set_of-set.ensures ∙ ap (λ (n : ℕ). x % n) (c.len.ensures ∙ long) in
    let below : x % length sets < length sets = mod-lt x c.self.invariant.some in
    let own : c.index_mut.result.now ≡ get_or sets (x % length sets) [] = c.index_mut.ensures.value ∙ (ap (λ (k : ℕ). get_or sets k c.index_mut.result.now) place ∙ get_or_default sets (x % length sets) c.index_mut.result.now [] below) in
    let is : HasUsed _ lines = subst (λ (v : LevelValue). HasUsed v lines) (sym c.self.view_is) used in
    let slots : List (Option ℕ) = get_or sets (x % length sets) [] in
    let slot : c.note-distance.result ≡ position (has_line x) slots = c.note-distance.ensures.slot ∙ ap (λ (l : List (Option ℕ)). position (has_line x) l) own in
    let hit : is_below ways c.note-distance.result ≡ is_set_hit (length sets) ways lines x =
    ap (λ (o : Option ℕ). is_below ways o) slot ∙ is_below-hit (length sets) ways x lines slots c.self.invariant.few (is.recent (x % length sets) below) in
    ap not (c.is_within.ensures ∙ hit) ∙ ap (λ (v : LevelValue). is_missing v.shape lines x) c.self.view_is
