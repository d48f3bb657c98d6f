use Rattle.std.proofs.Common.{◌≡◌, ◌+◌, ◌-◌, ◌<◌, ℕ, List, length, set, slice_index, subst, arith, sym, ◌∙◌, ap}
use Rattle.std.proofs.lemmas.List.{get_or_default, length-set}
use Rattle.lists.specs.Sums.{sum_below}
use Rattle.occupancy.proofs.Numbers.{get_or-set_less, sum_below-more, le-sum_below}
use Rattle.occupancy.proofs.counts.Counts.sub.Goals as goal

pub overflow_sub-self : goal.overflow_sub-self
overflow_sub-self c =
    let xs : List ℕ = c.self.inside.each.items in
    let within : c.args.rmid < length xs = subst (λ ys. c.args.rmid < length ys) (sym c.self.view_is) c.requires.rmid in
    let some : 0 < slice_index xs c.args.rmid = subst (λ ys. 0 < slice_index ys c.args.rmid) (sym c.self.view_is) c.requires.some in
    omega (arith, some, c.self.invariant, le-sum_below (length xs) c.args.rmid (slice_index xs) within)

pub invariant_of-self : goal.invariant_of-self
invariant_of-self c =
    let xs : List ℕ = c.self.inside.each.items in
    let new : List ℕ = set xs c.args.rmid (c.index_mut.result.now - 1) in
    let within : c.args.rmid < length xs = subst (λ ys. c.args.rmid < length ys) (sym c.self.view_is) c.requires.rmid in
    let some : 0 < slice_index xs c.args.rmid = subst (λ ys. 0 < slice_index ys c.args.rmid) (sym c.self.view_is) c.requires.some in
    let value : c.index_mut.result.now ≡ slice_index xs c.args.rmid = c.index_mut.ensures.value ∙ get_or_default xs c.args.rmid c.index_mut.result.now 0 within in
    let sums : sum_below (length xs) (slice_index xs) ≡ sum_below (length xs) (slice_index new) + 1 =
    sum_below-more (length xs) c.args.rmid 1 (slice_index new) (slice_index xs) within (λ r. get_or-set_less xs c.args.rmid r (c.index_mut.result.now - 1) within (omega (arith, value, some))) in
    let same : sum_below (length xs) (slice_index new) ≡ sum_below (length new) (slice_index new) = ap (λ n. sum_below n (slice_index new)) (sym (length-set xs c.args.rmid (c.index_mut.result.now - 1))) in
    omega (arith, c.self.invariant, sums) ∙ same

pub returns-clause-less : goal.returns-clause-less
returns-clause-less c r =
    let xs : List ℕ = c.self.inside.each.items in
    let within : c.args.rmid < length xs = subst (λ ys. c.args.rmid < length ys) (sym c.self.view_is) c.requires.rmid in
    let some : 0 < slice_index xs c.args.rmid = subst (λ ys. 0 < slice_index ys c.args.rmid) (sym c.self.view_is) c.requires.some in
    let value : c.index_mut.result.now ≡ slice_index xs c.args.rmid = c.index_mut.ensures.value ∙ get_or_default xs c.args.rmid c.index_mut.result.now 0 within in
    ap (λ ys. slice_index ys r) (sym c.self.view_is) ∙ get_or-set_less xs c.args.rmid r (c.index_mut.result.now - 1) within (omega (arith, value, some))
