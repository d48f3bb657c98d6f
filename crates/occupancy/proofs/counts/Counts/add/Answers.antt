use Rattle.std.proofs.Common.{◌≡◌, ◌==◌, ◌-◌, set, ◌+◌, ◌<◌, ◌^◌, ℕ, List, length, slice_index, subst, arith, sym, ◌∙◌, ap}
use Rattle.std.proofs.lemmas.List.{get_or_default, length-set}
use Rattle.lists.specs.Sums.{one_if, sum_below}
use Rattle.occupancy.proofs.Numbers.{get_or-set_more, sum_below-more, le-sum_below}
use Rattle.occupancy.proofs.counts.Counts.add.Goals as goal

pub overflow_add-index_mut : goal.overflow_add-index_mut
overflow_add-index_mut c =
    let xs : List ℕ = c.self.inside.each.items in
    let within : c.args.rmid < length xs = subst (λ ys. c.args.rmid < length ys) (sym c.self.view_is) c.requires.rmid in
    let value : c.index_mut.result.now ≡ slice_index xs c.args.rmid = c.index_mut.ensures.value ∙ get_or_default xs c.args.rmid c.index_mut.result.now 0 within in
    let room : sum_below (length xs) (slice_index xs) < 2 ^ 64 - 1 = subst (λ ys. sum_below (length ys) (slice_index ys) < 2 ^ 64 - 1) (sym c.self.view_is) c.requires.room in
    omega (arith, value, room, le-sum_below (length xs) c.args.rmid (slice_index xs) within)

pub overflow_add-self : goal.overflow_add-self
overflow_add-self c =
    let xs : List ℕ = c.self.inside.each.items in
    let room : sum_below (length xs) (slice_index xs) < 2 ^ 64 - 1 = subst (λ ys. sum_below (length ys) (slice_index ys) < 2 ^ 64 - 1) (sym c.self.view_is) c.requires.room in
    omega (arith, c.self.invariant, room)

pub invariant_of-self : goal.invariant_of-self
invariant_of-self c =
    let xs : List ℕ = c.self.inside.each.items in
    let new : List ℕ = set xs c.args.rmid (c.index_mut.result.now + 1) in
    let within : c.args.rmid < length xs = subst (λ ys. c.args.rmid < length ys) (sym c.self.view_is) c.requires.rmid in
    let value : c.index_mut.result.now ≡ slice_index xs c.args.rmid = c.index_mut.ensures.value ∙ get_or_default xs c.args.rmid c.index_mut.result.now 0 within in
    ap (λ n. n + 1) c.self.invariant
    ∙ (sym (sum_below-more (length xs) c.args.rmid 1 (slice_index xs) (slice_index new) within (λ r. get_or-set_more xs c.args.rmid r (c.index_mut.result.now + 1) 1 within (ap (λ n. n + 1) value)))
    ∙ ap (λ n. sum_below n (slice_index new)) (sym (length-set xs c.args.rmid (c.index_mut.result.now + 1))))

pub returns-clause-more : goal.returns-clause-more
returns-clause-more c r =
    let xs : List ℕ = c.self.inside.each.items in
    let within : c.args.rmid < length xs = subst (λ ys. c.args.rmid < length ys) (sym c.self.view_is) c.requires.rmid in
    let value : c.index_mut.result.now ≡ slice_index xs c.args.rmid = c.index_mut.ensures.value ∙ get_or_default xs c.args.rmid c.index_mut.result.now 0 within in
    get_or-set_more xs c.args.rmid r (c.index_mut.result.now + 1) 1 within (ap (λ n. n + 1) value) ∙ ap (λ ys. slice_index ys r + one_if (c.args.rmid == r)) c.self.view_is
