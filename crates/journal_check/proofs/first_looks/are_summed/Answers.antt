use Rattle.std.proofs.Common.{◌≡◌, ℕ, ◌+◌, Option, Some, sym, ◌∙◌, subst, arith}
use Rattle.journal_check.proofs.FoundSums.{sum_found-over, sum_found-some}
use Rattle.journal_check.proofs.laws.Told.{is_false}
use Rattle.journal_check.specs.FirstLooks.{found_in, sum_found}
use Rattle.journal_check.proofs.first_looks.are_summed.Goals as goal

pub returns-in-None : goal.returns-in-None
returns-in-None c =
    let x = c.loop-x.x in
    let n = c.args.slices in
    let found : ℕ → Option ℕ = λ (i : ℕ). found_in c.args.looks.now (c.args.first + i) c.args.key in
    let sum = c.loop-x.invariant.0 in
    is_false (sum_found found n ≡ Some c.args.count)
    (λ total. sum_found-over found x n sum c.loop-x.left c.loop-x.invariant.1 (λ m is. c.in-None.ensures m (c.found.ensures ∙ is)) c.loop-x-test.true
    (subst (λ t. sum_found found n ≡ Some t) (sym c.loop-x.invariant.2) total))

pub loop-x-preserved : goal.loop-x-preserved
loop-x-preserved c =
    let x = c.loop-x.x in
    let found : ℕ → Option ℕ = λ (i : ℕ). found_in c.args.looks.now (c.args.first + i) c.args.key in
    let it = c.in-Some.ensures in
    let kept = c.loop-x.invariant.2 in
    let less = it.2 in
    (c.loop-x.invariant.0 + it.0, sum_found-some found x c.loop-x.invariant.0 it.0 c.loop-x.invariant.1 (sym c.found.ensures ∙ it.1), omega (arith, kept, less))
