use Rattle.std.proofs.Common.{ℕ, List, [], ◌∷◌, length, sym, subst, ap, arith}
use Rattle.std.proofs.lemmas.List.{length-append}
use Rattle.pair_windows.proofs.Turns.{Each-push}
use Rattle.pair_windows.specs.CdpWalks.{IsWalkedIn}
use Rattle.pair_windows.specs.DomainWalks.{Each}
use Rattle.pair_windows.specs.declared.cdp_walks.CdpWalk.{CdpWalk}
use Rattle.pair_windows.proofs.cdp_domains.fresh_walks.Goals as goal

pub loop-domain-preserved : goal.loop-domain-preserved
loop-domain-preserved c =
    let run = c.args.run.now in
    let old : List CdpWalk = c.loop-domain.walks.items in
    let x : CdpWalk = c.fresh_walk.result in
    let before = c.loop-domain.invariant in
    let count = before.so_many in
    let is = ap (λ (l : List CdpWalk). length l) c.in_ok-push.ensures.items in
    record {
      so_many = omega (arith, is, count, length-append old (x ∷ []));
      all_walked = subst (Each (IsWalkedIn run 0 0)) (sym c.in_ok-push.ensures.items) (Each-push (IsWalkedIn run 0 0) old x before.all_walked (subst (λ (n : ℕ). IsWalkedIn run 0 0 n x) (sym count) c.fresh_walk.ensures));
    }
