use Rattle.std.proofs.Common.{is_none, sym, unwrap_or, ap, arith}
use Rattle.pair_law.specs.Others.{initial_mask}
use Rattle.pair_text.specs.Values.{side_machine}
use Rattle.pair_tree.proofs.NewGroups.{find-full, find-full_none}
use Rattle.lists.proofs.RangeTests.{append-filled}
use Rattle.pair_tree.specs.Tables.{state_of}
use Rattle.pair_tree.proofs.tables.Tables.new_masks.Goals as goal

pub returns-in_default : goal.returns-in_default
returns-in_default c =
    find-full c.args.m.now (state_of c.args.self.now) c.args.side c.loop-domain.domain (omega (arith, c.domains-domain-end.ensures.domains)) c.loop-domain.invariant.space (ap is_none (sym c.in_default.ensures))

pub returns : goal.returns
returns c =
    let m = c.args.m.now in
    let s = state_of c.args.self.now in
    let n = (side_machine m c.args.side).domains in (
      find-full_none m s c.args.side (λ k lt. c.loop-domain.invariant.space k (omega (arith, c.domains-domain-end.ensures.domains))),
      append-filled (λ d. unwrap_or (initial_mask m s (record { side = c.args.side; domain = d })) 0) c.loop-domain.masks n (omega (arith, c.domains-domain-end.ensures.domains, c.domains-domain-end.ensures.few)) c.loop-domain.invariant.count
          (λ k lt. c.loop-domain.invariant.before k (omega (arith, c.domains-domain-end.ensures.domains))) (λ k le. c.loop-domain.invariant.behind k (omega (arith, c.domains-domain-end.ensures.domains))),
    )
