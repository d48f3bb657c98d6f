use Rattle.std.proofs.Common.{◌≡◌, ℕ, List, length, subst, ap, arith}
use Rattle.pair_text.specs.declared.op.PairOp.{PairOp}
use Rattle.pair_windows.specs.DomainWalks.{Each, HasFound}
use Rattle.pair_windows.proofs.joint_listing.push_flushes.Goals as goal

pub loop-alloc-init : goal.loop-alloc-init
loop-alloc-init c = record { has_taken = c.requires.taken; within = c.requires.segment.within; at_flush = c.requires.segment.ends; found = c.requires.found }

pub loop-alloc-preserved : goal.loop-alloc-preserved
loop-alloc-preserved c = record {
  has_taken = c.in_ok-push_flush.ensures.taken;
  within = c.in_ok-push_flush.ensures.segment.within;
  at_flush = c.in_ok-push_flush.ensures.segment.ends;
  found = c.in_ok-push_flush.ensures.found;
}

pub returns : goal.returns
returns c =
    let script = c.args.script.now in
    let test = c.loop-alloc-test.false in
    let here = c.place.ensures in
    let all = ap (λ (l : List PairOp). length l) c.ops.ensures in
    let within = c.loop-alloc.invariant.within in
    let end : c.loop-alloc.replay.place ≡ length script.ops = omega (arith, test, here, all, within) in
    subst (λ (n : ℕ). Each (HasFound script c.args.hits.now n) c.loop-alloc.walks) end c.loop-alloc.invariant.found
