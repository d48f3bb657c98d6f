use Rattle.std.proofs.Common.{ℕ, subst, ◌∙◌}
use Rattle.pair_windows.proofs.DomainLists.{HasFound-fresh, joint_windows-found}
use Rattle.pair_windows.specs.Segments.{IsSegment}
use Rattle.pair_windows.proofs.joint_listing.find_windows.Goals as goal

pub push_flushes-requires-clause-segment : goal.push_flushes-requires-clause-segment
push_flushes-requires-clause-segment c = subst (λ (n : ℕ). IsSegment c.args.script.now n c.take_quiet.new.replay.place) c.in_ok-replay.ensures.place c.take_quiet.ensures.segment

pub push_flushes-requires-clause-found : goal.push_flushes-requires-clause-found
push_flushes-requires-clause-found c =
    let segment : IsSegment c.args.script.now 0 c.take_quiet.new.replay.place = subst (λ (n : ℕ). IsSegment c.args.script.now n c.take_quiet.new.replay.place) c.in_ok-replay.ensures.place c.take_quiet.ensures.segment in
    HasFound-fresh c.args.script.now c.args.hits.now c.take_quiet.new.replay.place c.args.walks.now segment c.requires.fresh

pub returns : goal.returns
returns c = λ j played a b.
    let walks = c.push_flushes.new.walks in
    c.in_ok-windows.ensures ∙ joint_windows-found c.args.script.now c.args.hits.now j walks (c.push_flushes.auto.walks ∙ c.requires.one_each) played a b c.in_ok-push_flushes.ensures
