use Rattle.std.proofs.Common.{◌≡◌, ℕ, ◌+◌, [], get_or, refl, sym, subst, ap, ◌∙◌, arith}
use Rattle.pair_law.specs.Epochs.{state_at}
use Rattle.pair_text.specs.Values.{epoch_at}
use Rattle.pair_law.proofs.laws.Commands.{epoch_at-le}
use Rattle.pair_text.specs.declared.limits.TheConstants.{MOST_COMMANDS}
use Rattle.pair_windows.proofs.DomainLists.{IsCountable-walked, IsSmall-found}
use Rattle.pair_windows.proofs.DomainSteps.{HasFound-quiet}
use Rattle.pair_windows.specs.DomainWalks.{CanClose, Each, HasWalked}
use Rattle.pair_windows.specs.LevelSpans.{exclusive_in}
use Rattle.pair_windows.specs.Segments.{IsSegment}
use Rattle.pair_windows.proofs.joint_listing.push_flush.Goals as goal

pub overflow_cast-epoch : goal.overflow_cast-epoch
overflow_cast-epoch c =
    let most = epoch_at-le c.args.script.now c.args.replay.now.place in
    let at = c.requires.taken.epoch in
    let few = c.requires.walk.playable.few in
    let known : MOST_COMMANDS ≡ 20000 = refl in
    let is = c.epoch-epoch.ensures in
    omega (arith, most, at, few, known, is)

pub returns-then-not-has_exclusive-clause-segment : goal.returns-then-not-has_exclusive-clause-segment
returns-then-not-has_exclusive-clause-segment c = subst (λ (n : ℕ). IsSegment c.args.script.now n c.take_quiet.new.replay.place) c.take_op.ensures.place c.take_quiet.ensures.segment

pub returns-then-not-has_exclusive-clause-found : goal.returns-then-not-has_exclusive-clause-found
returns-then-not-has_exclusive-clause-found c = λ i d lt.
    let script = c.args.script.now in
    let from : ℕ = c.args.replay.now.place in
    let last : ℕ = c.take_quiet.new.replay.place in
    let taken = c.take_op.ensures.taken in
    let none : exclusive_in c.take_op.new.self.tree.state ≡ [] = subst (λ t. exclusive_in t.state ≡ []) c.tree.ensures (c.has_exclusive.ensures c.if-not-has_exclusive.true) in
    let state : exclusive_in (state_at script (epoch_at script (from + 1))) ≡ [] =
    sym (ap exclusive_in (taken.state ∙ ap (state_at script) (taken.epoch ∙ ap (epoch_at script) c.take_op.ensures.place))) ∙ none in
    let segment : IsSegment script (from + 1) last = subst (λ (n : ℕ). IsSegment script n last) c.take_op.ensures.place c.take_quiet.ensures.segment in
    let can : CanClose script from last = record { flush = c.requires.flush; segment = segment } in
    HasFound-quiet script c.args.hits.now from last i (get_or c.args.walks.now i d) can state (c.requires.found i d lt)

pub take_segment-requires-clause-small : goal.take_segment-requires-clause-small
take_segment-requires-clause-small c =
    let few = c.requires.walk.playable.lawful.machines.in_range.domain_limit in
    let all = c.requires.one_each in
    IsSmall-found c.args.script.now c.args.hits.now c.args.replay.now.place c.args.walks.now (omega (arith, few, all)) c.requires.found

pub close_all-requires-clause-countable : goal.close_all-requires-clause-countable
close_all-requires-clause-countable c =
    let script = c.args.script.now in
    let from : ℕ = c.args.replay.now.place in
    let last : ℕ = c.take_segment.new.replay.place in
    let done = c.in_ok-take_segment.ensures in
    let segment : IsSegment script (from + 1) last = subst (λ (n : ℕ). IsSegment script n last) c.take_op.ensures.place done.segment in
    let walked : Each (HasWalked script c.args.hits.now from (epoch_at script last) last) c.take_segment.new.walks =
    subst (λ n. Each (HasWalked script c.args.hits.now from n last) c.take_segment.new.walks) done.taken.epoch (done.walked from c.take_op.ensures.place c.requires.found) in
    IsCountable-walked script c.args.hits.now from last c.take_segment.new.walks c.requires.walk segment walked

pub returns-clause-segment : goal.returns-clause-segment
returns-clause-segment c = subst (λ (n : ℕ). IsSegment c.args.script.now n c.take_segment.new.replay.place) c.take_op.ensures.place c.in_ok-take_segment.ensures.segment

pub returns-clause-found : goal.returns-clause-found
returns-clause-found c =
    let script = c.args.script.now in
    let from : ℕ = c.args.replay.now.place in
    let last : ℕ = c.take_segment.new.replay.place in
    let done = c.in_ok-take_segment.ensures in
    let segment : IsSegment script (from + 1) last = subst (λ (n : ℕ). IsSegment script n last) c.take_op.ensures.place done.segment in
    let walked : Each (HasWalked script c.args.hits.now from (epoch_at script last) last) c.take_segment.new.walks =
    subst (λ n. Each (HasWalked script c.args.hits.now from n last) c.take_segment.new.walks) done.taken.epoch (done.walked from c.take_op.ensures.place c.requires.found) in
    let can : CanClose script from last = record { flush = c.requires.flush; segment = segment } in
    c.in_ok-close_all.ensures c.args.hits.now from last can (c.epoch-epoch.ensures ∙ c.requires.taken.epoch) walked
