use Rattle.std.proofs.Common.{◌≡◌, ◌+◌, refl, sym, subst, ap, ◌∙◌, arith}
use Rattle.pair_law.specs.Epochs.{state_at}
use Rattle.pair_law.proofs.laws.Commands.{epoch_at-le}
use Rattle.pair_text.specs.declared.limits.TheConstants.{MOST_COMMANDS}
use Rattle.pair_windows.specs.DomainWalks.{Each, HasWalked}
use Rattle.pair_windows.proofs.level_walks.take_op.Goals as goal

pub returns-then-epoch-clause-walked : goal.returns-then-epoch-clause-walked
returns-then-epoch-clause-walked c = λ hits from place le all.
    let same = sym c.epoch-epoch.ensures ∙ (sym c.if-epoch.true ∙ c.epoch.ensures) in
    subst (λ n. Each (HasWalked c.args.script.now hits from n place) c.args.walks.now) same all

pub keep_all-requires-clause-epoch : goal.keep_all-requires-clause-epoch
keep_all-requires-clause-epoch c =
    let most = epoch_at-le c.args.script.now c.args.replay.now.place in
    let at = c.requires.taken.epoch in
    let few = c.requires.playable.few in
    let known : MOST_COMMANDS ≡ 20000 = refl in
    let is = c.epoch-epoch.ensures in
    omega (arith, most, at, few, known, is)

pub keep_all-requires-clause-state : goal.keep_all-requires-clause-state
keep_all-requires-clause-state c =
    let least = c.take_op.ensures.epoch.0 in
    let most = c.take_op.ensures.epoch.1 in
    let other = c.if-epoch.false in
    let was = c.epoch-epoch.ensures in
    let now = c.epoch.ensures in
    let one : c.take_op.new.self.tree.epoch ≡ c.epoch-epoch.result + 1 = omega (arith, least, most, other, was, now) in
    ap (λ t. t.state) c.tree.ensures ∙ (c.take_op.ensures.taken.state ∙ ap (state_at c.args.script.now) one)

pub returns-clause-walked : goal.returns-clause-walked
returns-clause-walked c = λ hits from place le all.
    let script = c.args.script.now in
    let least = c.take_op.ensures.epoch.0 in
    let most = c.take_op.ensures.epoch.1 in
    let other = c.if-epoch.false in
    let was = c.epoch-epoch.ensures in
    let now = c.epoch.ensures in
    let one : c.epoch-epoch.result + 1 ≡ c.take_op.new.self.tree.epoch = omega (arith, least, most, other, was, now) in
    subst (λ n. Each (HasWalked script hits from n place) c.keep_all.new.walks) one
    (c.keep_all.ensures.walked hits from place (omega (arith, le, was)) (subst (λ n. Each (HasWalked script hits from n place) c.args.walks.now) (sym was) all))
