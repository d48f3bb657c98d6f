use Rattle.std.proofs.Common.{◌≡◌, ℕ, ◌+◌, sym, subst, ap, ◌∙◌, arith, refl}
use Rattle.pair_law.specs.Epochs.{state_at}
use Rattle.pair_text.specs.declared.limits.TheConstants.{MOST_COMMANDS}
use Rattle.pair_windows.specs.CdpWalks.{IsWalkedIn}
use Rattle.pair_windows.specs.DomainWalks.{Each}
use Rattle.pair_windows.proofs.cdp_domains.take_command.Goals as goal

pub keep_all-requires-clause-small : goal.keep_all-requires-clause-small
keep_all-requires-clause-small c = λ i d lt.
    let own = (c.requires.walked i d lt).own in
    let all = c.requires.one_each in
    let few = c.requires.played.playable.lawful.machines.in_range.domain_limit in
    omega (arith, own, all, few, lt)

pub keep_all-requires-clause-epoch : goal.keep_all-requires-clause-epoch
keep_all-requires-clause-epoch c =
    let more = c.requires.more in
    let few = c.requires.played.playable.few in
    let known : MOST_COMMANDS ≡ 20000 = refl in
    let is = c.epoch-epoch.ensures in
    omega (arith, more, few, known, is)

pub returns-clause-walked : goal.returns-clause-walked
returns-clause-walked c =
    let run = c.args.run.now in
    let before : ℕ = c.args.replay.now.tree.epoch in
    let now : c.epoch-epoch.result ≡ before = c.epoch-epoch.ensures in
    let next : c.epoch-epoch.result + 1 ≡ c.take_command.new.self.tree.epoch = ap (λ n. n + 1) now ∙ sym c.take_command.ensures.epoch in
    let state = ap (λ t. t.state) c.tree.ensures ∙ (c.take_command.ensures.taken.state ∙ ap (state_at run.script.now) (sym next)) in
    subst (λ n. Each (IsWalkedIn run n n) c.keep_all.new.walks) next
    (c.keep_all.ensures run (c.epoch-epoch.result + 1) state (subst (λ n. Each (IsWalkedIn run n (n + 1)) c.args.walks.now) (sym now) c.requires.walked))
