use Rattle.std.proofs.Common.{◌≡◌, ℕ, ◌+◌, ◌<◌, List, length, get_or, inl, inr, sym, subst, ap, ◌∙◌, arith}
use Rattle.std.proofs.lemmas.Bool.{cases_lt}
use Rattle.std.proofs.lemmas.List.{get_or_default, length-map}
use Rattle.pair_windows.proofs.CdpDomains.{more-kept, more-met}
use Rattle.pair_windows.specs.CdpWalks.{IsDone, IsWalkedIn, entries_of_domain}
use Rattle.pair_windows.specs.declared.cdp_walks.CdpWalk.{CdpWalk}
use Rattle.run_law.specs.Entries.{entries_of}
use Rattle.pair_windows.proofs.cdp_domains.are_done.Goals as goal

pub is_done-requires : goal.is_done-requires
is_done-requires c =
    let run = c.args.run.now in
    let i = c.loop-walk.walk-index in
    let d : CdpWalk = c.walk-item.result in
    let is = ap (λ (x : CdpWalk). x.domain) c.walk-item.is in
    let own = (c.requires.walked i d (omega arith)).own in
    let all = c.requires.one_each in
    let each = c.requires.played.run.one_each in
    let same = length-map run.slices.now entries_of in
    omega (arith, is, own, all, each, same)

pub returns-then-not-is_done-clause-more : goal.returns-then-not-is_done-clause-more
returns-then-not-is_done-clause-more c = λ none.
    let run = c.args.run.now in
    let epoch : ℕ = c.args.epoch in
    let i : ℕ = c.loop-walk.walk-index in
    let d : CdpWalk = c.walk-item.result in
    let at : IsWalkedIn run epoch (epoch + 1) i d = subst (IsWalkedIn run epoch (epoch + 1) i) (sym c.walk-item.is) (c.requires.walked i d (omega arith)) in
    let all = c.requires.one_each in
    let exists : i < run.script.now.machines.machine.domains = omega (arith, all) in
    elim (c.is_done.ensures.more c.if-not-is_done.true) [
      | inl less ↦
          let own = at.own in
          let count = ap (λ n. length (entries_of_domain run n)) own in
          more-met run epoch (epoch + 1) i d at c.requires.played exists (omega arith) (omega (arith, less, count))
      | inr apart ↦ let order = at.order in let other = apart.0 in more-kept run epoch (epoch + 1) i d at c.requires.played exists (omega (arith, order, other)) apart.1
    ]

pub loop-walk-preserved : goal.loop-walk-preserved
loop-walk-preserved c = λ i d lt.
    let run = c.args.run.now in
    let epoch : ℕ = c.args.epoch in
    let xs : List CdpWalk = c.args.walks.now in
    let k : ℕ = c.loop-walk.walk-index in
    let x : CdpWalk = c.walk-item.result in
    elim (cases_lt i k) [
      | inl less ↦ c.loop-walk.invariant i d less
      | inr ge ↦
          let same : k ≡ i = omega (arith, lt, ge) in
          let is : x ≡ get_or xs k d = c.walk-item.is ∙ get_or_default xs k x d (omega arith) in
          let own : x.domain ≡ k = ap (λ (y : CdpWalk). y.domain) c.walk-item.is ∙ (c.requires.walked k x (omega arith)).own in
          let here : IsDone run k x = subst (λ n. IsDone run n x) own (c.is_done.ensures.done c.if-not-is_done.false) in
          subst (λ n. IsDone run n (get_or xs n d)) same (subst (IsDone run k) is here)
    ]
