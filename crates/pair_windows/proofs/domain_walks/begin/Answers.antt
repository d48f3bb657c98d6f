use Rattle.std.proofs.Common.{ℕ, map, refl, ap, ap₂, ◌∙◌}
use Rattle.pair_law.specs.State.{PairState}
use Rattle.pair_windows.proofs.DomainSteps.{HasWalked-begun}
use Rattle.pair_windows.specs.LevelSpans.{exclusive_in, masks_of}
use Rattle.pair_windows.specs.declared.domain_walks.DomainWalk.{DomainWalk}
use Rattle.private_lru.specs.Keeping.{span_to}
use Rattle.pair_windows.proofs.domain_walks.begin.Goals as goal

pub returns-clause-begun : goal.returns-clause-begun
returns-clause-begun c = λ s hits from domain taken after found.
    let w = c.args.walk.now in
    let new : DomainWalk = record { domain = w.domain; segment = record { held = c.in_ok-level_spans.field-0; l2 = c.new.result; l3 = c.new-2.result }; windows = w.windows } in
    let held = c.in_ok-level_spans.ensures ∙ ap₂ (λ (n : ℕ) (x : PairState). map (λ g. span_to n (masks_of w.domain g)) (exclusive_in x)) c.epoch.ensures (ap (λ t. t.state) c.tree.ensures) in
    HasWalked-begun s hits from domain w new refl refl c.args.replay.now taken after found held c.new.ensures.items c.new-2.ensures.items
