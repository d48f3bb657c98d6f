use Rattle.std.proofs.Common.{sym, ◌∙◌, arith}
use Rattle.std.specs.List.{range_with_len}
use Rattle.pair_law.specs.commands.Mode.{overlaps_some}
use Rattle.pair_text.specs.Values.{side_machine}
use Rattle.lists.proofs.RangeTests.{list_any-at, list_any-none}
use Rattle.pair_tree.proofs.Ranges.{list_any-mapped}
use Rattle.pair_tree.specs.Tables.{state_of}
use Rattle.pair_tree.proofs.tables.Tables.overlaps_on.Goals as goal

pub returns-then-overlaps_in : goal.returns-then-overlaps_in
returns-then-overlaps_in c =
    let n = (side_machine c.args.m.now c.args.side).domains in
    let overlaps = overlaps_some c.args.m.now (state_of c.args.self.now) c.args.g.now in
    sym (list_any-mapped overlaps (λ d. record { side = c.args.side; domain = d }) (range_with_len 0 n)
    ∙ list_any-at (λ d. overlaps (record { side = c.args.side; domain = d })) n c.loop-domain.domain (omega (arith, c.domains-domain-end.ensures.domains)) (sym c.overlaps_in.ensures ∙ c.if-overlaps_in.true))

pub returns : goal.returns
returns c =
    let n = (side_machine c.args.m.now c.args.side).domains in
    let overlaps = overlaps_some c.args.m.now (state_of c.args.self.now) c.args.g.now in
    sym (list_any-mapped overlaps (λ d. record { side = c.args.side; domain = d }) (range_with_len 0 n)
    ∙ list_any-none (λ d. overlaps (record { side = c.args.side; domain = d })) n (λ k lt. c.loop-domain.invariant k (omega (arith, c.domains-domain-end.ensures.domains))))
