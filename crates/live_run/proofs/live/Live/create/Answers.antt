use Rattle.std.proofs.Common.{◌≡◌, ◌∙◌, ap, arith}
use Rattle.live_run.proofs.FirstShares.{first_apart, history_share, lists_are, others_fit, others_numbered, threads_are, turn_apart, turn_share}
use Rattle.live_run.proofs.Starts.{AreBefore-first, AreGivenTo-none}
use Rattle.live_run.proofs.live.Live.create.Goals as goal
use Rattle.live_run.specs.Logs.{LogsValue}
use Rattle.machine.specs.Slices.{slice_count}
use Rattle.script_ops.specs.Values.{ScriptValue}

pub split-requires : goal.split-requires
split-requires g c = record { apart = first_apart g.N.RunNames.script g.T.NamedTable.table c.args.share c.requires.share }

pub split-requires-2 : goal.split-requires-2
split-requires-2 g c = record { apart = turn_apart g.N.RunNames.script g.T.NamedTable.table c.args.share c.requires.share c.split.new.self c.split.ensures.table.0 c.in_ok-history.ensures.rest }

pub split_each-requires-clause-parts : goal.split_each-requires-clause-parts
split_each-requires-clause-parts g c = others_numbered g.N.RunNames.script g.T.NamedTable.table c.args.share c.requires.share c.split.new.self c.split.ensures.table.0 c.in_ok-history.ensures.rest c.split-2.new.self c.split-2.ensures.table.0 c.in_ok-turn.ensures.rest

pub split_each-requires-clause-many : goal.split_each-requires-clause-many
split_each-requires-clause-many g c =
    let count : c.from.result ≡ slice_count g.N.RunNames.script.machine = c.from.ensures ∙ (c.slice_count.ensures.count ∙ ap slice_count (c.machine-m.ensures ∙ ap (λ (x : ScriptValue). x.machine) c.requires.script)) in
    omega (arith, count, others_fit g.N.RunNames.script g.T.NamedTable.table c.args.share c.requires.share c.split.new.self c.split.ensures.table.0 c.in_ok-history.ensures.rest c.split-2.new.self c.split-2.ensures.table.0 c.in_ok-turn.ensures.rest)

pub first_passes-requires-clause-given : goal.first_passes-requires-clause-given
first_passes-requires-clause-given g c =
    AreGivenTo-none g.N.RunNames.script g.N.RunNames.tree g.N.RunNames.slices c.requires.quotas c.logs.inside.tree c.logs.inside.slices.items
    (ap (λ (l : LogsValue). l.tree) c.logs.view_is ∙ c.requires.tree) (ap (λ (l : LogsValue). l.slices) c.logs.view_is ∙ c.requires.slices) c.logs.invariant

pub first_passes-requires-clause-workers : goal.first_passes-requires-clause-workers
first_passes-requires-clause-workers g c =
    let count : c.from.result ≡ slice_count g.N.RunNames.script.machine = c.from.ensures ∙ (c.slice_count.ensures.count ∙ ap slice_count (c.machine-m.ensures ∙ ap (λ (x : ScriptValue). x.machine) c.requires.script)) in
    threads_are g.N.RunNames.script g.T.NamedTable.table c.args.share c.requires.share c.split.new.self c.split.ensures.table.0 c.in_ok-history.ensures.rest c.split-2.new.self c.split-2.ensures.table.0 c.in_ok-turn.ensures.rest c.from.result count c.split_each.new.share c.in_ok-lists.lists.items c.in_ok-lists.ensures

pub fresh_parts-requires-clause-shares : goal.fresh_parts-requires-clause-shares
fresh_parts-requires-clause-shares g c =
    let count : c.from.result ≡ slice_count g.N.RunNames.script.machine = c.from.ensures ∙ (c.slice_count.ensures.count ∙ ap slice_count (c.machine-m.ensures ∙ ap (λ (x : ScriptValue). x.machine) c.requires.script)) in
    lists_are g.N.RunNames.script g.T.NamedTable.table c.args.share c.requires.share c.split.new.self c.split.ensures.table.0 c.in_ok-history.ensures.rest c.split-2.new.self c.split-2.ensures.table.0 c.in_ok-turn.ensures.rest c.from.result count c.split_each.new.share c.in_ok-lists.lists.items c.in_ok-lists.ensures

pub open-requires-clause-share : goal.open-requires-clause-share
open-requires-clause-share g c = history_share g.N.RunNames.script g.T.NamedTable.table c.args.share c.requires.share c.in_ok-history.history c.in_ok-history.ensures.table.1 c.in_ok-history.ensures.first

pub returns-clause-before : goal.returns-clause-before
returns-clause-before g c = AreBefore-first g.N.RunNames.script _ c.in_ok-passes.ensures.first

pub returns-clause-turn : goal.returns-clause-turn
returns-clause-turn g c = turn_share g.N.RunNames.script g.T.NamedTable.table c.args.share c.requires.share c.split.new.self c.split.ensures.table.0 c.in_ok-history.ensures.rest c.in_ok-turn.turn c.in_ok-turn.ensures.table.1 c.in_ok-turn.ensures.first

pub returns-clause-shown : goal.returns-clause-shown
returns-clause-shown g c t within =
    let first = c.in_ok-passes.ensures.first in
    (first.each t (omega (arith, within, first.count))).shown
