use Rattle.std.proofs.Common.{Bool, not, false, ◌&&◌, List, ◌++◌, slice_index_or, sym, ap, ◌∙◌}
use Rattle.std.proofs.lemmas.List.{append-nil}
use Rattle.std.proofs.lemmas.Result.{on_ok_weaker}
use Rattle.cache_core.specs.declared.entry.SliceEntry.{SliceEntry}
use Rattle.pair_windows.proofs.LineUses.{entry-joined, none-joined}
use Rattle.pair_windows.proofs.segments.push_op.Goals as goal

pub returns-in-Some-clause-l2 : goal.returns-in-Some-clause-l2
returns-in-Some-clause-l2 c =
    let l2 : List Bool = c.args.hits.now.l2.items in
    let same = entry-joined c.args.script.now c.args.domain (λ i. slice_index_or l2 i false) c.args.replay.now c.requires.taken c.in-Some.u c.place.result c.epoch.result c.in-Some.ensures c.place.ensures c.epoch.ensures in
    on_ok_weaker c.push_use.result (λ e. e ∙ ap (λ (l : List SliceEntry). c.args.segment.now.l2.items ++ l) same) c.push_use.ensures.l2

pub returns-in-Some-clause-l3 : goal.returns-in-Some-clause-l3
returns-in-Some-clause-l3 c =
    let l2 : List Bool = c.args.hits.now.l2.items in
    let l3 : List Bool = c.args.hits.now.l3.items in
    let same = entry-joined c.args.script.now c.args.domain (λ i. not (slice_index_or l2 i false) && slice_index_or l3 i false) c.args.replay.now c.requires.taken c.in-Some.u c.place.result c.epoch.result c.in-Some.ensures
    c.place.ensures c.epoch.ensures in
    on_ok_weaker c.push_use.result (λ e. e ∙ ap (λ (l : List SliceEntry). c.args.segment.now.l3.items ++ l) same) c.push_use.ensures.l3

pub returns-in-None-clause-l2 : goal.returns-in-None-clause-l2
returns-in-None-clause-l2 c =
    let l2 : List Bool = c.args.hits.now.l2.items in
    let none = none-joined c.args.script.now c.args.domain (λ i. slice_index_or l2 i false) c.args.replay.now c.requires.taken c.in-None.ensures c.requires.quiet in
    sym (ap (λ (l : List SliceEntry). c.args.segment.now.l2.items ++ l) none ∙ append-nil c.args.segment.now.l2.items)

pub returns-in-None-clause-l3 : goal.returns-in-None-clause-l3
returns-in-None-clause-l3 c =
    let l2 : List Bool = c.args.hits.now.l2.items in
    let l3 : List Bool = c.args.hits.now.l3.items in
    let none = none-joined c.args.script.now c.args.domain (λ i. not (slice_index_or l2 i false) && slice_index_or l3 i false) c.args.replay.now c.requires.taken c.in-None.ensures c.requires.quiet in
    sym (ap (λ (l : List SliceEntry). c.args.segment.now.l3.items ++ l) none ∙ append-nil c.args.segment.now.l3.items)
