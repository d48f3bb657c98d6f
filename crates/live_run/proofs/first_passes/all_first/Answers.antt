use Rattle.std.proofs.Common.{◌<◌, length, sym, ap, subst, arith, ◌+◌}
use Rattle.live_run.proofs.FirstShares.{next_apart, next_left, next_share}
use Rattle.live_run.proofs.Starts.{AreFirst-push, AreGivenTo-next}
use Rattle.live_run.proofs.first_passes.all_first.Goals as goal
use Rattle.live_run.specs.Openings.{AreFirst}
use Rattle.script_ops.specs.Values.{ScriptValue, threads_of}

pub split-requires : goal.split-requires
split-requires g c =
    let n = length (threads_of g.N.RunNames.script) in
    let low : c.loop-t.t < n = omega (arith, c.loop-t-test.true, c.threads-t-end.ensures.threads, ap (λ (x : ScriptValue). length (threads_of x)) c.requires.script) in
    record { apart = next_apart g.T.NamedTable.table c.loop-t.t n c.loop-t.workers low c.loop-t.invariant.workers }

pub first-requires-clause-share : goal.first-requires-clause-share
first-requires-clause-share g c =
    let n = length (threads_of g.N.RunNames.script) in
    let low : c.loop-t.t < n = omega (arith, c.loop-t-test.true, c.threads-t-end.ensures.threads, ap (λ (x : ScriptValue). length (threads_of x)) c.requires.script) in
    next_share g.T.NamedTable.table c.loop-t.t n c.loop-t.workers low c.loop-t.invariant.workers c.in_ok-split.field-0 c.in_ok-split.ensures.table.1 c.in_ok-split.ensures.first

pub loop-t-preserved : goal.loop-t-preserved
loop-t-preserved g c =
    let had = c.loop-t.invariant in
    let t = c.loop-t.t in
    let n = length (threads_of g.N.RunNames.script) in
    let low : t < n = omega (arith, c.loop-t-test.true, c.threads-t-end.ensures.threads, ap (λ (x : ScriptValue). length (threads_of x)) c.requires.script) in
    record {
      given = AreGivenTo-next g.N.RunNames.script g.N.RunNames.tree g.N.RunNames.slices t c.loop-t.tree c.take.new.self c.loop-t.slices.items c.take_each.new.logs.items had.given c.in_ok-own.own.items c.in_ok-own.ensures c.take.ensures.name c.take.ensures.left;
      first = subst (AreFirst (t + 1)) (sym c.in_ok-push.ensures.items) (AreFirst-push t c.loop-t.all.items c.in_ok-first.field-0 c.in_ok-first.ensures had.first);
      workers = next_left g.T.NamedTable.table t n c.loop-t.workers low had.workers c.split.new.self c.split.ensures.table.0 c.in_ok-split.ensures.rest;
    }
