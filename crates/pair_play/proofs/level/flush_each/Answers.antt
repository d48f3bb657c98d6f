use Rattle.std.proofs.Common.{◌<◌, length, sym, subst, arith}
use Rattle.std.proofs.lemmas.List.{length-map}
use Rattle.std.proofs.lemmas.List.Elements.{All-get_or}
use Rattle.pair_play.proofs.Flushes.{AreFlushed-suc, KeepShapes-set, history-AreFlushed, histories_of-AreFlushed}
use Rattle.pair_play.proofs.level.flush_each.Goals as goal
use Rattle.pair_play.specs.Histories.{HasRoom, IsNotAfter, RecordedValue, histories_of}

pub flush-requires-clause-floor : goal.flush-requires-clause-floor
flush-requires-clause-floor c =
    let old = c.args.caches.now in
    let i = c.loop-cache.cache-index in
    let d = c.cache-item.result in
    let within : i < length (histories_of old) = omega (arith, length-map old (λ (x : RecordedValue). x.history)) in
    subst (IsNotAfter c.args.epoch) (sym (history-AreFlushed c.args.op c.args.epoch i old c.loop-cache.cache-items d c.loop-cache.invariant (omega arith)))
    (All-get_or (IsNotAfter c.args.epoch) (histories_of old) i d.history within c.requires.floors)

pub flush-requires-clause-room : goal.flush-requires-clause-room
flush-requires-clause-room c =
    let old = c.args.caches.now in
    let i = c.loop-cache.cache-index in
    let d = c.cache-item.result in
    let within : i < length (histories_of old) = omega (arith, length-map old (λ (x : RecordedValue). x.history)) in
    subst HasRoom (sym (history-AreFlushed c.args.op c.args.epoch i old c.loop-cache.cache-items d c.loop-cache.invariant (omega arith)))
    (All-get_or HasRoom (histories_of old) i d.history within c.requires.rooms)

pub loop-cache-preserved : goal.loop-cache-preserved
loop-cache-preserved c =
    AreFlushed-suc c.args.op c.args.epoch c.loop-cache.cache-index c.args.caches.now c.loop-cache.cache-items c.cache-item.result c.flush.new.self c.loop-cache.invariant (omega arith) (omega arith)
    c.flush.ensures.shape c.in_ok-flush.ensures.entry

pub returns-clause-entries : goal.returns-clause-entries
returns-clause-entries c = histories_of-AreFlushed c.args.op c.args.epoch c.loop-cache.cache-index c.args.caches.now c.loop-cache.cache-items c.loop-cache.invariant (omega arith)

pub returns-in_err-flush-clause-shapes : goal.returns-in_err-flush-clause-shapes
returns-in_err-flush-clause-shapes c =
    KeepShapes-set c.loop-cache.cache-index c.args.caches.now c.loop-cache.cache-items c.cache-item.result c.flush.new.self c.loop-cache.invariant.shapes (omega arith) c.flush.ensures.shape
