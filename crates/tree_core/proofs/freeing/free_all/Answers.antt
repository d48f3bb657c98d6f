use Rattle.std.proofs.Common.{ℕ, List, get_or, ap, ◌∙◌, arith}
use Rattle.std.proofs.lemmas.List.{get_or_default}
use Rattle.hw_ids.specs.MonitoringIds.{after_free}
use Rattle.machine.specs.Maps.{parameters_of}
use Rattle.tree_core.proofs.FreedIds.{Frees-done, HasFreed-suc, contains-next}
use Rattle.tree_core.specs.RmidLists.{bytes_of}
use Rattle.tree_core.proofs.freeing.free_all.Goals as goal

pub free-requires-clause-taken : goal.free-requires-clause-taken
free-requires-clause-taken c =
    let freed = c.args.freed.now in
    let rmid = get_or freed c.loop-rmid.rmid-index 0 in
    contains-next c.loop-rmid.invariant rmid c.loop-rmid-test.true (get_or_default freed c.loop-rmid.rmid-index rmid 0 c.loop-rmid-test.true) c.requires.may

pub loop-rmid-preserved : goal.loop-rmid-preserved
loop-rmid-preserved c =
    let m = parameters_of c.args.m.now in
    let freed = c.args.freed.now in
    let rmid = get_or freed c.loop-rmid.rmid-index 0 in
    rw c.split_at.ensures.back (HasFreed-suc c.loop-rmid.invariant rmid c.loop-rmid-test.true (get_or_default freed c.loop-rmid.rmid-index rmid 0 c.loop-rmid-test.true) c.free.new.rmids c.requires.threshold
    (c.free.ensures ∙ ap (λ (own : List ℕ). after_free c.loop-rmid.rmids rmid (bytes_of own)) c.split_at.ensures.front))

pub returns : goal.returns
returns c =
    Frees-done (parameters_of c.args.m.now) c.args.freed.now c.args.looks.now c.args.rmids.now c.loop-rmid.rmid-index c.loop-rmid.rmids c.loop-rmid.rest.now (omega (arith, c.loop-rmid-test.false)) c.loop-rmid.invariant
