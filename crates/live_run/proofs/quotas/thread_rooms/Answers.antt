use Rattle.std.proofs.Common.{◌≡◌, ℕ, ◌^◌, ◌+◌, ◌++◌, ◌∙◌, sym, subst, ap, drop, length, replicate, take, List, Vec}
use Rattle.std.proofs.Math.Seq.{take-append_seam}
use Rattle.std.specs.Vec.{with_items}
use Rattle.std.specs.declared.alloc.Global.{Global}
use Rattle.live_run.proofs.Rooms.{rooms-push}
use Rattle.live_run.proofs.quotas.thread_rooms.Goals as goal
use Rattle.live_run.specs.Logs.{AreThreadRooms}
use Rattle.machine.specs.Slices.{slice_count}
use Rattle.run_law.specs.Quotas.{HaveGrown, quotas_of}
use Rattle.script_ops.specs.Values.{ops_of}
use Rattle.script_ops.specs.declared.op.Op.{Op}

pub loop-t-preserved : goal.loop-t-preserved
loop-t-preserved c =
    let script = c.args.script.now in
    let most : ℕ = 2 ^ 30 in
    let before : List ℕ = c.in_ok-own.own.items in
    let after : List ℕ = c.add_ops.new.rooms in
    let rest : List ℕ = drop (length after) before in
    let own : Vec ℕ Global = with_items c.in_ok-own.own after in
    let count : c.from.result ≡ slice_count script.machine = c.from.ensures ∙ c.slice_count.ensures.count ∙ ap slice_count c.machine.ensures in
    let none : before ≡ replicate (slice_count script.machine) 0 = c.in_ok-own.ensures.items_if_clones_equal (λ y h. h) ∙ ap (λ n. replicate {A = ℕ} n 0) count in
    let filled : HaveGrown (λ i. quotas_of script.machine i c.ops.result.now) most before after =
    subst (λ (xs : List ℕ). HaveGrown (λ i. quotas_of script.machine i c.ops.result.now) most xs after) c.deref_mut.ensures.value c.add_ops.ensures in
    let kept : own.items ≡ after = ap (λ n. take n (after ++ rest)) (sym c.deref_mut.ensures.len ∙ sym c.add_ops.ensures.count) ∙ take-append_seam after rest in
    let grown : HaveGrown (λ i. quotas_of script.machine i (ops_of script c.loop-t.t)) most before own.items =
    subst (HaveGrown (λ i. quotas_of script.machine i (ops_of script c.loop-t.t)) most before) (sym kept)
    (subst (λ (ops : List Op). HaveGrown (λ i. quotas_of script.machine i ops) most before after) c.ops.ensures.ops filled) in
    subst (AreThreadRooms script (c.loop-t.t + 1)) (sym c.in_ok-push.ensures.items) (rooms-push script c.loop-t.t c.loop-t.rooms.items own before none grown c.loop-t.invariant)
