use Rattle.std.proofs.Common.{◌≡◌, ◌+◌, ◌*◌, ◌^◌, ◌++◌, ◌∙◌, [], List, ℕ, ap, arith, drop, length, replicate, subst, sym, take}
use Rattle.std.proofs.Math.Seq.{take-append_seam}
use Rattle.machine.specs.Slices.{slice_count}
use Rattle.run_law.proofs.GrownRooms.{AreRooms-grown, HaveGrown-all, HaveGrown-next}
use Rattle.run_law.proofs.rooms.slice_rooms.Goals as goal
use Rattle.run_law.specs.Quotas.{HaveGrown, quotas_of}
use Rattle.script_ops.specs.Values.{threads_of}
use Rattle.std.specs.Prelude.{sum_by}

pub loop-t-preserved : goal.loop-t-preserved
loop-t-preserved c =
    let script = c.args.script.now in
    let most : ℕ = 2 ^ 30 in
    let first : List ℕ = c.in_ok-rooms.rooms.items in
    let after : List ℕ = c.add_ops.new.rooms in
    let rest : List ℕ = drop (length after) c.loop-t.rooms.items in
    let count : c.loop-t.rooms.len ≡ length after = sym c.deref_mut.ensures.len ∙ sym c.add_ops.ensures.count in
    let kept : take c.loop-t.rooms.len (after ++ rest) ≡ after = ap (λ n. take n (after ++ rest)) count ∙ take-append_seam after rest in
    let added : HaveGrown (λ i. quotas_of script.machine i c.ops.result.now) most c.loop-t.rooms.items after =
    subst (λ (xs : List ℕ). HaveGrown (λ i. quotas_of script.machine i c.ops.result.now) most xs after) c.deref_mut.ensures.value c.add_ops.ensures in
    subst (λ (xs : List ℕ). HaveGrown (λ i. sum_by (quotas_of script.machine i) (take (c.loop-t.t + 1) (threads_of script))) ((c.loop-t.t + 1) * most) first xs) (sym kept)
    (HaveGrown-next (quotas_of script.machine) (threads_of script) c.loop-t.t most (c.loop-t.t * most) ((c.loop-t.t + 1) * most) [] c.ops.result.now first c.loop-t.rooms.items after
    (omega (arith, c.loop-t-test.true, c.threads-t-end.ensures.threads)) c.ops.ensures.ops (omega arith) c.loop-t.invariant added)

pub returns : goal.returns
returns c =
    let script = c.args.script.now in
    let few : ℕ = 2 ^ 40 in
    let first : List ℕ = c.in_ok-rooms.rooms.items in
    let now : List ℕ = c.loop-t.rooms.items in
    let count : c.from.result ≡ slice_count script.machine = c.from.ensures ∙ c.slice_count.ensures.count ∙ ap slice_count c.machine.ensures in
    let zeros : first ≡ replicate (slice_count script.machine) 0 = c.in_ok-rooms.ensures.items_if_clones_equal (λ y h. h) ∙ ap (λ n. replicate {A = ℕ} n 0) count in
    AreRooms-grown script few now
    (subst (λ (before : List ℕ). HaveGrown (λ i. sum_by (quotas_of script.machine i) (threads_of script)) few before now) zeros
    (HaveGrown-all (quotas_of script.machine) (threads_of script) c.loop-t.t (c.loop-t.t * 2 ^ 30) few first now
    (omega (arith, c.loop-t-test.false, c.loop-t.auto.t-end, c.threads-t-end.ensures.threads)) (omega (arith, c.loop-t.auto.t-end, c.threads-t-end.ensures.few)) c.loop-t.invariant))
