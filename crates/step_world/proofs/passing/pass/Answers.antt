use Rattle.std.proofs.Common.{◌≡◌, ℕ, ◌+◌, ◌/◌, slice_set, ◌<◌, length, get_or, refl, ap, ◌∙◌, subst, arith}
use Rattle.std.proofs.lemmas.List.{get_or_default}
use Rattle.machine.specs.Maps.{line_of}
use Rattle.machine.specs.Slices.{slice_count, slice_of_line}
use Rattle.machine.specs.declared.parameters.Parameters.{Parameters}
use Rattle.step_world.proofs.PassedWorlds.{domain-between, passed, reach-between}
use Rattle.step_world.proofs.ReachedSlices.{CanReach}
use Rattle.step_world.proofs.RoomLeft.{op-few}
use Rattle.step_world.proofs.TakenWorlds.{within-next}
use Rattle.step_world.proofs.passing.pass.Goals as goal
use Rattle.step_world.specs.Machine.{opening_thread, thread_at}
use Rattle.step_world.specs.Slices.{TouchesLine}
use Rattle.step_world.specs.Worlds.{machine_of}
use Rattle.step_world.specs.declared.thread_state.ThreadState.TheVariants.{Ready}
use Rattle.step_world.specs.declared.thread_state.Thread.{Thread}
use Rattle.script_ops.specs.declared.op.Op.TheVariants as ops

pub line_slice-slice-requires : goal.line_slice-slice-requires
line_slice-slice-requires c =
    omega (arith, ap (λ (m : Parameters). m.domains) c.machine.ensures, domain-between c.args.script.now c.args.turn.thread c.args.turn.number c.args.addr c.args.tag.now c.args.world.now c.requires.world c.requires.can)

-- the slice is there
there : (c : goal.After-index_mut) → c.line_slice-slice.result < length c.args.world.now.slices.items
there c = omega (arith, c.line_slice-slice.ensures.within, ap slice_count c.machine.ensures, c.requires.world.slices.count)

-- it is the one of the line
number : (c : goal.After-index_mut) → c.line_slice-slice.result ≡ slice_of_line c.args.script.now.machine c.args.tag.now.domain (line_of c.args.addr)
number c = c.line_slice-slice.ensures.number ∙ ap (λ p. slice_of_line p c.args.tag.now.domain (line_of c.args.addr)) c.machine.ensures

-- it has what the access needs
can : (c : goal.After-index_mut) → CanReach c.index_mut.result.now c.args.tag.now (line_of c.args.addr)
can c = reach-between c.args.script.now c.args.turn.thread c.args.turn.number c.args.addr c.args.tag.now c.args.world.now c.requires.world c.requires.can c.line_slice-slice.result c.index_mut.result.now (there c) (number c) c.index_mut.ensures.value

pub access-requires : goal.access-requires
access-requires c = let its = can c in record { own = its.own; mask = its.mask; rmid = its.rmid; clock = its.clock; room = its.room }

pub overflow_add-turn : goal.overflow_add-turn
overflow_add-turn c =
    let can = c.requires.can in
    omega (arith, can.number, op-few c.args.script.now c.args.turn.thread (thread_at (machine_of c.args.world.now) c.args.turn.thread).next (ops.Access can.task can.cpu c.args.addr) c.requires.world.lawful can.next.is)

pub returns : goal.returns
returns c =
    let w = c.args.world.now in
    let i = c.line_slice-slice.result in
    let s = c.access.new.self in
    let before = c.index_mut.result.now in
    let line : ℕ = c.args.addr / 64 in
    let there : i < length w.slices.items = omega (arith, c.line_slice-slice.ensures.within, ap slice_count c.machine.ensures, c.requires.world.slices.count) in
    let number : i ≡ slice_of_line c.args.script.now.machine c.args.tag.now.domain line = c.line_slice-slice.ensures.number ∙ ap (λ p. slice_of_line p c.args.tag.now.domain line) c.machine.ensures in
    let was : before ≡ get_or w.slices.items i s = c.index_mut.ensures.value ∙ get_or_default w.slices.items i before s there in
    let there_too : c.args.turn.thread < length w.threads.items = within-next c.args.script.now w c.args.turn.thread (ops.Access c.requires.can.task c.requires.can.cpu c.args.addr) c.requires.world c.requires.can.next in
    let ready : c.index_mut-2.result.now.state ≡ Ready =
    ap (λ (x : Thread). x.state) (c.index_mut-2.ensures.value ∙ get_or_default w.threads.items c.args.turn.thread c.index_mut-2.result.now opening_thread there_too) ∙ c.requires.can.place in
    let its = passed c.args.script.now c.args.turn.thread c.args.turn.number c.args.addr c.args.tag.now w c.requires.world c.requires.can _ i line s c.access.result refl number there
    (record { tree = refl; commands = refl; lists = refl; phase = refl; threads = ap (λ place. slice_set w.threads.items c.args.turn.thread (record { next = c.args.turn.number + 1; state = place })) ready; closing = refl }) refl refl refl
    (subst (λ x. TouchesLine c.args.turn.thread c.args.turn.number c.args.tag.now line x s c.access.result) was c.access.ensures) in
    record { world = its.0; passed = its.1 }
