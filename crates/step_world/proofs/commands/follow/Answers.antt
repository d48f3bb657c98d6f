use Rattle.std.proofs.Common.{◌≡◌, ◌<◌, length, get_or, Some, refl, sym, ap, ◌∙◌, subst, arith}
use Rattle.std.specs.Prelude.{slice_get}
use Rattle.std.proofs.lemmas.Option.{slice_get-get_or}
use Rattle.machine.specs.Slices.{slice_count}
use Rattle.machine.specs.declared.parameters.Parameters.{Parameters}
use Rattle.run_law.specs.Targets.{slice_for, slices_for}
use Rattle.step_world.proofs.FollowedWorlds.{followed}
use Rattle.step_world.proofs.FollowingWorlds.{can, domain-there, floor-below, following, made-few, room-follow, slice-there}
use Rattle.step_world.proofs.RoomLeft.{has-time, op-few}
use Rattle.step_world.proofs.commands.follow.Goals as goal
use Rattle.step_world.specs.Machine.{thread_at}
use Rattle.step_world.specs.Needs.{CanFollow}
use Rattle.step_world.specs.Slices.{SliceValue}
use Rattle.step_world.specs.Worlds.{machine_of}
use Rattle.tree_law.specs.declared.follow.Follow.{Follow}
use Rattle.tree_law.specs.declared.follow.Follow.TheVariants.{Raise}

pub bounds-follows-world : goal.bounds-follows-world
bounds-follows-world c =
    let r = c.requires in
    omega (arith, (following c.args.script.now c.args.turn.thread c.args.made c.args.op.now c.args.world.now r.world r.next r.place).within, ap length c.as_slice-follows.ensures.value)

pub slice_for-slice-requires-clause-domain : goal.slice_for-slice-requires-clause-domain
slice_for-slice-requires-clause-domain c =
    let r = c.requires in
    let script = c.args.script.now in
    let w = c.args.world.now in
    let op = c.args.op.now in
    let f : Follow = get_or c.as_slice-follows.result.now w.work.at (Raise 0) in
    let within = (following script c.args.turn.thread c.args.made op w r.world r.next r.place).within in
    let is : slice_get w.work.after.items w.work.at ≡ Some f = slice_get-get_or w.work.after.items w.work.at (Raise 0) within ∙ ap (λ fs. Some (get_or fs w.work.at (Raise 0))) (sym c.as_slice-follows.ensures.value) in
    omega (arith, ap (λ (m : Parameters). m.domains) c.machine-m.ensures, domain-there script c.args.turn.thread c.args.made op w r.world r.next r.place f is)

pub slice_for-slice-requires-clause-slice : goal.slice_for-slice-requires-clause-slice
slice_for-slice-requires-clause-slice c =
    let r = c.requires in
    let script = c.args.script.now in
    let w = c.args.world.now in
    let op = c.args.op.now in
    let f : Follow = get_or c.as_slice-follows.result.now w.work.at (Raise 0) in
    let within = (following script c.args.turn.thread c.args.made op w r.world r.next r.place).within in
    let is : slice_get w.work.after.items w.work.at ≡ Some f = slice_get-get_or w.work.after.items w.work.at (Raise 0) within ∙ ap (λ fs. Some (get_or fs w.work.at (Raise 0))) (sym c.as_slice-follows.ensures.value) in
    omega (arith, ap (λ (m : Parameters). m.slices) c.machine-m.ensures, slice-there script c.args.turn.thread c.args.made op w r.world r.next r.place f is)

pub follow-requires-clause-can : goal.follow-requires-clause-can
follow-requires-clause-can c =
    let r = c.requires in
    let script = c.args.script.now in
    let w = c.args.world.now in
    let op = c.args.op.now in
    let f : Follow = get_or c.as_slice-follows.result.now w.work.at (Raise 0) in
    let within = (following script c.args.turn.thread c.args.made op w r.world r.next r.place).within in
    let is : slice_get w.work.after.items w.work.at ≡ Some f = slice_get-get_or w.work.after.items w.work.at (Raise 0) within ∙ ap (λ fs. Some (get_or fs w.work.at (Raise 0))) (sym c.as_slice-follows.ensures.value) in
    let i = c.slice_for-slice.result in
    let s = c.index_mut.result.now in
    let there : i < length w.slices.items = omega (arith, c.slice_for-slice.ensures.within, ap slice_count c.machine-m.ensures, r.world.slices.count) in
    let number : i ≡ slice_for script.machine f w.work.slice = c.slice_for-slice.ensures.number ∙ ap (λ p. slice_for p f w.work.slice) c.machine-m.ensures in
    subst (λ (x : SliceValue). CanFollow x.cache.shape x.cache.rmids f) (sym c.index_mut.ensures.value) (can script c.args.turn.thread c.args.made op w r.world r.next r.place f is i s there number)

pub follow-requires-clause-floor : goal.follow-requires-clause-floor
follow-requires-clause-floor c =
    let r = c.requires in
    let script = c.args.script.now in
    let w = c.args.world.now in
    let op = c.args.op.now in
    let f : Follow = get_or c.as_slice-follows.result.now w.work.at (Raise 0) in
    let within = (following script c.args.turn.thread c.args.made op w r.world r.next r.place).within in
    let is : slice_get w.work.after.items w.work.at ≡ Some f = slice_get-get_or w.work.after.items w.work.at (Raise 0) within ∙ ap (λ fs. Some (get_or fs w.work.at (Raise 0))) (sym c.as_slice-follows.ensures.value) in
    let i = c.slice_for-slice.result in
    let s = c.index_mut.result.now in
    let there : i < length w.slices.items = omega (arith, c.slice_for-slice.ensures.within, ap slice_count c.machine-m.ensures, r.world.slices.count) in
    let number : i ≡ slice_for script.machine f w.work.slice = c.slice_for-slice.ensures.number ∙ ap (λ p. slice_for p f w.work.slice) c.machine-m.ensures in
    omega (arith, ap (λ (x : SliceValue). x.cache.floor) c.index_mut.ensures.value, floor-below script c.args.turn.thread c.args.made op w r.world r.next r.place i s there, c.epoch.ensures)

pub follow-requires-clause-clock : goal.follow-requires-clause-clock
follow-requires-clause-clock c =
    let r = c.requires in
    let script = c.args.script.now in
    let w = c.args.world.now in
    let op = c.args.op.now in
    let f : Follow = get_or c.as_slice-follows.result.now w.work.at (Raise 0) in
    let within = (following script c.args.turn.thread c.args.made op w r.world r.next r.place).within in
    let is : slice_get w.work.after.items w.work.at ≡ Some f = slice_get-get_or w.work.after.items w.work.at (Raise 0) within ∙ ap (λ fs. Some (get_or fs w.work.at (Raise 0))) (sym c.as_slice-follows.ensures.value) in
    let i = c.slice_for-slice.result in
    let s = c.index_mut.result.now in
    let there : i < length w.slices.items = omega (arith, c.slice_for-slice.ensures.within, ap slice_count c.machine-m.ensures, r.world.slices.count) in
    let number : i ≡ slice_for script.machine f w.work.slice = c.slice_for-slice.ensures.number ∙ ap (λ p. slice_for p f w.work.slice) c.machine-m.ensures in
    omega (arith, ap (λ (x : SliceValue). x.cache.clock) c.index_mut.ensures.value, has-time script w r.world i s there)

pub follow-requires-clause-room : goal.follow-requires-clause-room
follow-requires-clause-room c =
    let r = c.requires in
    let script = c.args.script.now in
    let w = c.args.world.now in
    let op = c.args.op.now in
    let f : Follow = get_or c.as_slice-follows.result.now w.work.at (Raise 0) in
    let within = (following script c.args.turn.thread c.args.made op w r.world r.next r.place).within in
    let is : slice_get w.work.after.items w.work.at ≡ Some f = slice_get-get_or w.work.after.items w.work.at (Raise 0) within ∙ ap (λ fs. Some (get_or fs w.work.at (Raise 0))) (sym c.as_slice-follows.ensures.value) in
    let i = c.slice_for-slice.result in
    let s = c.index_mut.result.now in
    let there : i < length w.slices.items = omega (arith, c.slice_for-slice.ensures.within, ap slice_count c.machine-m.ensures, r.world.slices.count) in
    let number : i ≡ slice_for script.machine f w.work.slice = c.slice_for-slice.ensures.number ∙ ap (λ p. slice_for p f w.work.slice) c.machine-m.ensures in
    subst (λ (x : SliceValue). length x.entries < x.room) (sym c.index_mut.ensures.value) (room-follow script c.args.turn.thread c.args.made op w r.world r.next r.place f is i s there number)

pub follow_on-requires-clause-at : goal.follow_on-requires-clause-at
follow_on-requires-clause-at c =
    let r = c.requires in
    let script = c.args.script.now in
    let w = c.args.world.now in
    let op = c.args.op.now in
    let f : Follow = get_or c.as_slice-follows.result.now w.work.at (Raise 0) in
    let within = (following script c.args.turn.thread c.args.made op w r.world r.next r.place).within in
    let is : slice_get w.work.after.items w.work.at ≡ Some f = slice_get-get_or w.work.after.items w.work.at (Raise 0) within ∙ ap (λ fs. Some (get_or fs w.work.at (Raise 0))) (sym c.as_slice-follows.ensures.value) in
    omega (arith, within, ap length c.as_slice-follows.ensures.value, c.as_slice-follows.ensures.fits)

pub follow_on-requires-clause-slice : goal.follow_on-requires-clause-slice
follow_on-requires-clause-slice c =
    let r = c.requires in
    let script = c.args.script.now in
    let w = c.args.world.now in
    let op = c.args.op.now in
    let f : Follow = get_or c.as_slice-follows.result.now w.work.at (Raise 0) in
    let within = (following script c.args.turn.thread c.args.made op w r.world r.next r.place).within in
    let is : slice_get w.work.after.items w.work.at ≡ Some f = slice_get-get_or w.work.after.items w.work.at (Raise 0) within ∙ ap (λ fs. Some (get_or fs w.work.at (Raise 0))) (sym c.as_slice-follows.ensures.value) in
    omega (arith, (following script c.args.turn.thread c.args.made op w r.world r.next r.place).slice f is, c.slices_for.ensures, ap (λ p. slices_for p f) c.machine-m.ensures)

pub overflow_add-made : goal.overflow_add-made
overflow_add-made c =
    let r = c.requires in
    let script = c.args.script.now in
    let w = c.args.world.now in
    let op = c.args.op.now in
    let f : Follow = get_or c.as_slice-follows.result.now w.work.at (Raise 0) in
    let within = (following script c.args.turn.thread c.args.made op w r.world r.next r.place).within in
    let is : slice_get w.work.after.items w.work.at ≡ Some f = slice_get-get_or w.work.after.items w.work.at (Raise 0) within ∙ ap (λ fs. Some (get_or fs w.work.at (Raise 0))) (sym c.as_slice-follows.ensures.value) in
    omega (arith, made-few script c.args.turn.thread c.args.made op w r.world r.next r.place (omega (arith, ap length c.as_slice-follows.ensures.value, c.as_slice-follows.ensures.fits)))

pub settle-requires-clause-number : goal.settle-requires-clause-number
settle-requires-clause-number c =
    let r = c.requires in
    let script = c.args.script.now in
    let w = c.args.world.now in
    let op = c.args.op.now in
    let f : Follow = get_or c.as_slice-follows.result.now w.work.at (Raise 0) in
    let within = (following script c.args.turn.thread c.args.made op w r.world r.next r.place).within in
    let is : slice_get w.work.after.items w.work.at ≡ Some f = slice_get-get_or w.work.after.items w.work.at (Raise 0) within ∙ ap (λ fs. Some (get_or fs w.work.at (Raise 0))) (sym c.as_slice-follows.ensures.value) in
    omega (arith, r.number, op-few script c.args.turn.thread (thread_at (machine_of w) c.args.turn.thread).next op r.world.lawful r.next.is)

pub returns : goal.returns
returns c =
    let r = c.requires in
    let script = c.args.script.now in
    let w = c.args.world.now in
    let op = c.args.op.now in
    let f : Follow = get_or c.as_slice-follows.result.now w.work.at (Raise 0) in
    let within = (following script c.args.turn.thread c.args.made op w r.world r.next r.place).within in
    let is : slice_get w.work.after.items w.work.at ≡ Some f = slice_get-get_or w.work.after.items w.work.at (Raise 0) within ∙ ap (λ fs. Some (get_or fs w.work.at (Raise 0))) (sym c.as_slice-follows.ensures.value) in
    let i = c.slice_for-slice.result in
    let s = c.index_mut.result.now in
    let there : i < length w.slices.items = omega (arith, c.slice_for-slice.ensures.within, ap slice_count c.machine-m.ensures, r.world.slices.count) in
    let number : i ≡ slice_for script.machine f w.work.slice = c.slice_for-slice.ensures.number ∙ ap (λ p. slice_for p f w.work.slice) c.machine-m.ensures in
    let done = followed script c.args.turn.thread c.args.made op w r.world r.next r.place f is c.args.turn.number i c.epoch.result c.slices_for.result c.follow.new.self s _ c.settle.new.world r.number there number c.index_mut.ensures.value c.epoch.ensures c.follow.ensures
    (c.slices_for.ensures ∙ ap (λ p. slices_for p f) c.machine-m.ensures) c.follow_on.ensures refl refl refl refl refl refl refl refl c.settle.ensures in
    record { world = done.0; done = done.1 }
