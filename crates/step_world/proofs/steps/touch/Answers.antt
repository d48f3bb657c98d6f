use Rattle.std.proofs.Common.{◌≡◌, ℕ, ◌%◌, ◌/◌, ◌<◌, length, get_or, refl, sym, ap, ◌∙◌, subst, arith}
use Rattle.std.specs.Prelude.{◌^◌}
use Rattle.cache_core.specs.History.{IsOwn, Shape}
use Rattle.machine.specs.Maps.{line_of}
use Rattle.machine.specs.Slices.{slice_count, slice_of_line}
use Rattle.machine.specs.declared.parameters.Parameters.{Parameters}
use Rattle.run_law.specs.Slices.{shape_in}
use Rattle.run_law.proofs.laws.OwnLines.{IsOwn-shape_in}
use Rattle.step_world.proofs.RoomLeft.{domain-there, has-time, mask-some, op-few, rmid-there, room-touch}
use Rattle.step_world.proofs.TouchedWorlds.{stale-touch, touched}
use Rattle.step_world.proofs.steps.touch.Goals as goal
use Rattle.step_world.specs.Machine.{thread_at}
use Rattle.step_world.specs.Slices.{SliceValue, TouchesLine}
use Rattle.step_world.specs.Worlds.{machine_of}
use Rattle.script_ops.specs.declared.op.Op.TheVariants as ops
use Rattle.std.proofs.lemmas.List.{get_or_default}

pub line_slice-slice-requires : goal.line_slice-slice-requires
line_slice-slice-requires c =
    let r = c.requires in
    omega (arith, ap (λ (m : Parameters). m.domains) c.machine.ensures, domain-there c.args.script.now c.args.turn.thread c.args.access.task c.args.access.cpu c.args.access.addr c.args.tag c.args.world.now r.world r.next r.place)

pub access-touched-requires-clause-own : goal.access-touched-requires-clause-own
access-touched-requires-clause-own c =
    let m = c.args.script.now.machine in
    let i = c.line_slice-slice.result in
    let s = c.index_mut.result.now in
    let slices = c.args.world.now.slices.items in
    let line : ℕ = line_of c.args.access.addr in
    let there : i < length slices = omega (arith, c.line_slice-slice.ensures.within, ap slice_count c.machine.ensures, c.requires.world.slices.count) in
    let number : i ≡ slice_of_line m c.args.tag.domain line = c.line_slice-slice.ensures.number ∙ ap (λ p. slice_of_line p c.args.tag.domain line) c.machine.ensures in
    let shape : s.cache.shape ≡ shape_in m (slice_of_line m c.args.tag.domain line) =
    ap (λ (x : SliceValue). x.cache.shape) c.index_mut.ensures.value ∙ ((c.requires.world.slices.caches i s there).shape ∙ ap (shape_in m) number) in
    subst (λ (x : Shape). IsOwn x (line % x.sets)) (sym shape) (IsOwn-shape_in m c.args.tag.domain line c.requires.world.lawful.in_range.some_set c.requires.world.lawful.in_range.some_slice)

pub access-touched-requires-clause-mask : goal.access-touched-requires-clause-mask
access-touched-requires-clause-mask c =
    let r = c.requires in
    let m = c.args.script.now.machine in
    let i = c.line_slice-slice.result in
    let s = c.index_mut.result.now in
    let there : i < length c.args.world.now.slices.items = omega (arith, c.line_slice-slice.ensures.within, ap slice_count c.machine.ensures, r.world.slices.count) in
    let ways : s.cache.shape.ways ≡ m.ways = ap (λ (x : SliceValue). x.cache.shape.ways) c.index_mut.ensures.value ∙ ap (λ (x : Shape). x.ways) (r.world.slices.caches i s there).shape in
    subst (λ k. 0 < c.args.tag.mask % 2 ^ k) (sym ways) (mask-some c.args.script.now c.args.turn.thread c.args.access.task c.args.access.cpu c.args.access.addr c.args.tag c.args.world.now r.world r.next r.place)

pub access-touched-requires-clause-rmid : goal.access-touched-requires-clause-rmid
access-touched-requires-clause-rmid c =
    let r = c.requires in
    let i = c.line_slice-slice.result in
    let s = c.index_mut.result.now in
    let there : i < length c.args.world.now.slices.items = omega (arith, c.line_slice-slice.ensures.within, ap slice_count c.machine.ensures, r.world.slices.count) in
    omega (
      arith,
      ap (λ (x : SliceValue). x.cache.rmids) c.index_mut.ensures.value,
      (r.world.slices.caches i s there).rmids,
      rmid-there c.args.script.now c.args.turn.thread c.args.access.task c.args.access.cpu c.args.access.addr c.args.tag c.args.world.now r.world r.next r.place,
    )

pub access-touched-requires-clause-clock : goal.access-touched-requires-clause-clock
access-touched-requires-clause-clock c =
    let r = c.requires in
    let i = c.line_slice-slice.result in
    let s = c.index_mut.result.now in
    let there : i < length c.args.world.now.slices.items = omega (arith, c.line_slice-slice.ensures.within, ap slice_count c.machine.ensures, r.world.slices.count) in
    omega (arith, ap (λ (x : SliceValue). x.cache.clock) c.index_mut.ensures.value, has-time c.args.script.now c.args.world.now r.world i s there)

pub access-touched-requires-clause-room : goal.access-touched-requires-clause-room
access-touched-requires-clause-room c =
    let r = c.requires in
    let m = c.args.script.now.machine in
    let i = c.line_slice-slice.result in
    let s = c.index_mut.result.now in
    let there : i < length c.args.world.now.slices.items = omega (arith, c.line_slice-slice.ensures.within, ap slice_count c.machine.ensures, r.world.slices.count) in
    let number : i ≡ slice_of_line m c.args.tag.domain (line_of c.args.access.addr) = c.line_slice-slice.ensures.number ∙ ap (λ p. slice_of_line p c.args.tag.domain (line_of c.args.access.addr)) c.machine.ensures in
    subst (λ (x : SliceValue). length x.entries < x.room) (sym c.index_mut.ensures.value)
    (room-touch c.args.script.now c.args.turn.thread c.args.access.task c.args.access.cpu c.args.access.addr c.args.tag c.args.world.now r.world r.next r.place i s there number)

pub overflow_add-next : goal.overflow_add-next
overflow_add-next c =
    let r = c.requires in
    omega (arith, r.number, op-few c.args.script.now c.args.turn.thread (thread_at (machine_of c.args.world.now) c.args.turn.thread).next (ops.Access c.args.access.task c.args.access.cpu c.args.access.addr) r.world.lawful r.next.is)

pub returns-in-Stale : goal.returns-in-Stale
returns-in-Stale c =
    let r = c.requires in
    let m = c.args.script.now.machine in
    let w = c.args.world.now in
    let i = c.line_slice-slice.result in
    let s = c.access-touched.new.self in
    let before = c.index_mut.result.now in
    let line : ℕ = c.args.access.addr / 64 in
    let there : i < length w.slices.items = omega (arith, c.line_slice-slice.ensures.within, ap slice_count c.machine.ensures, r.world.slices.count) in
    let number : i ≡ slice_of_line m c.args.tag.domain (line_of c.args.access.addr) = c.line_slice-slice.ensures.number ∙ ap (λ p. slice_of_line p c.args.tag.domain line) c.machine.ensures in
    let was : before ≡ get_or w.slices.items i s = c.index_mut.ensures.value ∙ get_or_default w.slices.items i before s there in
    let its = stale-touch c.args.script.now c.args.turn.thread c.args.access.task c.args.access.cpu c.args.access.addr c.args.tag w r.world r.next r.place _ c.args.turn.number i line c.in-Stale.floor s c.access-touched.result r.number number there
    (record { tree = refl; commands = refl; lists = refl; phase = refl; threads = c.move_to.ensures; closing = refl }) refl refl refl c.in-Stale.is
    (subst (λ x. TouchesLine c.args.turn.thread c.args.turn.number c.args.tag line x s c.access-touched.result) was c.access-touched.ensures) in
    record { world = its.0; touched = its.1; tree = refl }

pub returns-in_default : goal.returns-in_default
returns-in_default c =
    let r = c.requires in
    let m = c.args.script.now.machine in
    let w = c.args.world.now in
    let i = c.line_slice-slice.result in
    let s = c.access-touched.new.self in
    let before = c.index_mut.result.now in
    let line : ℕ = c.args.access.addr / 64 in
    let there : i < length w.slices.items = omega (arith, c.line_slice-slice.ensures.within, ap slice_count c.machine.ensures, r.world.slices.count) in
    let number : i ≡ slice_of_line m c.args.tag.domain (line_of c.args.access.addr) = c.line_slice-slice.ensures.number ∙ ap (λ p. slice_of_line p c.args.tag.domain line) c.machine.ensures in
    let was : before ≡ get_or w.slices.items i s = c.index_mut.ensures.value ∙ get_or_default w.slices.items i before s there in
    let its = touched c.args.script.now c.args.turn.thread c.args.access.task c.args.access.cpu c.args.access.addr c.args.tag w r.world r.next r.place _ c.args.turn.number i line s c.access-touched.result r.number refl number there
    (record { tree = refl; commands = refl; lists = refl; phase = refl; threads = c.move_to-in_default.ensures; closing = refl }) refl refl refl c.in_default.not-Stale
    (subst (λ x. TouchesLine c.args.turn.thread c.args.turn.number c.args.tag line x s c.access-touched.result) was c.access-touched.ensures) in
    record { world = its.0; touched = its.1; tree = refl }
