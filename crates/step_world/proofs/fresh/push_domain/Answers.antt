use Rattle.std.proofs.Common.{◌≡◌, ◌+◌, ◌*◌, ◌<◌, ap, arith, sym, subst, ◌∙◌}
use Rattle.machine.specs.Maps.{parameters_of}
use Rattle.machine.specs.Slices.{slice_count, slice_number}
use Rattle.run_law.specs.Quotas.{room_of}
use Rattle.step_world.proofs.Openings.{AreFresh-push}
use Rattle.step_world.proofs.fresh.push_domain.Goals as goal
use Rattle.step_world.specs.Openings.{AreFresh}
use Rattle.step_world.specs.Slices.{IsFresh}

pub loop-slice-preserved : goal.loop-slice-preserved
loop-slice-preserved c =
    let script = c.args.script.now in
    let domain = c.args.domain in
    let slice = c.loop-slice.slice in
    let n = domain * script.machine.slices + slice in
    let one = c.in_ok-create.field-0 in
    let same : parameters_of c.machine-m.result.now ≡ script.machine = c.machine-m.ensures in
    let fresh : IsFresh script.machine n one = subst (λ p. IsFresh p (slice_number p domain slice) one) same c.in_ok-create.ensures.fresh in
    let number : c.slice_number.result ≡ n = c.slice_number.ensures.number ∙ ap (λ p. slice_number p domain slice) same in
    let within : c.slice_number.result < slice_count script.machine = omega (arith, c.slice_number.ensures.within, ap slice_count same) in
    let room : one.room ≡ room_of script n = c.in_ok-create.ensures.room ∙ c.requires.rooms.each c.slice_number.result 0 within ∙ ap (room_of script) number in
    let count : n + 1 ≡ domain * script.machine.slices + (slice + 1) = omega arith in
    subst (λ k. AreFresh script k c.push.new.self.items) count
    (subst (λ xs. AreFresh script (n + 1) xs) (sym c.in_ok-push.ensures.items) (AreFresh-push script n c.loop-slice.slices.items one c.loop-slice.invariant fresh room))
