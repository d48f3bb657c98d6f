use Rattle.std.proofs.Common.{◌≡◌, ℕ, ◌<◌, List, [], length, get_or, Option, Some, refl, sym, ap, ◌∙◌, subst, arith}
use Rattle.std.specs.Prelude.{IfSome, IsSome, slice_get}
use Rattle.machine.specs.Slices.{slice_count, slice_number}
use Rattle.machine.specs.declared.parameters.Parameters.{Parameters}
use Rattle.step_world.proofs.LookingWorlds.{can-look, here-few, list-room, looked, looking, looks-few, now_needs, room-look}
use Rattle.step_world.proofs.commands.look.Goals as goal
use Rattle.run_law.specs.LookLists.{spare_in}
use Rattle.step_world.specs.Slices.{CountsLines, SliceValue}

pub need-domain-requires-clause-looks : goal.need-domain-requires-clause-looks
need-domain-requires-clause-looks c =
    let r = c.requires in
    let its = looking c.args.script.now c.args.turn.thread c.args.made c.args.op.now c.args.world.now r.world r.next r.place [] in
    subst (λ (o : Option (List (ℕ × ℕ))). IsSome o) (sym (its.counts (omega (arith, r.more)))) refl

pub need-domain-requires-clause-within : goal.need-domain-requires-clause-within
need-domain-requires-clause-within c =
    let r = c.requires in
    let w = c.args.world.now in
    let its = looking c.args.script.now c.args.turn.thread c.args.made c.args.op.now w r.world r.next r.place [] in
    subst (λ (o : Option (List (ℕ × ℕ))). IfSome o (λ counts. w.work.at < length counts)) (sym (its.counts (omega (arith, r.more)))) (omega (arith, r.more, its.number))

pub slice_number-slice-requires-clause-domain_there : goal.slice_number-slice-requires-clause-domain_there
slice_number-slice-requires-clause-domain_there c =
    let r = c.requires in
    let w = c.args.world.now in
    let its = looking c.args.script.now c.args.turn.thread c.args.made c.args.op.now w r.world r.next r.place [] in
    let need : slice_get (now_needs c.args.script.now c.args.turn.thread c.args.made c.args.op.now w r.world r.next r.place) w.work.at ≡ Some c.need-domain.result =
    subst (λ (o : Option (List (ℕ × ℕ))). IfSome o (λ counts. slice_get counts w.work.at ≡ Some c.need-domain.result)) (its.counts (omega (arith, r.more))) c.need-domain.ensures in
    omega (arith, ap (λ (m : Parameters). m.domains) c.machine-m.ensures, (can-look c.args.script.now c.args.turn.thread c.args.made c.args.op.now w r.world r.next r.place w.work.at c.need-domain.result need).0)

pub slice_number-slice-requires-clause-slice_there : goal.slice_number-slice-requires-clause-slice_there
slice_number-slice-requires-clause-slice_there c =
    let r = c.requires in
    let its = looking c.args.script.now c.args.turn.thread c.args.made c.args.op.now c.args.world.now r.world r.next r.place [] in
    omega (arith, ap (λ (m : Parameters). m.slices) c.machine-m.ensures, its.slice)

pub look-lines-requires-clause-rmid : goal.look-lines-requires-clause-rmid
look-lines-requires-clause-rmid c =
    let r = c.requires in
    let w = c.args.world.now in
    let i = c.slice_number-slice.result in
    let s = c.index_mut.result.now in
    let its = looking c.args.script.now c.args.turn.thread c.args.made c.args.op.now w r.world r.next r.place [] in
    let there : i < length w.slices.items = omega (arith, c.slice_number-slice.ensures.within, ap slice_count c.machine-m.ensures, r.world.slices.count) in
    let need : slice_get (now_needs c.args.script.now c.args.turn.thread c.args.made c.args.op.now w r.world r.next r.place) w.work.at ≡ Some c.need-domain.result =
    subst (λ (o : Option (List (ℕ × ℕ))). IfSome o (λ counts. slice_get counts w.work.at ≡ Some c.need-domain.result)) (its.counts (omega (arith, r.more))) c.need-domain.ensures in
    omega (
      arith,
      ap (λ (x : SliceValue). x.cache.rmids) c.index_mut.ensures.value,
      (r.world.slices.caches i s there).rmids,
      (can-look c.args.script.now c.args.turn.thread c.args.made c.args.op.now w r.world r.next r.place w.work.at c.need-domain.result need).1,
    )

pub look-lines-requires-clause-room : goal.look-lines-requires-clause-room
look-lines-requires-clause-room c =
    let r = c.requires in
    let w = c.args.world.now in
    let m = c.args.script.now.machine in
    let i = c.slice_number-slice.result in
    let s = c.index_mut.result.now in
    let its = looking c.args.script.now c.args.turn.thread c.args.made c.args.op.now w r.world r.next r.place [] in
    let there : i < length w.slices.items = omega (arith, c.slice_number-slice.ensures.within, ap slice_count c.machine-m.ensures, r.world.slices.count) in
    let number : i ≡ slice_number m c.need-domain.result.0 w.work.slice = c.slice_number-slice.ensures.number ∙ ap (λ p. slice_number p c.need-domain.result.0 w.work.slice) c.machine-m.ensures in
    let need : slice_get (now_needs c.args.script.now c.args.turn.thread c.args.made c.args.op.now w r.world r.next r.place) w.work.at ≡ Some c.need-domain.result =
    subst (λ (o : Option (List (ℕ × ℕ))). IfSome o (λ counts. slice_get counts w.work.at ≡ Some c.need-domain.result)) (its.counts (omega (arith, r.more))) c.need-domain.ensures in
    subst (λ (x : SliceValue). length x.entries < x.room) (sym c.index_mut.ensures.value)
    (room-look c.args.script.now c.args.turn.thread c.args.made c.args.op.now w r.world r.next r.place (get_or w.lists.items c.args.turn.thread []) its c.need-domain.result s need i number there)

pub count_on-requires-clause-slice : goal.count_on-requires-clause-slice
count_on-requires-clause-slice c =
    let r = c.requires in
    let its = looking c.args.script.now c.args.turn.thread c.args.made c.args.op.now c.args.world.now r.world r.next r.place [] in
    omega (arith, ap (λ (m : Parameters). m.slices) c.machine-m.ensures, its.slice)

pub count_on-requires-clause-sum : goal.count_on-requires-clause-sum
count_on-requires-clause-sum c =
    let r = c.requires in
    let w = c.args.world.now in
    let i = c.slice_number-slice.result in
    let s = c.index_mut.result.now in
    let its = looking c.args.script.now c.args.turn.thread c.args.made c.args.op.now w r.world r.next r.place [] in
    let there : i < length w.slices.items = omega (arith, c.slice_number-slice.ensures.within, ap slice_count c.machine-m.ensures, r.world.slices.count) in
    let counts : CountsLines c.args.turn.thread c.args.turn.number c.epoch.result c.need-domain.result.1 c.look-lines.result (get_or w.slices.items i s) c.look-lines.new.self =
    subst (λ x. CountsLines c.args.turn.thread c.args.turn.number c.epoch.result c.need-domain.result.1 c.look-lines.result x c.look-lines.new.self) c.index_mut.ensures.value c.look-lines.ensures in
    omega (
      arith,
      its.bound,
      its.slice,
      r.world.lawful.in_range.slice_limit,
      here-few c.args.script.now c.args.turn.thread c.args.made c.args.op.now w r.world r.next r.place i c.args.turn.number c.epoch.result c.need-domain.result.1 c.look-lines.result s c.look-lines.new.self there counts,
    )

pub count_on-requires-clause-room : goal.count_on-requires-clause-room
count_on-requires-clause-room c =
    let r = c.requires in
    let w = c.args.world.now in
    let had = c.index_mut-2.result.now in
    subst (λ ls. 0 < spare_in ls) (sym c.index_mut-2.ensures.value)
    (list-room c.args.script.now c.args.turn.thread c.args.made c.args.op.now w r.world r.next r.place (get_or w.lists.items c.args.turn.thread had)
    (looking c.args.script.now c.args.turn.thread c.args.made c.args.op.now w r.world r.next r.place had) r.more)

pub overflow_add-made : goal.overflow_add-made
overflow_add-made c =
    let r = c.requires in
    let w = c.args.world.now in
    omega (
      arith,
      looks-few c.args.script.now c.args.turn.thread c.args.made c.args.op.now w r.world r.next r.place (get_or w.lists.items c.args.turn.thread [])
          (looking c.args.script.now c.args.turn.thread c.args.made c.args.op.now w r.world r.next r.place []),
    )

pub returns : goal.returns
returns c =
    let r = c.requires in
    let w = c.args.world.now in
    let m = c.args.script.now.machine in
    let i = c.slice_number-slice.result in
    let its = looking c.args.script.now c.args.turn.thread c.args.made c.args.op.now w r.world r.next r.place [] in
    let there : i < length w.slices.items = omega (arith, c.slice_number-slice.ensures.within, ap slice_count c.machine-m.ensures, r.world.slices.count) in
    let number : i ≡ slice_number m c.need-domain.result.0 w.work.slice = c.slice_number-slice.ensures.number ∙ ap (λ p. slice_number p c.need-domain.result.0 w.work.slice) c.machine-m.ensures in
    let need : slice_get (now_needs c.args.script.now c.args.turn.thread c.args.made c.args.op.now w r.world r.next r.place) w.work.at ≡ Some c.need-domain.result =
    subst (λ (o : Option (List (ℕ × ℕ))). IfSome o (λ counts. slice_get counts w.work.at ≡ Some c.need-domain.result)) (its.counts (omega (arith, r.more))) c.need-domain.ensures in
    let done = looked c.args.script.now c.args.turn.thread c.args.made c.args.op.now w r.world r.next r.place _ c.args.turn.number i c.look-lines.result c.epoch.result c.machine-m.result.now.slices c.need-domain.result c.look-lines.new.self
    c.index_mut.result.now c.index_mut-2.result.now c.count_on.new.lists r.number need (ap (λ (p : Parameters). p.slices) c.machine-m.ensures) number there c.index_mut.ensures.value c.epoch.ensures c.look-lines.ensures
    c.index_mut-2.ensures.value c.count_on.ensures refl refl refl refl refl refl refl c.move_to.ensures in
    record { world = done.0; counted = done.1 }
