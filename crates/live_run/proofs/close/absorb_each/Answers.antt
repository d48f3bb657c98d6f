use Rattle.std.proofs.Common.{◌≡◌, ℕ, ◌<◌, ◌∙◌, arith, length, subst, sym}
use Rattle.std.proofs.lemmas.List.{get_or_default}
use Rattle.live_run.proofs.TakenShares.{HasGiven, HaveTakenIn-next, rest-next}
use Rattle.live_run.proofs.close.absorb_each.Goals as goal
use Rattle.live_run.specs.Cells.{SliceCellValue}
use Rattle.live_run.specs.Openings.{part_at}

pub give-requires : goal.give-requires
give-requires g c =
    let i : ℕ = c.loop-i.i in
    let had = c.loop-i.invariant in
    let old : SliceCellValue = c.index_mut.result.now in
    let within : i < length c.args.parts.now.items = omega (arith, c.loop-i-test.true, c.len-i-end.ensures, c.args.parts.now.ok.0) in
    let is : part_at c.loop-i.parts.items i old ≡ old = sym c.index_mut.ensures.value in
    record {
      table = subst (λ (p : SliceCellValue). p.share.table ≡ c.loop-i.all.table) is (had.taken.tables i old within ∙ (c.requires.tables i old within ∙ sym had.taken.table));
    }

pub loop-i-preserved : goal.loop-i-preserved
loop-i-preserved g c =
    let i : ℕ = c.loop-i.i in
    let had = c.loop-i.invariant in
    let old : SliceCellValue = c.index_mut.result.now in
    let new : SliceCellValue = c.give.new.self in
    let within : i < length c.args.parts.now.items = omega (arith, c.loop-i-test.true, c.len-i-end.ensures, c.args.parts.now.ok.0) in
    let old_is : (d : SliceCellValue) → part_at c.loop-i.parts.items i d ≡ old = (λ d. get_or_default c.loop-i.parts.items i d old (omega (arith, within, had.taken.count)) ∙ sym c.index_mut.ensures.value) in
    let given : HasGiven old new = record {
      cache = c.give.ensures.same.0;
      journal = c.give.ensures.same.1;
      tree = c.give.ensures.same.2;
      table = c.give.ensures.same.3;
    } in
    record {
      taken = HaveTakenIn-next c.args.all.now c.loop-i.all c.give.new.all c.args.parts.now.items c.loop-i.parts.items i within had.taken had.rest old new old_is given c.give.ensures.all.0 c.give.ensures.all.1;
      rest = rest-next c.args.all.now c.loop-i.all c.give.new.all c.args.parts.now.items c.loop-i.parts.items i within had.taken had.rest old new old_is given c.give.ensures.all.0 c.give.ensures.all.1;
    }
