use Rattle.std.proofs.Common.{◌≡◌, ◌<◌, length, take, get_or, sym, arith}
use Rattle.std.proofs.lemmas.Grind.{common_steps}
use Rattle.std.proofs.Math.Seq.{take-set-lt}
use Rattle.hw_ids.specs.declared.uses.Use.TheVariants.{Free}
use Rattle.hw_ids.proofs.Releases.{Released-next_lt, places-released, Released-skip, Released-start, Released-tested}
use Rattle.hw_ids.proofs.uses.release.Goals as goal
use Rattle.hw_ids.proofs.uses.release.Goals.{then-is_limbo, else-is_limbo}

pub bounds-bytes-next : goal.bounds-bytes-next
bounds-bytes-next c =
    let here : get_or (take c.args.count c.loop-rmid.uses) c.loop-rmid.rmid Free ≡ get_or c.loop-rmid.uses c.loop-rmid.rmid Free = grind (arith, common_steps) in
    let within : c.loop-rmid.rmid < length (take c.args.count c.loop-rmid.uses) = grind (arith, common_steps) in
    Released-next_lt _ _ _ _ _ _ within (rw here (sym c.if-is_limbo.ensures)) c.loop-rmid.invariant.walk

pub loop-rmid-init : goal.loop-rmid-init
loop-rmid-init c = record { whole = c.told-uses; walk = Released-start _ _ _ c.requires.each }

pub loop-rmid-preserved : goal.loop-rmid-preserved
loop-rmid-preserved c =
    let here : get_or (take c.args.count c.loop-rmid.uses) c.loop-rmid.rmid Free ≡ get_or c.loop-rmid.uses c.loop-rmid.rmid Free = grind (arith, common_steps) in
    let within : c.loop-rmid.rmid < length (take c.args.count c.loop-rmid.uses) = grind (arith, common_steps) in
    record {
      whole = c.if-is_limbo.array_long;
      walk = elim c.if-is_limbo.branch [
        | then-is_limbo w ↦
            let below : c.loop-rmid.rmid < c.args.count = c.loop-rmid-test.true in
            rw (w.uses-is, w.next-is, w.use_after.ensures, take-set-lt)
            (Released-tested _ _ _ _ _ _ within (rw here (sym w.if-is_limbo.ensures)) c.loop-rmid.invariant.walk)
        | else-is_limbo w ↦ rw (w.uses-is, w.next-is) (Released-skip _ _ _ _ _ _ within (rw here (sym w.if-is_limbo.ensures)) c.loop-rmid.invariant.walk)
      ];
    }

pub returns-clause-limbo : goal.returns-clause-limbo
returns-clause-limbo c = let all : c.loop-rmid.rmid ≡ length (take c.args.count c.loop-rmid.uses) = grind (arith, common_steps) in places-released _ _ _ _ _ _ all c.loop-rmid.invariant.walk
