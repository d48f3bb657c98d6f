use Rattle.std.proofs.Common.{◌+◌, ◌-◌, List, length, refl, sym, subst, arith}
use Rattle.private_lru.specs.declared.exclusive_span.ExclusiveSpan.{ExclusiveSpan}
use Rattle.run_windows.proofs.Pasts.{begun-some}
use Rattle.run_windows.proofs.Sweeps.{AreStays-begun}
use Rattle.run_windows.specs.Stays.{AreStays}
use Rattle.run_windows.proofs.timeline.stays_at.Goals as goal

pub sweep_at-requires-clause-within : goal.sweep_at-requires-clause-within
sweep_at-requires-clause-within c =
    let found = c.count_begun-begun.ensures in
    let some = begun-some c.args.timeline.now.run.script.now c.args.timeline.now.run.journals.now c.args.timeline.now.pasts.now c.requires.timeline.changes c.args.epoch c.count_begun-begun.result found.rest in
    let most = found.within in
    omega (arith, some, most)

pub returns : goal.returns
returns c =
    let found = c.count_begun-begun.ensures in
    let pasts = c.args.timeline.now.pasts.now in
    subst (λ (l : List ExclusiveSpan). AreStays c.args.timeline.now.run.script.now c.args.timeline.now.run.journals.now c.args.domain c.args.epoch l) (sym c.in_ok-sweep.ensures.0)
    (AreStays-begun c.args.timeline.now.run.script.now c.args.timeline.now.run.journals.now pasts c.requires.timeline.changes c.requires.timeline.lawful c.requires.timeline.run c.args.domain c.args.epoch c.count_begun-begun.result (length pasts + 1 - c.count_begun-begun.result)
    c.requires.known found.within refl found.begun found.rest)
