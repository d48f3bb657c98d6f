use Rattle.std.proofs.Common.{Bool, ◌&&◌, sym, ap, ◌∙◌, arith}
use Rattle.pair_windows.proofs.MarkedOps.{AreMarked-other, and-fails, is_use_in-past}
use Rattle.pair_windows.proofs.hits.mark.Goals as goal
use Rattle.pair_windows.proofs.hits.mark.Goals.{else-is_hit-via-then-is_hit+then-place-hits+else-is_use_in, else-is_hit-via-then-is_hit+else-place-hits, else-is_hit-via-else-is_hit}
use Rattle.pair_windows.specs.Hits.{is_use_in}
use Rattle.pair_text.specs.Values.{op_at}
use Rattle.pair_law.specs.LevelRuns.{is_hit}

-- an entry that is no hit of a use on a CPU of the domain
pub returns-else-is_hit : goal.returns-else-is_hit
returns-else-is_hit c = AreMarked-other c.args.script.now c.args.side c.args.domain c.args.entry.now c.args.hits.now (elim c.else-is_hit.branch [
  | else-is_hit-via-then-is_hit+then-place-hits+else-is_use_in w ↦ and-fails (is_hit c.args.entry.now.what) _ (sym w.is_use_in.ensures ∙ w.if-is_use_in.false)
  | else-is_hit-via-then-is_hit+else-place-hits w ↦ and-fails (is_hit c.args.entry.now.what) _ (is_use_in-past c.args.script.now c.args.side c.args.domain c.args.entry.now.op (let all = c.requires.all in let past = w.if-place-hits.false in omega (arith, all, past)))
  | else-is_hit-via-else-is_hit w ↦ ap (λ (b : Bool). b && is_use_in c.args.script.now c.args.side c.args.domain (op_at c.args.script.now c.args.entry.now.op)) (sym c.is_hit.ensures ∙ w.if-is_hit.false)
])
