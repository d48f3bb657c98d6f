use Rattle.std.proofs.Common.{rules, ◌≡◌, ◌<◌, ℕ, List, Some, length, slice_index_or, ap, sym, ◌∙◌, arith}
use Rattle.std.specs.List.{slice_get}
use Rattle.std.proofs.lemmas.Option.{slice_get-get_or}
use Rattle.script_ops.specs.Values.{ScriptValue, op_at, ops_of}
use Rattle.live_law.proofs.laws.SeenJournals.{HasGrown-through}
use Rattle.script_ops.specs.declared.op.Op.{Op}
use Rattle.live_run.proofs.live.Live.work.Goals as goal

-- the op that was found by its number is the thread's next
op_at-next : (script : ScriptValue) (thread next i : ℕ) (ops : List Op) (op : Op) → ops ≡ ops_of script thread → next ≡ i → i < length ops → ((d : Op) → op ≡ slice_index_or ops i d)
    → op_at script thread next ≡ Some op
op_at-next script thread next i ops op are is within at =
    ap (λ (n : ℕ). slice_get (ops_of script thread) n) is ∙ ap (λ (os : List Op). slice_get os i) (sym are) ∙ slice_get-get_or ops i op within ∙ ap (λ (o : Op). Some o) (sym (at op))

pub make-requires-clause-op : goal.make-requires-clause-op
make-requires-clause-op g c κs within =
    op_at-next g.N.RunNames.script c.loop-i.p.seen.thread c.loop-i.p.next c.loop-i.i c.ops-ops.result.now c.get-op.result.now
    (c.ops-ops.ensures.ops ∙ ap (λ (s : ScriptValue). ops_of s c.thread-thread.result) c.requires.script ∙ ap (λ (t : ℕ). ops_of g.N.RunNames.script t) (c.thread-thread.ensures.thread ∙ ap (λ p. p.seen.thread) c.p.view_is ∙ sym c.loop-i.invariant.thread))
    c.loop-i.invariant.next (omega (arith, c.loop-i-test.true, c.len-i-end.ensures)) (λ d. c.get-op.ensures ∙ c.at-op.ensures d)

pub loop-i-preserved : goal.loop-i-preserved
loop-i-preserved g c = record {
  thread = c.make.ensures.thread ∙ c.loop-i.invariant.thread;
  next = search rules;
  begun = c.make.ensures.begun;
  grown = HasGrown-through _ _ _ c.loop-i.invariant.grown c.make.ensures.seen;
}
