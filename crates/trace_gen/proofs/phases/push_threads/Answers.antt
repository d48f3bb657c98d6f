use Rattle.std.proofs.Common.{◌+◌, refl}
use Rattle.trace_gen.proofs.Texts.{text_of-next_thread}
use Rattle.trace_gen.proofs.phases.push_threads.Goals as goal

pub loop-before-preserved : goal.loop-before-preserved
loop-before-preserved c = record {
  last = c.in_ok-push_thread.ensures.last;
  text = text_of-next_thread c.args.n c.loop-before.before (c.loop-before.before + 1) c.args.trace.now.text c.loop-before.trace.text c.push_thread.new.trace.text refl c.loop-before.invariant.text c.in_ok-push_thread.ensures.text;
}
