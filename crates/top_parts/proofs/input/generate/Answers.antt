use Rattle.top_parts.proofs.FewBytes.{IfOk-meaning, meaning-script}
use Rattle.trace_gen.specs.Scripts.{trace_script}
use Rattle.trace_gen.specs.Trace.{trace_text}
use Rattle.top_parts.proofs.input.generate.Goals as goal

pub returns : goal.returns
returns c =
    let text = c.traces_are_scripts.ensures c.args.n c.requires.low c.requires.high in
    let says = c.traces_say_what_is_stated.ensures c.args.n c.requires.low c.requires.high in
    IfOk-meaning (trace_text c.args.n) (trace_script c.args.n) c.make_script.result (meaning-script (trace_text c.args.n) (trace_script c.args.n) text.short says) c.make_script.ensures
