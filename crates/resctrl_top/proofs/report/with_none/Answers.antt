use Rattle.std.proofs.Common.{List, ap, ◌∙◌}
use Rattle.resctrl_top.specs.Outputs.{output_of}
use Rattle.run_counts.specs.declared.window.Window.{Window}
use Rattle.resctrl_top.proofs.report.with_none.Goals as goal

pub returns : goal.returns
returns c =
    let script = c.args.script.now in
    let run = c.args.journals.now in
    let flags = c.args.flags in
    record {
      windows = c.in_ok-windows.windows.items;
      are = c.in_ok-windows.ensures;
      is = c.in_ok-text.ensures ∙ ap (λ (w : List Window). output_of script run flags w) c.deref.ensures.value;
    }
