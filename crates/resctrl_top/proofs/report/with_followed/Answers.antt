use Rattle.std.proofs.Common.{ℕ, List, ◌++◌, sym, ap, ◌∙◌}
use Rattle.resctrl_top.proofs.OutputHalves.{output_of-halves}
use Rattle.resctrl_top.specs.Halves.{output_tail}
use Rattle.run_counts.specs.declared.window.Window.{Window}
use Rattle.resctrl_top.proofs.report.with_followed.Goals as goal

pub returns : goal.returns
returns c =
    let script = c.args.script.now in
    let run = c.args.journals.now in
    let flags = c.args.flags in
    let windows = c.in_ok-windows.windows.items in
    record {
      windows = windows;
      are = c.in_ok-windows.ensures;
      is =
          c.in_ok-text.ensures ∙ (ap (λ (w : List Window). c.in_ok-head.head ++ output_tail script run flags w) c.deref.ensures.value
          ∙ (ap (λ (l : List ℕ). l ++ output_tail script run flags windows) c.in_ok-head.ensures.text ∙ sym (output_of-halves script run flags windows)));
    }
