use Rattle.std.proofs.Common.{ℕ, ◌≡◌, ◌++◌, List, sym, subst, ap, ◌∙◌}
use Rattle.std.specs.Prelude.{IfOk}
use Rattle.report_text.proofs.laws.Halves.{report_of-halves}
use Rattle.report_text.specs.Halves.{tail_of}
use Rattle.report_text.specs.Reporting.{report_of}
use Rattle.report_text.proofs.report.text.Goals as goal

pub returns : goal.returns
returns c =
    let script = c.args.script.now in
    let j = c.args.journals.now in
    let flags = c.args.flags in
    let windows = c.args.windows.now in
    let whole : c.in_ok-head.head ++ tail_of script j flags windows ≡ report_of script j flags windows =
    ap (λ (l : List ℕ). l ++ tail_of script j flags windows) c.in_ok-head.ensures ∙ sym (report_of-halves script j flags windows) in
    subst (λ (l : List ℕ). IfOk c.finish.result (λ bytes. bytes.items ≡ l)) whole c.finish.ensures
