use Rattle.std.proofs.Common.{ℕ, ◌≡◌, ◌++◌, List, sym, subst, ap, ◌∙◌}
use Rattle.std.specs.Prelude.{IfOk}
use Rattle.json_report.proofs.laws.Halves.{json_of-halves}
use Rattle.json_report.specs.Halves.{tail_of}
use Rattle.json_report.specs.Reporting.{json_of}
use Rattle.json_report.proofs.report.text.Goals as goal

pub returns : goal.returns
returns c =
    let script = c.args.script.now in
    let j = c.args.journals.now in
    let flags = c.args.flags in
    let windows = c.args.windows.now in
    let whole : c.in_ok-head.head ++ tail_of script j flags windows ≡ json_of script j flags windows =
    ap (λ (l : List ℕ). l ++ tail_of script j flags windows) c.in_ok-head.ensures ∙ sym (json_of-halves script j flags windows) in
    subst (λ (l : List ℕ). IfOk c.finish.result (λ bytes. bytes.items ≡ l)) whole c.finish.ensures
