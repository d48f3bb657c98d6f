use Rattle.std.proofs.Common.{◌+◌, ◌≡◌, ℕ, List, ◌++◌, ap, sym, ◌∙◌, arith}
use Rattle.std.specs.List.{flat_map, range_with_len}
use Rattle.lists.proofs.Ranges.{flat_map-push, range_with_len-suc}
use Rattle.share_plans.specs.Reports.{row_line}
use Rattle.share_plans.proofs.report.push_row.Goals as goal

pub loop-fewer-preserved : goal.loop-fewer-preserved
loop-fewer-preserved c =
    let row = c.args.row.now in
    let fewer = c.loop-fewer.fewer in
    let now = c.loop-fewer.text in
    let next : fewer + 1 ≡ 1 + fewer = omega arith in
    let more = c.in_ok-push_row_line.ensures ∙ ap (λ (k : ℕ). now ++ row_line row k) next in
    flat_map-push (row_line row) (range_with_len 1 fewer) (1 + fewer) c.args.text.now now c.push_row_line.new.text c.loop-fewer.invariant more
    ∙ ap (λ (l : List ℕ). c.args.text.now ++ flat_map (row_line row) l) (sym (range_with_len-suc 1 fewer))
