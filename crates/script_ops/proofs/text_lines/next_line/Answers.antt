use Rattle.std.proofs.Common.{◌≡◌, ◌<◌, length, true, false, ap, ◌∙◌}
use Rattle.std.specs.List.{list_any, before_first, after_first}
use Rattle.std.specs.Str.Lines.{strip_carriage_return}
use Rattle.script_ops.proofs.FirstLine.{newline, lines-some, lines-last}
use Rattle.script_ops.proofs.text_lines.next_line.Goals as goal

pub returns-in-Some : goal.returns-in-Some
returns-in-Some c =
    let text = c.args.text.now in
    let back : (list_any newline text ≡ true) × (c.in-Some.rest.now ≡ after_first newline text) × (length c.in-Some.rest.now < length text) = rw c.in-Some.is at c.cut.ensures.back in
    let more = lines-some text back.0 in
    let line : c.strip.result.now ≡ strip_carriage_return (before_first newline text) = c.strip.ensures ∙ ap strip_carriage_return c.cut.ensures.front in
    rw (line, back.1) more

pub returns-in-None : goal.returns-in-None
returns-in-None c =
    let text = c.args.text.now in
    let back : list_any newline text ≡ false = rw c.in-None.is at c.cut.ensures.back in
    lines-last text back c.last_line.result c.last_line.ensures
