use Rattle.std.proofs.Common.{arith}
use Rattle.journal_text.specs.Readings.{IsBadLine}
use Rattle.check_parts.proofs.WholeLines.{length-whole_lines}
use Rattle.check_parts.proofs.judging.expected_in.Goals as goal

pub overflow_add-result : goal.overflow_add-result
overflow_add-result c =
    let text = c.journal_part.result.now in
    let bad : IsBadLine c.args.script.now text c.in-Err-Bad.line = rw c.in-Err-Bad.field-0-is at c.in-Err-Bad.ensures in
    omega (arith, bad.to_last, length-whole_lines text, c.journal_part.ensures.short, c.requires.few, c.requires.within, c.requires.lines)
