use Rattle.std.proofs.Common.{◌≡◌, ◌<◌, length, get_or, arith}
use Rattle.journal_text.proofs.Numbers.{decimal-leading_zero, decimal-read}
use Rattle.journal_text.proofs.cursor.number.Goals as goal
use Rattle.journal_text.proofs.cursor.number.Goals.{else-text-gt1-via-else-text-gt1, else-text-gt1-via-then-text-gt1+else-text-eq48}

pub returns-then-text-eq48 : goal.returns-then-text-eq48
returns-then-text-eq48 c = λ n small is. decimal-leading_zero n c.args.text.now small is c.if-text-gt1.true (c.if-text-eq48.true)

pub returns : goal.returns
returns c =
    let text = c.args.text.now in
    let zero_less : 1 < length text → get_or text 0 0 ≡ 48 → ⊥ = elim c.else-text-gt1.branch [
      | else-text-gt1-via-then-text-gt1+else-text-eq48 w ↦ λ long first. w.if-text-eq48.false first
      | else-text-gt1-via-else-text-gt1 w ↦ λ long first. (let short = w.if-text-gt1.false in omega arith)
    ] in
    decimal-read c.read_dec.result text c.read_dec.ensures zero_less
