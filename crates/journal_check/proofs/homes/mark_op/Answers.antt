use Rattle.std.proofs.Common.{◌≡◌, List, ℕ, Some, sym, ap, ◌∙◌, subst}
use Rattle.std.proofs.lemmas.Option.{slice_get_within}
use Rattle.journal_check.proofs.HomeMarks.{MarksOp-changed}
use Rattle.journal_check.proofs.TableNumbers.{row-there}
use Rattle.journal_check.specs.Homes.{MarksOp}
use Rattle.journal_check.specs.Tables.{number_at, row_of}
use Rattle.journal_check.proofs.homes.mark_op.Goals as goal

pub returns-in-Some-eq0-clause-marked : goal.returns-in-Some-eq0-clause-marked
returns-in-Some-eq0-clause-marked c passes =
    let table = c.args.marks.now in
    let thread = c.args.thread in
    let op = c.args.op in
    let old : number_at table thread op ≡ Some 0 = sym c.in-Some-eq0.ensures ∙ ap (λ (n : ℕ). Some n) c.in-Some-eq0.field-0-test in
    subst (λ (new : List (List ℕ)). MarksOp table new thread op) (sym c.set.ensures) (MarksOp-changed table thread op (row-there table thread op 0 old) (slice_get_within (row_of table thread) op 0 old) old)
