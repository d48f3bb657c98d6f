use Rattle.std.proofs.Common.{rules, codes, arith}
use Rattle.machine.specs.Maps.{parameters_of}
use Rattle.journal_text.proofs.KindWords.{is_word}
use Rattle.journal_text.proofs.SliceParts.{no_place, no_slice_word, other_place, slice_line-read, too_many}
use Rattle.journal_text.proofs.counts.count_of_line.Goals as goal

pub returns-then-not-is_text : goal.returns-then-not-is_text
returns-then-not-is_text c = no_slice_word (parameters_of c.args.machine.now) c.args.slice c.args.weight c.first_word.result.0.now c.first_word.result.1.now c.args.line.now (search rules) (search rules) c.first_word.ensures c.if-not-is_text.ensures

pub returns-in_err-domain : goal.returns-in_err-domain
returns-in_err-domain c = rw c.from_residual.ensures (no_place (parameters_of c.args.machine.now) c.args.slice c.args.weight c.first_word.result.0.now c.first_word.result.1.now c.args.line.now (search rules) (search rules) c.first_word.ensures c.in_err-domain.ensures)

pub returns-then-not-is_place : goal.returns-then-not-is_place
returns-then-not-is_place c =
    let a = c.in_ok-domain in
    other_place (parameters_of c.args.machine.now) c.args.slice c.args.weight c.first_word.result.0.now c.first_word.result.1.now c.args.line.now (search rules) (search rules) c.first_word.ensures a.domain a.part a.count a.ensures c.if-not-is_place.ensures

pub returns-then-count-weight : goal.returns-then-count-weight
returns-then-count-weight c =
    let a = c.in_ok-domain in
    let many = c.if-count-weight.true in
    too_many (parameters_of c.args.machine.now) c.args.slice c.args.weight c.first_word.result.0.now c.first_word.result.1.now c.args.line.now (search rules) (search rules) c.first_word.ensures a.domain a.part a.count a.ensures (λ few. omega arith)

pub returns : goal.returns
returns c =
    let a = c.in_ok-domain in
    (c.if-count-weight.false, slice_line-read (parameters_of c.args.machine.now) c.args.slice c.args.weight c.first_word.result.0.now c.first_word.result.1.now c.args.line.now (search rules) (search rules) c.first_word.ensures a.domain a.part a.count a.ensures (is_word (codes "slice") c.first_word.result.0.now c.if-not-is_text.ensures) c.if-not-is_place.ensures)
