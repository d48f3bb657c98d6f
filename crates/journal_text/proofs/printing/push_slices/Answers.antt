use Rattle.std.proofs.Common.{◌++◌, ◌<◌, ◌≤◌, List, ℕ, ap, arith, length, sym, ◌∙◌}
use Rattle.std.proofs.lemmas.List.{take_all}
use Rattle.journal_text.specs.Lines.{lines_from, text_of}
use Rattle.journal_text.proofs.Pushes.{text_of-lines_from, text_of-none}
use Rattle.journal_text.proofs.laws.Texts.{lines_from-nil}
use Rattle.cache_core.specs.declared.entry.SliceEntry.{SliceEntry}
use Rattle.machine.specs.Maps.{parameters_of}
use Rattle.journal_text.proofs.printing.push_slices.Goals as goal

pub loop-slice-init : goal.loop-slice-init
loop-slice-init c = text_of-none c.args.text.now ∙ ap (λ (lines : List (List ℕ)). c.args.text.now ++ text_of lines) (sym (lines_from-nil (parameters_of c.args.machine.now) 0))

pub loop-slice-preserved : goal.loop-slice-preserved
loop-slice-preserved c =
    let slices = c.args.journals.now.slices in
    let test = c.loop-slice-test.true in
    let within : c.loop-slice.slice < length slices = omega (arith, test, c.from-slice-end.ensures, c.slice_count.ensures.count, c.requires) in
    text_of-lines_from (parameters_of c.args.machine.now) slices c.args.text.now c.loop-slice.text c.push_slice.new.text c.loop-slice.slice c.slice.result.now within c.slice.ensures c.loop-slice.invariant c.in_ok-push_slice.ensures

pub returns : goal.returns
returns c =
    let slices = c.args.journals.now.slices in
    let test = c.loop-slice-test.false in
    let end : length slices ≤ c.loop-slice.slice = omega (arith, test, c.from-slice-end.ensures, c.slice_count.ensures.count, c.requires) in
    c.loop-slice.invariant ∙ ap (λ (s : List (List SliceEntry)). c.args.text.now ++ text_of (lines_from (parameters_of c.args.machine.now) 0 s)) (take_all c.loop-slice.slice slices end)
