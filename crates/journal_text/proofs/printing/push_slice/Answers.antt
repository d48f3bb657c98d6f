use Rattle.std.proofs.Common.{◌≡◌, ◌++◌, length}
use Rattle.journal_text.specs.Lines.{slice_line}
use Rattle.journal_text.proofs.Pushes.{OnOk-map, text_of-slice_lines}
use Rattle.machine.specs.Maps.{parameters_of}
use Rattle.journal_text.proofs.printing.push_slice.Goals as goal

pub returns : goal.returns
returns c =
    let m = parameters_of c.args.machine.now in
    let entries = c.args.entries.now in
    let first : c.push_line.new.text ≡ c.args.text.now ++ slice_line m c.args.slice (length entries) = rw (c.from.ensures, c.from-2.ensures, c.from-slices.ensures) at c.in_ok-push_line.ensures in
    OnOk-map c.push_entries.result (λ last. text_of-slice_lines m c.args.slice entries c.args.text.now c.push_line.new.text c.push.new.self c.push_entries.new.text first c.in_ok-push.ensures last) c.push_entries.ensures
