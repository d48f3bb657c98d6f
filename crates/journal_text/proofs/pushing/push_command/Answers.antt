use Rattle.std.proofs.Common.{◌≡◌, ◌∷◌, [], ◌++◌, length, codes}
use Rattle.journal_text.specs.Lines.{argument_in, fields, line_of, reason_in}
use Rattle.journal_text.proofs.Pushes.{OnOk-map, line_of-more, text_of-ended}
use Rattle.journal_text.proofs.laws.CommandLines.{numbers_of}
use Rattle.run_law.specs.Entries.{entry_value}
use Rattle.journal_text.proofs.pushing.push_command.Goals as goal

pub returns : goal.returns
returns c =
    let e = c.args.entry.now in
    let looks = e.looks.numbers in
    let head : c.push_line.new.text ≡ c.args.text.now ++ line_of (codes "tree") (e.thread ∷ e.op ∷ reason_in e.reply ∷ argument_in e.reply ∷ length looks ∷ []) = rw (c.from.ensures, c.from-2.ensures, c.reason_number.ensures, c.argument.ensures, c.items-looks.ensures) at c.in_ok-push_line.ensures in
    let rest : c.push_fields.new.text ≡ c.push_line.new.text ++ fields looks = rw c.items-looks.ensures at c.in_ok-push_fields.ensures in
    let line = line_of-more c.args.text.now c.push_line.new.text c.push_fields.new.text (codes "tree") (e.thread ∷ e.op ∷ reason_in e.reply ∷ argument_in e.reply ∷ length looks ∷ []) looks head rest in
    OnOk-map c.push.result (λ last. text_of-ended c.args.text.now c.push_fields.new.text c.push.new.self (line_of (codes "tree") (numbers_of (entry_value e))) line last) c.push.ensures
