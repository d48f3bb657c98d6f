use Rattle.std.proofs.Common.{◌≡◌, ◌≤◌, length, rules, ◌∙◌, sym, subst, ℕ}
use Rattle.journal_text.proofs.CommandParts.{command_line-read, other_looks}
use Rattle.journal_text.proofs.laws.CommandLines.{All-numbers}
use Rattle.journal_text.proofs.commands.command_of_line.Goals as goal

pub returns-in_default-2 : goal.returns-in_default-2
returns-in_default-2 c =
    let none = rw c.in_default-2.is at c.in_ok-looks.ensures in
    let count = c.in-Ok.ensures.1 in
    other_looks c.args.weight c.in-Some.head c.in-Some.text.now c.args.line.now (search rules) c.in-Some.ensures (λ looks many takes. none looks (many ∙ sym count) takes)

pub returns : goal.returns
returns c =
    let some = rw c.in-Some-2.is at c.in_ok-looks.ensures in
    let head = c.in-Some.head in
    let looks = c.in-Some-2.looks.numbers in
    let count : length looks ≡ head.looks = some.0 ∙ c.in-Ok.ensures.1 in (
      record { thread = search rules; op = search rules; reply = c.in-Some.ensures.reply; few = subst (λ (n : ℕ). n ≤ c.args.weight) (sym count) c.in-Some.ensures.few; looks = All-numbers looks some.1.fit },
      command_line-read c.args.weight head c.in-Some.text.now c.args.line.now looks c.in-Some.ensures count some.1,
    )
