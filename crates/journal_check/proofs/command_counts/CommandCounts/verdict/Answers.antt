use Rattle.std.proofs.Common.{◌≡◌, true, false, sym, ◌∙◌}
use Rattle.journal_check.proofs.CountedCommands.{IsVerdict-commands, IsVerdict-tree}
use Rattle.journal_check.proofs.command_counts.CommandCounts.verdict.Goals as goal

pub returns-then-are_once : goal.returns-then-are_once
returns-then-are_once c =
    λ j counts has. IsVerdict-tree c.args.script.now j c.unexpected_commands_fail.ensures c.threads-threads.ensures.lawful ((c.are_once.ensures j.tree counts).0 c.if-are_once.true) has

pub returns-else-are_once : goal.returns-else-are_once
returns-else-are_once c =
    λ j counts has. IsVerdict-commands c.args.script.now j (λ once. (let wrong : true ≡ false = sym ((c.are_once.ensures j.tree counts).1 once) ∙ c.if-are_once.false in cc))
