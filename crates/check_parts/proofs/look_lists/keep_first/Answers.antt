use Rattle.std.proofs.Common.{sym, ◌∙◌}
use Rattle.check_parts.proofs.NotedLooks.{KeepsFirst-known, KeepsFirst-new}
use Rattle.check_parts.proofs.look_lists.keep_first.Goals as goal

pub returns-then-not-first : goal.returns-then-not-first
returns-then-not-first c =
    KeepsFirst-known c.args.noted.now c.insert.new.self c.args.looks.now.items c.args.entry.now c.args.number
    (sym c.in_ok-first.ensures.added ∙ c.if-not-first.true) c.in_ok-first.ensures.updates

pub returns : goal.returns
returns c =
    KeepsFirst-new c.args.noted.now c.insert.new.self c.args.looks.now.items c.push.new.self.items c.args.entry.now c.args.number
    c.in_ok-push.ensures.items c.in_ok-first.ensures.updates
