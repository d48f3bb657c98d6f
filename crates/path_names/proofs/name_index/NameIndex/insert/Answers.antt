use Rattle.std.proofs.Common.{◌≡◌, true, false, sym, ◌∙◌, Some}
use Rattle.path_names.specs.NameKeys.{has_key}
use Rattle.path_names.proofs.NameIndex.{at_name-short, at_name-long}
use Rattle.path_names.proofs.name_index.NameIndex.insert.Goals as goal

pub returns-in_ok-insert-clause-ok : goal.returns-in_ok-insert-clause-ok
returns-in_ok-insert-clause-ok c =
    let keyed : has_key c.args.name.now ≡ true = sym c.has_key.ensures ∙ c.if-has_key.true in
    at_name-short c.args.name.now c.args.self.now.short c.insert.new.self c.args.self.now.long (Some c.args.number) keyed (rw c.key_of.ensures at c.in_ok-insert.ensures.updates)

pub returns-in_ok-insert-2-clause-ok : goal.returns-in_ok-insert-2-clause-ok
returns-in_ok-insert-2-clause-ok c =
    let keyless : has_key c.in_ok-key.key.items ≡ false = rw c.in_ok-key.ensures.items (sym c.has_key.ensures ∙ c.if-has_key.false) in
    λ other. rw (← c.in_ok-key.ensures.items) (at_name-long c.in_ok-key.key.items c.args.self.now.short c.args.self.now.long c.insert-else-has_key.new.self (Some c.args.number) keyless c.in_ok-insert-2.ensures.updates other)
