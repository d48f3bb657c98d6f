use Rattle.std.proofs.Common.{rules, sym, ◌∙◌, ◌≡◌, count_by}
use Rattle.hw_ids.specs.Uses.{is_limbo}
use Rattle.hw_ids.proofs.Places.{length-places}
use Rattle.hw_ids.proofs.uses.in_limbo.Goals as goal

pub returns-clause-number : goal.returns-clause-number
returns-clause-number c = let counted : c.count.result ≡ count_by is_limbo c.args.uses.now = search rules in counted ∙ sym (length-places is_limbo c.args.uses.now 0)
