use Rattle.std.proofs.Common.{Some}
use Rattle.path_names.proofs.NameIndex.{at_name-short}
use Rattle.path_names.proofs.name_index.NameIndex.short_number_or.Goals as goal

pub returns-clause-ok : goal.returns-clause-ok
returns-clause-ok c =
    at_name-short c.args.name.now c.args.self.now.short c.number_of_key.new.numbers c.args.self.now.long (Some c.in_ok-known.known) c.requires (rw c.key_of.ensures at c.in_ok-known.ensures.ok)
