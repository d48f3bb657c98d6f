use Rattle.std.proofs.Common.{sym, ◌∙◌}
use Rattle.path_names.proofs.NameTexts.{length-names_from}
use Rattle.path_names.proofs.name_list.NameList.len.Goals as goal

pub returns : goal.returns
returns c = c.len.ensures ∙ c.args.self.now.ends.ok.0 ∙ sym (length-names_from 0 c.args.self.now.bytes.items c.args.self.now.ends.items)
