use Rattle.std.proofs.Common.{length, sym, ap, ◌∙◌}
use Rattle.std.proofs.lemmas.List.{length-map}
use Rattle.run_law.specs.Entries.{entry_value}
use Rattle.run_law.specs.TreeHistory.{TreeEntryValue}
use Rattle.std.specs.Prelude.{List}
use Rattle.journal_check.proofs.tags.tree_len.Goals as goal

pub returns : goal.returns
returns c = sym (length-map c.tree-entries.result.now entry_value) ∙ ap (λ (xs : List TreeEntryValue). length xs) c.tree-entries.ensures
