use Rattle.std.proofs.Common.{◌≡◌, ◌∙◌, List, map, sym, ap}
use Rattle.std.proofs.lemmas.List.{map_push}
use Rattle.check_parts.proofs.LeftParts.{IsLeft-command}
use Rattle.check_parts.specs.LeftJournals.{kept_in}
use Rattle.journal_text.specs.States.{with_command}
use Rattle.run_law.specs.Entries.{entry_value}
use Rattle.run_law.specs.TreeHistory.{TreeEntryValue}
use Rattle.check_parts.proofs.left_journals.LeftJournalsKeeper.add_command.Goals as goal

pub returns : goal.returns
returns c =
    λ parts none left.
    let script = c.args._script.now in
    let old = c.args.self.now in
    let kept = kept_in old in
    let new = kept_in (record old { tree = c.push.new.self }) in
    let h = entry_value c.args.entry in
    let is : with_command kept h ≡ new = sym (ap (λ (tree : List TreeEntryValue). record kept { tree = tree }) (ap (map entry_value) c.in_ok-push.ensures.items ∙ map_push entry_value old.tree.items c.args.entry)) in
    IsLeft-command script kept new parts old.judged h is none left
