use Rattle.std.proofs.Common.{◌≡◌, List, sym, ap}
use Rattle.cache_core.specs.declared.entry.SliceEntry.{SliceEntry}
use Rattle.check_parts.proofs.LeftParts.{IsLeft-entry}
use Rattle.check_parts.specs.LeftJournals.{kept_in}
use Rattle.journal_text.specs.States.{with_entry}
use Rattle.check_parts.proofs.left_journals.LeftJournalsKeeper.add_entry.Goals as goal

pub returns : goal.returns
returns c =
    λ parts left.
    let script = c.args._script.now in
    let old = c.args.self.now in
    let kept = kept_in old in
    let new = kept_in (record old { entries = c.push.new.self }) in
    let is : with_entry kept c.args.entry ≡ new = sym (ap (λ (entries : List SliceEntry). record kept { entries = entries }) c.in_ok-push.ensures.items) in
    IsLeft-entry script kept new parts old.judged c.args.entry is left
