use Rattle.std.proofs.Common.{◌≡◌, Some, sym, subst}
use Rattle.std.proofs.lemmas.Option.{slice_get_within}
use Rattle.journal_check.proofs.Counts.{CountsOne-changed}
use Rattle.journal_check.proofs.TableNumbers.{row-there}
use Rattle.journal_check.specs.Tables.{CountsOne, number_at, row_of}
use Rattle.run_law.specs.Entries.{entry_value}
use Rattle.journal_check.proofs.commands_once.count.Goals as goal

pub returns-in-Some-clause-counted : goal.returns-in-Some-clause-counted
returns-in-Some-clause-counted c =
    let table = c.args.counts.now in
    let h = entry_value c.args.entry.now in
    let old : number_at table h.thread h.op ≡ Some c.in-Some.n = sym c.in-Some.ensures in
    subst (λ new. CountsOne table new h) (sym c.set.ensures)
    (CountsOne-changed table h c.in-Some.n (row-there table h.thread h.op c.in-Some.n old) (slice_get_within (row_of table h.thread) h.op c.in-Some.n old) old)
