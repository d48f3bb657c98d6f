use Rattle.std.proofs.Common.{◌≡◌, All, sym, subst}
use Rattle.std.proofs.lemmas.List.Elements.{All-weaker}
use Rattle.seen_journal.specs.Entries.{entries_of}
use Rattle.seen_journal.specs.Journals.{JournalValue}
use Rattle.seen_journal.specs.Passes.{HasAll, PassValue, own_entries}
use Rattle.seen_journal.specs.Prefixes.{IsPrefix}
use Rattle.seen_journal.proofs.Owners.{count_by-owns_at}
use Rattle.seen_journal.proofs.journal.Journal.close.Goals as goal

pub returns-clause-seen : goal.returns-clause-seen
returns-clause-seen g c =
    let all = c.args.self.entries in
    let whole : All (HasAll all) c.args.passes.items = subst (λ (v : JournalValue g.row.E.Denot). All (HasAll v.entries) c.args.passes.items) c.check.ensures.journal c.show_all.ensures.whole in
    All-weaker (HasAll all) (λ (p : PassValue g.row.E.Denot). IsPrefix p.seen all) (λ p w. w.prefix) c.args.passes.items whole

pub returns-clause-whole : goal.returns-clause-whole
returns-clause-whole g c =
    let all = c.args.self.entries in
    let whole : All (HasAll all) c.args.passes.items = subst (λ (v : JournalValue g.row.E.Denot). All (HasAll v.entries) c.args.passes.items) c.check.ensures.journal c.show_all.ensures.whole in
    All-weaker (HasAll all) (λ (p : PassValue g.row.E.Denot). own_entries p ≡ entries_of p.number all) (λ p w. sym w.own_are) c.args.passes.items whole

pub returns-clause-owned : goal.returns-clause-owned
returns-clause-owned g c =
    let all = c.args.self.entries in
    let whole : All (HasAll all) c.args.passes.items = subst (λ (v : JournalValue g.row.E.Denot). All (HasAll v.entries) c.args.passes.items) c.check.ensures.journal c.show_all.ensures.whole in
    count_by-owns_at all c.args.self.name.quotas c.args.passes.items c.check.ensures.bound c.requires.once whole
