use Rattle.std.proofs.Common.{List, length, sym, subst, ap, ◌∙◌}
use Rattle.std.proofs.lemmas.List.{length-map}
use Rattle.pair_text.specs.declared.side.Side.TheVariants.{First, Second}
use Rattle.pair_windows.proofs.QuietScripts.{joint_windows-none}
use Rattle.pair_windows.specs.DomainWalks.{Each, IsFresh}
use Rattle.pair_windows.specs.LevelJournals.{journals_in}
use Rattle.pair_windows.specs.declared.domain_walks.DomainWalk.{DomainWalk}
use Rattle.run_law.specs.Entries.{entries_of}
use Rattle.pair_windows.proofs.joint_listing.joint_windows.Goals as goal

pub returns-then-not-has_exclusive_write : goal.returns-then-not-has_exclusive_write
returns-then-not-has_exclusive_write c =
    c.new.ensures.items ∙ sym (joint_windows-none c.args.script.now (sym c.has_exclusive_write.ensures ∙ c.if-not-has_exclusive_write.true) (journals_in c.args.journals.now))

pub hits_on-requires-clause-one_each : goal.hits_on-requires-clause-one_each
hits_on-requires-clause-one_each c = sym (length-map c.args.journals.now.l2.now entries_of) ∙ (c.requires.run First).one_each

pub hits_on-requires-2-clause-one_each : goal.hits_on-requires-2-clause-one_each
hits_on-requires-2-clause-one_each c = sym (length-map c.args.journals.now.l3.now entries_of) ∙ (c.requires.run Second).one_each

pub find_windows-requires-clause-one_each : goal.find_windows-requires-clause-one_each
find_windows-requires-clause-one_each c = ap (λ (ws : List DomainWalk). length ws) c.deref_mut.ensures.value ∙ (c.in_ok-walks.ensures.count ∙ ap (λ p. p.domains) c.machine.ensures)

pub find_windows-requires-clause-fresh : goal.find_windows-requires-clause-fresh
find_windows-requires-clause-fresh c = subst (Each IsFresh) (sym c.deref_mut.ensures.value) c.in_ok-walks.ensures.fresh

pub returns : goal.returns
returns c =
    let j = journals_in c.args.journals.now in
    c.in_ok-windows.ensures j c.requires c.in_ok-l2.ensures c.in_ok-l3.ensures
