use Rattle.std.proofs.Common.{get_or, sym, subst, arith}
use Rattle.std.proofs.lemmas.List.{get_or_default, get_or_read}
use Rattle.std.proofs.lemmas.Option.{slice_get_within}
use Rattle.machine.proofs.laws.Slices.{slice_number-lt}
use Rattle.machine.specs.Slices.{slice_number}
use Rattle.run_law.proofs.laws.RunSizes.{length-slice}
use Rattle.run_law.specs.Journals.{slice_at}
use Rattle.run_windows.proofs.Openings.{IsOpening-entry}
use Rattle.run_windows.proofs.SiteOrder.{site}
use Rattle.run_windows.proofs.WindowSteps.{AreWindowsBefore-end, AreWindowsBefore-next, first_past-next, no_entry, no_stay}
use Rattle.run_windows.specs.AllWindows.{AreWindowsBefore}
use Rattle.run_windows.specs.Fronts.{front_of}
use Rattle.private_lru.specs.Tallies.{IsCounted}
use Rattle.private_lru.specs.declared.counts.WindowCounts.{WindowCounts}
use Rattle.run_windows.proofs.opened.push_opened.Goals as goal

-- what stands past the end of a list of counts
abbrev no_counts : WindowCounts
no_counts = record { accesses = 0; hits = 0; covered = 0; covered_hits = 0 }

pub counts_at-requires-clause-within : goal.counts_at-requires-clause-within
counts_at-requires-clause-within c =
    let script = c.args.run.now.script.now in
    let o = c.args.opening in
    let e = IsOpening-entry script c.args.run.now.journals.now o.domain o.slice o.from c.requires.opens in
    slice_get_within (slice_at c.args.run.now.journals.now (slice_number script.machine o.domain o.slice)) o.from e.0 e.1

pub counts_at-requires-clause-few : goal.counts_at-requires-clause-few
counts_at-requires-clause-few c =
    let script = c.args.run.now.script.now in
    let o = c.args.opening in
    let m = script.machine in
    length-slice script c.args.run.now.journals.now c.requires.lawful c.requires.run (slice_number m o.domain o.slice) (slice_number-lt m o.domain o.slice c.requires.domain c.requires.slice)

pub counts_at-requires-clause-rising : goal.counts_at-requires-clause-rising
counts_at-requires-clause-rising c = (c.requires.stays no_entry).rising

pub index-requires : goal.index-requires
index-requires c =
    let all = c.in_ok-counts.ensures no_entry in
    let within = c.loop-i-test.true in
    let len = all.same in
    omega (arith, within, len, c.in_ok-counts.counts.ok.0)

pub push_window-requires-clause-exclusive : goal.push_window-requires-clause-exclusive
push_window-requires-clause-exclusive c = λ d. (c.requires.stays d).each c.loop-i.i no_stay c.loop-i-test.true

pub push_window-requires-clause-counted : goal.push_window-requires-clause-counted
push_window-requires-clause-counted c = λ d.
    let script = c.args.run.now.script.now in
    let o = c.args.opening in
    let i = c.loop-i.i in
    let entries = slice_at c.args.run.now.journals.now (slice_number script.machine o.domain o.slice) in
    let all = c.in_ok-counts.ensures d in
    let counts = c.in_ok-counts.counts.items in
    let within = c.loop-i-test.true in
    let len = all.same in
    subst (IsCounted script.machine.sets (get_or entries o.from d).what (front_of o.from entries) (get_or c.args.stays.now i no_stay)) (sym (get_or_read counts i c.index.result.now (omega (arith, within, len)) c.index.ensures no_counts))
    (all.each i no_stay no_counts within)

pub push_window-requires-clause-before : goal.push_window-requires-clause-before
push_window-requires-clause-before c =
    let o = c.args.opening in
    let i = c.loop-i.i in
    let stay = get_or c.args.stays.now i no_stay in
    AreWindowsBefore-next c.args.run.now.script.now c.args.run.now.journals.now o.domain o.slice o.from i c.args.stays.now stay c.loop-i.windows.items c.requires.opens c.requires.stays c.loop-i-test.true
    (get_or_default c.args.stays.now i no_stay stay c.loop-i-test.true) c.loop-i.invariant

pub loop-i-preserved : goal.loop-i-preserved
loop-i-preserved c =
    let o = c.args.opening in
    let i = c.loop-i.i in
    let stay = get_or c.args.stays.now i no_stay in
    subst (λ g. AreWindowsBefore c.args.run.now.script.now c.args.run.now.journals.now (site o.domain o.slice o.from g) c.push_window.new.windows.items)
    (sym (first_past-next c.args.run.now.script.now c.args.run.now.journals.now c.args.stays.now i stay c.loop-i-test.true (get_or_default c.args.stays.now i no_stay stay c.loop-i-test.true)))
    c.in_ok-push_window.ensures

pub returns : goal.returns
returns c =
    let o = c.args.opening in
    let stop = c.loop-i-test.false in
    let most = c.loop-i.auto.i-end in
    AreWindowsBefore-end c.args.run.now.script.now c.args.run.now.journals.now o.domain o.slice o.from c.loop-i.i c.args.stays.now c.loop-i.windows.items c.requires.opens c.requires.stays (omega (arith, stop, most)) c.loop-i.invariant
