use Rattle.std.proofs.Common.{◌≡◌, ℕ, ◌+◌, ◌-◌, ◌<◌, List, All, ◌++◌, length, map, filter, take, drop, sym, subst, ap, ap₂, ◌∙◌, arith}
use Rattle.cache_core.specs.declared.entry.SliceEntry.{SliceEntry}
use Rattle.cache_core.specs.declared.entry.What.TheVariants.{Flush}
use Rattle.pair_windows.proofs.CdpCloses.{few_groups-latest, rest-read, rising-latest, windows-closed}
use Rattle.pair_windows.proofs.CdpSteps.{IsWalked-closed}
use Rattle.pair_windows.specs.CdpWalks.{entries_of_domain}
use Rattle.pair_windows.specs.CdpWindows.{is_used}
use Rattle.pair_windows.specs.Counted.{counted_windows}
use Rattle.pair_windows.specs.Fronts.{front_of}
use Rattle.pair_windows.specs.PartitionSpans.{stay_of}
use Rattle.pair_windows.specs.declared.partition.Partition.{Partition}
use Rattle.private_lru.specs.Ends.{RiseByGroup}
use Rattle.private_lru.specs.Tallies.{AreCounted}
use Rattle.private_lru.specs.declared.counts.WindowCounts.{WindowCounts}
use Rattle.private_lru.specs.declared.span.Span.{Span}
use Rattle.pair_windows.proofs.cdp_walks.close.Goals as goal

pub counts_at-requires-clause-few_groups : goal.counts_at-requires-clause-few_groups
counts_at-requires-clause-few_groups c =
    let w = c.args.walk.now in
    let order = c.requires.can.order in
    let other = c.if-walk.false in
    subst (All (λ (k : Span Partition). k.held.gid.0 < 2147483648)) (sym c.deref.ensures.value) (few_groups-latest c.args.run.now w c.requires.played c.requires.can (omega (arith, order, other)))

pub counts_at-requires-clause-rising : goal.counts_at-requires-clause-rising
counts_at-requires-clause-rising c =
    let w = c.args.walk.now in
    let order = c.requires.can.order in
    let other = c.if-walk.false in
    subst (λ (ks : List (Span Partition)). RiseByGroup (map stay_of ks)) (sym c.deref.ensures.value) (rising-latest c.args.run.now w c.requires.played c.requires.can (omega (arith, order, other)))

pub returns-clause-walked : goal.returns-clause-walked
returns-clause-walked c = λ epoch floor walked.
    let run = c.args.run.now in
    let script = run.script.now in
    let w = c.args.walk.now in
    let order = c.requires.can.order in
    let other = c.if-walk.false in
    let lt : w.latest.from < w.next = omega (arith, order, other) in
    let from : ℕ = w.latest.from in
    let read : List SliceEntry = c.entries_in-entries.result.now in
    let entries : List SliceEntry = entries_of_domain run w.domain in
    let front : List SliceEntry = take w.latest.len (take (length read - (from + 1)) (drop (from + 1) read)) in
    let seen : front ≡ front_of (drop (from + 1) entries) = ap₂ (λ (n : ℕ) (l : List SliceEntry). take n l) (c.requires.can.opened lt).len (rest-read read entries (from + 1) c.entries_in-entries.ensures) in
    let kept : c.deref.result.now ≡ w.latest.kept.items = c.deref.ensures.value in
    let sets : c.machine.result.now.sets ≡ script.machines.machine.sets = ap (λ p. p.sets) c.machine.ensures in
    let counts : List WindowCounts = c.in_ok-counts.counts.items in
    let counted : AreCounted script.machines.machine.sets Flush front (map stay_of w.latest.kept.items) counts =
    subst (λ k. AreCounted k Flush front (map stay_of w.latest.kept.items) counts) sets
    (subst (λ (ks : List (Span Partition)). AreCounted c.machine.result.now.sets Flush front (map stay_of ks) counts) kept c.in_ok-counts.ensures) in
    let added : c.push_counted.new.windows.items ≡ w.windows.items ++ filter is_used (counted_windows w.domain from w.latest.kept.items counts) =
    c.in_ok-push_counted.ensures
    ∙ ap₂ (λ (ks : List (Span Partition)) (cs : List WindowCounts). w.windows.items ++ filter is_used (counted_windows w.domain from ks cs)) c.deref-2.ensures.value c.deref-3.ensures.value in
    IsWalked-closed script w.domain entries epoch floor w walked c.push_counted.new.windows (windows-closed run w c.requires.played c.requires.can lt front counts c.push_counted.new.windows.items seen counted added epoch floor walked)
