use Rattle.std.proofs.Common.{get_or, sym, arith}
use Rattle.std.specs.Prelude.{min}
use Rattle.std.proofs.lemmas.Option.{slice_get-get_or}
use Rattle.cache_core.specs.declared.entry.SliceEntry.{SliceEntry}
use Rattle.private_lru.specs.Covered.{is_own}
use Rattle.private_lru.specs.GroupCounts.{is_own_hit}
use Rattle.private_lru.proofs.LineUses.{no_entry}
use Rattle.private_lru.proofs.RisingStays.{no_stay}
use Rattle.private_lru.proofs.TallySteps.{AreTallies-own, AreTallies-past, count_by-min_le, no_counts}
use Rattle.private_lru.specs.Ends.{held_len}
use Rattle.private_lru.specs.declared.exclusive_span.ExclusiveSpan.{ExclusiveSpan}
use Rattle.private_lru.proofs.tallies.tally_entry.Goals as goal

pub with_access-requires-clause-accesses : goal.with_access-requires-clause-accesses
with_access-requires-clause-accesses c =
    let place = c.in-Some.place in
    let s : ExclusiveSpan = get_or c.args.spans.now.stays.now place no_stay in
    let were = (c.requires.tallies.each place no_stay no_counts c.in-Some.ensures.within).accesses in
    let few = count_by-min_le (λ (e : SliceEntry). is_own s.gid.0 e.what) c.args.entries.now c.args.at (held_len s.last c.args.entries.now) in
    omega (arith, few, were, c.requires.room)

pub with_access-requires-clause-hits : goal.with_access-requires-clause-hits
with_access-requires-clause-hits c =
    let place = c.in-Some.place in
    let s : ExclusiveSpan = get_or c.args.spans.now.stays.now place no_stay in
    let were = (c.requires.tallies.each place no_stay no_counts c.in-Some.ensures.within).hits in
    let few = count_by-min_le (λ (e : SliceEntry). is_own_hit s.gid.0 e.what) c.args.entries.now c.args.at (held_len s.last c.args.entries.now) in
    omega (arith, few, were, c.requires.room)

pub with_access-requires-clause-covered : goal.with_access-requires-clause-covered
with_access-requires-clause-covered c =
    let place = c.in-Some.place in
    let s : ExclusiveSpan = get_or c.args.spans.now.stays.now place no_stay in
    let were = (c.requires.tallies.each place no_stay no_counts c.in-Some.ensures.within).covers in
    let few = count_by-min_le (λ (e : SliceEntry). is_own s.gid.0 e.what) c.args.entries.now c.args.at (min (get_or c.args.spans.now.ends.now place 0) (held_len s.last c.args.entries.now)) in
    omega (arith, few, were, c.requires.room)

pub with_access-requires-clause-covered_hits : goal.with_access-requires-clause-covered_hits
with_access-requires-clause-covered_hits c =
    let place = c.in-Some.place in
    let s : ExclusiveSpan = get_or c.args.spans.now.stays.now place no_stay in
    let were = (c.requires.tallies.each place no_stay no_counts c.in-Some.ensures.within).covers_hits in
    let few = count_by-min_le (λ (e : SliceEntry). is_own_hit s.gid.0 e.what) c.args.entries.now c.args.at (min (get_or c.args.spans.now.ends.now place 0) (held_len s.last c.args.entries.now)) in
    omega (arith, few, were, c.requires.room)

pub returns-in-Some : goal.returns-in-Some
returns-in-Some c =
    let entries = c.args.entries.now in
    let next = c.with_access.ensures in
    AreTallies-own entries c.args.spans.now.stays.now c.args.spans.now.ends.now c.args.at c.args.high no_entry c.args.tallies.now (slice_get-get_or entries c.args.at no_entry c.requires.within) c.requires.within c.requires.high c.requires.tallies
    c.in-Some.place c.with_access.result no_stay c.is_own_hit-hit.result c.in-Some.ensures.within c.in-Some.ensures.at c.is_own_hit-hit.ensures next.accesses next.hits next.covered next.covered_hits

pub returns-in-None : goal.returns-in-None
returns-in-None c =
    let entries = c.args.entries.now in
    AreTallies-past entries c.args.spans.now.stays.now c.args.spans.now.ends.now c.args.at c.args.high no_entry c.args.tallies.now (slice_get-get_or entries c.args.at no_entry c.requires.within) c.requires.within c.requires.high c.requires.tallies
    (λ j d within. sym (c.in-None.ensures.at j d within))
