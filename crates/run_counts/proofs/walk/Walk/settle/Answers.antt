use Rattle.std.proofs.Common.{◌≡◌, ◌+◌, ◌-◌, ◌*◌, ◌/◌, ◌%◌, ◌<◌, ◌≤◌, not, true, false, Bool, drop, length, refl, sym, ap, ◌∙◌, subst, arith}
use Rattle.std.proofs.lemmas.List.{get_or_default}
use Rattle.std.proofs.lemmas.Nat.{mul-le}
use Rattle.cache_core.specs.History.{held}
use Rattle.machine.proofs.laws.WholeSets.{mod-sets_slices}
use Rattle.machine.specs.Maps.{parameters_of}
use Rattle.run_counts.proofs.CountedAccesses.{IsOfAccesses-all, IsOfAccesses-group, counted_all-drop, counted_all-end}
use Rattle.run_counts.proofs.CountedEntries.{HasCounted-counts, HasCounted-ended, HasCounted-from, HasCounted-valid, HasDecided-begun, HasDecided-more, IsAtMost-begun, IsAtMost-slice}
use Rattle.run_counts.proofs.FullSlices.{HasCounted-full}
use Rattle.run_counts.proofs.Occupancies.{IsAtMost-le}
use Rattle.cache_core.specs.Whats.{is_access, is_access_of}
use Rattle.run_counts.specs.Occupancies.{HasCounted}
use Rattle.run_counts.specs.Tallies.{all_with, at_with}
use Rattle.run_law.specs.Slices.{shape_in}
use Rattle.run_counts.proofs.walk.Walk.settle.Goals as goal

pub loop-left-init : goal.loop-left-init
loop-left-init c = record {
  within = omega arith;
  groups = λ gid. sym (counted_all-end (is_access_of gid) (at_with c.args.self.now.tally.tally c.args.self.now.tally.streak gid) c.args.entries.now);
  all = sym (counted_all-end is_access (all_with c.args.self.now.tally.tally c.args.self.now.tally.streak) c.args.entries.now);
  decided = HasDecided-begun (shape_in (parameters_of c.args.machine.now) c.args.i) c.begin_slice.new.self c.args.entries.now (c.begin_slice.ensures.sets ∙ c.requires.sets) c.begin_slice.ensures.seen;
}

pub take-requires-clause-lines : goal.take-requires-clause-lines
take-requires-clause-lines c =
    let range = c.args.machine.now.in_range in
    let few = mul-le c.args.machine.now.sets c.args.machine.now.ways 65536 32 range.set_limit range.way_limit in
    IsAtMost-le (1152921504606846976 + 2097152) 2305843009213693952 c.loop-left.self.lines (omega arith)
    (IsAtMost-slice (shape_in (parameters_of c.args.machine.now) c.args.i) c.begin_slice.new.self c.loop-left.self.lines _ 1152921504606846976 few c.loop-left.invariant.decided.counted
    (IsAtMost-begun 1152921504606846976 c.args.self.now.lines c.begin_slice.new.self c.begin_slice.ensures.counts c.begin_slice.ensures.valid c.requires.lines))

-- what the answer of `take` says
emptied : (b r : Bool) → r ≡ not b → r ≡ false → b ≡ true
emptied true r is no_more = refl
emptied false r is no_more = absurd cc

kept : (b r : Bool) → r ≡ not b → r ≡ true → b ≡ false
kept true r is more = absurd cc
kept false r is more = refl

pub loop-left-preserved : goal.loop-left-preserved
loop-left-preserved c =
    let m = shape_in (parameters_of c.args.machine.now) c.args.i in
    let k = c.loop-left.left - 1 in
    let next : k + 1 ≡ c.loop-left.left = let some = c.loop-left-test.true in omega arith in
    let within : k < length c.args.entries.now = let some = c.loop-left-test.true in let le = c.loop-left.invariant.within in omega arith in
    let before = c.loop-left.invariant in
    record {
      within = let le = c.loop-left.invariant.within in omega arith;
      groups = λ gid.
          counted_all-drop (is_access_of gid) (at_with c.args.self.now.tally.tally c.args.self.now.tally.streak gid) (at_with c.loop-left.self.tally.tally c.loop-left.self.tally.streak gid)
          (at_with c.take.new.self.tally.tally c.take.new.self.tally.streak gid) c.args.entries.now k c.loop-left.left _ (IsOfAccesses-group gid) next within (get_or_default c.args.entries.now k _ _ within) (before.groups gid)
          (c.in_ok-more.ensures.groups gid);
      all =
          counted_all-drop is_access (all_with c.args.self.now.tally.tally c.args.self.now.tally.streak) (all_with c.loop-left.self.tally.tally c.loop-left.self.tally.streak)
          (all_with c.take.new.self.tally.tally c.take.new.self.tally.streak) c.args.entries.now k c.loop-left.left _ IsOfAccesses-all next within (get_or_default c.args.entries.now k _ _ within) before.all c.in_ok-more.ensures.all;
      decided = HasDecided-more m c.begin_slice.new.self c.take.new.self.lines c.args.entries.now k c.loop-left.left _ next within (get_or_default c.args.entries.now k _ _ within)
          (c.in_ok-more.ensures.decided c.begin_slice.new.self (drop c.loop-left.left c.args.entries.now) (kept _ c.in_ok-more.more c.in_ok-more.ensures.more c.if-not-more.false) c.loop-left.invariant.decided);
    }

pub returns-then-not-more-clause-groups : goal.returns-then-not-more-clause-groups
returns-then-not-more-clause-groups c = λ gid.
    let k = c.loop-left.left - 1 in
    let next : k + 1 ≡ c.loop-left.left = let some = c.loop-left-test.true in omega arith in
    let within : k < length c.args.entries.now = let some = c.loop-left-test.true in let le = c.loop-left.invariant.within in omega arith in
    counted_all-drop (is_access_of gid) (at_with c.args.self.now.tally.tally c.args.self.now.tally.streak gid) (at_with c.loop-left.self.tally.tally c.loop-left.self.tally.streak gid)
    (at_with c.take.new.self.tally.tally c.take.new.self.tally.streak gid) c.args.entries.now k c.loop-left.left _ (IsOfAccesses-group gid) next within (get_or_default c.args.entries.now k _ _ within)
    (c.loop-left.invariant.groups gid) (c.in_ok-more.ensures.groups gid)

pub returns-then-not-more-clause-all : goal.returns-then-not-more-clause-all
returns-then-not-more-clause-all c =
    let k = c.loop-left.left - 1 in
    let next : k + 1 ≡ c.loop-left.left = let some = c.loop-left-test.true in omega arith in
    let within : k < length c.args.entries.now = let some = c.loop-left-test.true in let le = c.loop-left.invariant.within in omega arith in
    counted_all-drop is_access (all_with c.args.self.now.tally.tally c.args.self.now.tally.streak) (all_with c.loop-left.self.tally.tally c.loop-left.self.tally.streak)
    (all_with c.take.new.self.tally.tally c.take.new.self.tally.streak) c.args.entries.now k c.loop-left.left _ IsOfAccesses-all next within (get_or_default c.args.entries.now k _ _ within)
    c.loop-left.invariant.all c.in_ok-more.ensures.all

pub returns-then-not-more-clause-sets : goal.returns-then-not-more-clause-sets
returns-then-not-more-clause-sets c =
    let counted = c.in_ok-more.ensures.counted c.begin_slice.new.self (drop c.loop-left.left c.args.entries.now) c.loop-left.invariant.decided in
    counted.sets ∙ sym c.requires.sets

pub returns-then-not-more-clause-rmids : goal.returns-then-not-more-clause-rmids
returns-then-not-more-clause-rmids c =
    let counted = c.in_ok-more.ensures.counted c.begin_slice.new.self (drop c.loop-left.left c.args.entries.now) c.loop-left.invariant.decided in
    counted.rmids ∙ ap length c.begin_slice.ensures.counts

pub returns-then-not-more-clause-counts : goal.returns-then-not-more-clause-counts
returns-then-not-more-clause-counts c =
    let m = shape_in (parameters_of c.args.machine.now) c.args.i in
    let k = c.loop-left.left - 1 in
    let next : k + 1 ≡ c.loop-left.left = let some = c.loop-left-test.true in omega arith in
    let within : k < length c.args.entries.now = let some = c.loop-left-test.true in let le = c.loop-left.invariant.within in omega arith in
    let counted = c.in_ok-more.ensures.counted c.begin_slice.new.self (drop c.loop-left.left c.args.entries.now) c.loop-left.invariant.decided in
    HasCounted-counts m c.args.self.now.lines c.begin_slice.new.self c.take.new.self.lines c.args.entries.now c.begin_slice.ensures.counts
    (HasCounted-ended m c.begin_slice.new.self c.take.new.self.lines c.args.entries.now k c.loop-left.left _ next within (get_or_default c.args.entries.now k _ _ within) (emptied _ c.in_ok-more.more c.in_ok-more.ensures.more c.if-not-more.true) counted)

pub returns-then-not-more-clause-valid : goal.returns-then-not-more-clause-valid
returns-then-not-more-clause-valid c =
    let m = shape_in (parameters_of c.args.machine.now) c.args.i in
    let k = c.loop-left.left - 1 in
    let next : k + 1 ≡ c.loop-left.left = let some = c.loop-left-test.true in omega arith in
    let within : k < length c.args.entries.now = let some = c.loop-left-test.true in let le = c.loop-left.invariant.within in omega arith in
    let counted = c.in_ok-more.ensures.counted c.begin_slice.new.self (drop c.loop-left.left c.args.entries.now) c.loop-left.invariant.decided in
    HasCounted-valid m c.args.self.now.lines c.begin_slice.new.self c.take.new.self.lines c.args.entries.now c.begin_slice.ensures.valid
    (HasCounted-ended m c.begin_slice.new.self c.take.new.self.lines c.args.entries.now k c.loop-left.left _ next within (get_or_default c.args.entries.now k _ _ within) (emptied _ c.in_ok-more.more c.in_ok-more.ensures.more c.if-not-more.true) counted)

pub returns-after-loop-left-clause-counts : goal.returns-after-loop-left-clause-counts
returns-after-loop-left-clause-counts c =
    let m = shape_in (parameters_of c.args.machine.now) c.args.i in
    let end : c.loop-left.left ≡ 0 = let none = c.loop-left-test.false in omega arith in
    HasCounted-counts m c.args.self.now.lines c.begin_slice.new.self c.loop-left.self.lines c.args.entries.now c.begin_slice.ensures.counts
    (subst (λ n. HasCounted m c.begin_slice.new.self (λ s w. held m (drop n c.args.entries.now) s w) c.loop-left.self.lines) end (HasCounted-from m c.begin_slice.new.self c.loop-left.self.lines (drop c.loop-left.left c.args.entries.now) c.loop-left.invariant.decided))

pub returns-after-loop-left-clause-valid : goal.returns-after-loop-left-clause-valid
returns-after-loop-left-clause-valid c =
    let m = shape_in (parameters_of c.args.machine.now) c.args.i in
    let end : c.loop-left.left ≡ 0 = let none = c.loop-left-test.false in omega arith in
    HasCounted-valid m c.args.self.now.lines c.begin_slice.new.self c.loop-left.self.lines c.args.entries.now c.begin_slice.ensures.valid
    (subst (λ n. HasCounted m c.begin_slice.new.self (λ s w. held m (drop n c.args.entries.now) s w) c.loop-left.self.lines) end (HasCounted-from m c.begin_slice.new.self c.loop-left.self.lines (drop c.loop-left.left c.args.entries.now) c.loop-left.invariant.decided))

-- all is counted where each place holds a line
all_counted : (c : goal.Else-valid-full)
    → HasCounted (shape_in (parameters_of c.args.machine.now) c.args.i) c.begin_slice.new.self (λ s w. held (shape_in (parameters_of c.args.machine.now) c.args.i) c.args.entries.now s w) c.loop-left.self.lines
all_counted c =
    let m = c.args.machine.now in
    let slice : c.args.i % m.slices < m.slices = let one_slice = m.in_range.some_slice in omega arith in
    let full : c.begin_slice.new.self.valid + m.sets / m.slices * m.ways ≤ c.loop-left.self.lines.valid =
    let before = c.valid.ensures in let places = c.places_of.ensures in let now = c.valid-in-loop-left.ensures in let enough = c.if-valid-full.false in omega (arith, before, places, now, enough) in
    HasCounted-full (shape_in (parameters_of m) c.args.i) c.begin_slice.new.self c.loop-left.self.lines c.args.entries.now c.loop-left.left slice (mod-sets_slices (parameters_of m) m.in_range) full
    (HasCounted-from (shape_in (parameters_of m) c.args.i) c.begin_slice.new.self c.loop-left.self.lines (drop c.loop-left.left c.args.entries.now) c.loop-left.invariant.decided)

pub returns-else-valid-full-clause-counts : goal.returns-else-valid-full-clause-counts
returns-else-valid-full-clause-counts c =
    HasCounted-counts (shape_in (parameters_of c.args.machine.now) c.args.i) c.args.self.now.lines c.begin_slice.new.self c.loop-left.self.lines c.args.entries.now c.begin_slice.ensures.counts (all_counted c)

pub returns-else-valid-full-clause-valid : goal.returns-else-valid-full-clause-valid
returns-else-valid-full-clause-valid c =
    HasCounted-valid (shape_in (parameters_of c.args.machine.now) c.args.i) c.args.self.now.lines c.begin_slice.new.self c.loop-left.self.lines c.args.entries.now c.begin_slice.ensures.valid (all_counted c)
