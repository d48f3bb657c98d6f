use Rattle.std.proofs.Common.{◌≡◌, ℕ, ◌+◌, ◌*◌, ◌^◌, ◌∷◌, [], ◌++◌, List, length, map, take, subst, ap, ◌∙◌, arith, take_all}
use Rattle.std.proofs.lemmas.List.{length-map}
use Rattle.cache_core.specs.History.{shape_of, valid_of}
use Rattle.cache_core.specs.declared.entry.SliceEntry.{SliceEntry}
use Rattle.machine.specs.Maps.{parameters_of}
use Rattle.machine.specs.declared.parameters.Parameters.{Parameters}
use Rattle.run_counts.proofs.CachesCounted.{shape_in-alone, slice_at-alone, valid_in-more}
use Rattle.run_counts.proofs.CountedAccesses.{HasTallied-none, HasTallied-suc, IsFewWith-le}
use Rattle.run_counts.specs.CacheCounts.{slices_alone, valid_in}
use Rattle.run_counts.specs.Tallies.{IsTallyOf}
use Rattle.run_law.specs.Entries.{entries_of}
use Rattle.run_law.specs.Journals.{slice_at}
use Rattle.run_law.specs.Slices.{shape_in}
use Rattle.run_counts.proofs.cache_counts.CacheCounts.of.Goals as goal

pub loop-i-init : goal.loop-i-init
loop-i-init c = record {
  tallied = HasTallied-none (slices_alone (map entries_of c.args.caches.now)) c.in_ok-walk.walk.tally.tally c.in_ok-walk.walk.tally.streak c.in_ok-walk.ensures.groups c.in_ok-walk.ensures.all;
  suits = c.in_ok-walk.ensures.suits;
  told = c.new-valid.ensures.items;
}

pub take_slice-requires-clause-lines : goal.take_slice-requires-clause-lines
take_slice-requires-clause-lines c = record {
  counts = λ r. let none = c.clear.ensures.counts r in omega (arith, none);
  valid = let none = c.clear.ensures.valid in omega (arith, none);
}

pub take_slice-requires-clause-few : goal.take_slice-requires-clause-few
take_slice-requires-clause-few c =
    let t = c.loop-i.walk.tally in
    let test = c.loop-i-test.true in
    let few = c.requires.few in
    let i : ℕ = c.loop-i.i in
    IsFewWith-le (i * 2 ^ 58) (31 * 2 ^ 58) t.tally t.streak (omega (arith, test, few)) c.loop-i.invariant.tallied.few

pub loop-i-preserved : goal.loop-i-preserved
loop-i-preserved c =
    let caches = c.args.caches.now in
    let m : Parameters = parameters_of c.args.machine.now in
    let all : List (List SliceEntry) = map entries_of caches in
    let i : ℕ = c.loop-i.i in
    let before = c.loop-i.invariant in
    let cache = c.index-caches-i.result in
    let told = c.in_ok-take_slice.ensures in
    let was = c.loop-i.walk.tally in
    let now = c.take_slice.new.self.tally in
    let entries : c.as_slice.result.now ≡ slice_at (slices_alone all) i = c.as_slice.ensures.value ∙ slice_at-alone caches i cache c.loop-i-test.true c.index-caches-i.is in
    let valid : c.valid.result ≡ valid_of (shape_of m 0) cache.items =
    (let one : valid_of (shape_in m 0) c.as_slice.result.now ≡ valid_of (shape_of m 0) cache.items = ap (λ s. valid_of s c.as_slice.result.now) (shape_in-alone m c.requires.one_slice) ∙ ap (valid_of (shape_of m 0)) c.as_slice.ensures.value in
    let sum = told.valid in let none = c.clear.ensures.valid in let is = c.valid.ensures in omega (arith, one, sum, none, is)) in
    record {
      tallied = HasTallied-suc (slices_alone all) i was.tally now.tally was.streak now.streak c.as_slice.result.now entries told.length told.groups told.all before.tallied;
      suits = record { sets = told.sets ∙ (c.clear.ensures.sets ∙ before.suits.sets); rmids = told.rmids ∙ (c.clear.ensures.rmids ∙ before.suits.rmids) };
      told =
          c.in_ok-push.ensures.items
          ∙ (ap (λ (l : List ℕ). l ++ c.valid.result ∷ []) before.told
          ∙ (ap (λ n. valid_in m (take i all) ++ n ∷ []) valid ∙ valid_in-more caches i cache c.loop-i-test.true c.index-caches-i.is m));
    }

pub finish-requires : goal.finish-requires
finish-requires c =
    let t = c.loop-i.walk.tally in
    let end = c.loop-i.auto.i-end in
    let few = c.requires.few in
    IsFewWith-le (c.loop-i.i * 2 ^ 58) (2 ^ 63) t.tally t.streak (omega (arith, end, few)) c.loop-i.invariant.tallied.few

pub returns-clause-tally : goal.returns-clause-tally
returns-clause-tally c =
    let all : List (List SliceEntry) = map entries_of c.args.caches.now in
    let stop = c.loop-i-test.false in
    let most = c.loop-i.auto.i-end in
    let len = length-map c.args.caches.now entries_of in
    let end : c.loop-i.i ≡ length all = omega (arith, stop, most, len) in
    let tallied = c.loop-i.invariant.tallied in
    subst (λ n. IsTallyOf (slices_alone all) n c.in_ok-tally.tally) end (record { groups = λ gid. c.in_ok-tally.ensures.groups gid ∙ tallied.groups gid; all = c.in_ok-tally.ensures.all ∙ tallied.all })

pub returns-clause-valid : goal.returns-clause-valid
returns-clause-valid c =
    let all : List (List SliceEntry) = map entries_of c.args.caches.now in
    let stop = c.loop-i-test.false in
    let len = length-map c.args.caches.now entries_of in
    c.loop-i.invariant.told ∙ ap (valid_in (parameters_of c.args.machine.now)) (take_all c.loop-i.i all (omega (arith, stop, len)))
