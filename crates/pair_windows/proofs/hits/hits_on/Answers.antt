use Rattle.std.proofs.Common.{◌≡◌, ℕ, ◌+◌, Bool, List, [], ◌++◌, drop, length, map, take, sym, subst, ap, ◌∙◌, arith}
use Rattle.std.proofs.Math.Seq.{take-append_seam}
use Rattle.std.proofs.lemmas.List.{get_or-map}
use Rattle.cache_core.specs.declared.entry.SliceEntry.{SliceEntry}
use Rattle.pair_windows.proofs.MarkedOps.{AreHits-below, MarkedBelow, MarkedBelow-more}
use Rattle.pair_windows.proofs.hits.hits_on.Goals as goal
use Rattle.pair_windows.specs.Hits.{AreMarked}
use Rattle.pair_law.specs.Entries.{slice_in}
use Rattle.run_law.specs.Entries.{entries_of}

pub loop-domain-preserved : goal.loop-domain-preserved
loop-domain-preserved c =
    let script = c.args.script.now in
    let slices : List (List SliceEntry) = map entries_of c.args.slices.now in
    let domain : ℕ = c.loop-domain.domain in
    let before : List Bool = c.loop-domain.hits.items in
    let after : List Bool = c.mark_all.new.hits in
    let rest : List Bool = drop (length after) before in
    let count : c.loop-domain.hits.len ≡ length after = sym c.deref_mut.ensures.len ∙ sym c.mark_all.ensures.same in
    let kept : take c.loop-domain.hits.len (after ++ rest) ≡ after = ap (λ n. take n (after ++ rest)) count ∙ take-append_seam after rest in
    let entries : c.deref.result.now ≡ slice_in slices domain =
    c.deref.ensures.value ∙ (ap entries_of c.index-slices-domain.is ∙ sym (get_or-map entries_of c.args.slices.now domain c.index-slices-domain.result [] c.loop-domain-test.true)) in
    let marked : AreMarked script c.args.side domain (slice_in slices domain) before after =
    subst (λ (es : List SliceEntry). AreMarked script c.args.side domain es before after) entries (subst (λ (xs : List Bool). AreMarked script c.args.side domain c.deref.result.now xs after) c.deref_mut.ensures.value c.mark_all.ensures) in
    record {
      all = ap length kept ∙ (marked.same ∙ c.loop-domain.invariant.all);
      each = subst (MarkedBelow script c.args.side slices (domain + 1)) (sym kept) (MarkedBelow-more script c.args.side slices domain before after c.loop-domain.invariant.each marked);
    }

pub returns : goal.returns
returns c =
    AreHits-below c.args.script.now c.args.side (map entries_of c.args.slices.now) c.loop-domain.domain c.loop-domain.hits.items c.requires.lawful
    (omega (arith, c.requires.one_each, c.loop-domain-test.false)) c.loop-domain.invariant.all c.loop-domain.invariant.each
