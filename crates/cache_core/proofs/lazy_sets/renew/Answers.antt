use Rattle.std.proofs.Common.{◌≡◌, List, Option, slice_set, ◌∙◌, ap, arith}
use Rattle.std.specs.Prelude.{slice_index}
use Rattle.std.proofs.lemmas.List.{get_or_default}
use Rattle.cache_core.specs.declared.cached_line.CachedLine.{CachedLine}
use Rattle.cache_core.specs.Lazy.{lazy_sets}
use Rattle.cache_core.proofs.LazyChanges.{lazy_sets-renewed}
use Rattle.cache_core.proofs.lazy_sets.renew.Goals as goal

pub returns-then-index-generation-clause-places : goal.returns-then-index-generation-clause-places
returns-then-index-generation-clause-places c =
    let renewed = c.args.renewed.now.items in
    let noted : c.index.result.now ≡ slice_index renewed c.args.set = c.index.ensures ∙ get_or_default renewed c.args.set c.index.result.now 0 (omega (arith, c.requires.set, c.requires.lazy.count)) in
    ap (λ (ps : List (List (Option CachedLine))). lazy_sets c.args.emptied.now ps (slice_set renewed c.args.set c.args.generation) c.args.generation) c.renew.ensures
    ∙ lazy_sets-renewed c.args.emptied.now c.args.sets.now renewed c.args.generation c.args.set c.requires.lazy.count c.requires.set (omega (arith, noted, c.if-index-generation.true))
