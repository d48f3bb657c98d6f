use Rattle.std.proofs.Common.{◌≡◌, List, Option, length, slice_set, subst, sym, ◌∙◌, ap}
use Rattle.cache_core.specs.declared.emptied.Emptied.{Emptied}
use Rattle.cache_core.specs.declared.cached_line.CachedLine.{CachedLine}
use Rattle.cache_core.specs.Lazy.{left_set}
use Rattle.cache_core.specs.Places.{set_in}
use Rattle.cache_core.proofs.RegionLoads.{left_set-flushed}
use Rattle.cache_core.proofs.emptied.Emptied.renew.Goals as goal

pub returns-in-Flushed : goal.returns-in-Flushed
returns-in-Flushed c =
    let old : List (List (Option CachedLine)) = c.args.sets.now in
    let ways = length (set_in old c.args.set) in
    subst (λ (e : Emptied). c.clear.new.self ≡ slice_set old c.args.set (left_set e c.args.set ways)) (sym c.in-Flushed.is)
    (c.clear.ensures ∙ ap (λ (ps : List (Option CachedLine)). slice_set old c.args.set ps) (left_set-flushed c.args.set ways))
