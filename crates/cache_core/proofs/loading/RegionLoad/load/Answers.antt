use Rattle.std.proofs.Common.{◌≡◌, List, Option, None, [], length, replicate, slice_set, ◌∙◌, ap, arith, inl, inr}
use Rattle.std.proofs.lemmas.Bool.{cases_lt}
use Rattle.std.proofs.lemmas.List.{get_or-replicate, get_or-set_same, length-replicate, length-set, set-set}
use Rattle.std.proofs.Math.ListN.{get_or-eq_default}
use Rattle.cache_core.specs.declared.emptied.Emptied.TheVariants.{Locked}
use Rattle.cache_core.specs.declared.cached_line.CachedLine.{CachedLine}
use Rattle.cache_core.specs.Lazy.{left_set}
use Rattle.cache_core.specs.Places.{place_in, set_in}
use Rattle.cache_core.proofs.loading.RegionLoad.load.Goals as goal

pub load_ways-requires-clause-set : goal.load_ways-requires-clause-set
load_ways-requires-clause-set c =
    let row : List (Option CachedLine) = set_in c.args.sets.now c.args.set in
    let clear : List (Option CachedLine) = replicate (length row) None in
    omega (arith, c.requires, ap (λ (ps : List (List (Option CachedLine))). length ps) c.clear.ensures, length-set c.args.sets.now c.args.set clear)

pub load_ways-requires-clause-empty : goal.load_ways-requires-clause-empty
load_ways-requires-clause-empty c way =
    let row : List (Option CachedLine) = set_in c.args.sets.now c.args.set in
    let clear : List (Option CachedLine) = replicate (length row) None in
    let size : length clear ≡ length row = length-replicate (length row) None in
    ap (λ (ps : List (List (Option CachedLine))). place_in (set_in ps c.args.set) way) c.clear.ensures
    ∙ (ap (λ ps. place_in ps way) (get_or-set_same c.args.sets.now c.args.set clear [] c.requires)
    ∙ (elim (cases_lt way (length row)) [
      | inl inside ↦ get_or-replicate (length row) way None None inside
      | inr past ↦ get_or-eq_default clear None (omega arith)
    ]))

pub returns : goal.returns
returns c =
    let old : List (List (Option CachedLine)) = c.args.sets.now in
    let row : List (Option CachedLine) = set_in old c.args.set in
    let clear : List (Option CachedLine) = replicate (length row) None in
    let width : length (set_in (slice_set old c.args.set clear) c.args.set) ≡ length row = ap length (get_or-set_same old c.args.set clear [] c.requires) ∙ length-replicate (length row) None in
    c.load_ways.ensures
    ∙ (ap (λ (ps : List (List (Option CachedLine))). slice_set ps c.args.set (left_set (Locked c.args.self.now) c.args.set (length (set_in ps c.args.set)))) c.clear.ensures
    ∙ (set-set old c.args.set clear (left_set (Locked c.args.self.now) c.args.set (length (set_in (slice_set old c.args.set clear) c.args.set)))
    ∙ ap (λ n. slice_set old c.args.set (left_set (Locked c.args.self.now) c.args.set n)) width))
