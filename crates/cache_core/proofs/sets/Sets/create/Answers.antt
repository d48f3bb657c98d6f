use Rattle.std.proofs.Common.{◌≡◌, ◌*◌, length, sym, ◌∙◌, ap, arith, slice_index}
use Rattle.cache_core.specs.Flat.{Flat}
use Rattle.cache_core.proofs.FlatPlaces.{length-flat_sets}
use Rattle.cache_core.proofs.FlatReads.{IsRow-flat_sets}
use Rattle.cache_core.proofs.FlatChanges.{place_in-empty}
use Rattle.occupancy.proofs.laws.Zeros.{get_or-zeros}
use Rattle.cache_core.proofs.sets.Sets.create.Goals as goal

pub invariant_of-result : goal.invariant_of-result
invariant_of-result c =
    let f : Flat = record { ways = c.args.ways; valid = c.in_ok-valid.valid.items; lines = c.in_ok-lines.lines; used = c.in_ok-used.used.items; rmids = c.in_ok-rmids.rmids.items } in
    let count : length f.valid ≡ c.args.count = omega (arith, c.in_ok-valid.ensures.len) in
    record {
      limit = c.requires;
      lines = (let size : length f.lines ≡ c.args.count * c.args.ways = omega (arith, c.in_ok-lines.ensures) in size) ∙ ap (λ k. k * c.args.ways) (sym count);
      used = (let size : length f.used ≡ c.args.count * c.args.ways = omega (arith, c.in_ok-used.ensures.len) in size) ∙ ap (λ k. k * c.args.ways) (sym count);
      rmids = (let size : length f.rmids ≡ c.args.count * c.args.ways = omega (arith, c.in_ok-rmids.ensures.len) in size) ∙ ap (λ k. k * c.args.ways) (sym count);
    }

pub returns-clause-count : goal.returns-clause-count
returns-clause-count c =
    let f : Flat = record { ways = c.args.ways; valid = c.in_ok-valid.valid.items; lines = c.in_ok-lines.lines; used = c.in_ok-used.used.items; rmids = c.in_ok-rmids.rmids.items } in
    length-flat_sets f ∙ omega (arith, c.in_ok-valid.ensures.len)

pub returns-clause-widths : goal.returns-clause-widths
returns-clause-widths c set less =
    let f : Flat = record { ways = c.args.ways; valid = c.in_ok-valid.valid.items; lines = c.in_ok-lines.lines; used = c.in_ok-used.used.items; rmids = c.in_ok-rmids.rmids.items } in
    (IsRow-flat_sets f set (omega (arith, less, c.in_ok-valid.ensures.len))).count

pub returns-clause-empty : goal.returns-clause-empty
returns-clause-empty c =
    let f : Flat = record { ways = c.args.ways; valid = c.in_ok-valid.valid.items; lines = c.in_ok-lines.lines; used = c.in_ok-used.used.items; rmids = c.in_ok-rmids.rmids.items } in
    place_in-empty f (λ s. ap (λ vs. slice_index vs s) (c.in_ok-valid.ensures.items_if_clones_equal (λ y h. h)) ∙ get_or-zeros _ s)
