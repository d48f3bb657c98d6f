use Rattle.std.proofs.Common.{◌≡◌, [], Some, None, refl, sym, ap, ◌∙◌, arith}
use Rattle.cache_core.specs.History.{held, shape_of}
use Rattle.machine.proofs.laws.WholeSets.{mod-sets_slices}
use Rattle.machine.specs.Maps.{parameters_of}
use Rattle.journal_check.proofs.EmptiedLines.{places_with-nothing}
use Rattle.journal_check.specs.Slots.{resident_of}
use Rattle.journal_check.proofs.replay.Replay.create.Goals as goal

pub returns : goal.returns
returns c =
    let m = c.args.m.now in
    let shape = shape_of (parameters_of m) c.args.slice in
    let range = m.in_range in
    record {
      divided = record { some_set = range.some_set; few_sets = range.set_limit; few_ways = range.way_limit; inside = c.requires; whole = mod-sets_slices (parameters_of m) range };
      shape = c.in_ok-slots.ensures.shape;
      places = λ s w s_in w_in.
          let empty = c.in_ok-slots.ensures.empty s w s_in w_in in
          record {
            resident = sym (ap resident_of empty);
            age = λ p is. absurd (let wrong : None ≡ Some p = sym empty ∙ is in cc);
            named = λ p is. absurd (let wrong : None ≡ Some p = sym empty ∙ is in cc);
          };
      counts = λ rmid small. c.in_ok-counts.ensures.zero rmid small ∙ sym (places_with-nothing shape rmid (held shape []) (λ s w. refl));
      floor = refl;
      slots_generation = (let zero = c.in_ok-slots.ensures.generation in omega (arith, zero));
      counts_generation = (let zero = c.in_ok-counts.ensures.generation in omega (arith, zero));
    }
