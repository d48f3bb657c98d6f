use Rattle.std.proofs.Common.{sym, ap, ◌∙◌}
use Rattle.cache_core.specs.History.{shape_of}
use Rattle.machine.specs.Maps.{parameters_of}
use Rattle.machine.proofs.laws.Slices.{slice_number-mod}
use Rattle.step_world.proofs.slice.Slice.create.Goals as goal

pub returns-clause-fresh : goal.returns-clause-fresh
returns-clause-fresh c =
    let m = parameters_of c.args.m.now in
    let made = c.in_ok-cache.ensures in
    record {
      cache = record {
        shape = made.shape ∙ ap (shape_of m) (sym (slice_number-mod m c.args.domain c.args.slice c.requires.slice));
        rmids = made.rmids;
        stands = made.empty;
      };
      empty = c.in_ok-entries.ensures.items;
    }
