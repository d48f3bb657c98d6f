use Rattle.std.proofs.Common.{◌/◌, ◌%◌, ◌^◌, ap, sym, ◌∙◌}
use Rattle.cache_core.proofs.own_sets.own_set.Goals as goal

pub returns : goal.returns
returns c = ap (λ n. n / 2 ^ c.args.shift) c.set_of.ensures.set ∙ ap (λ n. c.args.line % c.args.m.now.sets / n) (sym c.requires.slices)
