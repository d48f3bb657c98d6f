use Rattle.machine.specs.Maps.{parameters_of}
use Rattle.journal_text.proofs.Masks.{mask-told}
use Rattle.journal_text.proofs.fields.mask_of.Goals as goal

pub returns : goal.returns
returns c =
    mask-told c.check.result c.ok.result c.geometry.result (parameters_of c.args.machine.now) c.args.n c.check.ensures.exact c.check.ensures.range c.ok.ensures.value c.geometry.ensures.len c.geometry.ensures.min c.geometry.ensures.sparse c.args.machine.now.in_range.way_limit
