use Rattle.machine.specs.Maps.{parameters_of}
use Rattle.file_view.proofs.NameLines.{fixed_names-mon_data, fixed_names-other}
use Rattle.file_view.proofs.fixed.push_fixed.Goals as goal

pub returns-in-MonData : goal.returns-in-MonData
returns-in-MonData c = rw (c.in-MonData.is, fixed_names-mon_data (parameters_of c.args.m.now) c.in-MonData.field-0) c.push_domains.ensures

pub returns-in_default : goal.returns-in_default
returns-in_default c = rw (fixed_names-other (parameters_of c.args.m.now) c.args.dir c.in_default.not-MonData, ← c.fixed_in.ensures) c.push_entries.ensures
