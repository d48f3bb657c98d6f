use Rattle.std.proofs.Common.{sym}
use Rattle.cbm.proofs.laws.Validity.{checked-checked}
use Rattle.schemata_text.proofs.reading.entry.Goals as goal

pub returns-in-Ok-clause-valid : goal.returns-in-Ok-clause-valid
returns-in-Ok-clause-valid c = checked-checked c.args.g.now c.in-Some-read_hex.bits c.in-Ok.mask (sym c.in-Ok.ensures.exact)
