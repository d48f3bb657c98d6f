use Rattle.top_parts.proofs.FewBytes.{meaning-bad_line, meaning-script}
use Rattle.top_parts.proofs.input.script_in.Goals as goal

pub returns-in-Ok : goal.returns-in-Ok
returns-in-Ok c = meaning-script c.args.bytes.items c.in-Ok.script c.requires (rw c.deref.ensures.value at c.in-Ok.ensures)

pub returns-in-Err-Bad : goal.returns-in-Err-Bad
returns-in-Err-Bad c = meaning-bad_line c.args.bytes.items c.in-Err-Bad.fault c.requires (rw c.deref.ensures.value at (rw c.in-Err-Bad.field-0-is at c.in-Err-Bad.ensures))
