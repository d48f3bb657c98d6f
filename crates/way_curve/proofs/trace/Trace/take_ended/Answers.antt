use Rattle.std.proofs.Common.{◌∷◌, []}
use Rattle.way_curve.proofs.WholeLines.{ReadsOn-through}
use Rattle.way_curve.proofs.trace.Trace.take_ended.Goals as goal

pub returns-else-is_between_lines-clause-line : goal.returns-else-is_between_lines-clause-line
returns-else-is_between_lines-clause-line c = ReadsOn-through c.args.self.now c.take_bytes.new.self c.take_byte.new.self c.args.line.now (10 ∷ []) c.take_bytes.ensures.read c.take_byte.ensures.byte
