use Rattle.std.proofs.Common.{arith}
use Rattle.lackey_text.specs.Uses.{uses_of}
use Rattle.way_curve.proofs.SampleLists.{length-sample_of}
use Rattle.way_curve.proofs.sampled_curves.count_line.Goals as goal

pub returns-in-Some-clause-uses : goal.returns-in-Some-clause-uses
returns-in-Some-clause-uses c = omega (arith, c.note_sample.ensures.uses, length-sample_of c.in-Some.one_of (uses_of c.args.said.now))
