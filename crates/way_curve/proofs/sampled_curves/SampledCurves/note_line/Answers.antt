use Rattle.std.proofs.Common.{ap, subst}
use Rattle.lackey_text.specs.Uses.{uses_of}
use Rattle.way_curve.specs.Counting.{AddUses}
use Rattle.way_curve.specs.Samples.{sampled}
use Rattle.way_curve.specs.Sampling.{NoteFirst, SampledValue}
use Rattle.way_curve.proofs.SampleLists.{AddSampled-counted}
use Rattle.way_curve.proofs.sampled_curves.SampledCurves.note_line.Goals as goal

pub returns-clause-sampled : goal.returns-clause-sampled
returns-clause-sampled c =
    let more = uses_of c.args.said.now in
    AddSampled-counted c.args.self.now _ more (ap (λ (v : SampledValue). v.one_of) c.self.view_is)
    (subst (λ (v : SampledValue). AddUses v.curves c.count_line.new.curves (sampled v.one_of more)) c.self.view_is c.count_line.ensures.counted)
    (subst (λ (v : SampledValue). NoteFirst v.first c.note_first.new.first (sampled v.one_of more)) c.self.view_is c.note_first.ensures)
