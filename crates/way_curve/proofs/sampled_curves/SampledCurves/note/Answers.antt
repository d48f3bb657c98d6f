use Rattle.std.proofs.Common.{[], ◌∷◌, refl, sym, ◌∙◌, subst}
use Rattle.way_curve.specs.Sampling.{AddSampled, SampledValue}
use Rattle.way_curve.proofs.SampleLists.{AddSampled-in, AddSampled-out}
use Rattle.way_curve.proofs.sampled_curves.SampledCurves.note.Goals as goal

pub returns-then-is_kept-clause-sampled : goal.returns-then-is_kept-clause-sampled
returns-then-is_kept-clause-sampled c =
    let u = c.args.used in
    let old : SampledValue = record { one_of = c.self.inside.one_of; curves = c.self.inside.curves; first = c.self.inside.first } in
    let new : SampledValue = record { one_of = c.self.inside.one_of; curves = c.note.new.self; first = c.note_used.new.first } in
    subst (λ (v : SampledValue). AddSampled v new (u ∷ [])) c.self.view_is
    (AddSampled-in old new u (sym c.is_kept.ensures ∙ c.if-is_kept.true) refl c.note.ensures.counted c.note_used.ensures)

pub returns-else-is_kept-clause-sampled : goal.returns-else-is_kept-clause-sampled
returns-else-is_kept-clause-sampled c =
    let u = c.args.used in
    let old : SampledValue = record { one_of = c.self.inside.one_of; curves = c.self.inside.curves; first = c.self.inside.first } in
    subst (λ (v : SampledValue). AddSampled v v (u ∷ [])) c.self.view_is (AddSampled-out old u (sym c.is_kept.ensures ∙ c.if-is_kept.false))
