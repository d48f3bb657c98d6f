use Rattle.std.proofs.Common.{◌≡◌, ℕ, ◌+◌, List, length, Some, None, refl, sym, ap, ◌∙◌, subst}
use Rattle.std.specs.Str.Lines.{strip_carriage_return}
use Rattle.share_plans.specs.Filtering.{AddFiltered}
use Rattle.share_plans.specs.Reading.{StreamValue}
use Rattle.share_plans.specs.Streams.{step_of, uses_in}
use Rattle.share_plans.proofs.Steps.{HasRead-newline, bad-newline}
use Rattle.share_plans.proofs.stream.Stream.end_line.Goals as goal

pub returns-in-Some-clause-newline : goal.returns-in-Some-clause-newline
returns-in-Some-clause-newline c = λ filtering text read.
    let s = c.args.self.now in
    let rest : c.deref.result.now ≡ s.rest = c.deref.ensures.value ∙ ap (λ (v : StreamValue). v.rest) c.self.view_is in
    let count = c.count.ensures ∙ ap (λ (v : StreamValue). length v.played.played.programs) c.self.view_is in
    let step : step_of c.count.result s.turn (strip_carriage_return s.rest) ≡ Some c.in-Some.step =
    sym (c.in-Some.ensures.step ∙ (ap (λ (l : List ℕ). step_of c.count.result c.self.inside.turn (strip_carriage_return l)) rest
    ∙ ap (λ (v : StreamValue). step_of c.count.result v.turn (strip_carriage_return s.rest)) c.self.view_is)) in
    HasRead-newline filtering s text c.requires.good read _ c.in-Some.step c.count.result count step (ap (λ (v : StreamValue). v.is_bad) c.self.view_is ∙ c.requires.good)
    (ap (λ (v : StreamValue). v.ended + 1) c.self.view_is) c.clear.ensures.items refl
    (c.note_step.ensures.count ∙ ap (λ (v : StreamValue). length v.played.played.programs) c.self.view_is)
    (subst (λ (v : StreamValue). AddFiltered v.played c.note_step.new.self (uses_in c.in-Some.step)) c.self.view_is c.note_step.ensures.filtered)

pub returns-in-None-clause-newline : goal.returns-in-None-clause-newline
returns-in-None-clause-newline c = λ filtering text read.
    let s = c.args.self.now in
    let rest : c.deref.result.now ≡ s.rest = c.deref.ensures.value ∙ ap (λ (v : StreamValue). v.rest) c.self.view_is in
    let count = c.count.ensures ∙ ap (λ (v : StreamValue). length v.played.played.programs) c.self.view_is in
    let step : step_of c.count.result s.turn (strip_carriage_return s.rest) ≡ None =
    sym (c.in-None.ensures.step ∙ (ap (λ (l : List ℕ). step_of c.count.result c.self.inside.turn (strip_carriage_return l)) rest
    ∙ ap (λ (v : StreamValue). step_of c.count.result v.turn (strip_carriage_return s.rest)) c.self.view_is)) in
    bad-newline filtering s text c.requires.good read c.self.inside.ended c.count.result count step (ap (λ (v : StreamValue). v.ended) c.self.view_is)
