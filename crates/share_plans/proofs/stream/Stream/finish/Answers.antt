use Rattle.std.proofs.Common.{◌≡◌, ℕ, ◌+◌, ◌<◌, false, List, [], length, Some, None, sym, ap, ◌∙◌, subst, arith}
use Rattle.std.specs.Prelude.{Err}
use Rattle.std.proofs.lemmas.Grind.{common_steps}
use Rattle.share_plans.specs.Filtering.{AddFiltered}
use Rattle.share_plans.specs.Played.{PlayedValue}
use Rattle.share_plans.specs.Reading.{AreOf, StreamValue}
use Rattle.share_plans.specs.Streams.{step_of, uses_in}
use Rattle.share_plans.proofs.Steps.{AreOf-last, AreOf-whole, bad-end, bad-last}
use Rattle.share_plans.proofs.stream.Stream.finish.Goals as goal

pub returns-then-is_bad-clause-played : goal.returns-then-is_bad-clause-played
returns-then-is_bad-clause-played c = λ filtering text read.
    let s = c.args.self in
    bad-end filtering s text (sym (ap (λ (v : StreamValue). v.is_bad) c.self.view_is) ∙ c.if-is_bad.true) read ∙ ap (λ (v : StreamValue). Err (v.ended + 1)) (sym c.self.view_is)

pub returns-then-is_empty-clause-played : goal.returns-then-is_empty-clause-played
returns-then-is_empty-clause-played c = λ filtering text read.
    let s = c.args.self in
    let good : s.is_bad ≡ false = sym (ap (λ (v : StreamValue). v.is_bad) c.self.view_is) ∙ c.if-is_bad.false in
    let none : c.self.inside.rest.items ≡ [] = grind (arith, common_steps) in
    subst (λ (p : PlayedValue). AreOf filtering p text) (sym c.into_played.ensures)
    (subst (λ (v : StreamValue). AreOf filtering v.played.played text) (sym c.self.view_is) (AreOf-whole filtering s text good read (sym (ap (λ (v : StreamValue). v.rest) c.self.view_is) ∙ none)))

pub returns-in-Some-clause-played : goal.returns-in-Some-clause-played
returns-in-Some-clause-played c = λ filtering text read.
    let s = c.args.self in
    let good : s.is_bad ≡ false = sym (ap (λ (v : StreamValue). v.is_bad) c.self.view_is) ∙ c.if-is_bad.false in
    let some : 0 < length c.self.inside.rest.items = grind (arith, common_steps) in
    let rest : c.deref.result.now ≡ s.rest = c.deref.ensures.value ∙ ap (λ (v : StreamValue). v.rest) c.self.view_is in
    let count = c.count.ensures ∙ ap (λ (v : StreamValue). length v.played.played.programs) c.self.view_is in
    let step : step_of c.count.result s.turn s.rest ≡ Some c.in-Some.step =
    sym (c.in-Some.ensures.step ∙ (ap (λ (l : List ℕ). step_of c.count.result c.self.inside.turn l) rest ∙ ap (λ (v : StreamValue). step_of c.count.result v.turn s.rest) c.self.view_is)) in
    subst (λ (p : PlayedValue). AreOf filtering p text) (sym c.into_played-in-Some.ensures)
    (AreOf-last filtering s text good read c.in-Some.step c.note_step.new.self c.count.result count (subst (λ (v : StreamValue). 0 < length v.rest) c.self.view_is some) step
    (subst (λ (v : StreamValue). AddFiltered v.played c.note_step.new.self (uses_in c.in-Some.step)) c.self.view_is c.note_step.ensures.filtered))

pub returns-clause-played : goal.returns-clause-played
returns-clause-played c = λ filtering text read.
    let s = c.args.self in
    let good : s.is_bad ≡ false = sym (ap (λ (v : StreamValue). v.is_bad) c.self.view_is) ∙ c.if-is_bad.false in
    let some : 0 < length c.self.inside.rest.items = grind (arith, common_steps) in
    let rest : c.deref.result.now ≡ s.rest = c.deref.ensures.value ∙ ap (λ (v : StreamValue). v.rest) c.self.view_is in
    let count = c.count.ensures ∙ ap (λ (v : StreamValue). length v.played.played.programs) c.self.view_is in
    let step : step_of c.count.result s.turn s.rest ≡ None =
    sym (c.in-None.ensures.step ∙ (ap (λ (l : List ℕ). step_of c.count.result c.self.inside.turn l) rest ∙ ap (λ (v : StreamValue). step_of c.count.result v.turn s.rest) c.self.view_is)) in
    bad-last filtering s text good read c.count.result count (subst (λ (v : StreamValue). 0 < length v.rest) c.self.view_is some) step ∙ ap (λ (v : StreamValue). Err (v.ended + 1)) (sym c.self.view_is)
