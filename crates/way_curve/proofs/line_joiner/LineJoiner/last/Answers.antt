use Rattle.std.proofs.Common.{◌≡◌, ℕ, ◌<◌, List, [], length, Some, None, sym, ap, ◌∙◌, subst, arith}
use Rattle.std.proofs.lemmas.Grind.{common_steps}
use Rattle.way_curve.specs.Joining.{JoinerValue}
use Rattle.way_curve.specs.TraceTexts.{said_of}
use Rattle.way_curve.proofs.JoinSteps.{bad-last, trace_of-last, trace_of-whole}
use Rattle.way_curve.proofs.line_joiner.LineJoiner.last.Goals as goal

pub returns-then-is_empty-clause-text : goal.returns-then-is_empty-clause-text
returns-then-is_empty-clause-text c = λ text uses joins.
    let none : c.self.inside.rest.items ≡ [] = grind (arith, common_steps) in
    trace_of-whole c.args.self.now text uses joins (sym (ap (λ (v : JoinerValue). v.rest) c.self.view_is) ∙ none)

pub returns-in-Some-clause-text : goal.returns-in-Some-clause-text
returns-in-Some-clause-text c = λ text uses joins.
    let j = c.args.self.now in
    let some : 0 < length c.self.inside.rest.items = grind (arith, common_steps) in
    let rest : c.deref.result.now ≡ j.rest = c.deref.ensures.value ∙ ap (λ (v : JoinerValue). v.rest) c.self.view_is in
    let said : Some c.in-Some.said ≡ said_of j.rest = c.in-Some.ensures.said ∙ ap (λ (l : List ℕ). said_of l) rest in
    trace_of-last j text uses joins c.in-Some.said (subst (λ (v : JoinerValue). 0 < length v.rest) c.self.view_is some) (sym said)

pub returns-in-None-clause-text : goal.returns-in-None-clause-text
returns-in-None-clause-text c = λ text uses joins.
    let j = c.args.self.now in
    let some : 0 < length c.self.inside.rest.items = grind (arith, common_steps) in
    let rest : c.deref.result.now ≡ j.rest = c.deref.ensures.value ∙ ap (λ (v : JoinerValue). v.rest) c.self.view_is in
    let said : None ≡ said_of j.rest = c.in-None.ensures.said ∙ ap (λ (l : List ℕ). said_of l) rest in
    bad-last j text uses joins (subst (λ (v : JoinerValue). 0 < length v.rest) c.self.view_is some) (sym said)
