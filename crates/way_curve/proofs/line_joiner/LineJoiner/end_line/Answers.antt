use Rattle.std.proofs.Common.{◌≡◌, ℕ, ◌+◌, List, Some, None, sym, ap, ◌∙◌}
use Rattle.std.specs.Str.Lines.{strip_carriage_return}
use Rattle.way_curve.specs.Joining.{JoinerValue}
use Rattle.way_curve.specs.TraceTexts.{said_of}
use Rattle.way_curve.proofs.JoinSteps.{Joins-newline, bad-newline}
use Rattle.way_curve.proofs.line_joiner.LineJoiner.end_line.Goals as goal

pub returns-in-Some-clause-byte : goal.returns-in-Some-clause-byte
returns-in-Some-clause-byte c = λ text uses joins.
    let j = c.args.self.now in
    let rest : c.deref.result.now ≡ j.rest = c.deref.ensures.value ∙ ap (λ (v : JoinerValue). v.rest) c.self.view_is in
    let said : Some c.in-Some.said ≡ said_of (strip_carriage_return j.rest) = c.in-Some.ensures.said ∙ ap (λ (l : List ℕ). said_of (strip_carriage_return l)) rest in
    Joins-newline j text uses joins _ c.in-Some.said (sym said) (ap (λ (v : JoinerValue). v.ended + 1) c.self.view_is) c.clear.ensures.items

pub returns-in-None-clause-byte : goal.returns-in-None-clause-byte
returns-in-None-clause-byte c = λ text uses joins.
    let j = c.args.self.now in
    let rest : c.deref.result.now ≡ j.rest = c.deref.ensures.value ∙ ap (λ (v : JoinerValue). v.rest) c.self.view_is in
    let said : None ≡ said_of (strip_carriage_return j.rest) = c.in-None.ensures.said ∙ ap (λ (l : List ℕ). said_of (strip_carriage_return l)) rest in
    bad-newline j text uses joins (sym said)
