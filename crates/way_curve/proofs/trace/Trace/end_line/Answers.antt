use Rattle.std.proofs.Common.{◌≡◌, ℕ, ◌+◌, List, Some, None, sym, ap, ◌∙◌, subst}
use Rattle.std.specs.Str.Lines.{strip_carriage_return}
use Rattle.lackey_text.specs.Uses.{uses_of}
use Rattle.way_curve.specs.Reading.{TraceValue}
use Rattle.way_curve.specs.Filtering.{AddFiltered}
use Rattle.way_curve.specs.TraceTexts.{said_of}
use Rattle.way_curve.proofs.Steps.{HasRead-newline, bad-newline}
use Rattle.way_curve.proofs.trace.Trace.end_line.Goals as goal

pub returns-in-Some-clause-newline : goal.returns-in-Some-clause-newline
returns-in-Some-clause-newline c = λ filtering text read.
    let t = c.args.self.now in
    let rest : c.deref.result.now ≡ t.rest = c.deref.ensures.value ∙ ap (λ (v : TraceValue). v.rest) c.self.view_is in
    let said : Some c.in-Some.said ≡ said_of (strip_carriage_return t.rest) = c.in-Some.ensures.said ∙ ap (λ (l : List ℕ). said_of (strip_carriage_return l)) rest in
    HasRead-newline filtering t text c.requires.good read _ c.in-Some.said (sym said) (ap (λ (v : TraceValue). v.is_bad) c.self.view_is ∙ c.requires.good) (ap (λ (v : TraceValue). v.ended + 1) c.self.view_is) c.clear.ensures.items
    (subst (λ (v : TraceValue). AddFiltered v.curves c.note_line.new.self (uses_of c.in-Some.said)) c.self.view_is c.note_line.ensures.filtered)

pub returns-in-None-clause-newline : goal.returns-in-None-clause-newline
returns-in-None-clause-newline c = λ filtering text read.
    let t = c.args.self.now in
    let rest : c.deref.result.now ≡ t.rest = c.deref.ensures.value ∙ ap (λ (v : TraceValue). v.rest) c.self.view_is in
    let said : None ≡ said_of (strip_carriage_return t.rest) = c.in-None.ensures.said ∙ ap (λ (l : List ℕ). said_of (strip_carriage_return l)) rest in
    bad-newline filtering t text c.requires.good read c.self.inside.ended (sym said) (ap (λ (v : TraceValue). v.ended) c.self.view_is)
