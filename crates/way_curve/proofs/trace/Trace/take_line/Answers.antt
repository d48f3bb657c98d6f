use Rattle.std.proofs.Common.{◌≡◌, ◌+◌, Some, None, sym, ap, ◌∙◌, subst}
use Rattle.std.specs.Str.Lines.{strip_carriage_return}
use Rattle.lackey_text.specs.Uses.{uses_of}
use Rattle.way_curve.specs.Reading.{TraceValue}
use Rattle.way_curve.specs.Filtering.{AddFiltered}
use Rattle.way_curve.specs.TraceTexts.{said_of}
use Rattle.way_curve.proofs.WholeLines.{ReadsOn-line, bad-line}
use Rattle.way_curve.proofs.trace.Trace.take_line.Goals as goal

pub returns-in-Some-clause-line : goal.returns-in-Some-clause-line
returns-in-Some-clause-line c =
    let t = c.args.self.now in
    let said : Some c.in-Some.said ≡ said_of (strip_carriage_return c.args.line.now) = c.in-Some.ensures.said in
    ReadsOn-line t _ c.args.line.now c.in-Some.said c.requires.good c.requires.none c.requires.is_open (sym said) (ap (λ (v : TraceValue). v.is_bad) c.self.view_is ∙ c.requires.good) (ap (λ (v : TraceValue). v.ended + 1) c.self.view_is)
    (ap (λ (v : TraceValue). v.rest) c.self.view_is ∙ c.requires.none) (subst (λ (v : TraceValue). AddFiltered v.curves c.note_line.new.self (uses_of c.in-Some.said)) c.self.view_is c.note_line.ensures.filtered)

pub returns-in-None-clause-line : goal.returns-in-None-clause-line
returns-in-None-clause-line c = λ filtering text read.
    let t = c.args.self.now in
    let said : None ≡ said_of (strip_carriage_return c.args.line.now) = c.in-None.ensures.said in
    bad-line filtering t text c.args.line.now c.requires.good read c.requires.none c.requires.is_open (sym said) c.self.inside.ended (ap (λ (v : TraceValue). v.ended) c.self.view_is)
