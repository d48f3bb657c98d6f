use Rattle.std.proofs.Common.{◌≡◌, ℕ, ◌+◌, ◌<◌, false, List, [], length, Some, None, sym, ap, ◌∙◌, subst, arith}
use Rattle.std.specs.Prelude.{Err}
use Rattle.std.proofs.lemmas.Grind.{common_steps}
use Rattle.lackey_text.specs.Uses.{uses_of}
use Rattle.way_curve.specs.Reading.{AreOf, TraceValue}
use Rattle.way_curve.specs.Filtering.{AddFiltered}
use Rattle.way_curve.specs.TraceTexts.{said_of}
use Rattle.way_curve.proofs.Steps.{AreOf-last, AreOf-whole, bad-end, bad-last}
use Rattle.way_curve.proofs.trace.Trace.finish.Goals as goal

pub returns-then-is_bad : goal.returns-then-is_bad
returns-then-is_bad c = λ filtering text read.
    let t = c.args.self in
    bad-end filtering t text (sym (ap (λ (v : TraceValue). v.is_bad) c.self.view_is) ∙ c.if-is_bad.true) read ∙ ap (λ (v : TraceValue). Err (v.ended + 1)) (sym c.self.view_is)

pub returns-then-is_empty : goal.returns-then-is_empty
returns-then-is_empty c = λ filtering text read.
    let t = c.args.self in
    let good : t.is_bad ≡ false = sym (ap (λ (v : TraceValue). v.is_bad) c.self.view_is) ∙ c.if-is_bad.false in
    let none : c.self.inside.rest.items ≡ [] = grind (arith, common_steps) in
    subst (λ (v : TraceValue). AreOf filtering v.curves text) (sym c.self.view_is) (AreOf-whole filtering t text good read (sym (ap (λ (v : TraceValue). v.rest) c.self.view_is) ∙ none))

pub returns-in-Some : goal.returns-in-Some
returns-in-Some c = λ filtering text read.
    let t = c.args.self in
    let good : t.is_bad ≡ false = sym (ap (λ (v : TraceValue). v.is_bad) c.self.view_is) ∙ c.if-is_bad.false in
    let some : 0 < length c.self.inside.rest.items = grind (arith, common_steps) in
    let rest : c.deref.result.now ≡ t.rest = c.deref.ensures.value ∙ ap (λ (v : TraceValue). v.rest) c.self.view_is in
    let said : Some c.in-Some.said ≡ said_of t.rest = c.in-Some.ensures.said ∙ ap (λ (l : List ℕ). said_of l) rest in
    AreOf-last filtering t text good read c.in-Some.said c.note_line.new.self (subst (λ (v : TraceValue). 0 < length v.rest) c.self.view_is some) (sym said)
    (subst (λ (v : TraceValue). AddFiltered v.curves c.note_line.new.self (uses_of c.in-Some.said)) c.self.view_is c.note_line.ensures.filtered)

pub returns : goal.returns
returns c = λ filtering text read.
    let t = c.args.self in
    let good : t.is_bad ≡ false = sym (ap (λ (v : TraceValue). v.is_bad) c.self.view_is) ∙ c.if-is_bad.false in
    let some : 0 < length c.self.inside.rest.items = grind (arith, common_steps) in
    let rest : c.deref.result.now ≡ t.rest = c.deref.ensures.value ∙ ap (λ (v : TraceValue). v.rest) c.self.view_is in
    let said : None ≡ said_of t.rest = c.in-None.ensures.said ∙ ap (λ (l : List ℕ). said_of l) rest in
    bad-last filtering t text good read (subst (λ (v : TraceValue). 0 < length v.rest) c.self.view_is some) (sym said) ∙ ap (λ (v : TraceValue). Err (v.ended + 1)) (sym c.self.view_is)
