use Rattle.std.proofs.Common.{List, ℕ, Bor, Option, Ok, Some, None, Result, IfOk, sym, ap, subst, ◌∙◌, arith}
use Rattle.std.specs.Str.Lines.{lines}
use Rattle.script_ops.specs.Values.{ScriptValue}
use Rattle.script_lines.specs.declared.fault.ScriptFault.{ScriptFault}
use Rattle.script_lines.specs.declared.fault.LineFault.{LineFault}
use Rattle.script_text.specs.States.{ReaderState, state_of, IsReady}
use Rattle.script_text.specs.Reading.{reading_from, finished, Reads}
use Rattle.script_text.specs.Usual.{TakesLine}
use Rattle.script_text.proofs.NextLine.{reading_from-good_line, Reads-bad_line, reading_from-nil}
use Rattle.script_text.proofs.Readiness.{IsReady-line_meaning}
use Rattle.script_text.proofs.reading.read_lines.Goals as goal

pub finish-requires-clause-ready : goal.finish-requires-clause-ready
finish-requires-clause-ready c =
    let taken : TakesLine (Ok None) (state_of c.lines.reader) (state_of c.take_line.new.self) c.lines.left.now = subst (λ (o : Option (Bor (List ℕ))). TakesLine (Ok o) (state_of c.lines.reader) (state_of c.take_line.new.self) c.lines.left.now) c.in-Ok-None.field-0-is c.in-Ok-None.ensures.said in
    subst IsReady (sym taken.1) c.lines.invariant.ready

pub returns-in-Ok-None : goal.returns-in-Ok-None
returns-in-Ok-None c =
    let taken : TakesLine (Ok None) (state_of c.lines.reader) (state_of c.take_line.new.self) c.lines.left.now = subst (λ (o : Option (Bor (List ℕ))). TakesLine (Ok o) (state_of c.lines.reader) (state_of c.take_line.new.self) c.lines.left.now) c.in-Ok-None.field-0-is c.in-Ok-None.ensures.said in
    let e = c.lines.invariant.said ∙ ap (reading_from c.lines.number (state_of c.lines.reader)) taken.0 ∙ reading_from-nil c.lines.number (state_of c.lines.reader) ∙ ap (finished c.lines.number) (sym taken.1) in
    subst (λ (r : Result ScriptValue ScriptFault). Reads c.finish.result r) (sym e) c.finish.ensures

pub returns-in-Err : goal.returns-in-Err
returns-in-Err c =
    let taken = c.in-Err.ensures.said in
    let e = c.lines.invariant.said ∙ ap (reading_from c.lines.number (state_of c.lines.reader)) taken.2 in
    let bad = Reads-bad_line c.lines.number (state_of c.lines.reader) taken.0 (lines taken.1) c.in-Err.error taken.3 in
    rw (c.at.ensures, e) bad

pub lines-preserved : goal.lines-preserved
lines-preserved c =
    let s = state_of c.lines.reader in
    let s' = state_of c.take_line.new.self in
    let taken : TakesLine (Ok (Some c.in-Ok-Some.rest)) s s' c.lines.left.now = subst (λ (o : Option (Bor (List ℕ))). TakesLine (Ok o) s s' c.lines.left.now) c.in-Ok-Some.field-0-is c.in-Ok-Some.ensures.said in
    record {
      said = c.lines.invariant.said ∙ ap (reading_from c.lines.number s) taken.1 ∙ reading_from-good_line c.lines.number s s' taken.0 (lines c.in-Ok-Some.rest.now) taken.3;
      few = omega (arith, taken.2);
      sound = c.in-Ok-Some.ensures.sound;
      ready = subst (λ (r : Result ReaderState LineFault). IfOk r IsReady) taken.3 (IsReady-line_meaning s taken.0 c.lines.invariant.sound c.lines.invariant.ready);
    }
