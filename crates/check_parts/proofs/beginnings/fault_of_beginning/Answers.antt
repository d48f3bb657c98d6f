use Rattle.std.proofs.Common.{◌<◌, ℕ, List, IfOk, sym, subst, arith}
use Rattle.check_parts.proofs.ScriptBeginnings.{FindsFault-line, FindsFault-whole}
use Rattle.check_parts.specs.Beginnings.{FindsAnyFault}
use Rattle.check_parts.proofs.beginnings.fault_of_beginning.Goals as goal

pub returns-in-Some : goal.returns-in-Some
returns-in-Some c =
    let end = c.whole_bytes-end in
    let some : 0 < end.result = omega (arith, c.if-end-eq0.false) in
    let division = c.in-Some.ensures in
    let found = subst (λ (text : List ℕ). IfOk c.fault_of_script.result (λ found. FindsAnyFault text found)) c.script_part.ensures.part c.fault_of_script.ensures in
    FindsFault-whole c.args.bytes.now end.result some end.ensures.within (end.ensures.newline some) c.in-Some.division c.fault_of_script.result (sym division.division) division.within found

pub returns-in-None : goal.returns-in-None
returns-in-None c =
    let end = c.whole_bytes-end in
    let some : 0 < end.result = omega (arith, c.if-end-eq0.false) in
    FindsFault-line c.args.bytes.now end.result some end.ensures.within (end.ensures.newline some) c.fault_of_lines.result (sym c.in-None.ensures.division) c.fault_of_lines.ensures
