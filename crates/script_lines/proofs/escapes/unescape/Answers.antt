use Rattle.std.proofs.Common.{◌≡◌, ℕ, List, [], Option, Some, length, subst, sym, ◌∙◌}
use Rattle.std.proofs.lemmas.Bool.{eqb-true}
use Rattle.std.proofs.lemmas.List.{nil_from_length}
use Rattle.script_lines.specs.Escapes.{unescaped, Unescapes}
use Rattle.script_lines.proofs.EscapedBytes.{option_map-unescaped_nil}
use Rattle.script_lines.proofs.escapes.unescape.Goals as goal

pub returns-then-is_empty : goal.returns-then-is_empty
returns-then-is_empty c =
    let left = c.bytes.left.now in
    let nothing : left ≡ [] = nil_from_length left (eqb-true (length left) 0 (sym c.if-is_empty.ensures)) in
    let read : unescaped c.args.text.now ≡ Some c.bytes.bytes.items = c.bytes.invariant.0 ∙ option_map-unescaped_nil c.bytes.bytes.items left nothing in
    subst (λ (o : Option (List ℕ)). Unescapes c.boxed.result o) (sym read) c.boxed.ensures
