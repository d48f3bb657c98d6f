use Rattle.std.proofs.Common.{◌≡◌, ◌+◌, ◌≤◌, ◌++◌, length}
use Rattle.std.specs.Prelude.{vec_len, vec_capacity}
use Rattle.std.specs.Option.{option_map}
use Rattle.script_lines.specs.Escapes.{unescaped}
use Rattle.script_lines.proofs.escapes.unescape.Given as goal

abbrev pub invariant-bytes : goal.invariant-bytes
invariant-bytes l = (unescaped l.text ≡ option_map (λ rest. l.bytes.items ++ rest) (unescaped l.left)) × (vec_len l.bytes + length l.left ≤ vec_capacity l.bytes)

abbrev pub decreases-bytes : goal.decreases-bytes
decreases-bytes l = length l.left
