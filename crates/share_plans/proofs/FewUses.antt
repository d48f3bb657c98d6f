-- How many uses a line says, by its length.
use Rattle.std.proofs.Common.{◌≡◌, ℕ, ◌+◌, ◌*◌, ◌≤◌, List, [], ◌∷◌, length, Some, subst, arith}
use Rattle.std.proofs.lemmas.Option.{same_Some}
use Rattle.lackey_text.specs.declared.line.LackeyLine.{LackeyLine}
use Rattle.lackey_text.specs.declared.line.LackeyLine.TheVariants.{Skip}
use Rattle.lackey_text.specs.Lines.{IsInMemory, line_of}
use Rattle.lackey_text.specs.Uses.{uses_of}
use Rattle.lackey_text.proofs.laws.UseCounts.{length-uses_of}

-- an empty line says none, and any other 130 at most
pub length-uses_of_line : (line : List ℕ) (said : LackeyLine) → line_of line ≡ Some said → IsInMemory said → length (uses_of said) ≤ 65 * (length line + 1)
length-uses_of_line [] said is memory =
    let none : Skip ≡ said = same_Some Skip said is in
    subst (λ (s : LackeyLine). length (uses_of s) ≤ 65 * (0 + 1)) none (omega arith)
length-uses_of_line (b ∷ line) said is memory = let few = length-uses_of said memory in omega (arith, few)
