use Rattle.std.proofs.Common.{◌∷◌, ◌≡◌, [], length, ap, false, true, ◌∙◌}
use Rattle.std.proofs.lemmas.Bool.{eq-eqb}
use Rattle.journal_text.proofs.laws.Taken.{IsNotJust-rest}
use Rattle.journal_text.proofs.cursor.only_number.Goals as goal

pub returns-in_err-n : goal.returns-in_err-n
returns-in_err-n c = rw c.from_residual.ensures (λ numbers one t. c.in_err-n.ensures numbers [] one t)

pub returns-else-is_empty : goal.returns-else-is_empty
returns-else-is_empty c =
    IsNotJust-rest (c.in_ok-n.n ∷ []) c.in_ok-n.rest.now c.args.text.now c.in_ok-n.ensures (λ none. (let zero : false ≡ true = c.if-is_empty.ensures ∙ eq-eqb (length c.in_ok-n.rest.now) 0 (ap length none) in absurd cc))
