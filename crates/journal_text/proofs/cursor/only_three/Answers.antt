use Rattle.std.proofs.Common.{◌∷◌, [], arith, refl}
use Rattle.journal_text.proofs.laws.Taken.{IsNotJust-after, IsNotJust-more, Takes-append}
use Rattle.journal_text.proofs.cursor.only_three.Goals as goal

pub returns-in_err-first : goal.returns-in_err-first
returns-in_err-first c = rw c.from_residual.ensures (IsNotJust-more 1 3 c.args.text.now (omega arith) c.in_err-first.ensures)

pub returns-in_err-second : goal.returns-in_err-second
returns-in_err-second c = rw c.from_residual-in_err-second.ensures (IsNotJust-after 2 3 (c.in_ok-first.first ∷ []) c.in_ok-first.rest.now c.args.text.now refl c.in_ok-first.ensures c.in_err-second.ensures)

pub returns : goal.returns
returns c = Takes-append (c.in_ok-first.first ∷ []) (c.in_ok-second.second ∷ c.in_ok-second.third ∷ []) c.in_ok-first.rest.now [] c.args.text.now c.in_ok-first.ensures c.in_ok-second.ensures
