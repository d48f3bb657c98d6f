use Rattle.std.proofs.Common.{sym, ◌∙◌}
use Rattle.std.proofs.lemmas.Bool.{le-leb}
use Rattle.std.proofs.Common.{length}
use Rattle.cpu_lists.proofs.Members.{below-number_of, number_of-lt}
use Rattle.cpu_lists.proofs.masks.group.Goals as goal

pub overflow_cast-result : goal.overflow_cast-result
overflow_cast-result c = record { fits = number_of-lt c.args.piece.now c.in-Some.n c.if-piece-gt8.false (sym (c.in-Some.ensures ∙ below-number_of c.args.piece.now c.if-piece-gt8.false)) }

pub returns-in-None : goal.returns-in-None
returns-in-None c = rw (le-leb (length c.args.piece.now) 8 c.if-piece-gt8.false) (c.in-None.ensures ∙ below-number_of c.args.piece.now c.if-piece-gt8.false)
