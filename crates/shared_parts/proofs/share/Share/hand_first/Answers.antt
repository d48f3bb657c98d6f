use Rattle.std.proofs.Common.{sym, subst}
use Rattle.shared_parts.specs.Parts.{AreApart, first_of, rest_of}
use Rattle.shared_parts.specs.Shares.{ShareValue}
use Rattle.shared_parts.proofs.share.Share.hand_first.Goals as goal

pub give_first_to-requires-clause-apart : goal.give_first_to-requires-clause-apart
give_first_to-requires-clause-apart g c = subst (λ (v : ShareValue g.row.P.Denot). AreApart (first_of v.parts) (rest_of v.parts)) (sym c.self.view_is) c.requires.apart
