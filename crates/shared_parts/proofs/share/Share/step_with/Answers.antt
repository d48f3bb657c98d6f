use Rattle.std.proofs.Common.{◌++◌, arith, inr, sym, subst}
use Rattle.shared_parts.specs.Parts.{IsQuiet}
use Rattle.shared_parts.specs.Shares.{ShareValue}
use Rattle.shared_parts.proofs.share.Share.step_with.Goals as goal

pub happen_to_both-requires-clause-shown : goal.happen_to_both-requires-clause-shown
happen_to_both-requires-clause-shown g c = inr (
  (λ first. omega (arith, first, c.none-quiet.ensures, c.word_under.ensures)),
  subst (λ (w : ShareValue g.row.P.Denot). IsQuiet g.M.Machine.shown g.M.Machine.after c.args.event.now (w.parts ++ c.self.inside.seat.me.0.parts)) (sym c.other.view_is)
      (subst (λ (v : ShareValue g.row.P.Denot). IsQuiet g.M.Machine.shown g.M.Machine.after c.args.event.now (c.args.other.now.parts ++ v.parts)) (sym c.self.view_is) c.requires.quiet),
)
