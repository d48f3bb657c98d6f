use Rattle.std.proofs.Common.{arith, inr, sym, subst}
use Rattle.shared_parts.specs.Parts.{IsQuiet}
use Rattle.shared_parts.specs.Shares.{ShareValue}
use Rattle.shared_parts.proofs.share.Share.step.Goals as goal

pub happen-requires-clause-shown : goal.happen-requires-clause-shown
happen-requires-clause-shown g c = inr (
  (λ first. omega (arith, first, c.none-quiet.ensures, c.word_under.ensures)),
  subst (λ (v : ShareValue g.row.P.Denot). IsQuiet g.M.Machine.shown g.M.Machine.after c.args.event.now v.parts) (sym c.self.view_is) c.requires.quiet,
)
