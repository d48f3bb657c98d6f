use Rattle.std.proofs.Common.{inl, sym, subst}
use Rattle.shared_parts.specs.Parts.{Shows, parts_after}
use Rattle.shared_parts.specs.Shares.{ShareValue}
use Rattle.shared_parts.proofs.share.Share.step_shown.Goals as goal

pub happen-requires-clause-shown : goal.happen-requires-clause-shown
happen-requires-clause-shown g c =
    let is = c.shown-shows.ensures in
    inl (
      is.0,
      subst (λ n. Shows g.M.Machine.shown n c.self.inside.seat.me.0.parts) (sym is.1) (subst (λ (v : ShareValue g.row.P.Denot). Shows g.M.Machine.shown c.args.before v.parts) (sym c.self.view_is) c.requires.before),
      subst (λ n. Shows g.M.Machine.shown n (parts_after g.M.Machine.after c.args.event.now c.self.inside.seat.me.0.parts)) (sym is.2)
          (subst (λ (v : ShareValue g.row.P.Denot). Shows g.M.Machine.shown c.args.after (parts_after g.M.Machine.after c.args.event.now v.parts)) (sym c.self.view_is) c.requires.after),
    )
