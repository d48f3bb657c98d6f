use Rattle.std.proofs.Common.{ℕ, subst}
use Rattle.shared_parts.specs.Parts.{Fits}
use Rattle.shared_parts.specs.Shares.{ShareValue}
use Rattle.shared_parts.proofs.share.Share.know.Goals as goal

pub returns-clause-reached : goal.returns-clause-reached
returns-clause-reached g c = subst (λ (v : ShareValue g.row.P.Denot). (at : ℕ → g.row.P.Denot) × g.M.Machine.reached at × Fits at v.parts) c.self.view_is c.know.ensures.known.0
