use Rattle.std.proofs.Common.{[]}
use Rattle.way_curve.proofs.CurveSteps.{IsCurve-items, IsItemCurve-nil}
use Rattle.way_curve.proofs.curve.Curve.create.Goals as goal

pub returns-clause-no_items : goal.returns-clause-no_items
returns-clause-no_items c = IsItemCurve-nil c.args.sets c.in_ok-recent.recent.items c.in_ok-recent.ensures

pub returns-clause-empty : goal.returns-clause-empty
returns-clause-empty c = IsCurve-items _ [] (returns-clause-no_items c)
