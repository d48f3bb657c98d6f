use Rattle.std.proofs.Common.{◌≡◌, Some}
use Rattle.way_curve.proofs.Totals.{sum-take_set}
use Rattle.way_curve.proofs.distances.count.Goals as goal

pub returns-in-Some : goal.returns-in-Some
returns-in-Some c most le =
    let is : c.args.distance ≡ Some c.in-Some.distance = c.in-Some.is in
    let within = rw is at c.requires.within in
    rw is (sum-take_set c.args.uses.now c.in-Some.distance most within le)
