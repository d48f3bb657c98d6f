use Rattle.std.proofs.Common.{arith}
use Rattle.way_curve.proofs.CurveLines.{curve_lines-suc}
use Rattle.way_curve.proofs.report.push_lines.Goals as goal

pub loop-fewer-preserved : goal.loop-fewer-preserved
loop-fewer-preserved c =
    let before = c.loop-fewer.invariant in
    record {
      bytes = λ sets lines is. curve_lines-suc c.args.scale sets c.loop-fewer.fewer lines c.args.out.now.bytes c.loop-fewer.out.bytes c.push_line.new.out.bytes (before.bytes sets lines is) (c.push_line.ensures.bytes sets lines is);
      spare = omega (arith, before.spare, c.push_line.ensures.spare);
    }
