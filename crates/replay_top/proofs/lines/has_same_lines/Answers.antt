use Rattle.std.proofs.Common.{◌≡◌, true}
use Rattle.rc_base.specs.Texts.{is_text}
use Rattle.replay_top.proofs.OtherLines.{other_lines-same}
use Rattle.replay_top.proofs.lines.has_same_lines.Goals as goal

pub lines-preserved : goal.lines-preserved
lines-preserved c =
    let same_line : is_text c.in-Some.line.now c.in-Some-next_other.there.now ≡ true = cc in
    record {
      same = λ same. c.lines.invariant.same
          (other_lines-same c.lines.left.now c.lines.right.now c.in-Some.line.now c.in-Some-next_other.there.now c.in-Some.rest.now c.in-Some-next_other.behind.now c.in-Some.ensures.0 c.in-Some-next_other.ensures.0 same_line same);
    }
