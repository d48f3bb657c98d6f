use Rattle.std.proofs.Common.{◌++◌}
use Rattle.plan_top.proofs.EndedTurns.{HasNoBadTurn-good}
use Rattle.plan_top.specs.Shares.{asked_by}
use Rattle.plan_top.proofs.share.ShareFormStreamProgram.take.Goals as goal

pub returns-in_default-clause-taken : goal.returns-in_default-clause-taken
returns-in_default-clause-taken c = λ bytes read.
    let form = c.args.self.now in
    let all = bytes ++ c.args.piece.now in
    let now = c.take.ensures.piece (asked_by form) bytes read in
    (now, HasNoBadTurn-good form c.take.new.self all (c.bad_line.ensures.none c.in_default.is (asked_by form) all now))

pub returns-in-Ok-clause-taken : goal.returns-in-Ok-clause-taken
returns-in-Ok-clause-taken c = λ bytes read more.
    let asked = asked_by c.args.self.now in
    let all = bytes ++ c.args.piece.now in
    record {
      line = c.in-Some.bad.line;
      bad = c.in-Some.ensures.told asked all more (c.take.ensures.piece asked bytes read);
      told = c.in-Ok.ensures;
    }
