use Rattle.std.proofs.Common.{◌≡◌, ◌+◌, ◌≤◌, ◌++◌, length}
use Rattle.pair_text.specs.Values.{epoch_at}
use Rattle.pair_report.specs.LinesBefore.{IsBehind, lines_before}
use Rattle.rc_base.specs.declared.text_buf.TheConstants.{TEXT_MAX}
use Rattle.pair_report.proofs.commands.push_all.Given as goal

abbrev pub invariant-loop-place : goal.invariant-loop-place
invariant-loop-place l = record {
  behind : IsBehind l.script l.place l.walk.replay;
  before : l.walk.commands ≡ epoch_at l.script l.place;
  room : TEXT_MAX ≤ l.walk.file.spare + length l.walk.file.bytes;
  so_far : l.report ≡ l.initial.report ++ lines_before l.script l.replies l.place;
}
