use Rattle.std.proofs.Common.{◌≡◌, ◌+◌, sym, subst, ap, ◌∙◌, arith}
use Rattle.run_replay.specs.Playbacks.{state_before}
use Rattle.run_windows.proofs.ChangeLists.{AreChanges-first}
use Rattle.run_windows.proofs.Replays.{IsReplayed-taken}
use Rattle.run_windows.specs.Changes.{AreChanges, logged}
use Rattle.run_windows.specs.Stays.{exclusive_in}
use Rattle.tree_law.specs.State.{State}
use Rattle.run_windows.proofs.followed.FollowedReplay.create.Goals as goal

pub returns-clause-noted : goal.returns-clause-noted
returns-clause-noted c =
    let script = c.args.script.now in
    let j = c.args.journals.now in
    let t = c.in_ok-replay.replay in
    let log = c.first_log-log.result in
    let empty = c.first_log-log.ensures in
    let taken = c.in_ok-replay.ensures.taken in
    let before = c.in_ok-replay.ensures.before in
    let first : t.epoch ≡ 0 = omega (arith, before) in
    let none : log.latest.items ≡ exclusive_in t.state.groups = empty.2 ∙ sym (ap (λ (s : State). exclusive_in s.groups) (taken.state ∙ ap (state_before script j.tree) first)) in
    record {
      lawful = c.requires.lawful;
      run = c.requires.run;
      changes = subst (λ n. AreChanges script j (n + 1) (logged log)) (sym first) (AreChanges-first script j t log (IsReplayed-taken script j t taken (omega (arith, first))) first empty.0 empty.1 none);
    }
