use Rattle.std.proofs.Common.{◌≡◌, ◌+◌, ◌-◌, ◌<◌, ◌∙◌, ap, arith, drop, get_or, length, subst, sym}
use Rattle.machine.specs.Maps.{parameters_of}
use Rattle.run_law.specs.Ops.{is_command}
use Rattle.run_law.specs.LookLists.{AreReady, rooms_of}
use Rattle.run_law.proofs.laws.ReadyLists.{AreReady-access_back, AreReady-command_back, is_command-not_access, rooms_of-accesses}
use Rattle.run_law.proofs.look_lists.LookLists.create.Goals as goal
use Rattle.run_law.proofs.look_lists.LookLists.create.Goals.{in-Access, in_default+in_ok-with_room-in_default+in_ok-push-in_default}

pub loop-k-preserved : goal.loop-k-preserved
loop-k-preserved c =
    let m = parameters_of c.args.m.now in
    let ops = c.args.ops.now in
    let k = c.loop-k.k in
    let op = c.get.result.now in
    let below : k < length ops = omega (arith, c.loop-k-test.true, c.len-k-end.ensures) in
    let is : op ≡ get_or ops (length ops - 1 - k) op = c.get.ensures ∙ subst (λ n. c.at-op.result ≡ get_or ops (n - 1 - k) op) c.len.ensures (c.at-op.ensures op) in
    elim c.match-get.branch [
      | in-Access w ↦
          subst (λ ls. AreReady (rooms_of m (drop (length ops - (k + 1)) ops)) ls) (sym (ap (λ v. v.items) w.lists-is))
          (AreReady-access_back m ops k op c.loop-k.lists.items below is (ap is_command w.in-Access.is) c.loop-k.invariant)
      | in_default+in_ok-with_room-in_default+in_ok-push-in_default w ↦
          subst (λ ls. AreReady (rooms_of m (drop (length ops - (k + 1)) ops)) ls) (sym (ap (λ v. v.items) w.lists-is ∙ w.in_ok-push-in_default.ensures.items))
          (AreReady-command_back m ops k op c.loop-k.lists.items w.in_ok-with_room-in_default.field-0 below is (is_command-not_access op w.in_default.not-Access) w.in_ok-with_room-in_default.ensures.empty (omega (arith, w.in_ok-with_room-in_default.ensures.room, w.most_counts.ensures)) c.loop-k.invariant)
    ]

pub returns-then-commands-eq0 : goal.returns-then-commands-eq0
returns-then-commands-eq0 c =
    subst (λ rooms. AreReady rooms c.new-lists.result.items) (sym (rooms_of-accesses (parameters_of c.args.m.now) c.args.ops.now (omega (arith, c.requires, c.if-commands-eq0.true)))) c.new-lists.ensures.items
