use Rattle.std.proofs.Common.{◌≡◌, Some, ap, sym, ◌∙◌}
use Rattle.std.specs.Prelude.{is_some}
use Rattle.std.proofs.lemmas.List.{get_or_default}
use Rattle.step_world.proofs.GivenAnswers.{answers-steps}
use Rattle.step_world.proofs.laws.Plays.{step_phase}
use Rattle.step_world.proofs.TakenWorlds.{within-next}
use Rattle.step_world.proofs.Turns.{turn}
use Rattle.step_world.proofs.run_phase.take_turn.Goals as goal
use Rattle.step_world.specs.Machine.{opening_thread, thread_at}
use Rattle.step_world.specs.Worlds.{machine_of}
use Rattle.step_world.specs.declared.thread_state.Thread.{Thread}

pub pass_all-requires-clause-before : goal.pass_all-requires-clause-before
pass_all-requires-clause-before c =
    let w = c.args.world.now in
    let within = within-next c.args.script.now w c.args.t c.args.op.now c.requires.world c.requires.next in
    let same : c.index.result.now ≡ thread_at (machine_of w) c.args.t = c.index.ensures ∙ get_or_default w.threads.items c.args.t c.index.result.now opening_thread within in
    record {
      addr = c.in-Access-Ready.addr-0;
      next = record { present = c.requires.next.present; is = c.requires.next.is ∙ ap (λ op. Some op) c.in-Access-Ready.is-0 };
      place = sym (ap (λ (v : Thread). v.state) same) ∙ c.in-Access-Ready.is-1;
      free = c.requires.free;
    }

pub returns-in_default : goal.returns-in_default
returns-in_default c =
    let script = c.args.script.now in
    let t = c.args.t in
    let r = c.requires in
    let now = machine_of c.args.world.now in
    let mid = machine_of c.act.new.self in
    let last = machine_of c.let_go.new.world in
    let stepped = answers-steps script t now mid c.act.result c.act.ensures.answers in
    let its = turn script t now mid last r.world.so_far r.world.within r.free r.next.present (ap is_some r.next.is) stepped c.let_go.ensures.lets_go in
    record {
      world = c.let_go.ensures.world;
      turn = record { count = its.1.0; steps = its.1.1; nearer = its.0; free = c.let_go.ensures.free; phase = c.let_go.ensures.phase ∙ step_phase script t now mid stepped };
    }
