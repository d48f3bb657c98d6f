use Rattle.std.proofs.Common.{◌≡◌, ℕ, ◌+◌, ◌<◌, inl, inr, List, Some, sym, ap, ◌∙◌, subst, arith}
use Rattle.std.specs.Prelude.{slice_get}
use Rattle.std.proofs.lemmas.Bool.{cases_lt}
use Rattle.std.proofs.lemmas.List.{get_or_default}
use Rattle.std.proofs.lemmas.Option.{slice_get_within}
use Rattle.script_ops.specs.Values.{ScriptValue, op_at, ops_of}
use Rattle.script_ops.specs.declared.op.Op.{Op}
use Rattle.script_ops.specs.declared.op.Op.TheVariants as ops
use Rattle.step_world.proofs.FreeSteps.{turns_left-further}
use Rattle.step_world.proofs.PassedWorlds.{resolved-same}
use Rattle.step_world.proofs.PhaseSteps.{StepsOf-more}
use Rattle.step_world.proofs.RoomLeft.{op-few}
use Rattle.step_world.proofs.TaggedWorlds.{access-fits}
use Rattle.step_world.proofs.TakenWorlds.{within-next}
use Rattle.step_world.proofs.passing.pass_all.Goals as goal
use Rattle.step_world.specs.Machine.{opening_thread, thread_at}
use Rattle.step_world.specs.Worlds.{machine_of}
use Rattle.step_world.specs.declared.thread_state.Thread.{Thread}

pub resolve-tag-requires-clause-task : goal.resolve-tag-requires-clause-task
resolve-tag-requires-clause-task c = (access-fits c.args.script.now c.args.world.now c.args.t c.args.task c.args.cpu c.requires.before.addr c.requires.world c.requires.before.next).0

pub resolve-tag-requires-clause-cpu : goal.resolve-tag-requires-clause-cpu
resolve-tag-requires-clause-cpu c = (access-fits c.args.script.now c.args.world.now c.args.t c.args.task c.args.cpu c.requires.before.addr c.requires.world c.requires.before.next).1

-- an op of the thread, of its ops
op_of : (script : ScriptValue) (t n : ℕ) (op : Op) (os : List Op) → os ≡ ops_of script t → slice_get os n ≡ Some op → op_at script t n ≡ Some op
op_of script t n op os are is = subst (λ os. slice_get os n ≡ Some op) are is

pub pass-requires-clause-can : goal.pass-requires-clause-can
pass-requires-clause-can c =
    let inv = c.loop-addr.invariant in
    let told = c.resolve-tag.ensures in
    record {
      task = c.args.task;
      cpu = c.args.cpu;
      next = record {
        present = c.requires.before.next.present ∙ sym inv.phase;
        is = subst (λ (v : Thread). op_at c.args.script.now c.args.t v.next ≡ Some (ops.Access c.args.task c.args.cpu c.in-Some.addr)) (sym inv.there) (op_of c.args.script.now c.args.t c.loop-addr.n (ops.Access c.args.task c.args.cpu c.in-Some.addr) c.args.ops.now c.requires.ops c.in-Some.ensures.is);
      };
      number = ap (λ (v : Thread). v.next) (sym inv.there);
      place = ap (λ (v : Thread). v.state) inv.there;
      free = inv.free;
      reads = resolved-same c.args.world.now c.loop-addr.world c.args.task c.args.cpu c.resolve-tag.result inv.tree
          (record { epoch = told.epoch; owner = told.owner; class = told.class; rmid = told.rmid; mask = told.mask; domain = told.domain });
    }

pub overflow_add-n : goal.overflow_add-n
overflow_add-n c = omega (arith, op-few c.args.script.now c.args.t c.loop-addr.n (ops.Access c.args.task c.args.cpu c.in-Some.addr) c.requires.world.lawful (op_of c.args.script.now c.args.t c.loop-addr.n (ops.Access c.args.task c.args.cpu c.in-Some.addr) c.args.ops.now c.requires.ops c.in-Some.ensures.is))

pub loop-addr-smaller : goal.loop-addr-smaller
loop-addr-smaller c = omega (arith, slice_get_within c.args.ops.now c.loop-addr.n (ops.Access c.args.task c.args.cpu c.in-Some.addr) c.in-Some.ensures.is)

pub loop-addr-preserved : goal.loop-addr-preserved
loop-addr-preserved c =
    let script = c.args.script.now in
    let inv = c.loop-addr.invariant in
    let passed = c.pass.ensures.passed in
    record {
      world = c.pass.ensures.world;
      steps = (inv.steps.0 + 2, StepsOf-more script c.args.t inv.steps.0 2 (machine_of c.args.world.now) (machine_of c.loop-addr.world) (machine_of c.pass.new.world) inv.steps.1 passed.steps);
      there = passed.there;
      free = passed.holder ∙ inv.free;
      phase = passed.phase ∙ inv.phase;
      tree = passed.tree ∙ inv.tree;
      onward = omega (arith, inv.onward);
    }

pub returns-clause-turn : goal.returns-clause-turn
returns-clause-turn c =
    let script = c.args.script.now in
    let t = c.args.t in
    let w = c.args.world.now in
    let old = machine_of w in
    let inv = c.loop-addr.invariant in
    let before = c.requires.before in
    let op = ops.Access c.args.task c.args.cpu before.addr in
    let first : ℕ = (thread_at old t).next in
    let within = within-next script w t op c.requires.world before.next in
    let same : c.index.result.now ≡ thread_at old t = c.index.ensures ∙ get_or_default w.threads.items t c.index.result.now opening_thread within in
    let at : slice_get c.args.ops.now first ≡ Some op = subst (λ os. slice_get os first ≡ Some op) (sym c.requires.ops) before.next.is in
    let further : first < c.loop-addr.n = elim (cases_lt first c.loop-addr.n) [
      | inl less ↦ less
      | inr more ↦
          let here : first ≡ c.loop-addr.n = omega (arith, more, inv.onward, ap (λ (v : Thread). v.next) same) in
          let told : c.address_at.result ≡ Some before.addr = c.address_at.ensures.there before.addr (subst (λ k. slice_get c.args.ops.now k ≡ Some op) here at) in
          absurd (c.in_default.not-Some before.addr told)
    ] in
    record {
      count = inv.steps.0;
      steps = inv.steps.1;
      nearer = turns_left-further script t c.loop-addr.n old (machine_of c.loop-addr.world) before.place (slice_get_within (ops_of script t) first op before.next.is) further inv.there;
      free = inv.free;
      phase = inv.phase;
    }
