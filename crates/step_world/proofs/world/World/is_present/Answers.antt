use Rattle.std.proofs.Common.{◌≡◌, ◌-◌, true, false, inl, inr, sym, ◌∙◌, arith}
use Rattle.std.proofs.lemmas.Bool.{cases_lt, le-ltb, lt-ltb}
use Rattle.run_law.proofs.laws.PhaseThreads.{in_phase}
use Rattle.step_world.proofs.PresentThreads.{before-at_end, behind-at_end, over-at_end}
use Rattle.step_world.proofs.world.World.is_present.Goals as goal
use Rattle.step_world.specs.Worlds.{machine_of}

pub returns-then-self-phases-clause-absent : goal.returns-then-self-phases-clause-absent
returns-then-self-phases-clause-absent c idle here = over-at_end c.args.script.now (machine_of c.args.self.now) c.args.t (omega (arith, c.if-self-phases.true, c.phases.ensures.phases)) here

pub returns-then-t-first-clause-absent : goal.returns-then-t-first-clause-absent
returns-then-t-first-clause-absent c idle here =
    before-at_end c.args.script.now (machine_of c.args.self.now) c.args.t c.first_thread-first.result (omega (arith, c.requires.phase, c.if-self-phases.false, c.phases.ensures.phases)) c.first_thread-first.ensures.first c.if-t-first.true here

pub returns-clause-present : goal.returns-clause-present
returns-clause-present c within_is = elim (cases_lt (c.args.t - c.first_thread-first.result) c.thread_count.result) [
  | inl within ↦
      in_phase c.args.script.now c.args.self.now.phase c.args.t (omega (arith, c.requires.phase, c.if-self-phases.false, c.phases.ensures.phases))
      (omega (arith, c.first_thread-first.ensures.first, c.if-t-first.false)) (omega (arith, within, c.first_thread-first.ensures.first, c.thread_count.ensures.count, c.if-t-first.false))
  | inr behind ↦ absurd (let wrong : true ≡ false = sym within_is ∙ le-ltb (c.args.t - c.first_thread-first.result) c.thread_count.result behind in cc)
]

pub returns-clause-absent : goal.returns-clause-absent
returns-clause-absent c idle here = elim (cases_lt (c.args.t - c.first_thread-first.result) c.thread_count.result) [
  | inl within ↦ absurd (let wrong : true ≡ false = sym (lt-ltb (c.args.t - c.first_thread-first.result) c.thread_count.result within) ∙ idle in cc)
  | inr behind ↦
      behind-at_end c.args.script.now (machine_of c.args.self.now) c.args.t c.first_thread-first.result c.thread_count.result (omega (arith, c.requires.phase, c.if-self-phases.false, c.phases.ensures.phases))
      c.first_thread-first.ensures.first c.thread_count.ensures.count (omega (arith, c.if-t-first.false)) behind here
]
