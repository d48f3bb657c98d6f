use Rattle.std.proofs.Common.{◌≡◌, ℕ, ◌<◌, ◌∙◌, true, ap, arith, length, subst, sym}
use Rattle.std.specs.Prelude.{slice_index_or}
use Rattle.std.proofs.lemmas.List.{get_or_default}
use Rattle.live_run.proofs.PhaseTurns.{AreBegun-next, IsOfPhase-next}
use Rattle.live_run.proofs.phases.begin_all.Goals as goal
use Rattle.live_run.specs.Names.{PassesValue}
use Rattle.live_run.specs.Phases.{AreBegun, IsOfPhase, no_passes, passes_at}
use Rattle.schedule_law.specs.declared.part.Part.{Part}
use Rattle.shared_parts.specs.Shares.{ShareValue}

pub begin-requires : goal.begin-requires
begin-requires g c =
    let script = g.N.RunNames.script in
    let table = g.T.NamedTable.table in
    let k : ℕ = c.loop-k.k in
    let had = c.loop-k.invariant in
    let there : k < length c.args.own.now = omega (arith, c.loop-k-test.true, c.loop-k.auto.own, had.begun.count) in
    let within : k < length c.loop-k.own = omega (arith, there, had.begun.count) in
    let is : passes_at c.loop-k.own k ≡ slice_index_or c.loop-k.own k c.index-own-k.result = get_or_default c.loop-k.own k no_passes c.index-own-k.result within in
    record {
      may = subst (λ (turn : ShareValue Part). IsOfPhase script table (slice_index_or c.loop-k.own k c.index-own-k.result) turn) (sym had.turn)
          (subst (λ (p : PassesValue). IsOfPhase script table p c.args.turn.now) is (IsOfPhase-next script table c.args.own.now c.loop-k.own c.args.turn.now k there had.begun c.requires.threads));
    }

pub loop-k-preserved : goal.loop-k-preserved
loop-k-preserved g c =
    let script = g.N.RunNames.script in
    let table = g.T.NamedTable.table in
    let k : ℕ = c.loop-k.k in
    let had = c.loop-k.invariant in
    let there : k < length c.args.own.now = omega (arith, c.loop-k-test.true, c.loop-k.auto.own, had.begun.count) in
    let within : k < length c.loop-k.own = omega (arith, there, had.begun.count) in
    let is : passes_at c.loop-k.own k ≡ slice_index_or c.loop-k.own k c.index-own-k.result = get_or_default c.loop-k.own k no_passes c.index-own-k.result within in
    record {
      turn = c.begin.ensures.turn ∙ had.turn;
      begun = AreBegun-next script table c.args.own.now c.loop-k.own c.args.turn.now k there had.begun c.begin.new.p (c.begin.ensures.begun ∙ ap (λ (p : PassesValue). record p { begun = true }) (sym is));
    }

pub returns-clause-begun : goal.returns-clause-begun
returns-clause-begun g c =
    let all : c.loop-k.k ≡ length c.args.own.now = omega (arith, c.loop-k-test.false, c.loop-k.auto.k-end) in
    subst (λ k. AreBegun k c.args.own.now c.loop-k.own) all c.loop-k.invariant.begun
