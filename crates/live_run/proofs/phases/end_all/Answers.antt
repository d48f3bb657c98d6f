use Rattle.std.proofs.Common.{◌≡◌, ℕ, ◌<◌, ◌∙◌, ap, arith, length, set, subst, sym}
use Rattle.std.specs.Prelude.{slice_index_or}
use Rattle.std.proofs.lemmas.List.{get_or_default, set-get_or}
use Rattle.live_run.proofs.PhaseTurns.{HaveEnded-next, IsEndedIn-next}
use Rattle.live_run.proofs.phases.end_all.Goals as goal
use Rattle.live_run.specs.Names.{PassesValue}
use Rattle.live_run.specs.Phases.{HaveEnded, IsEndedIn, no_passes, passes_at}

pub end-requires : goal.end-requires
end-requires g c =
    let script = g.N.RunNames.script in
    let table = g.T.NamedTable.table in
    let k : ℕ = c.loop-k.k in
    let had = c.loop-k.invariant in
    let there : k < length c.args.own.now = omega (arith, c.loop-k-test.true, c.loop-k.auto.own, ap length had.same) in
    let is : passes_at c.args.own.now k ≡ slice_index_or c.loop-k.own k c.index-own-k.result = ap (λ ps. passes_at ps k) (sym had.same) ∙ get_or_default c.loop-k.own k no_passes c.index-own-k.result (omega (arith, there, ap length had.same)) in
    record {
      may = subst (λ (p : PassesValue). IsEndedIn script table p c.loop-k.turn) is (IsEndedIn-next script table c.args.own.now c.args.turn.now c.loop-k.turn k there c.requires.threads had.ended);
    }

pub loop-k-preserved : goal.loop-k-preserved
loop-k-preserved g c =
    let k : ℕ = c.loop-k.k in
    let had = c.loop-k.invariant in
    record {
      ended = HaveEnded-next k c.args.turn.now c.loop-k.turn c.end.new.turn had.ended c.end.ensures.turn;
      same = ap (λ p. set c.loop-k.own k p) c.end.ensures.same ∙ (set-get_or c.loop-k.own k c.index-own-k.result ∙ had.same);
    }

pub returns-clause-turn : goal.returns-clause-turn
returns-clause-turn g c =
    let all : c.loop-k.k ≡ length c.args.own.now = omega (arith, c.loop-k-test.false, c.loop-k.auto.k-end) in
    subst (λ k. HaveEnded k c.args.turn.now c.loop-k.turn) all c.loop-k.invariant.ended
