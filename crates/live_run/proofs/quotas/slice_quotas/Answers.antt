use Rattle.std.proofs.Common.{◌≡◌, ℕ, ◌<◌, ◌++◌, ◌∷◌, [], ◌∙◌, List, Vec, ap, arith, get_or, length, map}
use Rattle.std.specs.Prelude.{sum}
use Rattle.std.specs.declared.alloc.Global.{Global}
use Rattle.std.proofs.lemmas.List.{take_all}
use Rattle.live_run.proofs.Room.{slice_quotas-light}
use Rattle.live_run.proofs.quotas.slice_quotas.Goals as goal
use Rattle.live_run.specs.Quotas.{slice_quotas}
use Rattle.run_law.specs.Quotas.{quotas_of}
use Rattle.script_ops.specs.Values.{threads_of}
use Rattle.script_ops.specs.declared.op.Op.{Op}

pub overflow_cast-index : goal.overflow_cast-index
overflow_cast-index c =
    let rooms = c.requires.rooms in
    let t : ℕ = c.loop-t.t in
    let i : ℕ = c.args.i in
    let room : ℕ = c.index-in-loop-t.result.now in
    let own = c.index.result.now in
    let within : t < length (threads_of c.args.script.now) = omega (arith, c.loop-t-test.true, c.threads-t-end.ensures.threads) in
    let same = c.index-in-loop-t.ensures ∙ (ap (λ (v : Vec ℕ Global). get_or v.items i room) c.index.ensures ∙ rooms.each t i room own within c.requires.within) in
    omega (arith, same, rooms.few t i within c.requires.within)

pub returns-clause-few : goal.returns-clause-few
returns-clause-few c =
    let script = c.args.script.now in
    let threads = threads_of script in
    let quota : List Op → ℕ = quotas_of script.machine c.args.i in
    let whole : c.push-2.new.self.items ≡ slice_quotas script c.args.i =
    c.in_ok-push-2.ensures.items ∙ ap (λ qs. qs ++ 0 ∷ []) (c.loop-t.invariant ∙ ap (map quota) (take_all c.loop-t.t threads (omega (arith, c.loop-t-test.false, c.threads-t-end.ensures.threads)))) in
    omega (arith, ap sum whole, slice_quotas-light script c.args.i c.requires.within c.threads-t-end.ensures.lawful)
