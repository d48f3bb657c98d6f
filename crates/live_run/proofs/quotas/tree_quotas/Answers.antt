use Rattle.std.proofs.Common.{◌≡◌, ℕ, ◌++◌, ◌∙◌, List, ap, arith, map, replicate}
use Rattle.std.specs.Prelude.{sum}
use Rattle.std.proofs.lemmas.List.{take_all}
use Rattle.live_run.proofs.Room.{tree_quotas-light}
use Rattle.live_run.proofs.quotas.tree_quotas.Goals as goal
use Rattle.live_run.specs.Quotas.{tree_quotas}
use Rattle.machine.specs.Slices.{slice_count}
use Rattle.run_law.specs.Quotas.{commands_of}
use Rattle.script_ops.specs.Values.{threads_of}

pub returns-clause-few : goal.returns-clause-few
returns-clause-few c =
    let script = c.args.script.now in
    let threads = threads_of script in
    let t : ℕ = c.loop-t.t in
    let first : List ℕ = c.loop-t.quotas.items in
    let none : ℕ → List ℕ = λ n. replicate n 0 in
    let all : first ≡ map commands_of threads = c.loop-t.invariant ∙ ap (map commands_of) (take_all t threads (omega (arith, c.loop-t-test.false, c.threads-t-end.ensures.threads))) in
    let count : c.slice_count.result ≡ slice_count script.machine = c.slice_count.ensures.count ∙ ap slice_count c.machine.ensures in
    let whole : c.push_none.new.quotas.items ≡ tree_quotas script = c.in_ok-push_none.ensures ∙ (ap (λ n. first ++ none n) count ∙ ap (λ qs. qs ++ none (slice_count script.machine)) all) in
    omega (arith, ap sum whole, tree_quotas-light script c.threads-t-end.ensures.lawful)
