use Rattle.std.proofs.Common.{◌≡◌, ◌≤◌, List, [], length, get_or, sym, ap, subst, ◌∙◌}
use Rattle.script_ops.specs.declared.op.Op.{Op}
use Rattle.script_ops.specs.declared.limits.TheConstants.{MOST_WEIGHT}
use Rattle.script_ops.specs.Fits.{Fits, AreFit}
use Rattle.script_ops.specs.Values.{ScriptValue, PhaseValue, threads_in, threads_of, IsLawful}
use Rattle.script_ops.proofs.Threads.{All-get_or}
use Rattle.script_ops.proofs.laws.Weights.{length-get_or}
use Rattle.script_ops.proofs.script.Script.ops.Goals as goal

-- what was found are the ops of the thread
ops : (c : goal.In-Some) → c.in-Some.ops.now ≡ get_or (threads_of c.args.self.now) c.args.thread []
ops c =
    c.in-Some.ensures
    ∙ ap (λ (phases : List PhaseValue). get_or (threads_in phases) c.args.thread []) c.deref.ensures.value
    ∙ ap (λ (v : ScriptValue). get_or (threads_of v) c.args.thread []) c.self.view_is

pub returns-clause-fit : goal.returns-clause-fit
returns-clause-fit c =
    let s = c.args.self.now in
    let lawful = subst IsLawful c.self.view_is c.self.invariant in
    subst (λ (xs : List Op). AreFit s.machine s.tasks xs) (sym (ops c)) (All-get_or (Fits s.machine s.tasks) (threads_of s) c.args.thread lawful.fit)

pub returns-clause-few : goal.returns-clause-few
returns-clause-few c =
    let s = c.args.self.now in
    let lawful = subst IsLawful c.self.view_is c.self.invariant in
    subst (λ (xs : List Op). length xs ≤ MOST_WEIGHT) (sym (ops c)) (length-get_or s.machine MOST_WEIGHT (threads_of s) c.args.thread lawful.light)
