use Rattle.std.proofs.Common.{◌≡◌, List, [], All, IfSome, Option, length, get_or, sym, ap, subst, ◌∙◌}
use Rattle.script_ops.specs.declared.op.Op.{Op}
use Rattle.script_ops.specs.Canonical.{IsNamed, IsShort}
use Rattle.script_ops.specs.Fits.{Fits}
use Rattle.script_ops.specs.Values.{ScriptValue, PhaseValue, threads_in, threads_of, IsLawful}
use Rattle.script_ops.proofs.Threads.{All-get_or, IfSome-slice_get}
use Rattle.script_ops.proofs.script.Script.op.Goals as goal

-- what was found are the ops of the thread
ops : (c : goal.After-get) → c.in_ok-find_ops.field-0.now ≡ get_or (threads_of c.args.self.now) c.args.thread []
ops c =
    c.in_ok-find_ops.ensures
    ∙ ap (λ (phases : List PhaseValue). get_or (threads_in phases) c.args.thread []) c.deref.ensures.value
    ∙ ap (λ (v : ScriptValue). get_or (threads_of v) c.args.thread []) c.self.view_is

-- what is true of all ops is true of the one that was found
found : (P : Op → Type 0) (c : goal.After-get) → All (λ ops. All P ops) (threads_of c.args.self.now) → IfSome c.get.result P
found P c all =
    let own : All P c.in_ok-find_ops.field-0.now = subst (λ (xs : List Op). All P xs) (sym (ops c)) (All-get_or P (threads_of c.args.self.now) c.args.thread all) in
    subst (λ (o : Option Op). IfSome o P) (sym c.get.ensures) (IfSome-slice_get P c.in_ok-find_ops.field-0.now c.args.op own)

pub returns-clause-named : goal.returns-clause-named
returns-clause-named c = found (IsNamed (length c.args.self.now.names)) c (subst IsLawful c.self.view_is c.self.invariant).named

pub returns-clause-short : goal.returns-clause-short
returns-clause-short c = found (IsShort c.args.self.now.names) c (subst IsLawful c.self.view_is c.self.invariant).short

pub returns-clause-fit : goal.returns-clause-fit
returns-clause-fit c = found (Fits c.args.self.now.machine c.args.self.now.tasks) c (subst IsLawful c.self.view_is c.self.invariant).fit
