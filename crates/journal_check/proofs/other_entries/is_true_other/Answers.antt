use Rattle.std.proofs.Common.{◌≡◌, ◌↔◌, ℕ, ◌+◌, ◌-◌, false, List, get_or, Some, None, sym, ap, ◌∙◌, subst, arith}
use Rattle.std.specs.Prelude.{Contains, IsTrue}
use Rattle.std.proofs.lemmas.Option.{slice_get-get_or, slice_get_within}
use Rattle.journal_check.proofs.laws.OpKinds.{is_access_of-false, is_access_of-true}
use Rattle.journal_check.proofs.laws.Told.{IsSome-some, is_true, number_at-op, op_at-number, some-IsSome}
use Rattle.cache_core.specs.declared.entry.SliceEntry.{SliceEntry}
use Rattle.journal_check.specs.OpKinds.{is_access_of}
use Rattle.script_ops.specs.Values.{ScriptValue, op_at}
use Rattle.script_ops.specs.declared.op.Op.{Op}
use Rattle.journal_check.proofs.TrueOthers.{other-access, other-command, owed-step, place-once}
use Rattle.journal_check.specs.Tables.{IsTableOf, number_at}
use Rattle.journal_check.specs.Traces.{IsTrueOther, owed_by_step}
use Rattle.machine.specs.declared.parameters.Parameters.{Parameters}
use Rattle.run_law.specs.Journals.{At}
use Rattle.run_law.specs.Ops.{is_command}
use Rattle.run_law.specs.Owed.{paid_by}
use Rattle.journal_check.proofs.other_entries.is_true_other.Goals as goal

pub returns-then-is_access_at : goal.returns-then-is_access_at
returns-then-is_access_at c =
    let e = c.args.entry.now in
    let it = is_access_of-true (op_at c.args.traced.now.script.now e.thread e.op) (sym c.if-is_access_at.ensures) in
    let same = other-access c.args.traced.now.script.now c.args.traced.now.journals.now.tree c.args.i e it.0 it.1 it.2 in
    (λ shown. same.0 (sym c.is_access.ensures ∙ shown), λ told. c.is_access.ensures ∙ same.1 told)

-- the command of an entry that is of no access, where it has a place
command-of : (script : ScriptValue) (places : List (List ℕ)) (e : SliceEntry) (place : ℕ) → IsTableOf script places → number_at places e.thread e.op ≡ Some place → is_access_of (op_at script e.thread e.op) ≡ false
    → (op : Op) × (op_at script e.thread e.op ≡ Some op) × IsTrue (is_command op)
command-of script places e place table number none =
    let it = some-IsSome (op_at script e.thread e.op) (op_at-number script places e.thread e.op place table number) in
    (it.0, it.1, is_access_of-false (op_at script e.thread e.op) it.0 none it.1)

pub overflow_sub-k : goal.overflow_sub-k
overflow_sub-k c =
    let e = c.args.entry.now in
    let of = command-of c.args.traced.now.script.now c.args.traced.now.places.now e c.in-Some.place c.requires.traced.table (sym c.in-Some.ensures) (sym c.if-is_access_at.ensures) in
    let it = place-once c.args.traced.now.script.now c.args.traced.now.journals.now.tree c.args.traced.now.steps.now c.args.traced.now.places.now c.requires.once c.requires.traced.trace c.requires.traced.places e.thread e.op c.in-Some.place of.0 of.1 of.2 (sym c.in-Some.ensures) in
    let is = it.2 in
    omega arith

pub bounds-traced-k : goal.bounds-traced-k
bounds-traced-k c =
    let e = c.args.entry.now in
    let of = command-of c.args.traced.now.script.now c.args.traced.now.places.now e c.in-Some.place c.requires.traced.table (sym c.in-Some.ensures) (sym c.if-is_access_at.ensures) in
    let it = place-once c.args.traced.now.script.now c.args.traced.now.journals.now.tree c.args.traced.now.steps.now c.args.traced.now.places.now c.requires.once c.requires.traced.trace c.requires.traced.places e.thread e.op c.in-Some.place of.0 of.1 of.2 (sym c.in-Some.ensures) in
    let is = it.2 in
    let within = slice_get_within c.args.traced.now.journals.now.tree it.0 it.1 it.3 in
    let count = c.requires.traced.trace.count in
    omega arith

pub returns-in-Some : goal.returns-in-Some
returns-in-Some c =
    let script = c.args.traced.now.script.now in
    let tree = c.args.traced.now.journals.now.tree in
    let steps = c.args.traced.now.steps.now in
    let e = c.args.entry.now in
    let place = c.in-Some.place in
    let of = command-of script c.args.traced.now.places.now e place c.requires.traced.table (sym c.in-Some.ensures) (sym c.if-is_access_at.ensures) in
    let op = of.0 in
    let it = place-once script tree steps c.args.traced.now.places.now c.requires.once c.requires.traced.trace c.requires.traced.places e.thread e.op place op of.1 of.2 (sym c.in-Some.ensures) in
    let placed = it.2 in
    let back : place ≡ (place - 1) + 1 = omega arith in
    let number : number_at c.args.traced.now.places.now e.thread e.op ≡ Some ((place - 1) + 1) = sym c.in-Some.ensures ∙ ap (λ (n : ℕ). Some n) back in
    let within = slice_get_within tree it.0 it.1 it.3 in
    let count = c.requires.traced.trace.count in
    let step = get_or steps (place - 1) c.index-traced-k.result in
    let there : At steps (place - 1) step = slice_get-get_or steps (place - 1) c.index-traced-k.result (omega arith) in
    let owed = owed-step script tree steps c.args.traced.now.places.now c.requires.once c.requires.traced.trace c.requires.traced.places c.args.i (place - 1) e op step of.1 number there in
    let true_where = other-command script tree c.args.i e op of.1 of.2 in
    let told = subst (λ (m : Parameters). IsTrue c.is_owed.result ↔ Contains (owed_by_step m c.args.i (place - 1) step) (paid_by e)) c.machine.ensures c.is_owed.ensures in
    (λ shown. true_where.0 (owed.0 (told.0 shown)), λ h. told.1 (owed.1 (true_where.1 h)))

pub returns-in-None : goal.returns-in-None
returns-in-None c =
    let e = c.args.entry.now in
    let number : number_at c.args.traced.now.places.now e.thread e.op ≡ None = sym c.get.ensures ∙ c.in-None.is in
    is_true (IsTrueOther c.args.traced.now.script.now c.args.traced.now.journals.now.tree c.args.i e)
    (λ op is other. absurd (let it = number_at-op c.args.traced.now.script.now c.args.traced.now.places.now e.thread e.op c.requires.traced.table (IsSome-some (op_at c.args.traced.now.script.now e.thread e.op) op is) in let wrong : None ≡ Some it.0 = sym number ∙ it.1 in cc))
