use Rattle.std.proofs.Common.{◌≡◌, length, map, Some, refl, sym, ap, ◌∙◌, subst}
use Rattle.std.specs.Prelude.{IsTrue}
use Rattle.std.proofs.lemmas.Option.{slice_get_read}
use Rattle.journal_check.proofs.LegalTrees.{CommandMayFollow-at, Fits-replayed, IfOk-steps, IsAnswer-legal, IsCommandThat-none, TakesEntry-takes}
use Rattle.journal_check.proofs.laws.Told.{At-map}
use Rattle.journal_check.specs.CheckReplays.{IsAnswer}
use Rattle.journal_check.specs.Traces.{TakesCommand, TakesEntry}
use Rattle.journal_check.specs.declared.trace.Step.{Step}
use Rattle.run_law.specs.Entries.{entry_value}
use Rattle.run_law.specs.Journals.{At}
use Rattle.run_law.specs.Ops.{is_command}
use Rattle.run_law.specs.TreeHistory.{IsLegalTree}
use Rattle.script_ops.specs.Fits.{Fits}
use Rattle.script_ops.specs.Values.{op_at}
use Rattle.script_ops.specs.declared.op.Op.{Op}
use Rattle.tree_law.specs.State.{tasks_of}
use Rattle.journal_check.proofs.trace.take_entry.Goals as goal

pub take_op-requires-clause-fits : goal.take_op-requires-clause-fits
take_op-requires-clause-fits c =
    let es = c.args.entries.now in
    let k = c.args.k in
    let e = c.index-entries-k.result in
    let at : At (map entry_value es) k (entry_value e) = At-map entry_value es k e (slice_get_read es (length es) k e refl c.requires.within c.index-entries-k.is) in
    subst (λ o. Fits c.args.tree.now.machine (tasks_of c.args.tree.now.state) o) (sym c.get.ensures) (Fits-replayed c.args.script.now (map entry_value es) k (entry_value e) at c.args.tree.now c.requires.replayed c.in-Some.op c.in-Some.ensures.fit)

pub returns-in-Some : goal.returns-in-Some
returns-in-Some c =
    let script = c.args.script.now in
    let es = c.args.entries.now in
    let k = c.args.k in
    let e = c.index-entries-k.result in
    let op = c.get.result.now in
    let old = c.args.tree.now in
    let new = c.take_op.new.tree in
    let tree = map entry_value es in
    let at : At tree k (entry_value e) = At-map entry_value es k e (slice_get_read es (length es) k e refl c.requires.within c.index-entries-k.is) in
    let is : op_at script e.thread e.op ≡ Some op = sym c.in-Some.ensures.op ∙ ap (λ (o : Op). Some o) (sym c.get.ensures) in
    IfOk-steps c.take_op.result (IsTrue (is_command op) → IsAnswer old.machine old.state op (entry_value e) → ⊥) (IsLegalTree script tree → ⊥) (λ (s : Step). TakesCommand old new op (entry_value e) s) (λ (s : Step). TakesEntry script tree k new s)
    (λ never legal. (let it = IsAnswer-legal script tree k (entry_value e) at old c.requires.replayed op is legal in never it.0 it.1))
    (λ s takes. TakesEntry-takes script tree k (entry_value e) at old c.requires.replayed op new s is takes.0 takes.1)
    c.take_op.ensures

pub returns-in-None : goal.returns-in-None
returns-in-None c legal =
    let script = c.args.script.now in
    let es = c.args.entries.now in
    let k = c.args.k in
    let e = c.index-entries-k.result in
    let at : At (map entry_value es) k (entry_value e) = At-map entry_value es k e (slice_get_read es (length es) k e refl c.requires.within c.index-entries-k.is) in
    IsCommandThat-none _ (op_at script e.thread e.op) (sym c.in-None.ensures.op) (CommandMayFollow-at script (map entry_value es) k (entry_value e) legal at)
