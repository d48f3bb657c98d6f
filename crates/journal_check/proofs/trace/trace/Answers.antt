use Rattle.std.proofs.Common.{◌+◌, List, length, map, sym, ap, ◌∙◌, subst, arith}
use Rattle.std.proofs.lemmas.List.{length-map}
use Rattle.std.proofs.lemmas.Option.{MatchOption-at_some}
use Rattle.journal_check.proofs.laws.FewCommands.{length-commands}
use Rattle.journal_check.proofs.LegalTrees.{IsReplayed-zero, IsTrace-suc, IsTrace-zero}
use Rattle.journal_check.specs.Traces.{IsTrace, TakesEntry}
use Rattle.journal_check.specs.declared.trace.Step.{Step}
use Rattle.run_law.specs.Entries.{entry_value}
use Rattle.run_law.specs.TreeHistory.{IsLegalTree}
use Rattle.tree_law.specs.State.{opening}
use Rattle.journal_check.proofs.trace.trace.Goals as goal

pub returns-then-entries : goal.returns-then-entries
returns-then-entries c legal =
    let es = c.args.entries.now in
    let few = length-commands c.args.script.now (map entry_value es) legal c.requires c.threads-threads.ensures.lawful in
    let many = c.if-entries.true in
    omega (arith, few, many, length-map es entry_value)

pub loop-k-init : goal.loop-k-init
loop-k-init c =
    let first = c.in_ok-tree.ensures in
    record {
      replayed =
          IsReplayed-zero c.args.script.now c.in_ok-tree.tree (first.machine ∙ c.machine.ensures)
          (first.state ∙ (ap (λ m. opening m c.tasks.result.now) c.machine.ensures ∙ ap (opening c.args.script.now.machine) c.tasks.ensures.tasks))
          first.epoch;
      trace = IsTrace-zero c.args.script.now (map entry_value c.args.entries.now) c.new-steps.result.items (ap (λ (xs : List Step). length xs) c.new-steps.ensures.items);
    }

pub loop-k-preserved : goal.loop-k-preserved
loop-k-preserved c =
    let script = c.args.script.now in
    let tree = map entry_value c.args.entries.now in
    let k = c.loop-k.k in
    let told : TakesEntry script tree k c.take_entry.new.tree c.in-Some.step = MatchOption-at_some (IsLegalTree script tree → ⊥) (λ (s : Step). TakesEntry script tree k c.take_entry.new.tree s) c.in-Some.step c.in-Some.is c.in_ok-step.ensures in
    record {
      replayed = told.replayed;
      trace = subst (λ (ss : List Step). IsTrace script tree (k + 1) ss) (sym c.in_ok-push-in-Some.ensures.items) (IsTrace-suc script tree k c.loop-k.steps.items c.in-Some.step told.told c.loop-k.invariant.trace);
    }
