use Rattle.std.proofs.Common.{◌≡◌, ℕ, ◌+◌, List, get_or, Option, Some, None, sym, ◌∙◌, subst}
use Rattle.std.specs.Prelude.{IsSome}
use Rattle.std.proofs.lemmas.Option.{slice_get-get_or}
use Rattle.cache_core.specs.declared.entry.SliceEntry.{SliceEntry}
use Rattle.journal_check.proofs.LatestEpochs.{IsLatest-noted, IsLatest-skip}
use Rattle.journal_check.proofs.LateEntries.{AreAfterUpTo-skip, AreAfterUpTo-suc, IsAfterCommands-all, late-not_after}
use Rattle.journal_check.proofs.laws.Told.{is_false, is_true, no_entry, number_at-op, op_at-number}
use Rattle.journal_check.specs.AfterCommands.{AreAfterUpTo, IsAccepted, IsAfterCommands, IsLatest, IsRefused}
use Rattle.journal_check.specs.Places.{ArePlaces}
use Rattle.journal_check.specs.Tables.{IsTableOf, number_at}
use Rattle.journal_check.specs.declared.after_commands.TwoLatestEpochs.{TwoLatestEpochs}
use Rattle.run_law.specs.Journals.{At, slice_at}
use Rattle.run_law.specs.TreeHistory.{TreeEntryValue}
use Rattle.script_ops.specs.Values.{ScriptValue, op_at}
use Rattle.journal_check.proofs.after_commands.is_after_commands.Goals as goal

module _ (script : ScriptValue) (tree : List TreeEntryValue) (entries : List SliceEntry) (places : List (List ℕ)) (n : ℕ) (l : TwoLatestEpochs) (e : SliceEntry) (at : At entries n e) (are : ArePlaces script places tree) (latest : IsLatest script entries n l) where
  -- an entry that is refused shows that the entries do not stand so
  refused-not_after : (place : Option ℕ) → number_at places e.thread e.op ≡ place → IsRefused l place e → IsAfterCommands script tree entries → ⊥
  refused-not_after None is refused after = refused
  refused-not_after (Some place) is refused after = late-not_after script tree entries places n l e at are place is latest refused after

  -- with an entry that is accepted the walk has come one further
  accepted-more : IsTableOf script places → (next : TwoLatestEpochs) (place : Option ℕ) → number_at places e.thread e.op ≡ place → IsAccepted l place e next → AreAfterUpTo script tree entries n
      → IsLatest script entries (n + 1) next × AreAfterUpTo script tree entries (n + 1)
  accepted-more table next None is same behind =
      let no_op : IsSome (op_at script e.thread e.op) → ⊥ = λ some. (let it = number_at-op script places e.thread e.op table some in let wrong : None ≡ Some it.0 = sym is ∙ it.1 in cc) in
      (subst (λ (x : TwoLatestEpochs). IsLatest script entries (n + 1) x) (sym same) (IsLatest-skip script entries n l e at no_op latest), AreAfterUpTo-skip script tree entries places n l e at are no_op behind)
  accepted-more table next (Some place) is accepted behind =
      let of_op : IsSome (op_at script e.thread e.op) = op_at-number script places e.thread e.op place table is in (
        subst (λ (x : TwoLatestEpochs). IsLatest script entries (n + 1) x) (sym accepted.1) (IsLatest-noted script entries n l e at of_op latest),
        AreAfterUpTo-suc script tree entries places n l e at are place is latest (λ late. accepted.0 late) behind,
      )

pub returns-in-None : goal.returns-in-None
returns-in-None c =
    let script = c.args.script.now in
    let tree = c.args.j.now.tree in
    let entries = c.slice-entries.result.now in
    let n = c.loop-entry.entry-index in
    let e = get_or entries n no_entry in
    is_false (IsAfterCommands script tree (slice_at c.args.j.now c.args.i))
    (λ after. refused-not_after script tree entries c.args.places.now n c.loop-entry.latest e (slice_get-get_or entries n no_entry c.loop-entry-test.true) c.requires.places c.loop-entry.invariant.latest
    c.get.result (sym c.get.ensures) c.in-None.ensures (subst (λ es. IsAfterCommands script tree es) (sym c.slice-entries.ensures) after))

pub loop-entry-preserved : goal.loop-entry-preserved
loop-entry-preserved c =
    let script = c.args.script.now in
    let tree = c.args.j.now.tree in
    let entries = c.slice-entries.result.now in
    let n = c.loop-entry.entry-index in
    let e = get_or entries n no_entry in
    let more = accepted-more script tree entries c.args.places.now n c.loop-entry.latest e (slice_get-get_or entries n no_entry c.loop-entry-test.true) c.requires.places c.loop-entry.invariant.latest
    c.requires.table c.in-Some.next c.get.result (sym c.get.ensures) c.in-Some.ensures c.loop-entry.invariant.behind in
    record {
      latest = more.0;
      behind = more.1;
    }

pub returns : goal.returns
returns c =
    let script = c.args.script.now in
    let tree = c.args.j.now.tree in
    let entries = c.slice-entries.result.now in
    is_true (IsAfterCommands script tree (slice_at c.args.j.now c.args.i))
    (subst (λ es. IsAfterCommands script tree es) c.slice-entries.ensures (IsAfterCommands-all script tree entries c.loop-entry.entry-index c.loop-entry-test.false c.loop-entry.invariant.behind))
