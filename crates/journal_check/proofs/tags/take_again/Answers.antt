use Rattle.std.proofs.Common.{◌≡◌, ℕ, ◌<◌, List, length, map, Some, refl, sym, ap, ◌∙◌, subst, arith}
use Rattle.std.proofs.lemmas.List.{length-map, length-take-le}
use Rattle.std.proofs.lemmas.Option.{slice_get_read}
use Rattle.journal_check.proofs.LegalTrees.{CommandMayFollow-at, Fits-replayed, IsAnswer-legal, IsCommandThat-none, IsReplayed-suc}
use Rattle.journal_check.proofs.laws.Told.{At-map}
use Rattle.run_law.specs.Entries.{entry_value}
use Rattle.run_law.specs.Journals.{At}
use Rattle.run_law.specs.TreeHistory.{TreeEntryValue}
use Rattle.run_law.specs.declared.journals.TreeEntry.{TreeEntry}
use Rattle.script_ops.specs.Fits.{Fits}
use Rattle.script_ops.specs.Values.{op_at}
use Rattle.script_ops.specs.declared.op.Op.{Op}
use Rattle.tree_law.specs.State.{tasks_of}
use Rattle.tree_law.specs.Steps.{needs, next}
use Rattle.journal_check.proofs.tags.take_again.Goals as goal

-- the entry at this position, as contracts see it
at-entry : (es : List TreeEntry) (tree : List TreeEntryValue) (k : ℕ) (e : TreeEntry) → map entry_value es ≡ tree → At es k e → At tree k (entry_value e)
at-entry es tree k e same at = subst (λ (t : List TreeEntryValue). At t k (entry_value e)) same (At-map entry_value es k e at)

-- there are as many
length-entries : (es : List TreeEntry) (tree : List TreeEntryValue) → map entry_value es ≡ tree → length es ≡ length tree
length-entries es tree same = sym (length-map es entry_value) ∙ ap length same

pub bounds-entries-k : goal.bounds-entries-k
bounds-entries-k c = omega (arith, c.requires.within, length-entries c.tree-entries.result.now c.args.j.now.tree c.tree-entries.ensures)

pub apply-requires-clause-fits : goal.apply-requires-clause-fits
apply-requires-clause-fits c =
    let es = c.tree-entries.result.now in
    let tree = c.args.j.now.tree in
    let k = c.args.k in
    let e = c.index-entries-k.result in
    let within : k < length es = omega (arith, c.requires.within, length-entries es tree c.tree-entries.ensures) in
    let at = at-entry es tree k e c.tree-entries.ensures (slice_get_read es (length es) k e refl within c.index-entries-k.is) in
    subst (λ o. Fits c.args.tree.now.machine (tasks_of c.args.tree.now.state) o) (sym c.get.ensures) (Fits-replayed c.args.script.now tree k (entry_value e) at c.args.tree.now c.requires.replayed c.in-Some.op c.in-Some.ensures.fit)

pub apply-requires-clause-looks : goal.apply-requires-clause-looks
apply-requires-clause-looks c =
    let es = c.tree-entries.result.now in
    let tree = c.args.j.now.tree in
    let k = c.args.k in
    let e = c.index-entries-k.result in
    let old = c.args.tree.now in
    let within : k < length es = omega (arith, c.requires.within, length-entries es tree c.tree-entries.ensures) in
    let at = at-entry es tree k e c.tree-entries.ensures (slice_get_read es (length es) k e refl within c.index-entries-k.is) in
    let it = IsAnswer-legal c.args.script.now tree k (entry_value e) at old c.requires.replayed c.in-Some.op (sym c.in-Some.ensures.op) c.requires.legal in
    subst (λ o. length c.items.result.now ≡ length (needs old.machine old.state o)) (sym c.get.ensures) (ap (λ (ns : List ℕ). length ns) c.items.ensures ∙ it.1.0)

pub apply-requires-clause-epoch : goal.apply-requires-clause-epoch
apply-requires-clause-epoch c = (let epoch = c.requires.replayed.epoch in omega (arith, epoch, c.requires.within, c.requires.few, length-take-le c.args.k c.args.j.now.tree (omega (arith, c.requires.within))))

pub returns : goal.returns
returns c =
    let script = c.args.script.now in
    let es = c.tree-entries.result.now in
    let tree = c.args.j.now.tree in
    let k = c.args.k in
    let e = c.index-entries-k.result in
    let old = c.args.tree.now in
    let new = c.apply.new.self in
    let op = c.get.result.now in
    let within : k < length es = omega (arith, c.requires.within, length-entries es tree c.tree-entries.ensures) in
    let at = at-entry es tree k e c.tree-entries.ensures (slice_get_read es (length es) k e refl within c.index-entries-k.is) in
    let is : op_at script e.thread e.op ≡ Some op = sym c.in-Some.ensures.op ∙ ap (λ (o : Op). Some o) (sym c.get.ensures) in
    let it = IsAnswer-legal script tree k (entry_value e) at old c.requires.replayed op is c.requires.legal in
    let looks : c.items.result.now ≡ e.looks.numbers = c.items.ensures in
    IsReplayed-suc script tree k (entry_value e) at old c.requires.replayed op new is it.0 it.1 c.apply.ensures.machine
    (c.apply.ensures.state ∙ ap (λ (ns : List ℕ). (next old.machine old.state op ns).state) looks) c.apply.ensures.epoch

pub unreachable-requires : goal.unreachable-requires
unreachable-requires c =
    let es = c.tree-entries.result.now in
    let tree = c.args.j.now.tree in
    let k = c.args.k in
    let e = c.index-entries-k.result in
    let within : k < length es = omega (arith, c.requires.within, length-entries es tree c.tree-entries.ensures) in
    let at = at-entry es tree k e c.tree-entries.ensures (slice_get_read es (length es) k e refl within c.index-entries-k.is) in
    IsCommandThat-none _ (op_at c.args.script.now e.thread e.op) (sym c.in-None.ensures.op) (CommandMayFollow-at c.args.script.now tree k (entry_value e) c.requires.legal at)
