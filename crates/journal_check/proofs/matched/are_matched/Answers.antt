use Rattle.std.proofs.Common.{◌≡◌, ℕ, ◌+◌, inl, inr, true, false, List, length, map, take, Some, refl, sym, ap, ◌∙◌, subst, arith}
use Rattle.std.proofs.lemmas.Bool.{cases_lt}
use Rattle.std.proofs.lemmas.List.{length-map}
use Rattle.std.proofs.lemmas.Option.{slice_get_read, slice_get_within}
use Rattle.journal_check.proofs.MatchedCounts.{AreCounted-same, counted-command, length-counts, place-command}
use Rattle.journal_check.proofs.laws.Told.{At-map, is_false, is_true}
use Rattle.journal_check.specs.declared.trace.Step.{Step}
use Rattle.machine.specs.declared.parameters.Parameters.{Parameters}
use Rattle.run_law.specs.Entries.{entry_value}
use Rattle.run_law.specs.Journals.{At}
use Rattle.run_law.specs.Looks.{AreMatched, lines_looked, needs_of}
use Rattle.run_law.specs.TreeHistory.{TreeEntryValue, tree_after}
use Rattle.script_ops.specs.Values.{op_at}
use Rattle.run_law.specs.declared.journals.TreeEntry.{TreeEntry}
use Rattle.journal_check.proofs.matched.are_matched.Goals as goal

pub are_counted-requires-clause-place : goal.are_counted-requires-clause-place
are_counted-requires-clause-place c =
    let script = c.args.script.now in
    let j = c.args.j.now in
    let k = c.loop-k.k in
    let es = c.tree-tree.result.now in
    let e = c.index-tree-k.result in
    let at : At j.tree k (entry_value e) = subst (λ (t : List TreeEntryValue). At t k (entry_value e)) c.tree-tree.ensures (At-map entry_value es k e (slice_get_read es (length es) k e refl c.loop-k-test.true c.index-tree-k.is)) in
    c.requires.own.few e.thread e.op (k + 1) (place-command script j c.args.steps.now c.args.places.now c.in_ok-looks.looks.items c.requires.range c.requires.legal c.requires.trace c.requires.table c.requires.places c.requires.own c.in_ok-looks.ensures k (entry_value e) at)

pub are_counted-requires-clause-counts : goal.are_counted-requires-clause-counts
are_counted-requires-clause-counts c =
    let script = c.args.script.now in
    let j = c.args.j.now in
    let k = c.loop-k.k in
    let es = c.tree-tree.result.now in
    let e = c.index-tree-k.result in
    let steps = c.args.steps.now in
    let step = c.index-steps-k.result in
    let at : At j.tree k (entry_value e) = subst (λ (t : List TreeEntryValue). At t k (entry_value e)) c.tree-tree.ensures (At-map entry_value es k e (slice_get_read es (length es) k e refl c.loop-k-test.true c.index-tree-k.is)) in
    let count = c.requires.trace.count in
    let there : At steps k step = slice_get_read steps (length steps) k step refl (omega (arith, count, slice_get_within j.tree k (entry_value e) at)) c.index-steps-k.is in
    let same = length-counts script j steps c.args.places.now c.in_ok-looks.looks.items c.requires.range c.requires.legal c.requires.trace c.requires.table c.requires.places c.requires.own c.in_ok-looks.ensures k (entry_value e) step at there in
    ap (λ (ns : List ℕ). length ns) (c.items-counts.ensures ∙ ap (λ (x : TreeEntry). x.looks.numbers) (sym c.index-tree-k.is)) ∙ (same ∙ ap (λ (ns : List (ℕ × ℕ)). length ns) (sym (c.as_slice-needs.ensures ∙ ap (λ (x : Step). x.needs) (sym c.index-steps-k.is))))

pub returns-then-not-are_counted : goal.returns-then-not-are_counted
returns-then-not-are_counted c =
    let script = c.args.script.now in
    let j = c.args.j.now in
    let k = c.loop-k.k in
    let es = c.tree-tree.result.now in
    let e = c.index-tree-k.result in
    let steps = c.args.steps.now in
    let step = c.index-steps-k.result in
    let at : At j.tree k (entry_value e) = subst (λ (t : List TreeEntryValue). At t k (entry_value e)) c.tree-tree.ensures (At-map entry_value es k e (slice_get_read es (length es) k e refl c.loop-k-test.true c.index-tree-k.is)) in
    let count = c.requires.trace.count in
    let there : At steps k step = slice_get_read steps (length steps) k step refl (omega (arith, count, slice_get_within j.tree k (entry_value e) at)) c.index-steps-k.is in
    let command = counted-command script j steps c.args.places.now c.in_ok-looks.looks.items c.requires.range c.requires.legal c.requires.trace c.requires.table c.requires.places c.requires.own c.in_ok-looks.ensures k (entry_value e) step at there in
    let told = AreCounted-same c.deref.result.now c.in_ok-looks.looks.items c.machine.result.now.slices script.machine.slices (k + 1) c.as_slice-needs.result.now step.needs c.items-counts.result.now e.looks.numbers c.deref.ensures.value
    (ap (λ (m : Parameters). m.slices) c.machine.ensures) (c.as_slice-needs.ensures ∙ ap (λ (x : Step). x.needs) (sym c.index-steps-k.is)) (c.items-counts.ensures ∙ ap (λ (x : TreeEntry). x.looks.numbers) (sym c.index-tree-k.is)) in
    is_false (AreMatched script j)
    (λ matched. let passes = c.are_counted.ensures.1 (told.1 (command.1 (matched k (entry_value e) at))) in let failed = c.if-not-are_counted.true in let wrong : true ≡ false = sym passes ∙ failed in cc)

pub loop-k-preserved : goal.loop-k-preserved
loop-k-preserved c i h below here =
    let script = c.args.script.now in
    let j = c.args.j.now in
    let k = c.loop-k.k in
    let es = c.tree-tree.result.now in
    let e = c.index-tree-k.result in
    let steps = c.args.steps.now in
    let step = c.index-steps-k.result in
    let at : At j.tree k (entry_value e) = subst (λ (t : List TreeEntryValue). At t k (entry_value e)) c.tree-tree.ensures (At-map entry_value es k e (slice_get_read es (length es) k e refl c.loop-k-test.true c.index-tree-k.is)) in
    let count = c.requires.trace.count in
    let there : At steps k step = slice_get_read steps (length steps) k step refl (omega (arith, count, slice_get_within j.tree k (entry_value e) at)) c.index-steps-k.is in
    let command = counted-command script j steps c.args.places.now c.in_ok-looks.looks.items c.requires.range c.requires.legal c.requires.trace c.requires.table c.requires.places c.requires.own c.in_ok-looks.ensures k in
    let told = AreCounted-same c.deref.result.now c.in_ok-looks.looks.items c.machine.result.now.slices script.machine.slices (k + 1) c.as_slice-needs.result.now step.needs c.items-counts.result.now e.looks.numbers c.deref.ensures.value
    (ap (λ (m : Parameters). m.slices) c.machine.ensures) (c.as_slice-needs.ensures ∙ ap (λ (x : Step). x.needs) (sym c.index-steps-k.is)) (c.items-counts.ensures ∙ ap (λ (x : TreeEntry). x.looks.numbers) (sym c.index-tree-k.is)) in
    elim (cases_lt i k) [
      | inl before ↦ c.loop-k.invariant i h before here
      | inr after ↦
          let same : i ≡ k = omega arith in
          let own : At j.tree k h = subst (λ n. At j.tree n h) same here in
          let one : entry_value e ≡ h = cc in
          let fact = (command (entry_value e) step at there).0 (told.0 (c.are_counted.ensures.0 c.if-not-are_counted.false)) in
          let its : map (λ n. Some n) h.looks ≡ map (lines_looked script j h) (needs_of script.machine (tree_after script (take k j.tree)) (op_at script h.thread h.op)) =
          subst (λ (x : TreeEntryValue). map (λ n. Some n) x.looks ≡ map (lines_looked script j x) (needs_of script.machine (tree_after script (take k j.tree)) (op_at script x.thread x.op))) one fact in
          subst (λ n. map (λ m. Some m) h.looks ≡ map (lines_looked script j h) (needs_of script.machine (tree_after script (take n j.tree)) (op_at script h.thread h.op))) (sym same) its
    ]

pub returns : goal.returns
returns c =
    let script = c.args.script.now in
    let j = c.args.j.now in
    let es = c.tree-tree.result.now in
    is_true (AreMatched script j) (λ k h at. c.loop-k.invariant k h (omega (arith, slice_get_within j.tree k h at, c.loop-k-test.false, ap (λ (t : List TreeEntryValue). length t) c.tree-tree.ensures, length-map es entry_value)) at)
