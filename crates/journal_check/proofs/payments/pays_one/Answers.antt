use Rattle.std.proofs.Common.{◌≡◌, ◌+◌, ◌-◌, List, length, get_or, ◌∷◌, Some, sym, ap, ◌∙◌, subst, arith}
use Rattle.std.proofs.lemmas.Option.{slice_get-get_or, slice_get_within}
use Rattle.cache_core.specs.declared.entry.SliceEntry.{SliceEntry}
use Rattle.journal_check.proofs.PaidEntries.{AreAllPaid-never, ArePaid-next, ArePaid-skip, made-none, made-own, made-there, made-zero}
use Rattle.journal_check.specs.Payments.{PaysNext, rest}
use Rattle.journal_check.proofs.laws.Told.{no_entry}
use Rattle.journal_check.specs.Tables.{number_at}
use Rattle.machine.specs.declared.parameters.Parameters.{Parameters}
use Rattle.run_law.specs.Journals.{At, slice_at}
use Rattle.run_law.specs.Owed.{Owed, paid_by}
use Rattle.journal_check.proofs.payments.pays_one.Goals as goal

pub bounds-traced-k : goal.bounds-traced-k
bounds-traced-k c =
    let e = get_or c.slice-entries.result.now c.args.p no_entry in
    let k = c.in-Some.place - 1 in
    let back : c.in-Some.place ≡ k + 1 = omega (arith, c.if-place-eq0.false) in
    let number : number_at c.args.traced.now.places.now e.thread e.op ≡ Some (k + 1) = sym c.in-Some.ensures ∙ ap Some back in
    let its = made-there c.args.traced.now.script.now c.args.traced.now.journals.now.tree c.args.traced.now.places.now c.requires.traced.table c.requires.traced.places e k number in
    omega (arith, slice_get_within c.args.traced.now.journals.now.tree k its.0 its.1, c.requires.traced.trace.count)

pub pays_next-requires-clause-within : goal.pays_next-requires-clause-within
pays_next-requires-clause-within c =
    let e = get_or c.slice-entries.result.now c.args.p no_entry in
    let k = c.in-Some.place - 1 in
    let back : c.in-Some.place ≡ k + 1 = omega (arith, c.if-place-eq0.false) in
    let number : number_at c.args.traced.now.places.now e.thread e.op ≡ Some (k + 1) = sym c.in-Some.ensures ∙ ap Some back in
    let its = made-there c.args.traced.now.script.now c.args.traced.now.journals.now.tree c.args.traced.now.places.now c.requires.traced.table c.requires.traced.places e k number in
    omega (arith, slice_get_within c.args.traced.now.journals.now.tree k its.0 its.1, c.requires.cursors)

pub returns-else-place-eq0-clause-paid : goal.returns-else-place-eq0-clause-paid
returns-else-place-eq0-clause-paid c shown =
    let script = c.args.traced.now.script.now in
    let j = c.args.traced.now.journals.now in
    let i = c.args.i in
    let p = c.args.p in
    let places = c.args.traced.now.places.now in
    let e = get_or c.slice-entries.result.now p no_entry in
    let at : At (slice_at j i) p e =
    subst (λ (es : List SliceEntry). At es p e) c.slice-entries.ensures (slice_get-get_or c.slice-entries.result.now p no_entry (omega (arith, c.requires.position, ap (λ (es : List SliceEntry). length es) c.slice-entries.ensures))) in
    let k = c.in-Some.place - 1 in
    let back : c.in-Some.place ≡ k + 1 = omega (arith, c.if-place-eq0.false) in
    let number : number_at places e.thread e.op ≡ Some (k + 1) = sym c.in-Some.ensures ∙ ap Some back in
    let its = made-there script j.tree places c.requires.traced.table c.requires.traced.places e k number in
    let within = slice_get_within j.tree k its.0 its.1 in
    let step = get_or c.args.traced.now.steps.now k c.index-traced-k.result in
    let there : At c.args.traced.now.steps.now k step = slice_get-get_or c.args.traced.now.steps.now k c.index-traced-k.result (omega (arith, within, c.requires.traced.trace.count)) in
    let old = c.args.cursors.now.items in
    let new = c.pays_next.new.cursors.items in
    let pays : PaysNext script.machine i k step e old new = subst (λ (m : Parameters). PaysNext m i k step e old new) c.machine.ensures (c.pays_next.ensures.paid shown) in
    ArePaid-next script.machine i j.tree c.args.traced.now.steps.now (slice_at j i) p e old new k its.0 step at its.1 there its.2 (made-own script j.tree places c.requires.traced.table c.requires.traced.places e k number)
    (omega (arith, within, c.requires.cursors)) pays c.requires.paid

pub returns-else-place-eq0-clause-unpaid : goal.returns-else-place-eq0-clause-unpaid
returns-else-place-eq0-clause-unpaid c told =
    let script = c.args.traced.now.script.now in
    let j = c.args.traced.now.journals.now in
    let i = c.args.i in
    let p = c.args.p in
    let places = c.args.traced.now.places.now in
    let e = get_or c.slice-entries.result.now p no_entry in
    let at : At (slice_at j i) p e =
    subst (λ (es : List SliceEntry). At es p e) c.slice-entries.ensures (slice_get-get_or c.slice-entries.result.now p no_entry (omega (arith, c.requires.position, ap (λ (es : List SliceEntry). length es) c.slice-entries.ensures))) in
    let k = c.in-Some.place - 1 in
    let back : c.in-Some.place ≡ k + 1 = omega (arith, c.if-place-eq0.false) in
    let number : number_at places e.thread e.op ≡ Some (k + 1) = sym c.in-Some.ensures ∙ ap Some back in
    let its = made-there script j.tree places c.requires.traced.table c.requires.traced.places e k number in
    let within = slice_get_within j.tree k its.0 its.1 in
    let step = get_or c.args.traced.now.steps.now k c.index-traced-k.result in
    let there : At c.args.traced.now.steps.now k step = slice_get-get_or c.args.traced.now.steps.now k c.index-traced-k.result (omega (arith, within, c.requires.traced.trace.count)) in
    let old = c.args.cursors.now.items in
    let never : (more : List Owed) → rest script.machine i k step (get_or old k 0) ≡ paid_by e ∷ more → ⊥ =
    subst (λ (m : Parameters). (more : List Owed) → rest m i k step (get_or old k 0) ≡ paid_by e ∷ more → ⊥) c.machine.ensures (c.pays_next.ensures.unpaid told) in
    AreAllPaid-never script.machine i j.tree c.args.traced.now.steps.now (slice_at j i) p e old k its.0 step at its.1 there its.2 (omega (arith, within, c.requires.cursors)) never c.requires.paid

pub returns-then-place-eq0-clause-paid : goal.returns-then-place-eq0-clause-paid
returns-then-place-eq0-clause-paid c shown =
    let script = c.args.traced.now.script.now in
    let j = c.args.traced.now.journals.now in
    let p = c.args.p in
    let e = get_or c.slice-entries.result.now p no_entry in
    let at : At (slice_at j c.args.i) p e =
    subst (λ (es : List SliceEntry). At es p e) c.slice-entries.ensures (slice_get-get_or c.slice-entries.result.now p no_entry (omega (arith, c.requires.position, ap (λ (es : List SliceEntry). length es) c.slice-entries.ensures))) in
    ArePaid-skip script.machine c.args.i j.tree c.args.traced.now.steps.now (slice_at j c.args.i) p e c.args.cursors.now.items at
    (made-zero script j.tree c.args.traced.now.places.now c.requires.traced.table c.requires.traced.places e c.in-Some.place (sym c.in-Some.ensures) c.if-place-eq0.true) c.requires.paid

pub returns-in-None-clause-paid : goal.returns-in-None-clause-paid
returns-in-None-clause-paid c shown =
    let script = c.args.traced.now.script.now in
    let j = c.args.traced.now.journals.now in
    let p = c.args.p in
    let e = get_or c.slice-entries.result.now p no_entry in
    let at : At (slice_at j c.args.i) p e =
    subst (λ (es : List SliceEntry). At es p e) c.slice-entries.ensures (slice_get-get_or c.slice-entries.result.now p no_entry (omega (arith, c.requires.position, ap (λ (es : List SliceEntry). length es) c.slice-entries.ensures))) in
    ArePaid-skip script.machine c.args.i j.tree c.args.traced.now.steps.now (slice_at j c.args.i) p e c.args.cursors.now.items at
    (made-none script j.tree c.args.traced.now.places.now c.requires.traced.table c.requires.traced.places e (sym c.in-None.ensures)) c.requires.paid
