use Rattle.std.proofs.Common.{◌≡◌, ◌<◌, List, ℕ, Some, get_or, length, sym, ap, ◌∙◌, subst}
use Rattle.std.proofs.lemmas.Option.{slice_get-get_or}
use Rattle.cache_core.specs.declared.entry.SliceEntry.{SliceEntry}
use Rattle.journal_check.proofs.HomeMarks.{AreMarked-more, AreMarked-skip, elsewhere-AreAtHome, home_at-op, second-AreAtHome}
use Rattle.journal_check.proofs.laws.Told.{IsSome-some, no_entry, number_at-op}
use Rattle.journal_check.specs.Homes.{home_at}
use Rattle.run_law.specs.Journals.{At, slice_at}
use Rattle.script_ops.specs.Values.{op_at}
use Rattle.journal_check.proofs.homes.mark.Goals as goal

pub returns-then-home-i-clause-marked : goal.returns-then-home-i-clause-marked
returns-then-home-i-clause-marked c marked =
    let script = c.args.script.now in
    let j = c.args.j.now in
    let i = c.args.i in
    let p = c.args.p in
    let es = c.slice-entries.result.now in
    let e = get_or es p no_entry in
    let at : At (slice_at j i) p e = subst (λ (xs : List SliceEntry). At xs p e) c.slice-entries.ensures (slice_get-get_or es p no_entry (subst (λ (xs : List SliceEntry). p < length xs) (sym c.slice-entries.ensures) c.requires.position)) in
    let own : home_at script e.thread e.op ≡ Some i = sym c.in-Some.ensures ∙ ap (λ (n : ℕ). Some n) c.if-home-i.true in
    AreMarked-more script j i p e at c.args.marks.now c.mark_op.new.marks own (c.mark_op.ensures.marked marked) c.requires.marks

pub returns-then-home-i-clause-unmarked : goal.returns-then-home-i-clause-unmarked
returns-then-home-i-clause-unmarked c unmarked all =
    let script = c.args.script.now in
    let j = c.args.j.now in
    let i = c.args.i in
    let p = c.args.p in
    let es = c.slice-entries.result.now in
    let e = get_or es p no_entry in
    let at : At (slice_at j i) p e = subst (λ (xs : List SliceEntry). At xs p e) c.slice-entries.ensures (slice_get-get_or es p no_entry (subst (λ (xs : List SliceEntry). p < length xs) (sym c.slice-entries.ensures) c.requires.position)) in
    let own : home_at script e.thread e.op ≡ Some i = sym c.in-Some.ensures ∙ ap (λ (n : ℕ). Some n) c.if-home-i.true in
    let op = home_at-op script j e.thread e.op i own in
    let number = number_at-op script c.args.marks.now e.thread e.op c.requires.table (IsSome-some (op_at script e.thread e.op) op.0 op.1) in
    second-AreAtHome script j i p e at c.args.marks.now number.0 own c.requires.marks number.1 (c.mark_op.ensures.unmarked unmarked number.0 number.1) c.requires.slice all

pub returns-else-home-i-clause-unmarked : goal.returns-else-home-i-clause-unmarked
returns-else-home-i-clause-unmarked c apart all =
    let script = c.args.script.now in
    let j = c.args.j.now in
    let i = c.args.i in
    let p = c.args.p in
    let es = c.slice-entries.result.now in
    let e = get_or es p no_entry in
    let at : At (slice_at j i) p e = subst (λ (xs : List SliceEntry). At xs p e) c.slice-entries.ensures (slice_get-get_or es p no_entry (subst (λ (xs : List SliceEntry). p < length xs) (sym c.slice-entries.ensures) c.requires.position)) in
    elsewhere-AreAtHome script j i p e at c.in-Some.home (sym c.in-Some.ensures) c.if-home-i.false c.requires.slice all

pub returns-in-None-clause-marked : goal.returns-in-None-clause-marked
returns-in-None-clause-marked c passes =
    let script = c.args.script.now in
    let j = c.args.j.now in
    let i = c.args.i in
    let p = c.args.p in
    let es = c.slice-entries.result.now in
    let e = get_or es p no_entry in
    let at : At (slice_at j i) p e = subst (λ (xs : List SliceEntry). At xs p e) c.slice-entries.ensures (slice_get-get_or es p no_entry (subst (λ (xs : List SliceEntry). p < length xs) (sym c.slice-entries.ensures) c.requires.position)) in
    AreMarked-skip script j i p e at c.args.marks.now (sym c.home_at.ensures ∙ c.in-None.is) c.requires.marks
