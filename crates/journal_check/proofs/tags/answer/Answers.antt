use Rattle.std.proofs.Common.{◌≡◌, ◌↔◌, ℕ, ◌≤◌, true, List, length, get_or, take, sym, subst, arith}
use Rattle.std.specs.Prelude.{IsTrue}
use Rattle.std.proofs.lemmas.Option.{get_or_from_slice_get}
use Rattle.cache_core.specs.declared.entry.SliceEntry.{SliceEntry}
use Rattle.journal_check.specs.Asks.{IsHeld, IsPaid}
use Rattle.journal_check.specs.CheckReplays.{IsReplayed}
use Rattle.journal_check.proofs.laws.Told.{is_false, no_entry}
use Rattle.journal_check.specs.OpKinds.{is_access_of}
use Rattle.run_law.specs.Journals.{At, slice_at}
use Rattle.script_ops.specs.Values.{op_at}
use Rattle.journal_check.proofs.tags.answer.Goals as goal

-- the entry that is read
entry-read : (es all : List SliceEntry) (p : ℕ) (e : SliceEntry) → es ≡ all → At all p e → get_or es p no_entry ≡ e
entry-read es all p e same at = get_or_from_slice_get es p e no_entry (subst (λ (xs : List SliceEntry). At xs p e) (sym same) at)

pub returns-then-ask-len-clause-answer : goal.returns-then-ask-len-clause-answer
returns-then-ask-len-clause-answer c =
    is_false (IsHeld c.args.script.now c.args.j.now c.args.ask.now) (λ held. (let low = held.0 in let high = c.if-ask-len.true in let len = c.tree_len-len.ensures in omega (arith, low, high, len)))

pub is_paid-requires-clause-access : goal.is_paid-requires-clause-access
is_paid-requires-clause-access c =
    let ask = c.args.ask.now in
    let it = c.requires.ask in
    let same = entry-read c.slice-entries.result.now (slice_at c.args.j.now ask.slice) ask.position it.entry c.slice-entries.ensures it.there in
    subst (λ (x : SliceEntry). is_access_of (op_at c.args.script.now x.thread x.op) ≡ true) (sym same) it.asked.0

pub is_paid-requires-clause-epoch : goal.is_paid-requires-clause-epoch
is_paid-requires-clause-epoch c =
    let ask = c.args.ask.now in
    let it = c.requires.ask in
    let same = entry-read c.slice-entries.result.now (slice_at c.args.j.now ask.slice) ask.position it.entry c.slice-entries.ensures it.there in
    subst (λ (x : SliceEntry). x.epoch ≤ length c.args.j.now.tree) (sym same) (let own = it.same_epoch in let low = c.if-ask-len.false in let len = c.tree_len-len.ensures in omega (arith, own, low, len))

pub is_paid-requires-clause-replayed : goal.is_paid-requires-clause-replayed
is_paid-requires-clause-replayed c =
    let ask = c.args.ask.now in
    let it = c.requires.ask in
    let tree = c.args.j.now.tree in
    let same = entry-read c.slice-entries.result.now (slice_at c.args.j.now ask.slice) ask.position it.entry c.slice-entries.ensures it.there in
    subst (λ (x : SliceEntry). IsReplayed c.args.script.now (take x.epoch tree) c.advance.new.tree) (sym same)
    (subst (λ n. IsReplayed c.args.script.now (take n tree) c.advance.new.tree) (sym it.same_epoch) c.advance.ensures)

pub returns-clause-answer : goal.returns-clause-answer
returns-clause-answer c =
    let script = c.args.script.now in
    let j = c.args.j.now in
    let ask = c.args.ask.now in
    let it = c.requires.ask in
    let same = entry-read c.slice-entries.result.now (slice_at j ask.slice) ask.position it.entry c.slice-entries.ensures it.there in
    let told = subst (λ (x : SliceEntry). IsTrue c.is_paid.result ↔ IsPaid script j.tree x) same c.is_paid.ensures.answer in
    let low : ask.epoch ≤ length j.tree = (let under = c.if-ask-len.false in let len = c.tree_len-len.ensures in omega (arith, under, len)) in (
      λ shown. (low, λ x at. (let own : x ≡ it.entry = (let there = it.there in cc) in subst (λ (y : SliceEntry). IsPaid script j.tree y) (sym own) (told.0 shown))),
      λ held. told.1 (held.1 it.entry it.there),
    )

pub returns-clause-replayed : goal.returns-clause-replayed
returns-clause-replayed c shown = subst (λ t. IsReplayed c.args.script.now (take c.args.ask.now.epoch c.args.j.now.tree) t) (sym c.is_paid.ensures.same) c.advance.ensures
