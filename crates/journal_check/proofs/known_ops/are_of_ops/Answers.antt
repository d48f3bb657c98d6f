use Rattle.std.proofs.Common.{◌≡◌, inl, inr, List, length, get_or, ap, subst, arith}
use Rattle.std.specs.Prelude.{IsSome}
use Rattle.std.proofs.lemmas.Bool.{cases_lt}
use Rattle.std.proofs.lemmas.Option.{slice_get-get_or, slice_get_within}
use Rattle.cache_core.specs.declared.entry.SliceEntry.{SliceEntry}
use Rattle.journal_check.proofs.laws.Told.{is_true, no_entry}
use Rattle.journal_check.specs.Orders.{AreOfOps}
use Rattle.run_law.specs.Journals.{At, slice_at}
use Rattle.script_ops.specs.Values.{op_at}
use Rattle.journal_check.proofs.known_ops.are_of_ops.Goals as goal

pub loop-entry-preserved : goal.loop-entry-preserved
loop-entry-preserved c p e below at =
    let script = c.args.script.now in
    let j = c.args.j.now in
    let n = c.loop-entry.entry-index in
    let own = get_or c.slice-entry-items.result.now n no_entry in
    elim (cases_lt p n) [
      | inl before ↦ c.loop-entry.invariant p e before at
      | inr after ↦
          let here : p ≡ n = omega arith in
          let there : At (slice_at j c.args.i) n e = subst (λ k. At (slice_at j c.args.i) k e) here at in
          let its : At (slice_at j c.args.i) n own = subst (λ (es : List SliceEntry). At es n own) c.slice-entry-items.ensures (slice_get-get_or c.slice-entry-items.result.now n no_entry c.loop-entry-test.true) in
          let same : own ≡ e = cc in
          subst (λ (x : SliceEntry). IsSome (op_at script x.thread x.op)) same (c.is_of_op.ensures.0 c.if-not-is_of_op.false)
    ]

pub returns : goal.returns
returns c =
    let script = c.args.script.now in
    let j = c.args.j.now in
    is_true (AreOfOps script (slice_at j c.args.i))
    (λ p e at. c.loop-entry.invariant p e (let within = slice_get_within (slice_at j c.args.i) p e at in let over = c.loop-entry-test.false in omega (arith, within, over, ap (λ (es : List SliceEntry). length es) c.slice-entry-items.ensures)) at)
