use Rattle.std.proofs.Common.{◌≡◌, inl, inr, List, length, get_or, ap, ◌∙◌, subst, arith}
use Rattle.std.proofs.lemmas.Bool.{cases_lt}
use Rattle.std.proofs.lemmas.Option.{slice_get-get_or, slice_get_within}
use Rattle.cache_core.specs.declared.entry.SliceEntry.{SliceEntry}
use Rattle.journal_check.proofs.laws.Told.{is_true, no_entry}
use Rattle.journal_check.specs.Traces.{AreTrueOthers, IsTrueOther}
use Rattle.run_law.specs.Journals.{At, slice_at}
use Rattle.journal_check.proofs.other_entries.are_true_others.Goals as goal

pub loop-entry-preserved : goal.loop-entry-preserved
loop-entry-preserved c p e below at =
    let script = c.args.traced.now.script.now in
    let j = c.args.traced.now.journals.now in
    let n = c.loop-entry.entry-index in
    let items : c.slice-entry-items.result.now ≡ slice_at j c.args.i = c.slice-entry-items.ensures ∙ ap (slice_at j) c.from.ensures in
    let own = get_or c.slice-entry-items.result.now n no_entry in
    elim (cases_lt p n) [
      | inl before ↦ c.loop-entry.invariant p e before at
      | inr after ↦
          let here : p ≡ n = omega arith in
          let there : At (slice_at j c.args.i) n e = subst (λ k. At (slice_at j c.args.i) k e) here at in
          let its : At (slice_at j c.args.i) n own = subst (λ (es : List SliceEntry). At es n own) items (slice_get-get_or c.slice-entry-items.result.now n no_entry c.loop-entry-test.true) in
          let same : own ≡ e = cc in
          subst (IsTrueOther script j.tree c.args.i) same (c.is_true_other.ensures.0 c.if-not-is_true_other.false)
    ]

pub returns : goal.returns
returns c =
    let script = c.args.traced.now.script.now in
    let j = c.args.traced.now.journals.now in
    let items : c.slice-entry-items.result.now ≡ slice_at j c.args.i = c.slice-entry-items.ensures ∙ ap (slice_at j) c.from.ensures in
    is_true (AreTrueOthers script j.tree c.args.i (slice_at j c.args.i))
    (λ p e at. c.loop-entry.invariant p e (let within = slice_get_within (slice_at j c.args.i) p e at in let over = c.loop-entry-test.false in omega (arith, within, over, ap (λ (es : List SliceEntry). length es) items)) at)
