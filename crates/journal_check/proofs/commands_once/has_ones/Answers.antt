use Rattle.std.proofs.Common.{◌≡◌, ◌<◌, inl, inr, true, false, length, get_or, Some, sym, ap, ◌∙◌, subst, arith}
use Rattle.std.specs.Prelude.{IsTrue, slice_get}
use Rattle.std.proofs.lemmas.Bool.{cases_lt}
use Rattle.std.proofs.lemmas.Option.{get_or_from_slice_get, slice_get-get_or, slice_get_within}
use Rattle.journal_check.proofs.laws.Told.{is_false, is_true}
use Rattle.journal_check.specs.Tables.{HasOnes}
use Rattle.run_law.specs.Ops.{is_command}
use Rattle.script_ops.specs.declared.op.Op.TheVariants.{Tick}
use Rattle.journal_check.proofs.commands_once.has_ones.Goals as goal
use Rattle.journal_check.proofs.commands_once.has_ones.Goals.{else-is_command_at-via-then-is_command_at+else-counts-i-ne1, else-is_command_at-via-else-is_command_at}

pub returns-then-counts-i-ne1 : goal.returns-then-counts-i-ne1
returns-then-counts-i-ne1 c =
    let ops = c.args.ops.now in
    let counts = c.args.counts.now in
    let i = c.loop-i.i in
    let within : i < length ops = omega (arith, c.loop-i-test.true, c.len-i-end.ensures) in
    let command : IsTrue (is_command (get_or ops i Tick)) = sym (c.is_command_at.ensures Tick) ∙ c.if-is_command_at.true in
    is_false (HasOnes ops counts)
    (λ ones. c.if-counts-i-ne1.true (ones i (get_or counts i 0) (get_or ops i Tick) (slice_get-get_or ops i Tick within) command (slice_get-get_or counts i 0 (omega (arith, within, c.requires)))))

pub loop-i-preserved : goal.loop-i-preserved
loop-i-preserved c k n d below is command number = elim (cases_lt k c.loop-i.i) [
  | inl before ↦ c.loop-i.invariant k n d before is command number
  | inr after ↦
      let ops = c.args.ops.now in
      let counts = c.args.counts.now in
      let i = c.loop-i.i in
      let here : k ≡ i = omega arith in
      let op : get_or ops i Tick ≡ d = get_or_from_slice_get ops i d Tick (subst (λ m. slice_get ops m ≡ Some d) here is) in
      let count : get_or counts i 0 ≡ n = get_or_from_slice_get counts i n 0 (subst (λ m. slice_get counts m ≡ Some n) here number) in
      elim c.else-is_command_at.branch [
        | else-is_command_at-via-then-is_command_at+else-counts-i-ne1 w ↦ sym count ∙ w.if-counts-i-ne1.false
        | else-is_command_at-via-else-is_command_at w ↦ (let wrong : true ≡ false = sym command ∙ (sym (ap is_command op) ∙ (sym (c.is_command_at.ensures Tick) ∙ w.if-is_command_at.false)) in cc)
      ]
]

pub returns : goal.returns
returns c =
    is_true (HasOnes c.args.ops.now c.args.counts.now)
    (λ k n d is command number. c.loop-i.invariant k n d (let within = slice_get_within c.args.ops.now k d is in omega (arith, within, c.loop-i-test.false, c.len-i-end.ensures)) is command number)
