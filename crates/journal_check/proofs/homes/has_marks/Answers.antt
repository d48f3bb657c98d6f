use Rattle.std.proofs.Common.{◌≡◌, ◌<◌, inl, inr, true, false, length, get_or, Some, sym, ap, ◌∙◌, subst, arith}
use Rattle.std.specs.Prelude.{slice_get}
use Rattle.std.proofs.lemmas.Bool.{cases_lt}
use Rattle.std.proofs.lemmas.Option.{get_or_from_slice_get, slice_get-get_or, slice_get_within}
use Rattle.journal_check.proofs.laws.Told.{is_false, is_true}
use Rattle.journal_check.specs.Homes.{HasMarks}
use Rattle.run_law.specs.Ops.{is_command}
use Rattle.script_ops.specs.declared.op.Op.TheVariants.{Tick}
use Rattle.journal_check.proofs.homes.has_marks.Goals as goal
use Rattle.journal_check.proofs.homes.has_marks.Goals.{else-not-is_command_at-via-then-not-is_command_at+else-marks-i-ne1, else-not-is_command_at-via-else-not-is_command_at}

pub returns-then-marks-i-ne1 : goal.returns-then-marks-i-ne1
returns-then-marks-i-ne1 c =
    let ops = c.args.ops.now in
    let marks = c.args.marks.now in
    let i = c.loop-i.i in
    let within : i < length ops = omega (arith, c.loop-i-test.true, c.len-i-end.ensures) in
    let access : is_command (get_or ops i Tick) ≡ false = sym (c.is_command_at.ensures Tick) ∙ c.if-not-is_command_at.true in
    is_false (HasMarks ops marks)
    (λ all. c.if-marks-i-ne1.true (all i (get_or marks i 0) (get_or ops i Tick) (slice_get-get_or ops i Tick within) access (slice_get-get_or marks i 0 (omega (arith, within, c.requires)))))

pub loop-i-preserved : goal.loop-i-preserved
loop-i-preserved c k n d below is access number = elim (cases_lt k c.loop-i.i) [
  | inl before ↦ c.loop-i.invariant k n d before is access number
  | inr after ↦
      let ops = c.args.ops.now in
      let marks = c.args.marks.now in
      let i = c.loop-i.i in
      let here : k ≡ i = omega arith in
      let op : get_or ops i Tick ≡ d = get_or_from_slice_get ops i d Tick (subst (λ m. slice_get ops m ≡ Some d) here is) in
      let mark : get_or marks i 0 ≡ n = get_or_from_slice_get marks i n 0 (subst (λ m. slice_get marks m ≡ Some n) here number) in
      elim c.else-not-is_command_at.branch [
        | else-not-is_command_at-via-then-not-is_command_at+else-marks-i-ne1 w ↦ sym mark ∙ w.if-marks-i-ne1.false
        | else-not-is_command_at-via-else-not-is_command_at w ↦ (let wrong : true ≡ false = sym w.if-not-is_command_at.false ∙ (c.is_command_at.ensures Tick ∙ (ap is_command op ∙ access)) in cc)
      ]
]

pub returns : goal.returns
returns c =
    is_true (HasMarks c.args.ops.now c.args.marks.now)
    (λ k n d is access number. c.loop-i.invariant k n d (let within = slice_get_within c.args.ops.now k d is in omega (arith, within, c.loop-i-test.false, c.len-i-end.ensures)) is access number)
