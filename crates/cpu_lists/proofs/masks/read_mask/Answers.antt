use Rattle.std.proofs.Common.{◌≡◌, [], length, sym, arith}
use Rattle.std.proofs.lemmas.Bool.{eqb-true, eqb-false}
use Rattle.std.proofs.lemmas.List.{nil_from_length}
use Rattle.std.specs.Option.{option_map}
use Rattle.std.specs.List.{slice_split}
use Rattle.num_text.specs.Numbers.{without_prefix}
use Rattle.cpu_lists.specs.Masks.{cpus_in, each, group_of, comma}
use Rattle.cpu_lists.proofs.Texts.{mask_cpus-pieces, mask_cpus-nil, answer_of-nil, Says-collected, answer_of-bad}
use Rattle.cpu_lists.proofs.masks.read_mask.Goals as goal

pub returns-then-is_empty-clause-said : goal.returns-then-is_empty-clause-said
returns-then-is_empty-clause-said c =
    let none : c.args.text.now ≡ [] = nil_from_length c.args.text.now (eqb-true (length c.args.text.now) 0 (sym c.if-is_empty.ensures)) in
    rw (none, mask_cpus-nil) (answer_of-nil c.args.cpus)

pub returns-in-Some-clause-said : goal.returns-in-Some-clause-said
returns-in-Some-clause-said c =
    let some = eqb-false (length c.args.text.now) 0 (sym c.if-is_empty.ensures) in
    let collected = rw c.after_prefix.ensures at c.in-Some.ensures in
    rw (mask_cpus-pieces c.args.text.now (omega arith)) (Says-collected c.args.cpus (option_map cpus_in (each group_of (slice_split comma (without_prefix c.args.text.now)))) c.in-Some.found c.answer.result collected c.answer.ensures.said)

pub returns-in-None-clause-said : goal.returns-in-None-clause-said
returns-in-None-clause-said c =
    let some = eqb-false (length c.args.text.now) 0 (sym c.if-is_empty.ensures) in
    let collected = rw c.after_prefix.ensures at c.in-None.ensures in
    rw (mask_cpus-pieces c.args.text.now (omega arith)) (answer_of-bad c.args.cpus (option_map cpus_in (each group_of (slice_split comma (without_prefix c.args.text.now)))) collected)
