use Rattle.std.proofs.Common.{◌≡◌, ◌<◌, Some, None, sym, ◌∙◌, arith}
use Rattle.std.specs.Prelude.{IsTrue}
use Rattle.cbm.specs.Masks.{has_way}
use Rattle.journal_check.proofs.ChosenWays.{victim-empty, victim-used}
use Rattle.journal_check.specs.Outcomes.{used_at}
use Rattle.journal_check.proofs.victims.is_victim.Goals as goal

pub returns-in-Some : goal.returns-in-Some
returns-in-Some c =
    let v = c.args.slots.now in
    let within : c.args.way < v.shape.ways = omega (arith, c.if-way-ways.false, c.ways.ensures.ways) in
    let allowed : IsTrue (has_way c.args.mask c.args.way) = sym c.has_way.ensures ∙ c.if-not-has_way.false in
    let is : used_at v c.args.set c.args.way ≡ Some c.in-Some.used = sym c.used.ensures ∙ c.in-Some.is in
    let same = victim-used v c.args.set c.args.mask c.args.way within allowed c.in-Some.used is in
    let told = c.are_not_older.ensures in
    (λ shown. same.0 (told.0 shown), λ victim. told.1 (same.1 victim))

pub returns-in-None : goal.returns-in-None
returns-in-None c =
    let v = c.args.slots.now in
    let within : c.args.way < v.shape.ways = omega (arith, c.if-way-ways.false, c.ways.ensures.ways) in
    let allowed : IsTrue (has_way c.args.mask c.args.way) = sym c.has_way.ensures ∙ c.if-not-has_way.false in
    let is : used_at v c.args.set c.args.way ≡ None = sym c.used.ensures ∙ c.in-None.is in
    let same = victim-empty v c.args.set c.args.mask c.args.way within allowed is in
    let told = c.are_full.ensures in
    (λ shown. same.0 (told.0 shown), λ victim. told.1 (same.1 victim))
