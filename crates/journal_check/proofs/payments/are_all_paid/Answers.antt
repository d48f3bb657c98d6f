use Rattle.std.proofs.Common.{◌↔◌, ℕ, List, subst}
use Rattle.std.specs.Prelude.{IsTrue}
use Rattle.journal_check.proofs.PaidEntries.{ArePaid-zero, AreEnded-all}
use Rattle.journal_check.specs.Payments.{AreEnded}
use Rattle.machine.specs.Maps.{parameters_of}
use Rattle.machine.specs.declared.parameters.Parameters.{Parameters}
use Rattle.run_law.specs.Journals.{slice_at}
use Rattle.journal_check.proofs.payments.are_all_paid.Goals as goal

pub pay_all-requires-clause-paid : goal.pay_all-requires-clause-paid
pay_all-requires-clause-paid c = ArePaid-zero c.args.traced.now.script.now.machine c.args.i c.args.traced.now.journals.now.tree c.args.traced.now.steps.now c.in_ok-cursors.cursors.items c.in_ok-cursors.ensures.zero

pub returns : goal.returns
returns c =
    let machine = c.args.traced.now.script.now.machine in
    let i = c.args.i in
    let j = c.args.traced.now.journals.now in
    let steps = c.args.traced.now.steps.now in
    let cursors = c.pay_all.new.cursors.items in
    let ended = c.are_ended.result in
    let both = AreEnded-all machine i j.tree steps (slice_at j i) cursors c.pay_all.ensures.cursors (c.pay_all.ensures.paid c.if-not-pay_all.false) in
    let told : IsTrue ended ↔ AreEnded machine i steps cursors =
    subst (λ (m : Parameters). IsTrue ended ↔ AreEnded m i steps cursors) c.machine.ensures
    (subst (λ (ns : List ℕ). IsTrue ended ↔ AreEnded (parameters_of c.machine.result.now) i steps ns) c.deref.ensures.value c.are_ended.ensures) in
    ((λ shown. both.0 (told.0 shown)), (λ all. told.1 (both.1 all)))
