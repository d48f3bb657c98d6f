use Rattle.std.proofs.Common.{ℕ, ◌-◌, refl, subst, arith}
use Rattle.journal_text.specs.Writable.{IsWritableEntry}
use Rattle.machine.specs.declared.parameters.Parameters.{Parameters}
use Rattle.journal_text.proofs.Steps.{HasTaken-entry, TakesLine-step}
use Rattle.journal_text.specs.States.{state_at, with_entry}
use Rattle.journal_text.specs.declared.line_position.LinePosition.TheVariants.{InSlice}
use Rattle.journal_text.proofs.reader.Reader.take_entry.Goals as goal

pub returns-in_ok-add_entry-in-Some : goal.returns-in_ok-add_entry-in-Some
returns-in_ok-add_entry-in-Some g c =
    let script = c.args.script.now in
    let line = c.args.line.now in
    let from = c.args.self.now.position in
    let more = c.args.left - 1 in
    let e = c.in-Some.entry in
    let writable : IsWritableEntry script.machine c.args.slice e =
    subst (λ (n : ℕ). IsWritableEntry script.machine n e) c.from.ensures
    (subst (λ (m : Parameters). IsWritableEntry m c.from.result e) c.machine.ensures c.in-Some.ensures.0) in
    TakesLine-step script line from (g.K.Keeper.keeps c.args.self.now.keeper script) (InSlice c.args.slice more) (g.K.Keeper.keeps c.add_entry.new.self script) (λ parts. with_entry parts e) c.in_ok-add_entry-in-Some.ensures
    (λ parts. HasTaken-entry script line (state_at from parts) (state_at (InSlice c.args.slice more) (with_entry parts e)) c.args.slice c.args.left more e c.requires.position (omega (arith, c.requires.more)) writable c.in-Some.ensures.1 refl refl)
