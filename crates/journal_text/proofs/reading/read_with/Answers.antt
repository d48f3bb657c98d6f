use Rattle.std.proofs.Common.{Bool, [], refl, subst, sym, arith}
use Rattle.journal_text.proofs.Progress.{HasComeTo-line, IsBadLine-not_taken, IsThere-come, ReadsWith-finished}
use Rattle.journal_text.proofs.TextLines.{HasPassed-start}
use Rattle.journal_text.specs.States.{HasRead, TakesLine, nothing_read, state_at}
use Rattle.journal_text.specs.declared.line_position.LinePosition.{LinePosition}
use Rattle.journal_text.specs.declared.line_position.LinePosition.TheVariants.{Start}
use Rattle.journal_text.proofs.reading.read_with.Goals as goal

pub lines-init : goal.lines-init
lines-init g c =
    let before : HasRead c.args.script.now [] (state_at Start nothing_read) = record { led = refl; held = record { same = refl; tree = refl; slices = refl; entries = refl } } in
    record {
      lines = [];
      counted = refl;
      few = omega arith;
      passed = HasPassed-start c.args.text.now;
      parts = nothing_read;
      keeps = subst (λ k. g.K.Keeper.keeps k c.args.script.now nothing_read) (sym c.create-reader.ensures.keeper) c.requires.nothing;
      read = subst (λ (p : LinePosition). HasRead c.args.script.now [] (state_at p nothing_read)) (sym c.create-reader.ensures.position) before;
    }

pub take-requires-clause-there : goal.take-requires-clause-there
take-requires-clause-there g c =
    let reader = c.lines.reader in
    IsThere-come c.args.script.now c.args.text.now c.lines.number c.lines.left.now reader.position (g.K.Keeper.keeps reader.keeper c.args.script.now) c.lines.invariant

pub lines-preserved : goal.lines-preserved
lines-preserved g c =
    let reader = c.lines.reader in
    let new = c.take.new.self in
    let line = c.in-Some.ensures in
    HasComeTo-line c.args.script.now c.args.text.now c.lines.number c.lines.left.now reader.position (g.K.Keeper.keeps reader.keeper c.args.script.now) c.lines.invariant
    c.in-Some.line.now c.in-Some.rest.now new.position (g.K.Keeper.keeps new.keeper c.args.script.now) line.0 line.1 line.2 line.3
    (subst (λ (b : Bool). TakesLine c.args.script.now c.in-Some.line.now reader.position (g.K.Keeper.keeps reader.keeper c.args.script.now) new.position (g.K.Keeper.keeps new.keeper c.args.script.now) b) c.in-Ok-true.field-0-test c.in-Ok-true.ensures)

pub returns-in-Ok-false : goal.returns-in-Ok-false
returns-in-Ok-false g c =
    let reader = c.lines.reader in
    let new = c.take.new.self in
    let line = c.in-Some.ensures in
    IsBadLine-not_taken c.args.script.now c.args.text.now c.lines.number c.lines.left.now reader.position (g.K.Keeper.keeps reader.keeper c.args.script.now) c.lines.invariant c.script_weight-weight.ensures.lawful
    c.in-Some.line.now new.position (g.K.Keeper.keeps new.keeper c.args.script.now) line.0 line.1
    (subst (λ (b : Bool). TakesLine c.args.script.now c.in-Some.line.now reader.position (g.K.Keeper.keeps reader.keeper c.args.script.now) new.position (g.K.Keeper.keeps new.keeper c.args.script.now) b) c.in-Ok-false.field-0-test c.in-Ok-false.ensures)

pub returns : goal.returns
returns g c =
    let reader = c.lines.reader in
    ReadsWith-finished (λ kept. g.K.Keeper.keeps kept c.args.script.now) c.args.script.now c.args.text.now c.lines.number c.lines.left.now reader.position reader.keeper c.lines.invariant
    c.script_weight-weight.ensures.lawful c.finish.result c.in_default.ensures c.finish.ensures
