use Rattle.std.proofs.Common.{codes, refl, sym, ◌∙◌}
use Rattle.rc_base.proofs.laws.Texts.{is_text-same}
use Rattle.journal_text.proofs.Refusals.{first_line-other}
use Rattle.journal_text.proofs.Steps.{HasTaken-first, HasTaken-not_led, TakesLine-step}
use Rattle.journal_text.specs.States.{nothing_read, state_at}
use Rattle.journal_text.specs.declared.line_position.LinePosition.TheVariants.{Start, InTree}
use Rattle.journal_text.proofs.reader.Reader.take_first.Goals as goal

pub returns-then-is_text : goal.returns-then-is_text
returns-then-is_text g c =
    let script = c.args.script.now in
    let line = c.args.line.now in
    let from = c.args.self.now.position in
    let keeps = g.K.Keeper.keeps c.args.self.now.keeper script in
    TakesLine-step script line from keeps InTree keeps (λ parts. parts) (λ parts kept. kept)
    (λ parts. HasTaken-first script line (state_at from parts) (state_at InTree parts) c.requires
    (sym (is_text-same line (codes "journal 1") (sym c.is_text.ensures ∙ c.if-is_text.true))) refl refl)

pub returns-else-is_text : goal.returns-else-is_text
returns-else-is_text g c =
    let old = state_at c.args.self.now.position nothing_read in
    HasTaken-not_led c.args.script.now c.args.line.now old old Start c.requires
    (λ next led. first_line-other c.args.line.now (sym c.is_text.ensures ∙ c.if-is_text.false) led.1)
