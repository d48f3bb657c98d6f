use Rattle.std.proofs.Common.{sym, ap, ◌∙◌}
use Rattle.pair_law.specs.commands.Mode.{against_mode, with_mode}
use Rattle.pair_tree.proofs.Unless.{mode-accepted, mode-present, mode-refusal, option_map-none, option_map-refused}
use Rattle.pair_tree.specs.Tables.{state_of}
use Rattle.pair_tree.proofs.tables.Tables.asked_mode.Goals as goal

pub returns-then-is_named : goal.returns-then-is_named
returns-then-is_named c = mode-present c.args.m.now (state_of c.args.self.now) c.args.g.now c.args.text.now (sym c.is_named.ensures ∙ c.if-is_named.true)

pub returns-in-Some : goal.returns-in-Some
returns-in-Some c =
    let m = c.args.m.now in let s = state_of c.args.self.now in let g = c.args.g.now in
    let other = sym c.is_named.ensures ∙ c.if-is_named.false in
    let r = option_map-refused _ _ c.in-Some.ensures in
    (r.0, mode-refusal m s g c.args.text.now other ∙ ap (against_mode m s g) (sym c.mode_in-asked.ensures) ∙ r.1, r.2)

pub returns-in-None : goal.returns-in-None
returns-in-None c =
    let m = c.args.m.now in let s = state_of c.args.self.now in let g = c.args.g.now in
    let other = sym c.is_named.ensures ∙ c.if-is_named.false in (
      mode-refusal m s g c.args.text.now other ∙ ap (against_mode m s g) (sym c.mode_in-asked.ensures) ∙ option_map-none _ c.in-None.ensures,
      mode-accepted m s g c.args.text.now other ∙ ap (with_mode s g) (sym c.mode_in-asked.ensures),
    )
