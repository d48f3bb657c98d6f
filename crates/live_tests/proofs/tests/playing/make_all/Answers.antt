use Rattle.std.proofs.Common.{◌∙◌, subst, sym}
use Rattle.live_run.specs.Openings.{IsFirst}
use Rattle.live_run.specs.Sharing.{IsAtPhase}
use Rattle.live_tests.proofs.Outcomes.{OnOk-anyway}
use Rattle.live_tests.proofs.Threads.{HaveMade-same}
use Rattle.live_tests.proofs.tests.playing.make_all.Goals as goal

pub make_first-requires-clause-turn : goal.make_first-requires-clause-turn
make_first-requires-clause-turn g c = subst (IsAtPhase g.N.RunNames.script g.T.NamedTable.table 0) (sym c.look.ensures.turn) c.requires.at_first.turn_is

pub make_first-requires-clause-first : goal.make_first-requires-clause-first
make_first-requires-clause-first g c = subst (IsFirst 0) (sym c.look.ensures.first) c.requires.at_first.first_is

pub hand_on-requires-clause-turn : goal.hand_on-requires-clause-turn
hand_on-requires-clause-turn g c = subst (IsAtPhase g.N.RunNames.script g.T.NamedTable.table 0) (sym (c.make_first.ensures.turn ∙ c.look.ensures.turn)) c.requires.at_first.turn_is

pub hand_on-requires-clause-second : goal.hand_on-requires-clause-second
hand_on-requires-clause-second g c = subst (IsFirst 1) (sym (c.make_first.ensures.second ∙ c.look.ensures.second)) c.requires.at_first.second_is

pub hand_on-requires-clause-third : goal.hand_on-requires-clause-third
hand_on-requires-clause-third g c = subst (IsFirst 2) (sym (c.make_first.ensures.third ∙ c.look.ensures.third)) c.requires.at_first.third_is

pub take_turns-requires-clause-made : goal.take_turns-requires-clause-made
take_turns-requires-clause-made g c = HaveMade-same _ _ _ _ _ _ _ _ _ _ _ _ c.look-2.ensures.turn c.look-2.ensures.first c.look-2.ensures.second c.look-2.ensures.third c.hand_on.ensures

pub returns : goal.returns
returns g c = OnOk-anyway _ (HaveMade-same _ _ _ _ _ _ _ _ _ _ _ _ c.look-3.ensures.turn c.look-3.ensures.first c.look-3.ensures.second c.look-3.ensures.third c.in_ok-take_turns.ensures)
