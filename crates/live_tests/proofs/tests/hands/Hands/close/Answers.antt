use Rattle.std.proofs.Common.{◌≡◌, ◌∷◌, [], ◌++◌, ◌∙◌, List, ap, subst, sym}
use Rattle.live_run.specs.Names.{PassesValue}
use Rattle.live_run.specs.Sharing.{IsAtPhase}
use Rattle.live_tests.proofs.Threads.{AreBefore-made}
use Rattle.live_tests.proofs.tests.hands.Hands.close.Goals as goal

pub close-journals-requires-clause-before : goal.close-journals-requires-clause-before
close-journals-requires-clause-before g c =
    let add = λ (p : PassesValue) (ps : List PassesValue). ps ++ p ∷ [] in
    let self = c.end_others.new.self in
    let same = c.end_others.ensures in
    let one : c.push_reserved.new.self.items ≡ self.first ∷ [] = c.push_reserved.ensures.items ∙ ap (add self.first) c.requires.empty in
    let two : c.push_reserved-2.new.self.items ≡ self.first ∷ self.second ∷ [] = c.push_reserved-2.ensures.items ∙ ap (add self.second) one in
    let three : c.push_reserved-3.new.self.items ≡ self.first ∷ self.second ∷ self.third ∷ [] = c.push_reserved-3.ensures.items ∙ ap (add self.third) two in
    AreBefore-made g.N.RunNames.script _ _ c.requires.turns g.T.NamedTable.table c.args.self.turn c.push_reserved-3.new.self.items c.args.self.first c.args.self.second c.args.self.third self.first self.second self.third same.first same.second same.third three c.requires.made

pub close-journals-requires-clause-turn : goal.close-journals-requires-clause-turn
close-journals-requires-clause-turn g c = subst (λ n. IsAtPhase g.N.RunNames.script g.T.NamedTable.table n c.end_others.new.self.turn) (sym c.requires.turns.phases) c.end_others.ensures.turn
