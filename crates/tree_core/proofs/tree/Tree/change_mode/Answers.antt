use Rattle.std.proofs.Common.{ℕ, ◌*◌, List, length, Option, Ok, refl, sym, subst, ap, ◌∙◌}
use Rattle.rc_base.specs.declared.names.Mode.{Mode}
use Rattle.tree_core.proofs.Changes.{MakesUnless-made, MakesUnless-refused, MakesUnless-same}
use Rattle.tree_core.proofs.Setups.{gid-turning}
use Rattle.tree_core.proofs.AskedModes as asked
use Rattle.tree_core.specs.Modes.{AsksMode, Stays, TurnsTo}
use Rattle.tree_law.specs.Sound.{IsSound}
use Rattle.tree_law.specs.State.{State}
use Rattle.tree_core.proofs.tree.Tree.change_mode.Goals as goal

pub turn-requires-clause-not_default : goal.turn-requires-clause-not_default
turn-requires-clause-not_default c =
    let m = c.args.self.now.machine in let s = c.args.self.now.state in let g = c.args.group.now in
    let turns : TurnsTo m s g c.args.text.now c.in-Ok-Some.mode = subst (λ (o : Option Mode). AsksMode m s g c.args.text.now (Ok o)) c.in-Ok-Some.field-0-is c.in-Ok-Some.ensures in
    gid-turning m s g c.in-Ok-Some.mode turns.free

pub turn-requires-clause-apart : goal.turn-requires-clause-apart
turn-requires-clause-apart c =
    let m = c.args.self.now.machine in let s = c.args.self.now.state in let g = c.args.group.now in
    let turns : TurnsTo m s g c.args.text.now c.in-Ok-Some.mode = subst (λ (o : Option Mode). AsksMode m s g c.args.text.now (Ok o)) c.in-Ok-Some.field-0-is c.in-Ok-Some.ensures in
    asked.is_setup-apart m s g c.args.text.now c.in-Ok-Some.mode turns

pub turn-requires-clause-looks : goal.turn-requires-clause-looks
turn-requires-clause-looks c = λ none.
    let m = c.args.self.now.machine in let s = c.args.self.now.state in let g = c.args.group.now in
    let turns : TurnsTo m s g c.args.text.now c.in-Ok-Some.mode = subst (λ (o : Option Mode). AsksMode m s g c.args.text.now (Ok o)) c.in-Ok-Some.field-0-is c.in-Ok-Some.ensures in
    c.requires.looks (asked.refusal-turns m s g c.args.text.now c.in-Ok-Some.mode turns ∙ none) ∙ ap (λ (xs : List ℕ). length xs * m.domains) (asked.freed-turns m s g c.args.text.now c.in-Ok-Some.mode turns)

pub turn-requires-clause-sound : goal.turn-requires-clause-sound
turn-requires-clause-sound c = λ none.
    let m = c.args.self.now.machine in let s = c.args.self.now.state in let g = c.args.group.now in
    let turns : TurnsTo m s g c.args.text.now c.in-Ok-Some.mode = subst (λ (o : Option Mode). AsksMode m s g c.args.text.now (Ok o)) c.in-Ok-Some.field-0-is c.in-Ok-Some.ensures in
    subst (IsSound m) (asked.accepted-turns m s g c.args.text.now c.in-Ok-Some.mode turns c.args.looks.now) (c.requires.sound (asked.refusal-turns m s g c.args.text.now c.in-Ok-Some.mode turns ∙ none))

pub returns-in-Ok-Some : goal.returns-in-Ok-Some
returns-in-Ok-Some c =
    let m = c.args.self.now.machine in let s = c.args.self.now.state in let g = c.args.group.now in
    let turns : TurnsTo m s g c.args.text.now c.in-Ok-Some.mode = subst (λ (o : Option Mode). AsksMode m s g c.args.text.now (Ok o)) c.in-Ok-Some.field-0-is c.in-Ok-Some.ensures in
    MakesUnless-same (asked.refusal-turns m s g c.args.text.now c.in-Ok-Some.mode turns) (asked.accepted-turns m s g c.args.text.now c.in-Ok-Some.mode turns c.args.looks.now) (asked.after-turns m s g c.args.text.now c.in-Ok-Some.mode turns) c.turn.ensures

pub returns-in-Ok-None : goal.returns-in-Ok-None
returns-in-Ok-None c =
    let v = c.args.self.now in let m = v.machine in let s = v.state in let g = c.args.group.now in
    let stays : Stays g c.args.text.now = subst (λ (o : Option Mode). AsksMode m s g c.args.text.now (Ok o)) c.in-Ok-None.field-0-is c.in-Ok-None.ensures in
    MakesUnless-made (asked.refusal-stays m s g c.args.text.now stays) (ap (λ (x : State). record v { state = x }) (sym (asked.accepted-stays m s g c.args.text.now c.args.looks.now stays))) refl
    (c.requires.nothing ∙ sym (asked.after-stays m s g c.args.text.now stays))

pub returns-in-Err : goal.returns-in-Err
returns-in-Err c = MakesUnless-refused c.in-Err.ensures.reason c.in-Err.ensures.is refl c.in-Err.ensures.reply_is c.requires.nothing
