use Rattle.std.proofs.Common.{◌≡◌, Ok, Err, refl, sym, subst, ap, ◌∙◌}
use Rattle.rc_base.specs.declared.replies.Why.TheVariants.{GroupLocked}
use Rattle.tree_core.proofs.Changes.{MakesUnless-refused, MakesUnless-same}
use Rattle.tree_core.proofs.WrittenMasks.{accepted-Ok, after-Ok, refusal-locked, refusal-unlocked}
use Rattle.tree_core.specs.Values.{TreeValue}
use Rattle.tree_law.specs.Refusals.{plain}
use Rattle.tree_law.specs.Sound.{IsSound}
use Rattle.tree_law.specs.commands.Schemata as schemata
use Rattle.tree_law.specs.commands.Schemata.{schemata_read}
use Rattle.tree_core.proofs.tree.Tree.change_masks.Goals as goal

pub returns-then-is_locked : goal.returns-then-is_locked
returns-then-is_locked c =
    let m = c.args.self.now.machine in let s = c.args.self.now.state in let g = c.args.group.now in
    MakesUnless-refused (plain GroupLocked) (refusal-locked m s g (schemata_read m c.args.text.now) (sym c.is_locked.ensures ∙ c.if-is_locked.true)) refl c.refused.ensures c.requires.nothing

pub take_masks-requires-clause-sound : goal.take_masks-requires-clause-sound
take_masks-requires-clause-sound c = λ none.
    let m = c.args.self.now.machine in let s = c.args.self.now.state in let g = c.args.group.now in
    let read : schemata_read m c.args.text.now ≡ Ok c.as_slice.result.now = ap (λ (v : TreeValue). schemata_read v.machine c.args.text.now) (sym c.self.view_is) ∙ c.in-Ok.ensures.exact ∙ ap Ok (sym c.as_slice.ensures.value) in
    let against = refusal-unlocked m s g (schemata_read m c.args.text.now) (sym c.is_locked.ensures ∙ c.if-is_locked.false) ∙ ap (schemata.against_read m s g) read in
    subst (IsSound m) (ap (schemata.accepted s g) read ∙ accepted-Ok s g c.as_slice.result.now) (c.requires.sound (against ∙ none))

pub returns-in-Ok : goal.returns-in-Ok
returns-in-Ok c =
    let m = c.args.self.now.machine in let s = c.args.self.now.state in let g = c.args.group.now in
    let read : schemata_read m c.args.text.now ≡ Ok c.as_slice.result.now = ap (λ (v : TreeValue). schemata_read v.machine c.args.text.now) (sym c.self.view_is) ∙ c.in-Ok.ensures.exact ∙ ap Ok (sym c.as_slice.ensures.value) in
    let against = refusal-unlocked m s g (schemata_read m c.args.text.now) (sym c.is_locked.ensures ∙ c.if-is_locked.false) ∙ ap (schemata.against_read m s g) read in
    MakesUnless-same against (ap (schemata.accepted s g) read ∙ accepted-Ok s g c.as_slice.result.now) (ap (schemata.after m s g) read ∙ after-Ok m s g c.as_slice.result.now) c.take_masks.ensures

pub returns-in-Err : goal.returns-in-Err
returns-in-Err c =
    let m = c.args.self.now.machine in let s = c.args.self.now.state in let g = c.args.group.now in
    let read : schemata_read m c.args.text.now ≡ Err c.in-Err.fault = ap (λ (v : TreeValue). schemata_read v.machine c.args.text.now) (sym c.self.view_is) ∙ c.in-Err.ensures.exact in
    let against = refusal-unlocked m s g (schemata_read m c.args.text.now) (sym c.is_locked.ensures ∙ c.if-is_locked.false) ∙ ap (schemata.against_read m s g) read in
    MakesUnless-refused (schemata.text_refusal c.in-Err.fault) against refl c.text_refusal.ensures c.requires.nothing
