use Rattle.std.proofs.Common.{◌≡◌, ap, ◌∙◌}
use Rattle.std.proofs.lemmas.Option.{get_or_from_slice_get}
use Rattle.pair_law.specs.commands.Schemata as schemata
use Rattle.pair_law.specs.commands.Schemata.{with_masks}
use Rattle.pair_tree.proofs.Exchanges.{with_masks-gid, with_record-set}
use Rattle.pair_tree.proofs.Unless.{MakesUnless-accepted, MakesUnless-refused, option_map-none, option_map-refused}
use Rattle.pair_tree.specs.Tables.{state_of}
use Rattle.pair_tree.proofs.tables.Tables.take_masks.Goals as goal

pub returns-in-Some : goal.returns-in-Some
unfolding schemata.refusal
returns-in-Some c g there =
    let is : c.index.result.now ≡ g = c.index.ensures ∙ get_or_from_slice_get c.args.self.now.groups.items c.args.place g c.index.result.now there in
    let r = option_map-refused _ _ (rw is at c.in-Some.ensures) in
    MakesUnless-refused _ _ _ r.0 _ r.1 r.2

pub returns : goal.returns
unfolding schemata.refusal schemata.accepted
returns c g there =
    let s = state_of c.args.self.now in
    let is : c.index.result.now ≡ g = c.index.ensures ∙ get_or_from_slice_get c.args.self.now.groups.items c.args.place g c.index.result.now there in
    let own : c.index_mut.result.now ≡ g = c.index_mut.ensures.value ∙ get_or_from_slice_get c.args.self.now.groups.items c.args.place g c.index_mut.result.now there in
    let new : c.set_all.new.g ≡ with_masks g c.args.all.now = c.set_all.ensures ∙ ap (λ x. with_masks x c.args.all.now) own in
    MakesUnless-accepted _ _ _ _ (option_map-none _ (rw is at c.in_default.ensures)) (rw new (with_record-set s (with_masks g c.args.all.now) g c.args.place c.requires.sound.named.gids there (with_masks-gid g c.args.all.now)))
