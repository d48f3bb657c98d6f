use Rattle.std.proofs.Common.{◌≡◌, ◌∙◌, refl, sym}
use Rattle.std.proofs.lemmas.Option.{get_or_from_slice_get}
use Rattle.pair_tree.proofs.Exchanges.{with_record-set}
use Rattle.pair_tree.proofs.Unless.{MakesUnless-accepted, MakesUnless-refused}
use Rattle.pair_tree.specs.Tables.{state_of}
use Rattle.pair_tree.proofs.tables.Tables.write_mode.Goals as goal

pub returns-in-Ok-Some : goal.returns-in-Ok-Some
returns-in-Ok-Some c g there =
    let s = state_of c.args.self.now in
    let is : c.index.result.now ≡ g = c.index.ensures ∙ get_or_from_slice_get c.args.self.now.groups.items c.args.place g c.index.result.now there in
    let own : c.index_mut-g.result.now ≡ g = c.index_mut-g.ensures.value ∙ get_or_from_slice_get c.args.self.now.groups.items c.args.place g c.index_mut-g.result.now there in
    let asked = rw (is, c.in-Ok-Some.field-0-is) at c.in-Ok-Some.ensures in
    MakesUnless-accepted _ _ _ _ asked.0 (rw own (with_record-set s (record g { mode = c.in-Ok-Some.mode }) g c.args.place c.requires.sound.named.gids there refl) ∙ sym asked.1)

pub returns-in-Ok-None : goal.returns-in-Ok-None
returns-in-Ok-None c g there =
    let is : c.index.result.now ≡ g = c.index.ensures ∙ get_or_from_slice_get c.args.self.now.groups.items c.args.place g c.index.result.now there in
    let asked = rw (is, c.in-Ok-None.field-0-is) at c.in-Ok-None.ensures in
    MakesUnless-accepted _ _ _ _ asked.0 (sym asked.1)

pub returns-in-Err : goal.returns-in-Err
returns-in-Err c g there =
    let is : c.index.result.now ≡ g = c.index.ensures ∙ get_or_from_slice_get c.args.self.now.groups.items c.args.place g c.index.result.now there in
    let r = rw is at c.in-Err.ensures in
    MakesUnless-refused _ _ _ r.0 _ r.1 r.2
