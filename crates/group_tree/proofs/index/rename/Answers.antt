use Rattle.std.proofs.Common.{◌≡◌, HoldsAt, ap, ◌∙◌, sym, set, arith}
use Rattle.std.proofs.lemmas.List.{get_or-set_same, get_or_default}
use Rattle.group_tree.specs.Keys.{by_directory}
use Rattle.group_tree.specs.declared.group.Group.{Group}
use Rattle.group_tree.proofs.Indices.{IsIndex-set, IsIndexBut-set}
use Rattle.group_tree.proofs.Orders.{is_key-same}
use Rattle.group_tree.proofs.index.rename.Goals as goal

pub returns-then-is : goal.returns-then-is
returns-then-is c =
    let groups = c.args.groups.now in
    let place = c.args.place in
    let same : c.of_directory.result ≡ c.of_directory-key.result = is_key-same _ _ (sym c.is.ensures ∙ c.if-is.true) in
    let keeps : HoldsAt (λ (old : Group). by_directory old ≡ by_directory c.args.new.now) groups place
    = λ d. ap by_directory (get_or_default groups place d _ c.requires.within) ∙ sym c.of_directory.ensures ∙ same ∙ c.of_directory-key.ensures in
    IsIndex-set place by_directory groups c.args.entries.now.items c.args.new.now c.requires.within keeps c.requires.index

pub enter-requires : goal.enter-requires
enter-requires c =
    let groups = c.args.groups.now in
    let but = c.strike.ensures by_directory groups c.requires.index c.requires.within in
    omega (arith, but.size, c.requires.fits)

pub returns : goal.returns
returns c =
    let groups = c.args.groups.now in
    let new = c.args.new.now in
    let place = c.args.place in
    let but = c.strike.ensures by_directory groups c.requires.index c.requires.within in
    c.enter.ensures by_directory (set groups place new) (IsIndexBut-set place by_directory groups c.strike.new.entries.items new but) (λ d. ap by_directory (get_or-set_same groups place new d c.requires.within) ∙ sym c.of_directory-key.ensures)
