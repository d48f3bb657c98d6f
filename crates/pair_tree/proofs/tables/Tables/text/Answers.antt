use Rattle.std.proofs.Common.{◌≡◌, sym, ◌∙◌, arith}
use Rattle.std.proofs.lemmas.List.{append-nil}
use Rattle.std.proofs.lemmas.Option.{get_or_from_slice_get}
use Rattle.pair_law.specs.State.{PairGroup}
use Rattle.pair_tree.proofs.SideLines.{text_of-none, text_of-some}
use Rattle.pair_tree.specs.Tables.{state_of}
use Rattle.pair_tree.proofs.tables.Tables.text.Goals as goal

pub returns-in-Some-clause-bytes : goal.returns-in-Some-clause-bytes
returns-in-Some-clause-bytes c =
    let found = rw c.deref.ensures.value at c.in-Some.ensures in
    let g : PairGroup = found.0 in
    let is : c.index.result.now ≡ g = c.index.ensures ∙ get_or_from_slice_get c.args.self.now.groups.items c.in-Some.place g c.index.result.now found.1 in
    rw (text_of-some c.args.m.now (state_of c.args.self.now) c.args.file.now g found.2) (rw is at c.push_file.ensures.bytes)

pub returns-in-Some-clause-spare : goal.returns-in-Some-clause-spare
returns-in-Some-clause-spare c =
    let found = rw c.deref.ensures.value at c.in-Some.ensures in
    let g : PairGroup = found.0 in
    let is : c.index.result.now ≡ g = c.index.ensures ∙ get_or_from_slice_get c.args.self.now.groups.items c.in-Some.place g c.index.result.now found.1 in
    rw (text_of-some c.args.m.now (state_of c.args.self.now) c.args.file.now g found.2) (rw is at c.push_file.ensures.spare)

pub returns-in_default-clause-bytes : goal.returns-in_default-clause-bytes
returns-in_default-clause-bytes c =
    let none = rw c.deref.ensures.value at c.in_default.ensures in
    rw (text_of-none c.args.m.now (state_of c.args.self.now) c.args.file.now none) (sym (append-nil c.args.out.now.bytes))

pub returns-in_default-clause-spare : goal.returns-in_default-clause-spare
returns-in_default-clause-spare c =
    let none = rw c.deref.ensures.value at c.in_default.ensures in
    rw (text_of-none c.args.m.now (state_of c.args.self.now) c.args.file.now none) (omega arith)
