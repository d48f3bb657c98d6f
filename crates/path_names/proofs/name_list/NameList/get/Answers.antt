use Rattle.std.proofs.Common.{◌<◌, length, arith}
use Rattle.path_names.proofs.NameTexts.{length-names_from, slice_get-names_from}
use Rattle.path_names.proofs.name_list.NameList.get.Goals as goal

pub bounds-start-requires : goal.bounds-start-requires
bounds-start-requires c = omega (arith, c.args.self.now.ends.ok.0, length-names_from 0 c.args.self.now.bytes.items c.args.self.now.ends.items)

pub returns : goal.returns
returns c =
    let inside : c.args.place < length c.args.self.now.ends.items = omega (arith, length-names_from 0 c.args.self.now.bytes.items c.args.self.now.ends.items) in
    rw (c.deref.ensures.value, c.bounds-start.ensures.start, c.bounds-start.ensures.end) (slice_get-names_from 0 c.args.self.now.bytes.items c.args.self.now.ends.items c.args.place inside)
