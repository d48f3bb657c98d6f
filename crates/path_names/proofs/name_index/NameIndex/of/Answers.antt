use Rattle.path_names.specs.NameIndex.{number_at}
use Rattle.path_names.specs.NameList.{names_of}
use Rattle.path_names.proofs.NameTable.{AreNumbered-nil, AreNumbered-take}
use Rattle.path_names.proofs.name_index.NameIndex.of.Goals as goal

pub loop-number-init : goal.loop-number-init
loop-number-init c = AreNumbered-nil (number_at c.create-index.result) c.create-index.ensures

pub loop-number-preserved : goal.loop-number-preserved
loop-number-preserved c = AreNumbered-take (names_of c.args.list.now) c.loop-number.number (number_at c.loop-number.index) (number_at c.insert.new.self) c.get.result.now
    c.requires.apart c.get.ensures c.loop-number.invariant c.in_ok-insert.ensures.ok
