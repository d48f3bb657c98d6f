use Rattle.std.proofs.Common.{◌≡◌, drop}
use Rattle.path_names.specs.PathTable.{entry_among, fixed_in}
use Rattle.path_names.proofs.entries.fixed_entry.Given as goal

abbrev pub invariant-loop-fixed : goal.invariant-loop-fixed
invariant-loop-fixed l = entry_among l.dir l.name (drop l.fixed-index l.fixed-items) ≡ entry_among l.dir l.name (fixed_in l.dir)
