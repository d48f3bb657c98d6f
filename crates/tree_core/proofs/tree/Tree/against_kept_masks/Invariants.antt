use Rattle.std.proofs.Common.{◌≡◌, drop}
use Rattle.std.specs.List.{range_with_len}
use Rattle.tree_law.specs.commands.Mode.{against_masks}
use Rattle.tree_core.proofs.tree.Tree.against_kept_masks.Given as goal

abbrev pub invariant-loop-domain : goal.invariant-loop-domain
invariant-loop-domain l = against_masks l.self.machine l.self.state l.group (drop l.domain (range_with_len 0 l.self.machine.domains)) ≡ against_masks l.self.machine l.self.state l.group (range_with_len 0 l.self.machine.domains)
