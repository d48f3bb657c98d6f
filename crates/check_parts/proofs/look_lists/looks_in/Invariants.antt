use Rattle.std.proofs.Common.{take}
use Rattle.check_parts.specs.NotedLooks.{AreNoted}
use Rattle.check_parts.proofs.look_lists.looks_in.Given as goal

abbrev pub invariant-loop-entry : goal.invariant-loop-entry
invariant-loop-entry l = AreNoted l.script (take l.entry-index l.entries) l.looks.items l.noted
