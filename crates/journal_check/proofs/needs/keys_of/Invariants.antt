use Rattle.std.proofs.Common.{◌≡◌, map, take}
use Rattle.journal_check.specs.Needs.{key_of}
use Rattle.journal_check.proofs.needs.keys_of.Given as goal

abbrev pub invariant-loop-i : goal.invariant-loop-i
invariant-loop-i l = l.keys.items ≡ map key_of (take l.i l.pairs)
