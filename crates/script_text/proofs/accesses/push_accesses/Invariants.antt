use Rattle.std.proofs.Common.{◌≡◌, ◌++◌, map}
use Rattle.std.specs.List.{range_with_len}
use Rattle.script_text.specs.Meaning.{access_at}
use Rattle.script_text.proofs.accesses.push_accesses.Given as goal

abbrev pub invariant-loop-i : goal.invariant-loop-i
invariant-loop-i l = l.ops ≡ l.fn.ops ++ map (access_at l.task l.sweep) (range_with_len 0 l.i)
