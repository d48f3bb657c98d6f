use Rattle.std.proofs.Common.{◌≡◌, ℕ, ◌+◌, ◌<◌, ◌≤◌, slice_index}
use Rattle.run_law.proofs.rooms.add_to_each.Given as goal

abbrev pub invariant-loop-i : goal.invariant-loop-i
invariant-loop-i l = record {
  done : (k : ℕ) → k < l.i → slice_index l.rooms k ≡ slice_index l.initial.rooms k + l.quota;
  rest : (k : ℕ) → l.i ≤ k → slice_index l.rooms k ≡ slice_index l.initial.rooms k;
}
