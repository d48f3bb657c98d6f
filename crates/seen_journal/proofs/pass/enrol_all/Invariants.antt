use Rattle.std.proofs.Common.{◌≡◌, ℕ, ◌<◌, ◌≤◌, ◌-◌, length, slice_get, Some, vec_capacity}
use Rattle.seen_journal.specs.Passes.{new_pass}
use Rattle.seen_journal.proofs.pass.enrol_all.Given as goal

abbrev pub invariant-loop-seat : goal.invariant-loop-seat
invariant-loop-seat g l = record {
  table : l.seat.table_id ≡ l.initial.seat.table_id;
  me : l.seat.me ≡ (record l.initial.seat.me.0 { next = length l.passes.items }, l.initial.seat.me.1);
  room : l.count ≤ vec_capacity l.passes;
  most : length l.passes.items ≤ l.count;
  passes : (i : ℕ) → i < length l.passes.items → slice_get l.passes.items i ≡ Some (new_pass (record { table = l.initial.seat.table_id; quotas = l.initial.seat.me.0.quotas }) i);
}

abbrev pub decreases-loop-seat : goal.decreases-loop-seat
decreases-loop-seat g l = l.count - length l.passes.items
