use Rattle.std.proofs.Common.{◌≡◌, ◌+◌, ◌<◌, ◌^◌, All, Some, length}
use Rattle.lackey_text.specs.Uses.{uses_left, uses_of}
use Rattle.lackey_text.specs.declared.uses.LineUse.{LineUse}
use Rattle.share_plans.specs.Played.{PlayUses, PlayedValue}
use Rattle.share_plans.specs.Streams.{uses_by}
use Rattle.share_plans.proofs.played.Played.note_uses.Given as goal

abbrev pub invariant-loop-used : goal.invariant-loop-used
invariant-loop-used l = record {
  next : (goal.iterator-loop-used).can_next l.used-iterator;
  finite : (goal.iterator-loop-used).is_finite l.used-iterator;
  programs : length l.self.programs ≡ length l.initial.self.programs;
  near : All (λ (u : LineUse). u.line < 2 ^ 42) (uses_left l.used-iterator);
  count : l.self.shared.uses + length (uses_left l.used-iterator) ≡ l.initial.self.shared.uses + length (uses_of l.said);
  played : (now : PlayedValue) → PlayUses l.self now (uses_by (Some l.program) (uses_left l.used-iterator)) → PlayUses l.initial.self now (uses_by (Some l.program) (uses_of l.said));
}
