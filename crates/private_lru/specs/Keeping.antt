-- Spans while they are taken from epoch to epoch.
-- (For functions and proofs: no promise of the program stands on it.)
use Rattle.std.specs.Prelude.{ℕ, ◌+◌, Bool, ◌==◌, ◌&&◌, if◌then◌else◌}
use Rattle.private_lru.specs.Spans.{last_within}
use Rattle.private_lru.specs.declared.span.Span.{Span}

module _ {H : Type 0} where
  -- something that is held up to an epoch
  abbrev pub span_to : ℕ → H → Span H
  span_to last held = record { held = held; last = last }

  -- something of an epoch, with the last epoch, of so many more, up to which it is held, by a test of it and of an epoch
  abbrev pub span_of : (H → ℕ → Bool) → ℕ → ℕ → H → Span H
  span_of holds epoch more held = span_to (last_within (holds held) epoch more) held

  -- a span one epoch after this one, in whose state it goes on or not
  abbrev pub span_on : (H → Bool) → ℕ → Span H → Span H
  span_on holds epoch s = if (s.last == epoch) && holds s.held then span_to (epoch + 1) s.held else s
