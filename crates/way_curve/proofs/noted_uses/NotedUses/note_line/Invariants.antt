use Rattle.lackey_text.specs.Uses.{uses_left, uses_of}
use Rattle.way_curve.specs.Noted.{NotedUses, NoteUses}
use Rattle.way_curve.specs.Samples.{sampled}
use Rattle.way_curve.proofs.noted_uses.NotedUses.note_line.Given as goal

abbrev pub invariant-loop-used : goal.invariant-loop-used
invariant-loop-used l = record {
  next : (goal.iterator-loop-used).can_next l.used-iterator;
  finite : (goal.iterator-loop-used).is_finite l.used-iterator;
  noted : (now : NotedUses) → NoteUses l.self now (sampled l.one_of (uses_left l.used-iterator)) → NoteUses l.initial.self now (sampled l.one_of (uses_of l.said));
}
