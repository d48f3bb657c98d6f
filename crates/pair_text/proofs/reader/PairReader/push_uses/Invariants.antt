use Rattle.std.proofs.Common.{◌≡◌, ◌++◌, map}
use Rattle.lackey_text.specs.Uses.{uses_left}
use Rattle.pair_text.proofs.AddedUses.{added}
use Rattle.pair_text.specs.PairLines.{use_in}
use Rattle.pair_text.specs.Readers.{IsSound, state_of}
use Rattle.pair_text.proofs.reader.PairReader.push_uses.Given as goal

abbrev pub invariant-loop-used : goal.invariant-loop-used
invariant-loop-used l = record {
  goes : (goal.iterator-loop-used).can_next l.used-iterator;
  ends : (goal.iterator-loop-used).is_finite l.used-iterator;
  taken : l.yielded ++ uses_left l.used-iterator ≡ uses_left l.fn.uses;
  so_far : state_of l.self ≡ added (state_of l.initial.self) (map (use_in l.task l.cpu) l.yielded);
  sound : IsSound (state_of l.self);
}
