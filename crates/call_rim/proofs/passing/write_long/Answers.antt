use Rattle.std.proofs.Common.{ℕ, List, subst}
use Rattle.std.specs.Io.KnownBytes.{Appends}
use Rattle.call_rim.proofs.Passed.{Moves-all, Moves-none}
use Rattle.call_rim.proofs.passing.write_long.Goals as goal

pub returns-then-bytes-lt-PIECE-clause-moves : goal.returns-then-bytes-lt-PIECE-clause-moves
returns-then-bytes-lt-PIECE-clause-moves g c = Moves-none _ _

pub returns-in-Ok-clause-moves : goal.returns-in-Ok-clause-moves
returns-in-Ok-clause-moves g c =
    let old = g.K.Sink.taken c.args.sink.now in
    let new = g.K.Sink.taken c.write_all.new.sink in
    Moves-all old new c.args.out.now.bytes c.clear.new.self.bytes c.clear.ensures.bytes (subst (λ (text : List ℕ). Appends old new text) c.bytes-2.ensures c.in-Ok.ensures.ok.taken)
