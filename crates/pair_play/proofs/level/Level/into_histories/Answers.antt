use Rattle.std.proofs.Common.{map, subst}
use Rattle.std.specs.List.{All}
use Rattle.std.proofs.lemmas.Result.{IfOk-weaker}
use Rattle.cache_core.specs.History.{IsLegal, shape_of}
use Rattle.pair_play.proofs.Added.{IsLegal-AreTaken}
use Rattle.pair_play.proofs.level.Level.into_histories.Goals as goal
use Rattle.pair_play.specs.Histories.{AreTaken, LevelValue}
use Rattle.run_law.specs.Entries.{entries_of}

pub returns-clause-legal : goal.returns-clause-legal
returns-clause-legal c =
    let caches = c.self.inside.caches.items in
    let shape = shape_of c.args.self.parameters 0 in
    IfOk-weaker c.take_histories.result (λ all. AreTaken caches (map entries_of all.items)) (λ all. All (IsLegal shape) c.args.self.histories)
    (λ all taken. subst (λ (l : LevelValue). All (IsLegal (shape_of l.parameters 0)) l.histories) c.self.view_is
    (IsLegal-AreTaken _ caches (map entries_of all.items) taken c.self.invariant.1)) c.take_histories.ensures
