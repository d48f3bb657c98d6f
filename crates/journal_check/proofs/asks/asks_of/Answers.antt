use Rattle.std.proofs.Common.{rules}
use Rattle.std.proofs.lemmas.List.Sorted.{All-permutation, Contains-permutation, IsNonDecreasingBy-from_sort_by_key}
use Rattle.journal_check.specs.Asks.{IsAskOf, epoch_of}
use Rattle.journal_check.proofs.asks.asks_of.Goals as goal

pub returns-clause-asks : goal.returns-clause-asks
returns-clause-asks c =
    let old = c.in_ok-asks.ensures in
    let moved = c.sort_by_key.ensures.permutation in
    record {
      each = All-permutation (IsAskOf c.args.script.now c.args.j.now) _ _ moved old.each;
      every = λ a p e seen at asked. Contains-permutation _ _ _ moved (old.every a p e seen at asked);
    }

pub returns-clause-sorted : goal.returns-clause-sorted
returns-clause-sorted c = IsNonDecreasingBy-from_sort_by_key epoch_of _ c.in_ok-sort_by_key.ensures.sorted (λ a r q k. search rules)
