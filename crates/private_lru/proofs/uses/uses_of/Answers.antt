use Rattle.std.proofs.Common.{rules}
use Rattle.std.proofs.lemmas.List.Sorted.{IsNonDecreasingBy-from_sort_by_key, answers_always}
use Rattle.std.proofs.lemmas.Option.{slice_get_within}
use Rattle.private_lru.proofs.UseLists.{AreUses-sorted}
use Rattle.private_lru.specs.Uses.{line_of}
use Rattle.private_lru.proofs.uses.uses_of.Goals as goal

pub returns : goal.returns
returns c =
    let entries = c.args.entries.now in
    AreUses-sorted entries _ _ c.in_ok-uses.ensures c.sort_by_key.ensures.permutation (IsNonDecreasingBy-from_sort_by_key line_of _ c.in_ok-sort_by_key.ensures.sorted (λ a r q k. search rules))
    (c.sort_by_key.ensures.stable line_of (answers_always _ _ _ (λ f a r g h. search rules))) (λ q e at. slice_get_within entries q e at)
