use Rattle.std.proofs.Common.{rules}
use Rattle.std.proofs.lemmas.List.Sorted.{answers_always}
use Rattle.task_binding.proofs.GroupCounts.{searched}
use Rattle.task_binding.proofs.counts.search.Goals as goal

-- the closure gives an entry's group
pub returns : goal.returns
returns c =
    let facts = c.binary_search_by_key.ensures in
    let by_group = facts.position (λ entry. entry.group.0) (answers_always _ _ _ (λ f a r g called. search rules)) in
    searched _ c.requires c.args.group _ facts.bound by_group
