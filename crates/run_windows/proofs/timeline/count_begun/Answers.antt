use Rattle.std.proofs.Common.{leb, rules}
use Rattle.std.proofs.lemmas.Bool.{leb-false, leb-true}
use Rattle.std.proofs.lemmas.List.Sorted.{IsPartitionPoint-from_clause}
use Rattle.run_windows.specs.declared.changes.Past.{Past}
use Rattle.run_windows.proofs.Pasts.{IsPartitionedBy-begun}
use Rattle.run_windows.proofs.timeline.count_begun.Goals as goal

pub returns : goal.returns
returns c =
    let pasts = c.args.pasts.now in
    let parted = IsPartitionedBy-begun c.args.run.now.script.now c.args.run.now.journals.now pasts c.requires.changes c.args.epoch in
    let point = IsPartitionPoint-from_clause (λ (p : Past). leb p.from c.args.epoch) pasts c.partition_point.result c.partition_point.ensures.partitioned parted (λ a r q k. search rules) in
    record {
      begun = λ k d a b. leb-true _ _ (point.0 k d a b);
      rest = λ k d a b. leb-false _ _ (point.1 k d a b);
      within = c.partition_point.ensures.bound;
    }
