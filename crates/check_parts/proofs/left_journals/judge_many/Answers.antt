use Rattle.std.proofs.Common.{Global, Vec, List, map, subst}
use Rattle.cache_core.specs.declared.entry.SliceEntry.{SliceEntry}
use Rattle.check_parts.proofs.KeptParts.{IfOk-map}
use Rattle.check_parts.proofs.LeftParts.{HasMoreEntries-left}
use Rattle.check_parts.specs.CrowdedSlices.{HasMoreEntries}
use Rattle.check_parts.specs.LeftJournals.{kept_in}
use Rattle.run_law.specs.Entries.{entries_of}
use Rattle.check_parts.proofs.left_journals.judge_many.Goals as goal

pub returns-then-len-from : goal.returns-then-len-from
returns-then-len-from c =
    let script = c.args.weighed.now.script.now in
    let old = c.args.left in
    let many : HasMoreEntries script (map entries_of old.slices.items) =
    subst (λ (slices : List (Vec SliceEntry Global)). HasMoreEntries script (map entries_of slices)) c.deref.ensures.value (c.have_more_entries.ensures c.if-not-have_more_entries.false) in
    IfOk-map c.judge.result
    (λ new told parts left. told parts left (HasMoreEntries-left script (kept_in old) parts old.judged left many))
    c.judge.ensures
