use Rattle.std.proofs.Common.{ap, length, sym, ◌∙◌, ◌≤◌, subst}
use Rattle.live_law.specs.Stages.{HoldsTag}
use Rattle.live_run.proofs.Recalls.{HasTaken-self, before_same}
use Rattle.live_run.proofs.live.Live.learn.Goals as goal
use Rattle.live_run.specs.CachedTags.{HoldsCached}
use Rattle.live_run.specs.Names.{SeenValue, seen_by}
use Rattle.live_run.specs.Sharing.{noted_tag}
use Rattle.live_run.specs.Steps.{HasTaken}
use Rattle.schedule_law.specs.LiveParts.{after}
use Rattle.schedule_law.specs.declared.part.Happening.TheVariants as happenings
use Rattle.shared_parts.specs.Parts.{parts_after}

-- it asks the tree, as it was before
pub tag-requires-clause-worker : goal.tag-requires-clause-worker
tag-requires-clause-worker g c =
    before_same g.N.RunNames.script g.T.NamedTable.table c.args.task c.args.cpu c.args.side.now.seen c.recall.new.self.seen c.args.side.now.share c.recall.new.self.share c.in-None.ensures.seen c.in-None.ensures.none.0 c.in-None.ensures.none.1 c.requires.worker

pub tag-requires-clause-cached : goal.tag-requires-clause-cached
tag-requires-clause-cached g c =
    subst (HoldsCached g.N.RunNames.script c.recall.new.self.seen) (sym c.in-None.ensures.cached) (subst (λ (v : SeenValue). HoldsCached g.N.RunNames.script v c.args.side.now.cached) (sym c.in-None.ensures.seen) c.requires.cached)

pub returns-in-None-clause-taken : goal.returns-in-None-clause-taken
returns-in-None-clause-taken g c = subst (λ (v : SeenValue). HasTaken v c.tag.new.side.seen) c.in-None.ensures.seen c.tag.ensures.taken

pub returns-in-None-clause-fresh : goal.returns-in-None-clause-fresh
returns-in-None-clause-fresh g c = subst (λ (v : SeenValue). length v.tree.seen ≤ c.tag.result.epoch) c.in-None.ensures.seen c.tag.ensures.fresh

pub returns-in-None-clause-worker : goal.returns-in-None-clause-worker
returns-in-None-clause-worker g c = (
  c.tag.ensures.worker.0 ∙ c.in-None.ensures.none.0,
  c.tag.ensures.worker.1 ∙ ap (parts_after after (happenings.Label (noted_tag c.args.task c.args.cpu c.tag.result))) c.in-None.ensures.none.1,
)

-- or it has learned its tag again
pub returns-in-Some-clause-cached_now : goal.returns-in-Some-clause-cached_now
returns-in-Some-clause-cached_now g c =
    subst (HoldsCached g.N.RunNames.script c.recall.new.self.seen) (sym c.in-Some.ensures.cached) (subst (λ (v : SeenValue). HoldsCached g.N.RunNames.script v c.args.side.now.cached) (sym c.in-Some.ensures.seen) c.requires.cached)

pub returns-in-Some-clause-noted_now : goal.returns-in-Some-clause-noted_now
returns-in-Some-clause-noted_now g c = c.in-Some.ensures.noted

pub returns-in-Some-clause-taken : goal.returns-in-Some-clause-taken
returns-in-Some-clause-taken g c = HasTaken-self c.args.side.now.seen c.recall.new.self.seen c.in-Some.ensures.seen

pub returns-in-Some-clause-tag : goal.returns-in-Some-clause-tag
returns-in-Some-clause-tag g c = subst (λ (v : SeenValue). HoldsTag g.N.RunNames.script (seen_by v) c.args.task c.args.cpu c.in-Some.tag) (sym c.in-Some.ensures.seen) c.in-Some.ensures.tag.holds

pub returns-in-Some-clause-fresh : goal.returns-in-Some-clause-fresh
returns-in-Some-clause-fresh g c = c.in-Some.ensures.tag.fresh

pub returns-in-Some-clause-most : goal.returns-in-Some-clause-most
returns-in-Some-clause-most g c = c.in-Some.ensures.tag.most

pub returns-in-Some-clause-known : goal.returns-in-Some-clause-known
returns-in-Some-clause-known g c = c.in-Some.ensures.tag.known

pub returns-in-Some-clause-valid : goal.returns-in-Some-clause-valid
returns-in-Some-clause-valid g c = c.in-Some.ensures.tag.valid

pub returns-in-Some-clause-worker : goal.returns-in-Some-clause-worker
returns-in-Some-clause-worker g c = c.in-Some.ensures.worker
