use Rattle.live_run.proofs.CachedTags.{given_cached}
use Rattle.live_run.proofs.cached_tag.tag_of.Goals as goal
use Rattle.rc_base.proofs.laws.Tags.{same_tag}
use Rattle.run_law.specs.Growth.{tag_of}

pub returns-in-Some : goal.returns-in-Some
returns-in-Some c = given_cached c.args.tree.now c.args.current.now c.args.task c.args.cpu c.in-Some.tag c.requires.current c.in-Some.ensures

pub returns-in-None : goal.returns-in-None
returns-in-None c =
    let t = c.args.tree.now in
    let told = c.resolve.ensures in
    record {
      is = same_tag c.resolve.result (tag_of t.machine t.state t.epoch c.args.task c.args.cpu) told.epoch told.owner told.class told.rmid told.mask told.domain;
      rmid = told.known;
      mask = told.valid;
    }
