use Rattle.std.proofs.Common.{refl, take}
use Rattle.run_counts.proofs.CountedAccesses.{counted_all-take}
use Rattle.cache_core.specs.Whats.{is_access, is_access_of}
use Rattle.run_counts.specs.Tallies.{all_with, at_with}
use Rattle.run_counts.proofs.walk.Walk.take_slice.Goals as goal

pub returns-clause-groups : goal.returns-clause-groups
returns-clause-groups c = λ gid.
    let es = c.args.entries.now in
    let old = c.args.self.now.tally in
    let mid = c.settle.new.self.tally in
    let new = c.take_all.new.self in
    counted_all-take (is_access_of gid) (at_with old.tally old.streak gid) (at_with mid.tally mid.streak gid) (at_with new.tally new.streak gid) es (take c.in_ok-left.left es) c.in_ok-left.left refl
    (c.in_ok-left.ensures.groups gid) (c.in_ok-take_all.ensures.groups gid)

pub returns-clause-all : goal.returns-clause-all
returns-clause-all c =
    let es = c.args.entries.now in
    let old = c.args.self.now.tally in
    let mid = c.settle.new.self.tally in
    let new = c.take_all.new.self in
    counted_all-take is_access (all_with old.tally old.streak) (all_with mid.tally mid.streak) (all_with new.tally new.streak) es (take c.in_ok-left.left es) c.in_ok-left.left refl
    c.in_ok-left.ensures.all c.in_ok-take_all.ensures.all
