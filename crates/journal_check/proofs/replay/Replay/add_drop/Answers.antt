use Rattle.std.proofs.Common.{◌%◌, ◌<◌, None, subst}
use Rattle.journal_check.proofs.AddedEntries.{drop-decides, drop-floor, drop-place, drop-uses, drop-way, left-some}
use Rattle.journal_check.proofs.StandingPlaces.{StandsFor-writes}
use Rattle.journal_check.specs.Replays.{Writes}
use Rattle.journal_check.proofs.replay.Replay.add_drop.Goals as goal

pub write-requires-clause-way : goal.write-requires-clause-way
write-requires-clause-way c = drop-way c.args.self.now.slots.shape c.args.before.now c.args.entry c.args.self.now c.requires.stands c.requires.may c.args.line c.args.way c.requires.what

pub write-requires-clause-left : goal.write-requires-clause-left
write-requires-clause-left c =
    let r = c.args.self.now in
    let m = r.slots.shape in
    let es = c.args.before.now in
    let e = c.args.entry in
    left-some m es e r c.requires.stands c.set_of-set.result c.args.way c.set_of-set.ensures.within (drop-way m es e r c.requires.stands c.requires.may c.args.line c.args.way c.requires.what)

pub returns : goal.returns
returns c =
    let r = c.args.self.now in
    let m = r.slots.shape in
    let es = c.args.before.now in
    let e = c.args.entry in
    let set = c.args.line % m.sets in
    let writes = subst (λ s. Writes r c.write.new.self s c.args.way None) c.set_of-set.ensures.set c.write.ensures in
    let inside : set < m.sets = subst (λ s. s < m.sets) c.set_of-set.ensures.set c.set_of-set.ensures.within in
    StandsFor-writes m es e r c.write.new.self c.requires.stands set c.args.way None writes inside (drop-way m es e r c.requires.stands c.requires.may c.args.line c.args.way c.requires.what)
    (drop-decides m es e r c.requires.stands c.requires.may c.args.line c.args.way c.requires.what) (λ s w apart. drop-uses m es e r c.requires.stands c.requires.may c.args.line c.args.way c.requires.what s w)
    (drop-place m es e r c.requires.stands c.requires.may c.args.line c.args.way c.requires.what) (drop-floor m es e r c.requires.stands c.requires.may c.args.line c.args.way c.requires.what)
