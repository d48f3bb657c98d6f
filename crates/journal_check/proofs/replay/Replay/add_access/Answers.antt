use Rattle.std.proofs.Common.{◌+◌, ◌%◌, ◌<◌, Some, length, subst}
use Rattle.journal_check.proofs.AddedEntries.{access-decides, access-floor, access-place, access-uses, access-way, count-small, left-some}
use Rattle.journal_check.proofs.StandingPlaces.{StandsFor-writes}
use Rattle.journal_check.specs.Replays.{IsRmidAfter, Writes}
use Rattle.journal_check.specs.Slots.{place_at}
use Rattle.journal_check.proofs.replay.Replay.add_access.Goals as goal

pub rmid_after-requires-clause-way : goal.rmid_after-requires-clause-way
rmid_after-requires-clause-way c = access-way c.args.self.now.slots.shape c.args.before.now c.args.entry c.args.self.now c.requires.stands c.requires.may c.args.outcome.hit c.args.outcome.way c.args.rmid c.args.outcome.line c.requires.what

pub write-requires-clause-way : goal.write-requires-clause-way
write-requires-clause-way c = access-way c.args.self.now.slots.shape c.args.before.now c.args.entry c.args.self.now c.requires.stands c.requires.may c.args.outcome.hit c.args.outcome.way c.args.rmid c.args.outcome.line c.requires.what

pub write-requires-clause-left : goal.write-requires-clause-left
write-requires-clause-left c =
    let r = c.args.self.now in
    let m = r.slots.shape in
    left-some m c.args.before.now c.args.entry r c.requires.stands c.set_of-set.result c.args.outcome.way c.set_of-set.ensures.within
    (access-way m c.args.before.now c.args.entry r c.requires.stands c.requires.may c.args.outcome.hit c.args.outcome.way c.args.rmid c.args.outcome.line c.requires.what)

pub write-requires-clause-came : goal.write-requires-clause-came
write-requires-clause-came c = count-small c.args.self.now.slots.shape c.args.before.now c.args.entry c.args.self.now c.requires.stands c.rmid_after.result c.rmid_after.type_inv

pub returns : goal.returns
returns c =
    let r = c.args.self.now in
    let m = r.slots.shape in
    let es = c.args.before.now in
    let e = c.args.entry in
    let set = c.args.outcome.line % m.sets in
    let place = Some (record { line = c.args.outcome.line; rmid = c.rmid_after.result; used = length es + 1 }) in
    let writes = subst (λ s. Writes r c.write.new.self s c.args.outcome.way place) c.set_of-set.ensures.set c.write.ensures in
    let inside : set < m.sets = subst (λ s. s < m.sets) c.set_of-set.ensures.set c.set_of-set.ensures.within in
    let after = subst (λ s. IsRmidAfter (place_at r.slots s c.args.outcome.way) c.args.outcome.hit c.args.rmid c.rmid_after.result) c.set_of-set.ensures.set c.rmid_after.ensures in
    StandsFor-writes m es e r c.write.new.self c.requires.stands set c.args.outcome.way place writes inside
    (access-way m es e r c.requires.stands c.requires.may c.args.outcome.hit c.args.outcome.way c.args.rmid c.args.outcome.line c.requires.what)
    (access-decides m es e r c.requires.stands c.requires.may c.args.outcome.hit c.args.outcome.way c.args.rmid c.args.outcome.line c.requires.what)
    (access-uses m es e r c.requires.stands c.requires.may c.args.outcome.hit c.args.outcome.way c.args.rmid c.args.outcome.line c.requires.what)
    (access-place m es e r c.requires.stands c.requires.may c.args.outcome.hit c.args.outcome.way c.args.rmid c.args.outcome.line c.requires.what c.rmid_after.result c.rmid_after.type_inv after inside)
    (access-floor m es e r c.requires.stands c.requires.may c.args.outcome.hit c.args.outcome.way c.args.rmid c.args.outcome.line c.requires.what)
