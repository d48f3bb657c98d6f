use Rattle.std.proofs.Common.{◌≡◌, ap, sym, ◌∙◌, subst}
use Rattle.seen_journal.specs.Exchanged.{Gains}
use Rattle.seen_journal.specs.Kinds.{rested, told, note_of}
use Rattle.seen_journal.proofs.Grants.{wanting, grown, IsJournal-claimed, Gains-granted}
use Rattle.seen_journal.proofs.exchanges.append_seats.Goals as goal

pub returns-clause-pass : goal.returns-clause-pass
returns-clause-pass g c =
    let p = c.args.pass.now.me.0 in
    let j = c.args.journal.now.me.0 in
    let e = c.args.entry.now in
    let q = c.inform.new.to.me.0 in
    let asked : c.ask.new.seat.me.0 ≡ wanting p e = ap (λ m. m.0) c.ask.ensures.view in
    let from : c.inform.new.from.me.0 ≡ wanting p e = ap (λ m. m.0) c.inform.ensures.from.2 ∙ asked in
    let claim : q ≡ rested (told j (note_of (wanting p e))) = ap (λ m. m.0) c.inform.ensures.view ∙ ap (λ v. rested (told j (note_of v))) asked in
    let added : c.add.new.seat.me.0 ≡ grown q e = ap (λ m. m.0) c.add.ensures.view in
    let last : c.inform-2.new.to.me.0 ≡ rested (told (wanting p e) (note_of (grown q e))) =
    ap (λ m. m.0) c.inform-2.ensures.view ∙ (ap (λ v. rested (told v (note_of c.add.new.seat.me.0))) from ∙ ap (λ v. rested (told (wanting p e) (note_of v))) added) in
    let is = IsJournal-claimed p j e c.requires.kept.0 c.requires.kept.1 c.requires.seen q claim in
    let journal : c.inform-2.new.from.me.0 ≡ grown q e = ap (λ m. m.0) c.inform-2.ensures.from.2 ∙ added in
    subst (λ l. Gains p c.inform-2.new.to.me.0 l e) (sym (ap (λ v. v.seen) journal)) (Gains-granted p j q e c.requires.kept.1 c.requires.quota c.requires.seen is.2 is.1 c.inform-2.new.to.me.0 last)
