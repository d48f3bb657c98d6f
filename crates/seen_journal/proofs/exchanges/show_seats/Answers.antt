use Rattle.std.proofs.Common.{◌≡◌, ap, ◌∙◌, subst}
use Rattle.seen_journal.specs.Kinds.{rested, told, note_of, Learns}
use Rattle.seen_journal.proofs.Meetings.{Sees-shown, length-room}
use Rattle.seen_journal.proofs.exchanges.show_seats.Goals as goal

pub returns-clause-views : goal.returns-clause-views
returns-clause-views g c =
    let p = c.args.pass.now.me.0 in
    let j = c.args.journal.now.me.0 in
    let told_by : c.inform.new.to.me.0 ≡ rested (told j (note_of p)) = ap (λ m. m.0) c.inform.ensures.view in
    let same : c.inform.new.from.me.0 ≡ p = ap (λ m. m.0) c.inform.ensures.from.2 in
    let end : c.inform-2.new.from.me.0 ≡ rested (told j (note_of p)) = ap (λ m. m.0) c.inform-2.ensures.from.2 ∙ told_by in
    let back : told c.inform.new.from.me.0 (note_of c.inform.new.to.me.0) ≡ told p (note_of (rested (told j (note_of p)))) =
    ap (λ v. told v (note_of c.inform.new.to.me.0)) same ∙ ap (λ v. told p (note_of v)) told_by in
    let last : c.inform-2.new.to.me.0 ≡ rested (told p (note_of (rested (told j (note_of p))))) = ap (λ m. m.0) c.inform-2.ensures.view ∙ ap rested back in
    Sees-shown p j c.requires.kept.1 c.requires.kept.0 c.inform.ensures.learns (subst (λ v. Learns v) back c.inform-2.ensures.learns) c.inform-2.new.from.me.0 c.inform-2.new.to.me.0 end last

pub returns-clause-room : goal.returns-clause-room
returns-clause-room g c quotas room =
    let views = returns-clause-views g c in
    length-room c.args.pass.now.me.0 c.inform-2.new.to.me.0 c.args.journal.now.me.0 c.inform-2.new.from.me.0 c.requires.kept.1 views.0 views.1 quotas room
