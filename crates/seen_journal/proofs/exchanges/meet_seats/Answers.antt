use Rattle.std.proofs.Common.{◌≡◌, ap, ◌∙◌, subst, sym}
use Rattle.seen_journal.specs.Exchanged.{Sees}
use Rattle.seen_journal.specs.Kinds.{rested, told, note_of, Learns}
use Rattle.seen_journal.specs.Prefixes.{longer_of}
use Rattle.seen_journal.proofs.Meetings.{Sees-met}
use Rattle.seen_journal.proofs.exchanges.meet_seats.Goals as goal

pub returns-clause-a : goal.returns-clause-a
returns-clause-a g c =
    let a = c.args.a.now.me.0 in
    let b = c.args.b.now.me.0 in
    let first : c.inform.new.to.me.0 ≡ rested (told a (note_of b)) = ap (λ m. m.0) c.inform.ensures.view in
    let same : c.inform.new.from.me.0 ≡ b = ap (λ m. m.0) c.inform.ensures.from.2 in
    let end : c.inform-2.new.from.me.0 ≡ c.inform.new.to.me.0 = ap (λ m. m.0) c.inform-2.ensures.from.2 in
    let learns : Learns (told b (note_of c.inform.new.to.me.0)) = subst (λ v. Learns (told v (note_of c.inform.new.to.me.0))) same c.inform-2.ensures.learns in
    let last : c.inform-2.new.to.me.0 ≡ rested (told b (note_of c.inform.new.to.me.0)) = ap (λ m. m.0) c.inform-2.ensures.view ∙ ap (λ v. rested (told v (note_of c.inform.new.to.me.0))) same in
    subst (λ v. Sees a v (longer_of a.seen b.seen)) (sym end) (Sees-met b a c.requires.kept.1 c.requires.kept.0 c.inform.new.to.me.0 c.inform-2.new.to.me.0 c.inform.ensures.learns first learns last).1

pub returns-clause-b : goal.returns-clause-b
returns-clause-b g c =
    let a = c.args.a.now.me.0 in
    let b = c.args.b.now.me.0 in
    let first : c.inform.new.to.me.0 ≡ rested (told a (note_of b)) = ap (λ m. m.0) c.inform.ensures.view in
    let same : c.inform.new.from.me.0 ≡ b = ap (λ m. m.0) c.inform.ensures.from.2 in
    let learns : Learns (told b (note_of c.inform.new.to.me.0)) = subst (λ v. Learns (told v (note_of c.inform.new.to.me.0))) same c.inform-2.ensures.learns in
    let last : c.inform-2.new.to.me.0 ≡ rested (told b (note_of c.inform.new.to.me.0)) = ap (λ m. m.0) c.inform-2.ensures.view ∙ ap (λ v. rested (told v (note_of c.inform.new.to.me.0))) same in
    (Sees-met b a c.requires.kept.1 c.requires.kept.0 c.inform.new.to.me.0 c.inform-2.new.to.me.0 c.inform.ensures.learns first learns last).0
