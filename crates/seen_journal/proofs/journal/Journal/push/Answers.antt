use Rattle.std.proofs.Common.{◌<◌, ◌≤◌, ◌^◌, ◌++◌, ◌∷◌, [], length, sum, ap, sym, ◌∙◌, subst, arith, vec_capacity}
use Rattle.std.proofs.lemmas.List.{length_push}
use Rattle.seen_journal.specs.Entries.{list_of}
use Rattle.seen_journal.proofs.laws.Entries.{length-list_of, list_of-push}
use Rattle.seen_journal.proofs.journal.Journal.push.Goals as goal

pub push_reserved-requires : goal.push_reserved-requires
push_reserved-requires g c =
    let j = c.self.inside.seat.me.0 in
    let room : length j.seen < sum j.quotas = subst (λ v. length v.entries < sum v.name.quotas) (sym c.self.view_is) c.requires.room in
    let len = ap length c.self.invariant.3 in
    let same = length-list_of j.seen in
    let most = c.self.invariant.4 in
    omega (arith, room, len, same, most, c.self.inside.entries.ok)

pub invariant_of-self : goal.invariant_of-self
invariant_of-self g c =
    let j = c.self.inside.seat.me.0 in
    let k = c.append_seats.new.journal.me.0 in
    let room : length j.seen < sum j.quotas = subst (λ v. length v.entries < sum v.name.quotas) (sym c.self.view_is) c.requires.room in
    let grows = c.append_seats.ensures.journal in (
      c.append_seats.ensures.table.0 ∙ c.self.invariant.0,
      subst (λ t. 0 < t.words) (sym c.append_seats.ensures.table.0) c.self.invariant.1,
      grows.kept,
      ap list_of grows.seen ∙ (list_of-push j.seen _ ∙ (ap (λ l. l ++ c.args.entry ∷ []) c.self.invariant.3 ∙ sym c.push_reserved.ensures.items)),
      subst (λ q. sum q ≤ vec_capacity c.push_reserved.new.self) (sym grows.quotas) (omega (arith, c.self.invariant.4, c.push_reserved.ensures.capacity)),
      subst (λ q. length k.seen ≤ sum q) (sym grows.quotas) (subst (λ l. length l ≤ sum j.quotas) (sym grows.seen) (omega (arith, room, length_push j.seen (c.pass.inside.seat.me.0.number, c.args.entry)))),
      subst (λ q. sum q < 2 ^ 32) (sym grows.quotas) c.self.invariant.6,
    )
