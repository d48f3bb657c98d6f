-- What holds of what passes have seen.
use Rattle.std.proofs.Common.{◌≡◌, ℕ, List, get_or, refl, sym, ap₂, ◌∙◌, subst}
use Rattle.seen_journal.specs.Journals.{JournalName}
use Rattle.seen_journal.specs.Passes.{HasSeen, PassValue, quota_of}
use Rattle.seen_journal.specs.Prefixes.{IsPrefix, longer_of}
use Rattle.seen_journal.proofs.laws.Prefixes.{IsPrefix-self, longer_of-flip}

module _ {E : Type 0} where
  -- a pass has seen what it has seen
  pub HasSeen-self : (p : PassValue E) → HasSeen p p p.seen
  HasSeen-self p = record { name = refl; number = refl; seen_are = refl; prefix = IsPrefix-self p.seen; own_are = refl }

  -- it may add as much as before
  pub quota_of-seen : (old new : PassValue E) (seen : List (ℕ × E)) → HasSeen old new seen → quota_of new ≡ quota_of old
  quota_of-seen old new seen has = ap₂ (λ (n : JournalName) k. get_or n.quotas k 0) has.name has.number

  -- of two passes that met it is the same which comes first
  pub HasSeen-flip : (p q a b : PassValue E) → HasSeen p a (longer_of p.seen q.seen) → HasSeen q b (longer_of p.seen q.seen) → HasSeen p a (longer_of q.seen p.seen) × HasSeen q b (longer_of q.seen p.seen)
  HasSeen-flip p q a b first second =
      let is : longer_of p.seen q.seen ≡ longer_of q.seen p.seen =
      longer_of-flip p.seen q.seen a.seen first.prefix (subst (λ l. IsPrefix q.seen l) (second.seen_are ∙ sym first.seen_are) second.prefix) first.seen_are in
      (subst (λ l. HasSeen p a l) is first, subst (λ l. HasSeen q b l) is second)
