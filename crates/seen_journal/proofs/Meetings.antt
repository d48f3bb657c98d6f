-- What two seats know once each has told the other.
use Rattle.std.proofs.Common.{◌≡◌, ℕ, ◌<◌, List, length, slice_index_or, sum, refl, sym, ◌∙◌, ap, subst, arith}
use Rattle.seen_journal.specs.declared.role.Role.TheVariants.{Own, Pass}
use Rattle.seen_journal.specs.declared.view.View.{View}
use Rattle.seen_journal.specs.Prefixes.{IsPrefix, longer_of}
use Rattle.seen_journal.specs.Entries.{entries_of}
use Rattle.seen_journal.specs.Kinds.{Learns, rested, note_of, told_as, told}
use Rattle.seen_journal.specs.Exchanged.{IsJournal, IsPass, Rests, Sees}
use Rattle.seen_journal.proofs.laws.Prefixes.{longer_of-prefix, length-longer_of_first, length-longer_of_second}
use Rattle.seen_journal.proofs.laws.Entries.{entries_of-seen}
use Rattle.seen_journal.proofs.Quotas.{length-below_quotas}

module _ {E : Type 0} where
  -- the journal has told the pass all, and the pass has no more entries in it
  pub Sees-shown : (p j : View E) → IsPass p → IsJournal j
      → Learns (told j (note_of p)) → Learns (told p (note_of (rested (told j (note_of p)))))
      → (i q : View E) → i ≡ rested (told j (note_of p)) → q ≡ rested (told p (note_of (rested (told j (note_of p)))))
      → Rests j i × Sees p q j.seen
  Sees-shown p j pass own first second i q i_is q_is =
      let j1 : View E = told_as Own j (note_of p) in
      let first' : Learns j1 = subst (λ r. Learns (told_as r j (note_of p))) own.role first in
      let begins : IsPrefix p.seen j.seen = first'.own own.role 0 (omega arith) in
      let r1 : View E = rested j1 in
      let e1 : rested (told j (note_of p)) ≡ r1 = ap (λ r. rested (told_as r j (note_of p))) own.role in
      let p1 : View E = told_as Pass p (note_of r1) in
      let e2 : told p (note_of (rested (told j (note_of p)))) ≡ p1 = ap (λ v. told p (note_of v)) e1 ∙ ap (λ r. told_as r p (note_of r1)) pass.role in
      let second' : Learns p1 = subst (λ v. Learns v) e2 second in
      let whole : longer_of p.seen j.seen ≡ j.seen = longer_of-prefix p.seen j.seen begins in
      let low : IsPrefix (entries_of p.number j.seen) p.asked = subst (λ l. IsPrefix (entries_of p.number l) p.asked) whole (second'.asked pass.role) in
      let P : View E → Type 0 = λ v. Sees p v j.seen in
      let Q : View E → Type 0 = λ v. Rests j v in (
        subst Q (sym (i_is ∙ e1)) (record { kept = record { role = own.role; older = refl }; quotas = refl; seen = refl; bound = first'.bound own.role }),
        subst P (sym (q_is ∙ ap rested e2)) (record {
          kept = record { role = pass.role; older = refl; asked = rw whole (entries_of-seen p.number p.seen j.seen p.asked begins pass.asked low); quota = pass.quota };
          quotas = refl;
          number = refl;
          asked = refl;
          seen_are = whole;
          prefix = subst (λ l. IsPrefix p.seen l) (sym whole) begins;
        }),
      )

  -- a pass that has seen the whole list has no other entries in it
  pub entries_of-sees : (p q j : View E) → IsPass p → Sees p q j.seen → entries_of p.number j.seen ≡ entries_of p.number p.seen
  entries_of-sees p q j pass sees = ap (entries_of p.number) (sym sees.seen_are) ∙ (ap (λ n. entries_of n q.seen) (sym sees.number) ∙ (sees.kept.asked ∙ (sees.asked ∙ sym pass.asked)))

  -- a pass that was told by another sees the longer list
  pub Sees-told : (p : View E) (w : View E) → IsPass p → Learns (told p (note_of w)) → (q : View E) → q ≡ rested (told p (note_of w)) → Sees p q (longer_of p.seen w.seen) × IsPrefix w.seen (longer_of p.seen w.seen)
  Sees-told p w pass learns q q_is =
      let p1 : View E = told_as Pass p (note_of w) in
      let e : told p (note_of w) ≡ p1 = ap (λ r. told_as r p (note_of w)) pass.role in
      let l : Learns p1 = subst (λ v. Learns v) e learns in
      let all : List (ℕ × E) = longer_of p.seen w.seen in
      let mine : IsPrefix p.seen all = l.older 0 (omega arith) (length-longer_of_first p.seen w.seen) in
      let theirs : IsPrefix w.seen all = l.older 1 (omega arith) (length-longer_of_second p.seen w.seen) in
      let P : View E → Type 0 = λ v. Sees p v all in (
        subst P (sym (q_is ∙ ap rested e)) (record {
          kept = record { role = pass.role; older = refl; asked = entries_of-seen p.number p.seen all p.asked mine pass.asked (l.asked pass.role); quota = pass.quota };
          quotas = refl;
          number = refl;
          asked = refl;
          seen_are = refl;
          prefix = mine;
        }),
        theirs,
      )

  -- two passes that told each other see the longer of their lists
  pub Sees-met : (a b : View E) → IsPass a → IsPass b → (b1 a1 : View E)
      → Learns (told b (note_of a)) → b1 ≡ rested (told b (note_of a))
      → Learns (told a (note_of b1)) → a1 ≡ rested (told a (note_of b1))
      → Sees a a1 (longer_of b.seen a.seen) × Sees b b1 (longer_of b.seen a.seen)
  Sees-met a b is_a is_b b1 a1 first b1_is second a1_is =
      let one = Sees-told b a is_b first b1 b1_is in
      let two = Sees-told a b1 is_a second a1 a1_is in
      let longest : longer_of a.seen b1.seen ≡ b1.seen = longer_of-prefix a.seen b1.seen (subst (λ l. IsPrefix a.seen l) (sym one.0.seen_are) one.1) in
      (subst (λ l. Sees a a1 l) (longest ∙ one.0.seen_are) two.0, one.0)

  -- where the pass may still add, the list is shorter than the sum of the quotas
  pub length-room : (p q j i : View E) → IsPass p → Rests j i → Sees p q j.seen → p.quotas ≡ j.quotas → length (entries_of p.number p.seen) < slice_index_or p.quotas p.number 0 → length j.seen < sum j.quotas
  length-room p q j i pass rests sees quotas room =
      let all : entries_of p.number j.seen ≡ entries_of p.number p.seen = entries_of-sees p q j pass sees in
      length-below_quotas j.seen j.quotas rests.bound p.number (subst (λ l. length l < slice_index_or j.quotas p.number 0) (sym all) (subst (λ l. length (entries_of p.number p.seen) < slice_index_or l p.number 0) quotas room))
