-- What the seats of a journal and of a pass know once an entry that was asked for is added.
use Rattle.std.proofs.Common.{◌≡◌, ℕ, ◌<◌, [], ◌∷◌, ◌++◌, length, slice_index_or, refl, sym, ◌∙◌, ap, subst}
use Rattle.std.proofs.lemmas.Bool.{eq-eqb}
use Rattle.seen_journal.specs.declared.role.Role.TheVariants.{Own, Pass}
use Rattle.seen_journal.specs.declared.view.View.{View}
use Rattle.seen_journal.specs.Prefixes.{IsPrefix, longer_of}
use Rattle.seen_journal.specs.Entries.{entries_of}
use Rattle.seen_journal.specs.Kinds.{rested, note_of, told_as, told}
use Rattle.seen_journal.specs.Exchanged.{IsJournal, IsPass, Gains}
use Rattle.seen_journal.proofs.laws.Prefixes.{longer_of-prefix, length-push_within}
use Rattle.seen_journal.proofs.laws.Entries.{entries_of-push_own}

module _ {E : Type 0} where
  -- the pass that asks for an entry more
  abbrev pub wanting : View E → E → View E
  wanting p e = record p { asked = p.asked ++ e ∷ [] }

  -- the journal that has the entry that it was asked for
  abbrev pub grown : View E → E → View E
  grown j e = record j { seen = j.seen ++ (j.number, e) ∷ [] }

  -- the journal that took over the claim of the pass
  pub IsJournal-claimed : (p j : View E) (e : E) → IsJournal j → IsPass p → p.seen ≡ j.seen → (q : View E) → q ≡ rested (told j (note_of (wanting p e)))
      → IsJournal q × (q.seen ≡ j.seen) × (q.number ≡ p.number) × (entries_of q.number q.seen ++ e ∷ [] ≡ q.asked) × (q.quotas ≡ j.quotas)
  IsJournal-claimed p j e own pass same q is =
      let j1 : View E = rested (told_as Own j (note_of (wanting p e))) in
      let e1 : j1 ≡ q = sym (is ∙ ap (λ r. rested (told_as r j (note_of (wanting p e)))) own.role) in
      let P : View E → Type 0 = λ v. IsJournal v × (v.seen ≡ j.seen) × (v.number ≡ p.number) × (entries_of v.number v.seen ++ e ∷ [] ≡ v.asked) × (v.quotas ≡ j.quotas) in
      subst P e1 (record { role = own.role; older = refl }, refl, refl, ap (λ l. l ++ e ∷ []) (ap (entries_of p.number) (sym same) ∙ pass.asked), refl)

  -- the pass, after the journal has grown by what it asked for
  pub Gains-granted : (p j q : View E) (e : E) → IsPass p → length p.asked < slice_index_or p.quotas p.number 0 → p.seen ≡ j.seen → q.number ≡ p.number → q.seen ≡ j.seen → (r : View E) → r ≡ rested (told (wanting p e) (note_of (grown q e)))
      → Gains p r (q.seen ++ (q.number, e) ∷ []) e
  Gains-granted p j q e pass room same number seen r is =
      let p1 : View E = rested (told_as Pass (wanting p e) (note_of (grown q e))) in
      let e1 : p1 ≡ r = sym (is ∙ ap (λ x. rested (told_as x (wanting p e) (note_of (grown q e)))) pass.role) in
      let x : ℕ × E = (q.number, e) in
      let whole : longer_of p.seen (q.seen ++ x ∷ []) ≡ q.seen ++ x ∷ [] = longer_of-prefix p.seen (q.seen ++ x ∷ []) (subst (λ l. IsPrefix l (q.seen ++ x ∷ [])) (seen ∙ sym same) (x ∷ [], refl)) in
      let next : entries_of p.number (q.seen ++ x ∷ []) ≡ p.asked ++ e ∷ [] =
      entries_of-push_own q.number p.number e q.seen (eq-eqb q.number p.number number) ∙ ap (λ l. l ++ e ∷ []) (ap (entries_of p.number) (seen ∙ sym same) ∙ pass.asked) in
      let P : View E → Type 0 = λ v. Gains p v (q.seen ++ x ∷ []) e in
      subst P e1 (record {
        kept = record { role = pass.role; older = refl; asked = ap (entries_of p.number) whole ∙ next; quota = length-push_within p.asked e (slice_index_or p.quotas p.number 0) room };
        quotas = refl;
        number = refl;
        asked = refl;
        seen_are = whole;
      })
