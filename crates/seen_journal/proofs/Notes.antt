-- Notes keep the rule.
use Rattle.std.proofs.Common.{◌≡◌, inl, inr, ℕ, List, [], ◌∷◌, ◌++◌, set, refl, sym, ◌∙◌, subst}
use mathlib.Core.Option.{some}
use lib.ListN.{get_elem?}
use Rattle.atomic_table.specs.Table.{Splits, Joins}
use Rattle.atomic_table.proofs.Lists.{set_else, set_again, at_longer}
use Rattle.seen_journal.specs.declared.role.Role.{Role}
use Rattle.seen_journal.specs.declared.role.Role.TheVariants.{Own, Pass, Note}
use Rattle.seen_journal.specs.declared.view.View.{View}
use Rattle.seen_journal.specs.Prefixes.{IsPrefix}
use Rattle.seen_journal.specs.Views.{HasPlace, FitsList, IsKept, holds}
use Rattle.seen_journal.specs.Kinds.{note_of, told_as, told, spent}
use Rattle.seen_journal.proofs.laws.Prefixes.{IsPrefix-self, IsPrefix-longer_of}
use Rattle.seen_journal.proofs.Views.{Asks-set, FitsList-set, IsKept-set, Asks-push, IsKept-push, is_pass-cases}

module _ {E : Type 0} where
  -- a note has no number of its own
  pub HasPlace-note : (next : ℕ) (quotas : List ℕ) (w : View E) → w.role ≡ Note → HasPlace next quotas w
  HasPlace-note next quotas w note = record { next_is = λ own. absurd (cc (note, own)); number = λ pass. absurd (cc (note, pass)); quota = λ pass. absurd (cc (note, pass)); quotas_are = λ no. absurd (no note) }

  -- a note of any view may be split off
  pub note_is_split : (id : ℕ) (v : View E) → Splits holds id v v (note_of v)
  note_is_split id v s kept at =
      let w : View E = note_of v in
      let old : FitsList kept.next kept.quotas kept.all s.views v = kept.fits id v at in
      let fits : FitsList kept.next kept.quotas kept.all (s.views ++ w ∷ []) w = record {
        seen = old.seen;
        older = tt;
        own = λ own. absurd (cc own);
        pass = λ pass. absurd (cc pass);
        claim = λ _. elim (is_pass-cases v) [
          | inl pass ↦ inr (id, v, at_longer s.views (w ∷ []) id v at, pass, refl, IsPrefix-self v.asked)
          | inr other ↦ elim (old.claim other) [ inl nothing ↦ inl nothing | inr a ↦ inr (Asks-push s.views w v.number v.asked a) ]
        ];
        place = HasPlace-note kept.next kept.quotas w refl;
      } in
      subst (λ views. IsKept s.words (views ++ w ∷ [])) (sym (set_again s.views id v at)) (IsKept-push s.words s.views w refl kept fits)

  -- a view that takes in a note keeps its role
  pub role-told : (v w : View E) → (told v w).role ≡ v.role
  role-told v w = by v.role
    where
      by : (r : Role) → (told_as r v w).role ≡ v.role
      by Own = refl
      by Pass = refl
      by Note = refl

  -- and a pass its number and what it asked for
  pub told_as-keeps : (r : Role) (v w : View E) → v.role ≡ r → (v.role ≡ Pass → (told_as r v w).number ≡ v.number) × (v.role ≡ Pass → IsPrefix v.asked (told_as r v w).asked)
  told_as-keeps Own v w is = ((λ pass. absurd (cc (is, pass))), (λ pass. absurd (cc (is, pass))))
  told_as-keeps Pass v w is = ((λ _. refl), (λ _. IsPrefix-self v.asked))
  told_as-keeps Note v w is = ((λ _. refl), (λ _. IsPrefix-self v.asked))

  -- and fits the list
  pub FitsList-told_as : (next : ℕ) (quotas : List ℕ) (all : List (ℕ × E)) (views : List (View E)) (id : ℕ) (v w : View E) (r : Role) → v.role ≡ r → get_elem? views id ≡ some v → (w.role ≡ Pass → ⊥) → FitsList next quotas all views v → FitsList next quotas all views w
      → FitsList next quotas all (set views id (told_as r v w)) (told_as r v w)
  FitsList-told_as next quotas all views id v w Own is at no_pass f g =
      let both : View E = record v { number = w.number; asked = w.asked; older = w.seen ∷ v.older } in
      record {
        seen = f.seen;
        older = (g.seen, f.older);
        own = f.own;
        pass = λ pass. absurd (cc (is, pass));
        claim = λ _. elim (g.claim no_pass) [
          | inl nothing ↦ inl nothing
          | inr a ↦ inr (Asks-set views id v both at refl (λ pass. absurd (cc (is, pass))) (λ pass. absurd (cc (is, pass))) w.number w.asked a)
        ];
        place = record { next_is = f.place.next_is; number = λ pass. absurd (cc (is, pass)); quota = λ pass. absurd (cc (is, pass)); quotas_are = f.place.quotas_are };
      }
  FitsList-told_as next quotas all views id v w Pass is at no_pass f g = record {
    seen = IsPrefix-longer_of v.seen w.seen all f.seen g.seen;
    older = (f.seen, (g.seen, f.older));
    own = λ own. absurd (cc (is, own));
    pass = f.pass;
    claim = λ no_claim. absurd (no_claim is);
    place = record { next_is = f.place.next_is; number = f.place.number; quota = f.place.quota; quotas_are = f.place.quotas_are };
  }
  FitsList-told_as next quotas all views id v w Note is at no_pass f g = FitsList-set next quotas all views id v v v at refl (λ _. refl) (λ _. IsPrefix-self v.asked) f

  -- a seat may take in a note
  pub note_is_joined : (id : ℕ) (v : View E) (other : ℕ) (w : View E) → w.role ≡ Note → Joins holds id v other w (told v w) spent
  note_is_joined id v other w note s kept at apart there =
      let both : View E = told v w in
      let w_at : get_elem? s.views other ≡ some w = sym (set_else s.views id other both apart) ∙ there in
      let no_pass : w.role ≡ Pass → ⊥ = λ pass. cc (note, pass) in
      let keep : (v.role ≡ Pass → both.number ≡ v.number) × (v.role ≡ Pass → IsPrefix v.asked both.asked) = told_as-keeps v.role v w refl in
      let fits : FitsList kept.next kept.quotas kept.all (set s.views id both) both = FitsList-told_as kept.next kept.quotas kept.all s.views id v w v.role refl at no_pass (kept.fits id v at) (kept.fits other w w_at) in
      let once : IsKept s.words (set s.views id both) = IsKept-set s.words s.views id v both at (role-told v w) keep.0 keep.1 kept fits in
      let blank : FitsList once.next once.quotas once.all (set (set s.views id both) other spent) spent = record { seen = (once.all, refl); older = tt; own = λ own. absurd (cc own); pass = λ pass. absurd (cc pass); claim = λ _. inl refl; place = HasPlace-note once.next once.quotas spent refl } in
      IsKept-set s.words (set s.views id both) other w spent there (sym note) (λ pass. absurd (no_pass pass)) (λ pass. absurd (no_pass pass)) once blank
