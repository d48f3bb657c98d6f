-- Enrolling a pass keeps the rule.
use Rattle.std.proofs.Common.{◌≡◌, inl, inr, ℕ, ◌+◌, List, [], ◌∷◌, ◌++◌, set, refl, sym, ◌∙◌, ap, subst, arith}
use mathlib.Core.Option.{some}
use lib.ListN.{get_elem?}
use Rattle.atomic_table.specs.Table.{Splits}
use Rattle.atomic_table.proofs.Lists.{at_set}
use Rattle.seen_journal.specs.declared.role.Role.TheVariants.{Own, Pass}
use Rattle.seen_journal.specs.declared.view.View.{View}
use Rattle.seen_journal.specs.Views.{Asks, HasPlace, FitsList, holds}
use Rattle.seen_journal.specs.Kinds.{enrols, enrolled}
use Rattle.seen_journal.proofs.laws.Prefixes.{IsPrefix-self}
use Rattle.seen_journal.proofs.Words.{get_elem-push}
use Rattle.seen_journal.proofs.Views.{Asks-set, get_elem-set, Asks-push}

module _ {E : Type 0} where
  -- what holds of a view but for the next number holds after it grew
  pub HasPlace-next : (next : ℕ) (quotas : List ℕ) (v : View E) → (v.role ≡ Own → ⊥) → HasPlace next quotas v → HasPlace (next + 1) quotas v
  HasPlace-next next quotas v other p = record { next_is = λ own. absurd (other own); number = λ pass. (let h = p.number pass in omega arith); quota = p.quota; quotas_are = p.quotas_are }

  -- the next pass may be enrolled
  pub pass_is_enrolled : (id : ℕ) (v : View E) → v.role ≡ Own → Splits holds id v (enrols v) (enrolled v)
  pass_is_enrolled id v own s kept at =
      let left : View E = enrols v in
      let right : View E = enrolled v in
      let old : FitsList kept.next kept.quotas kept.all s.views v = kept.fits id v at in
      let next : v.next ≡ kept.next = old.place.next_is own in
      let quotas : v.quotas ≡ kept.quotas = old.place.quotas_are (λ note. cc (note, own)) in
      let views : List (View E) = set s.views id left ++ right ∷ [] in
      let asks : (n : ℕ) (asked : List E) → Asks s.views n asked → Asks views n asked =
      λ n asked h. Asks-push (set s.views id left) right n asked (Asks-set s.views id v left at refl (λ _. refl) (λ _. IsPrefix-self v.asked) n asked h) in
      let P : View E → Type 0 = λ u. FitsList (kept.next + 1) kept.quotas kept.all views u in
      let back : (j : ℕ) (a : View E) → get_elem? (set s.views id left) j ≡ some a → (b : View E) × (get_elem? s.views j ≡ some b) × (b.role ≡ a.role) × (a.role ≡ Pass → b.number ≡ a.number) = get_elem-set s.views id v left at refl (λ _. refl) in
      let low : (j : ℕ) (a : View E) → get_elem? (set s.views id left) j ≡ some a → a.role ≡ Pass → a.number ≡ right.number → ⊥ =
      λ j a e pass same. (let p = back j a e in let h = (kept.fits j p.0 p.1).place.number (p.2 ∙ pass) in let g = p.3 pass in omega (arith, h, g, same, next)) in
      record {
        all = kept.all;
        next = kept.next + 1;
        quotas = kept.quotas;
        count = kept.count;
        fresh = λ n more. kept.fresh n (omega (arith, more));
        bound = kept.bound;
        fits = λ j u e. elim (get_elem-push (set s.views id left) right u j e) [
          | inl there ↦ elim (at_set s.views id j left u there) [
            | inl here ↦
                subst P here.1 (record {
                  seen = old.seen;
                  older = old.older;
                  own = old.own;
                  pass = old.pass;
                  claim = λ no. elim (old.claim no) [ inl nothing ↦ inl nothing | inr a ↦ inr (asks v.number v.asked a) ];
                  place = record { next_is = λ _. ap (λ n. n + 1) next; number = λ pass. absurd (cc (own, pass)); quota = λ pass. absurd (cc (own, pass)); quotas_are = old.place.quotas_are };
                })
            | inr other ↦
                let f : FitsList kept.next kept.quotas kept.all s.views u = kept.fits j u other.1 in
                record {
                  seen = f.seen;
                  older = f.older;
                  own = f.own;
                  pass = f.pass;
                  claim = λ no. elim (f.claim no) [ inl nothing ↦ inl nothing | inr a ↦ inr (asks u.number u.asked a) ];
                  place = HasPlace-next kept.next kept.quotas u (λ o. other.0 (kept.one_own j id u v other.1 at o own)) f.place;
                }
          ]
          | inr here ↦
              subst P here.1 (record {
                seen = (kept.all, refl);
                older = tt;
                own = λ o. absurd (cc o);
                pass = λ _. ([], ap (λ l. l ++ []) (kept.fresh v.next (omega (arith, next))));
                claim = λ no. absurd (no refl);
                place = record { next_is = λ o. absurd (cc o); number = λ _. omega (arith, next); quota = λ _. omega arith; quotas_are = λ _. quotas };
              })
        ];
        one_own = λ i j a b ea eb ra rb. elim (get_elem-push (set s.views id left) right a i ea) [
          | inl a' ↦ elim (get_elem-push (set s.views id left) right b j eb) [
            | inl b' ↦ let p = back i a a' in let q = back j b b' in kept.one_own i j p.0 q.0 p.1 q.1 (p.2 ∙ ra) (q.2 ∙ rb)
            | inr b' ↦ absurd (cc (ap (λ (x : View E). x.role) b'.1, rb))
          ]
          | inr a' ↦ absurd (cc (ap (λ (x : View E). x.role) a'.1, ra))
        ];
        one_pass = λ i j a b ea eb ra rb same. elim (get_elem-push (set s.views id left) right a i ea) [
          | inl a' ↦ elim (get_elem-push (set s.views id left) right b j eb) [
            | inl b' ↦ let p = back i a a' in let q = back j b b' in kept.one_pass i j p.0 q.0 p.1 q.1 (p.2 ∙ ra) (q.2 ∙ rb) (p.3 ra ∙ (same ∙ sym (q.3 rb)))
            | inr b' ↦ absurd (low i a a' ra (same ∙ sym (ap (λ (x : View E). x.number) b'.1)))
          ]
          | inr a' ↦ elim (get_elem-push (set s.views id left) right b j eb) [
            | inl b' ↦ absurd (low j b b' rb (sym same ∙ sym (ap (λ (x : View E). x.number) a'.1)))
            | inr b' ↦ a'.0 ∙ sym b'.0
          ]
        ];
      }
