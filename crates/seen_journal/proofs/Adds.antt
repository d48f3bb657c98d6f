-- The step that adds an entry keeps the rule.
use Rattle.std.proofs.Common.{◌≡◌, inl, inr, ℕ, ◌+◌, ◌%◌, ◌<◌, ◌≤◌, ◌^◌, ◌==◌, List, [], ◌∷◌, ◌++◌, length, get_or, set, slice_index_or, refl, sym, ◌∙◌, ap, subst, arith}
use Rattle.std.proofs.lemmas.List.{length_push}
use Rattle.std.proofs.lemmas.Bool.{cases_Bool, eqb-true}
use mathlib.Core.Option.{some, some-injective, none}
use lib.ListN.{get_elem?}
use Rattle.atomic_table.specs.Table.{Me, Allows, step, keeps}
use Rattle.atomic_table.proofs.Lists.{at_set}
use Rattle.seen_journal.specs.declared.role.Role.TheVariants.{Own, Pass}
use Rattle.seen_journal.specs.declared.view.View.{View}
use Rattle.seen_journal.specs.Prefixes.{IsPrefix}
use Rattle.seen_journal.specs.Entries.{entries_of}
use Rattle.seen_journal.specs.Views.{Asks, HasPlace, FitsList, holds}
use Rattle.seen_journal.specs.Kinds.{added}
use Rattle.seen_journal.proofs.laws.Prefixes.{IsPrefix-self, IsPrefix-append, IsPrefix-through, IsPrefix-not_empty, length-prefix_within, ArePrefixes-append}
use Rattle.seen_journal.proofs.laws.Entries.{entries_of-push_own, entries_of-push_other}
use Rattle.seen_journal.proofs.Words.{set-count, eqb-less}
use Rattle.seen_journal.proofs.Views.{Asks-set, get_elem-set}

module _ {E : Type 0} where
  -- the journal's own seat is no pass
  pub Own-not_pass : (v : View E) → v.role ≡ Own → v.role ≡ Pass → ⊥
  Own-not_pass v own pass = cc

  -- the journal may add the next entry of its claim
  pub Allows-add : (slots id : ℕ) (me : Me E (View E)) (e : E) → me.0.role ≡ Own → length me.0.seen + 1 < 2 ^ 64
      → IsPrefix (entries_of me.0.number me.0.seen ++ e ∷ []) me.0.asked
      → Allows holds slots id me 0 (λ n. (n + 1) % 2 ^ 64) (added (step slots 0 1 0 none) me)
  Allows-add slots id me e own room next s kept len at fit =
      let v : View E = me.0 in
      let x : ℕ × E = (v.number, e) in
      let all : List (ℕ × E) = kept.all in
      let w : View E = record v { seen = v.seen ++ x ∷ [] } in
      let old : FitsList kept.next kept.quotas all s.views v = kept.fits id v at in
      let whole : v.seen ≡ all = old.own own in
      let asks : (n : ℕ) (asked : List E) → Asks s.views n asked → Asks (set s.views id w) n asked = Asks-set s.views id v w at refl (λ _. refl) (λ _. IsPrefix-self v.asked) in
      let mine : IsPrefix (entries_of v.number all ++ e ∷ []) v.asked = subst (λ l. IsPrefix (entries_of v.number l ++ e ∷ []) v.asked) whole next in
      let words : set s.words 0 ((get_or s.words 0 0 + 1) % 2 ^ 64) ≡ length (all ++ x ∷ []) ∷ [] =
      set-count s.words (length all) kept.count (subst (λ l. length l + 1 < 2 ^ 64) whole room) ∙ ap (λ k. k ∷ []) (sym (length_push all x)) in
      let asked : (k : ℕ) × (u : View E) × (get_elem? s.views k ≡ some u) × (u.role ≡ Pass) × (u.number ≡ v.number) × IsPrefix v.asked u.asked = elim (old.claim (Own-not_pass v own)) [
        | inl nothing ↦ absurd (IsPrefix-not_empty (entries_of v.number all) v.asked e mine nothing)
        | inr asks ↦ asks
      ] in
      let theirs : HasPlace kept.next kept.quotas asked.1 = (kept.fits asked.0 asked.1 asked.2).place in
      let number : v.number < kept.next = subst (λ n. n < kept.next) asked.4 (theirs.number asked.3) in
      let quota : length (entries_of v.number all ++ e ∷ []) ≤ slice_index_or kept.quotas v.number 0 =
      length-prefix_within (entries_of v.number all ++ e ∷ []) v.asked asked.1.asked (slice_index_or kept.quotas v.number 0) mine asked.5 (subst (λ n. length asked.1.asked ≤ slice_index_or kept.quotas n 0) asked.4 (theirs.quota asked.3)) in
      let passes : (j : ℕ) (u : View E) → get_elem? s.views j ≡ some u → u.role ≡ Pass → IsPrefix (entries_of u.number (all ++ x ∷ [])) u.asked =
      λ j u e' pass. elim (cases_Bool (v.number == u.number)) [
        | inl same ↦
            let n : v.number ≡ u.number = eqb-true v.number u.number same in
            elim (old.claim (Own-not_pass v own)) [
              | inl nothing ↦ absurd (IsPrefix-not_empty (entries_of v.number all) v.asked e mine nothing)
              | inr asks ↦
                  let k : asks.0 ≡ j = kept.one_pass asks.0 j asks.1 u asks.2 e' asks.3 pass (asks.4 ∙ n) in
                  let it : asks.1 ≡ u = some-injective asks.1 u (sym asks.2 ∙ (ap (λ i. get_elem? s.views i) k ∙ e')) in
                  let there : IsPrefix (entries_of v.number all ++ e ∷ []) u.asked = IsPrefix-through (entries_of v.number all ++ e ∷ []) v.asked u.asked mine (subst (λ (y : View E). IsPrefix v.asked y.asked) it asks.5) in
                  subst (λ l. IsPrefix l u.asked) (ap (λ m. entries_of m all ++ e ∷ []) n ∙ sym (entries_of-push_own v.number u.number e all same)) there
            ]
        | inr other ↦ subst (λ l. IsPrefix l u.asked) (sym (entries_of-push_other v.number u.number e all other)) ((kept.fits j u e').pass pass)
      ] in (
        w,
        keeps,
        tt,
        record {
          all = all ++ x ∷ [];
          next = kept.next;
          quotas = kept.quotas;
          fresh = λ n low. entries_of-push_other v.number n e all (eqb-less v.number n (omega (arith, number, low))) ∙ kept.fresh n low;
          bound = λ n. elim (cases_Bool (v.number == n)) [
            | inl same ↦ subst (λ l. length l ≤ slice_index_or kept.quotas n 0) (ap (λ m. entries_of m all ++ e ∷ []) (eqb-true v.number n same) ∙ sym (entries_of-push_own v.number n e all same)) (subst (λ m. length (entries_of v.number all ++ e ∷ []) ≤ slice_index_or kept.quotas m 0) (eqb-true v.number n same) quota)
            | inr other ↦ subst (λ l. length l ≤ slice_index_or kept.quotas n 0) (sym (entries_of-push_other v.number n e all other)) (kept.bound n)
          ];
          count = words;
          fits = λ j u e'. elim (at_set s.views id j w u e') [
            | inl here ↦
                let P : View E → Type 0 = λ y. FitsList kept.next kept.quotas (all ++ x ∷ []) (set s.views id w) y in
                subst P here.1 (record {
                  seen = subst (λ l. IsPrefix (v.seen ++ x ∷ []) (l ++ x ∷ [])) whole (IsPrefix-self (v.seen ++ x ∷ []));
                  older = ArePrefixes-append v.older all (x ∷ []) old.older;
                  own = λ _. ap (λ l. l ++ x ∷ []) whole;
                  pass = λ pass. absurd (Own-not_pass v own pass);
                  claim = λ no. elim (old.claim no) [ inl nothing ↦ inl nothing | inr a ↦ inr (asks v.number v.asked a) ];
                  place = record { next_is = old.place.next_is; number = old.place.number; quota = old.place.quota; quotas_are = old.place.quotas_are };
                })
            | inr there ↦
                let f : FitsList kept.next kept.quotas all s.views u = kept.fits j u there.1 in
                record {
                  seen = IsPrefix-append u.seen all (x ∷ []) f.seen;
                  older = ArePrefixes-append u.older all (x ∷ []) f.older;
                  own = λ o. absurd (there.0 (kept.one_own j id u v there.1 at o own));
                  pass = passes j u there.1;
                  claim = λ no. elim (f.claim no) [ inl nothing ↦ inl nothing | inr a ↦ inr (asks u.number u.asked a) ];
                  place = f.place;
                }
          ];
          one_own = λ i j a b ea eb ra rb. let p = get_elem-set s.views id v w at refl (λ _. refl) i a ea in let q = get_elem-set s.views id v w at refl (λ _. refl) j b eb in kept.one_own i j p.0 q.0 p.1 q.1 (p.2 ∙ ra) (q.2 ∙ rb);
          one_pass = λ i j a b ea eb ra rb same. let p = get_elem-set s.views id v w at refl (λ _. refl) i a ea in let q = get_elem-set s.views id v w at refl (λ _. refl) j b eb in kept.one_pass i j p.0 q.0 p.1 q.1 (p.2 ∙ ra) (q.2 ∙ rb) (p.3 ra ∙ (same ∙ sym (q.3 rb)));
        },
        (e, next, refl),
      )
