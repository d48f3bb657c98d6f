-- The steps that change no word keep the rule.
use Rattle.std.proofs.Common.{◌≡◌, inl, inr, ℕ, ◌<◌, ◌≤◌, ◌==◌, [], ◌∷◌, ◌++◌, length, get_or, set, slice_index_or, refl, sym, subst}
use Rattle.std.proofs.lemmas.List.{set-get_or}
use mathlib.Core.Option.{some, none}
use prog.Atomic.{either}
use Rattle.atomic_table.specs.Table.{Me, Allows, step, keeps}
use Rattle.atomic_table.proofs.Lists.{set_again}
use Rattle.seen_journal.specs.declared.role.Role.TheVariants.{Pass}
use Rattle.seen_journal.specs.declared.view.View.{View}
use Rattle.seen_journal.specs.Prefixes.{IsPrefix}
use Rattle.seen_journal.specs.Entries.{entries_of}
use Rattle.seen_journal.specs.Views.{FitsList, IsKept, holds}
use Rattle.seen_journal.specs.Kinds.{asked_more, counted, looked}
use Rattle.seen_journal.proofs.laws.Prefixes.{IsPrefix-self, IsPrefix-append, IsPrefix-through, IsPrefix-shorter, ArePrefixes-at, length-prefix, length-push_within}
use Rattle.seen_journal.proofs.laws.Entries.{IsPrefix-entries_of}
use Rattle.seen_journal.proofs.Words.{set-either}
use Rattle.seen_journal.proofs.Views.{Asks-set, IsKept-set}

module _ {E : Type 0} where
  -- a pass may ask for one entry more, within its quota
  pub Allows-ask : (slots id : ℕ) (me : Me E (View E)) (e : E) → me.0.role ≡ Pass → length me.0.asked < slice_index_or me.0.quotas me.0.number 0
      → Allows holds slots id me 0 (λ n. either (n == 0) 0 n) (asked_more (step slots 0 0 0 (some e)) me)
  Allows-ask slots id me e pass room s kept len at fit =
      let v : View E = me.0 in
      let w : View E = record v { asked = v.asked ++ e ∷ [] } in
      let old : FitsList kept.next kept.quotas kept.all s.views v = kept.fits id v at in
      let more : IsPrefix v.asked w.asked = (e ∷ [], refl) in
      let fits : FitsList kept.next kept.quotas kept.all (set s.views id w) w = record {
        seen = old.seen;
        older = old.older;
        own = old.own;
        pass = λ r. IsPrefix-append (entries_of v.number kept.all) v.asked (e ∷ []) (old.pass r);
        claim = λ no. absurd (no pass);
        place = record {
          next_is = old.place.next_is;
          number = old.place.number;
          quota = λ _. length-push_within v.asked e (slice_index_or kept.quotas v.number 0) (subst (λ q. length v.asked < slice_index_or q v.number 0) (old.place.quotas_are (λ note. cc (note, pass))) room);
          quotas_are = old.place.quotas_are;
        };
      } in
      (w, keeps, tt, subst (λ ws. IsKept ws (set s.views id w)) (sym (set-either s.words 0)) (IsKept-set s.words s.views id v w at refl (λ _. refl) (λ _. more) kept fits), (e, refl, refl))

  -- a seat may look, and drops its older lists
  pub Allows-look : (slots id : ℕ) (me : Me E (View E)) → Allows holds slots id me 0 (λ n. n) (looked (step slots 0 0 0 none) me)
  Allows-look slots id me s kept len at fit =
      let v : View E = me.0 in
      let w : View E = record v { older = [] } in
      let old : FitsList kept.next kept.quotas kept.all s.views v = kept.fits id v at in
      let fits : FitsList kept.next kept.quotas kept.all (set s.views id w) w = record {
        seen = old.seen;
        older = tt;
        own = old.own;
        pass = old.pass;
        claim = λ no. elim (old.claim no) [ inl nothing ↦ inl nothing | inr asks ↦ inr (Asks-set s.views id v w at refl (λ _. refl) (λ _. IsPrefix-self v.asked) v.number v.asked asks) ];
        place = record { next_is = old.place.next_is; number = old.place.number; quota = old.place.quota; quotas_are = old.place.quotas_are };
      } in (
        w,
        keeps,
        tt,
        subst (λ ws. IsKept ws (set s.views id w)) (sym (set-get_or s.words 0 0)) (IsKept-set s.words s.views id v w at refl (λ _. refl) (λ _. IsPrefix-self v.asked) kept fits),
        (
          record {
            older = λ k low short. IsPrefix-shorter (slice_index_or v.older k []) v.seen kept.all (ArePrefixes-at v.older kept.all k low old.older) old.seen short;
            own = λ own k low. subst (λ l. IsPrefix (slice_index_or v.older k []) l) (sym (old.own own)) (ArePrefixes-at v.older kept.all k low old.older);
            asked = λ pass. IsPrefix-through (entries_of v.number v.seen) (entries_of v.number kept.all) v.asked (IsPrefix-entries_of v.number v.seen kept.all old.seen) (old.pass pass);
            bound = λ own n. rw (old.own own, old.place.quotas_are (λ note. cc (note, own))) (kept.bound n);
          },
          refl,
        ),
      )

  -- a seat may count the list
  pub Allows-count : (slots id : ℕ) (me : Me E (View E)) → Allows holds slots id me 0 (λ n. n) (counted (step slots 0 0 0 none) me)
  Allows-count slots id me s kept len at fit =
      let v : View E = me.0 in
      let old : FitsList kept.next kept.quotas kept.all s.views v = kept.fits id v at in (
        v,
        keeps,
        tt,
        subst (λ ws. IsKept ws (set s.views id v)) (sym (set-get_or s.words 0 0)) (subst (λ l. IsKept s.words l) (sym (set_again s.views id v at)) kept),
        (subst (λ ws. length v.seen ≤ get_or ws 0 0) (sym kept.count) (length-prefix v.seen kept.all old.seen), refl),
      )
