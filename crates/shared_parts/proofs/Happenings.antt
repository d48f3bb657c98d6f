-- The steps keep the rule.
use Rattle.std.proofs.Common.{◌≡◌, inl, inr, ℕ, ◌==◌, true, List, ◌∷◌, set, get_or, Some, refl, sym, ◌∙◌, ap, subst}
use Rattle.std.specs.Prelude.{Option}
use Rattle.std.proofs.lemmas.Bool.{cases_Bool, eqb-true, false_from_ne_true}
use Rattle.std.proofs.lemmas.List.{set-get_or}
use mathlib.Core.Option.{some, none}
use lib.ListN.{get_elem?}
use prog.Atomic.{either}
use Rattle.atomic_table.specs.Table.{Me, State, Allows, step, keeps}
use Rattle.atomic_table.proofs.Lists.{at_set, exchanged, set_again}
use Rattle.shared_parts.specs.Changes.{IsChange}
use Rattle.shared_parts.specs.Kept.{IsKept}
use Rattle.shared_parts.specs.Kinds.{happened, happened_where, known}
use Rattle.shared_parts.specs.Parts.{Fits, IsQuiet, MayHappen, MayHappenWhere, has, parts_after, state_after}
use Rattle.shared_parts.specs.declared.change.Change.{Change}
use Rattle.shared_parts.specs.declared.view.View.{View}
use Rattle.shared_parts.proofs.laws.Parts.{Fits-parts_after, Fits-others, has-parts_after}
use Rattle.shared_parts.proofs.Shown.{first_word_stays, quiet_stays, shown_after, shown_at}
use Rattle.shared_parts.proofs.Views.{IsApart-set}

module _ {E P : Type 0} (reached : (ℕ → P) → Type 0) (shown : P → ℕ) (after : E → ℕ → P → P) where
  -- the rule, of a table
  abbrev pub rule : State E (View P) → Type 0
  rule s = IsKept reached shown s.words s.views

  -- the view after an event
  abbrev view_after : E → View P → View P
  view_after e v = record { parts = parts_after after e v.parts }

  -- an event has happened to the parts of a view, and the first word shows what part 0 then has
  kept_after : (words now : List ℕ) (views : List (View P)) (id : ℕ) (v : View P) (e : E) (kept : IsKept reached shown words views) → get_elem? views id ≡ some v → reached (state_after after e v.parts kept.at)
      → (others : List ℕ) → now ≡ shown (state_after after e v.parts kept.at 0) ∷ others → IsKept reached shown now (set views id (view_after e v))
  kept_after words now views id v e kept at is others shows =
      let w : View P = view_after e v in
      let less : (k : ℕ) → has k w.parts ≡ true → has k v.parts ≡ true = λ k h. sym (has-parts_after after e k v.parts) ∙ h in
      record {
        at = state_after after e v.parts kept.at;
        is = is;
        fits = λ j u g. elim (at_set views id j w u g) [
          | inl here ↦ subst (λ (x : View P). Fits (state_after after e v.parts kept.at) x.parts) here.1 (Fits-parts_after after e kept.at v.parts v.parts (λ k h. h) (kept.fits id v at))
          | inr there ↦ Fits-others after e kept.at v.parts u.parts (λ k h. false_from_ne_true (has k v.parts) (λ own. there.0 (kept.apart j id u v k there.1 at h own))) (kept.fits j u there.1)
        ];
        apart = IsApart-set views id v w at less kept.apart;
        others = others;
        shows = shows;
      }

  -- what the first word is after a step that writes so
  word_after : (words : List ℕ) (views : List (View P)) (v : View P) (e : E) (c : Change) (kept : IsKept reached shown words views) → Fits kept.at v.parts → IsChange shown after e c v.parts
      → (others : List ℕ) × (set words c.word (either (get_or words c.word 0 == c.before) c.after (get_or words c.word 0)) ≡ shown (state_after after e v.parts kept.at 0) ∷ others)
  word_after words views v e c kept fit change = elim change [
    | inl first ↦ (
      kept.others,
      (
          let n : ℕ = shown (kept.at 0) in
          let found : n ≡ c.before = shown_at shown kept.at c.before v.parts fit first.1 in
          let next : either (n == c.before) c.after n ≡ c.after = exchanged n c.before c.after (λ k. k ≡ c.after) (λ _. refl) (λ no. absurd (no found)) in
          ap (λ i. set words i (either (get_or words i 0 == c.before) c.after (get_or words i 0))) first.0
          ∙ (ap (λ l. set l 0 (either (get_or l 0 0 == c.before) c.after (get_or l 0 0))) kept.shows
          ∙ ap (λ k. k ∷ kept.others) (next ∙ sym (shown_after shown after e kept.at c.after v.parts fit first.2)))
          ),
    )
    | inr other ↦
        let stays = first_word_stays words kept.others (shown (kept.at 0)) c.word (either (get_or words c.word 0 == c.before) c.after (get_or words c.word 0)) kept.shows other.0 in
        (stays.0, stays.1 ∙ ap (λ k. k ∷ stays.0) (sym (quiet_stays shown after e kept.at v.parts fit other.1)))
  ]

  -- an event may happen to the parts of a seat
  pub Allows-happen : (slots id : ℕ) (c : Change) (me : Me E (View P)) (e : E) → IsChange shown after e c me.0.parts → MayHappen reached after e me.0.parts
      → Allows rule slots id me c.word (λ n. either (n == c.before) c.after n) (happened after (step slots c.word c.before c.after (some e)) me)
  Allows-happen slots id c me e change may s kept len at fit =
      let v : View P = me.0 in
      let word = word_after s.words s.views v e c kept (kept.fits id v at) change in (
        view_after e v,
        keeps,
        tt,
        kept_after s.words (set s.words c.word (either (get_or s.words c.word 0 == c.before) c.after (get_or s.words c.word 0))) s.views id v e kept at (may kept.at kept.is (kept.fits id v at)) word.0 word.1,
        (e, refl, refl),
      )

  -- a load changes nothing
  kept_same : (words : List ℕ) (views : List (View P)) (id : ℕ) (v : View P) → get_elem? views id ≡ some v → IsKept reached shown words views → IsKept reached shown (set words 0 (get_or words 0 0)) (set views id v)
  kept_same words views id v at kept = subst (λ l. IsKept reached shown l (set views id v)) (sym (set-get_or words 0 0)) (subst (λ l. IsKept reached shown words l) (sym (set_again views id v at)) kept)

  -- a seat may learn that a state with its parts was reached
  pub Allows-know : (slots id : ℕ) (me : Me E (View P)) → Allows rule slots id me 0 (λ n. n) (known reached (step slots 0 0 0 none) me)
  Allows-know slots id me s kept len at fit = (me.0, keeps, tt, kept_same s.words s.views id me.0 at kept, ((kept.at, kept.is, kept.fits id me.0 at), refl))

  -- an event may happen to its parts where a load finds a number
  pub Allows-happen_where : (slots id number : ℕ) (me : Me E (View P)) (e : E) (event : Option E) (told : ℕ) → event ≡ Some e → told ≡ number → IsQuiet shown after e me.0.parts → MayHappenWhere reached shown after e number me.0.parts
      → Allows rule slots id me 0 (λ n. n) (happened_where after event told (step slots 0 0 0 none) me)
  Allows-happen_where slots id number me e event told is same quiet may s kept len at fit =
      let v : View P = me.0 in
      let found : ℕ = get_or s.words 0 0 in
      let shows : found ≡ shown (kept.at 0) = ap (λ l. get_or l 0 0) kept.shows in
      let own = kept.fits id v at in
      elim (cases_Bool (found == told)) [
        | inl here ↦
            let is_number : shown (kept.at 0) ≡ number = sym shows ∙ (eqb-true found told here ∙ same) in
            let word : set s.words 0 found ≡ shown (state_after after e v.parts kept.at 0) ∷ kept.others = set-get_or s.words 0 0 ∙ (kept.shows ∙ ap (λ k. k ∷ kept.others) (sym (quiet_stays shown after e kept.at v.parts own quiet))) in (
              view_after e v,
              keeps,
              tt,
              kept_after s.words (set s.words 0 found) s.views id v e kept at (may kept.at kept.is is_number own) kept.others word,
              rw here (e, is, refl),
            )
        | inr away ↦ (v, keeps, tt, kept_same s.words s.views id v at kept, rw away refl)
      ]
