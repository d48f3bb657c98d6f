-- Parts that are given from seat to seat keep the rule.
use Rattle.std.proofs.Common.{◌≡◌, inl, inr, ℕ, true, set, refl, sym, ◌∙◌, subst}
use Rattle.std.proofs.lemmas.Bool.{true≢false}
use mathlib.Core.Option.{some}
use lib.ListN.{get_elem?}
use Rattle.atomic_table.specs.Table.{Splits, Joins}
use Rattle.atomic_table.proofs.Lists.{at_set, set_else}
use Rattle.shared_parts.specs.Kept.{IsKept}
use Rattle.shared_parts.specs.Kinds.{all_of, first_one, joined, left_over, no_parts, nothing}
use Rattle.shared_parts.specs.Parts.{AreApart, Fits, first_of, has, rest_of}
use Rattle.shared_parts.specs.declared.view.View.{View}
use Rattle.shared_parts.proofs.laws.Parts.{Fits-append, Fits-first_of, Fits-rest_of, has-append_cases, has-first_of, has-rest_of}
use Rattle.shared_parts.proofs.Views.{get_elem-push, has-set}

module _ {E P : Type 0} (reached : (ℕ → P) → Type 0) (shown : P → ℕ) where
  -- parts of a view are cut in two
  split : (id : ℕ) (v left right : View P)
      → ((k : ℕ) → has k left.parts ≡ true → has k v.parts ≡ true) → ((k : ℕ) → has k right.parts ≡ true → has k v.parts ≡ true) → AreApart right.parts left.parts
      → ((at : ℕ → P) → Fits at v.parts → Fits at left.parts × Fits at right.parts)
      → Splits {S = E} (λ s. IsKept reached shown s.words s.views) id v left right
  split id v left right of_left of_right cut fit s kept at =
      let back : (j : ℕ) (a : View P) (k : ℕ) → get_elem? (set s.views id left) j ≡ some a → has k a.parts ≡ true → (b : View P) × (get_elem? s.views j ≡ some b) × (has k b.parts ≡ true) = has-set s.views id v left at of_left in
      let apart : (j : ℕ) (a : View P) (k : ℕ) → get_elem? (set s.views id left) j ≡ some a → has k a.parts ≡ true → has k right.parts ≡ true → ⊥ =
      λ j a k e h r. elim (at_set s.views id j left a e) [
        | inl here ↦ true≢false (sym (subst (λ (x : View P). has k x.parts ≡ true) (sym here.1) h) ∙ cut k r)
        | inr there ↦ there.0 (kept.apart j id a v k there.1 at h (of_right k r))
      ] in
      record {
        at = kept.at;
        is = kept.is;
        fits = λ j u e. elim (get_elem-push (set s.views id left) right u j e) [
          | inl there ↦ elim (at_set s.views id j left u there) [
            | inl here ↦ subst (λ (x : View P). Fits kept.at x.parts) here.1 (fit kept.at (kept.fits id v at)).0
            | inr other ↦ kept.fits j u other.1
          ]
          | inr here ↦ subst (λ (x : View P). Fits kept.at x.parts) here.1 (fit kept.at (kept.fits id v at)).1
        ];
        others = kept.others;
        shows = kept.shows;
        apart = λ i j a b k ea eb ha hb. elim (get_elem-push (set s.views id left) right a i ea) [
          | inl a' ↦ elim (get_elem-push (set s.views id left) right b j eb) [
            | inl b' ↦ let p = back i a k a' ha in let q = back j b k b' hb in kept.apart i j p.0 q.0 k p.1 q.1 p.2 q.2
            | inr b' ↦ absurd (apart i a k a' ha (subst (λ (x : View P). has k x.parts ≡ true) (sym b'.1) hb))
          ]
          | inr a' ↦ elim (get_elem-push (set s.views id left) right b j eb) [
            | inl b' ↦ absurd (apart j b k b' hb (subst (λ (x : View P). has k x.parts ≡ true) (sym a'.1) ha))
            | inr b' ↦ a'.0 ∙ sym b'.0
          ]
        ];
      }

  -- all parts are given
  pub all_are_split : (id : ℕ) (v : View P) → Splits {S = E} (λ s. IsKept reached shown s.words s.views) id v (no_parts v) (all_of v)
  all_are_split id v = split id v nothing v (λ k h. absurd (true≢false (sym h))) (λ k h. h) (λ k h. refl) (λ at f. (tt, f))

  -- the first part is given
  pub first_is_split : (id : ℕ) (v : View P) → AreApart (first_of v.parts) (rest_of v.parts) → Splits {S = E} (λ s. IsKept reached shown s.words s.views) id v (left_over v) (first_one v)
  first_is_split id v cut = split id v (left_over v) (first_one v) (λ k h. has-rest_of k v.parts h) (λ k h. has-first_of k v.parts h) cut (λ at f. (Fits-rest_of at v.parts f, Fits-first_of at v.parts f))

  -- parts are taken in
  pub all_are_joined : (id : ℕ) (v : View P) (other : ℕ) (w : View P) → Joins {S = E} (λ s. IsKept reached shown s.words s.views) id v other w (joined v w) nothing
  all_are_joined id v other w s kept at apart there =
      let both : View P = joined v w in
      let w_at : get_elem? s.views other ≡ some w = sym (set_else s.views id other both apart) ∙ there in
      let of : (i j : ℕ) (b : View P) (k : ℕ) → i ≡ id → has k both.parts ≡ true → get_elem? (set s.views id both) j ≡ some b → (j ≡ other → ⊥) → has k b.parts ≡ true → i ≡ j =
      λ i j b k here h e not h'. elim (at_set s.views id j both b e) [
        | inl same ↦ here ∙ sym same.0
        | inr apart' ↦ elim (has-append_cases k w.parts v.parts h) [
          | inl of_w ↦ absurd (not (sym (kept.apart other j w b k w_at apart'.1 of_w h')))
          | inr of_v ↦ here ∙ kept.apart id j v b k at apart'.1 of_v h'
        ]
      ] in
      record {
        at = kept.at;
        is = kept.is;
        fits = λ j u e. elim (at_set (set s.views id both) other j nothing u e) [
          | inl spent ↦ subst (λ (x : View P). Fits kept.at x.parts) spent.1 tt
          | inr left ↦ elim (at_set s.views id j both u left.1) [
            | inl here ↦ subst (λ (x : View P). Fits kept.at x.parts) here.1 (Fits-append kept.at w.parts v.parts (kept.fits other w w_at) (kept.fits id v at))
            | inr old ↦ kept.fits j u old.1
          ]
        ];
        others = kept.others;
        shows = kept.shows;
        apart = λ i j a b k ea eb ha hb.
            elim (at_set (set s.views id both) other i nothing a ea) [
              | inl spent ↦ absurd (true≢false (sym (subst (λ (x : View P). has k x.parts ≡ true) (sym spent.1) ha)))
              | inr a' ↦ elim (at_set (set s.views id both) other j nothing b eb) [
                | inl spent ↦ absurd (true≢false (sym (subst (λ (x : View P). has k x.parts ≡ true) (sym spent.1) hb)))
                | inr b' ↦ elim (at_set s.views id i both a a'.1) [
                  | inl here ↦ of i j b k here.0 (subst (λ (x : View P). has k x.parts ≡ true) (sym here.1) ha) b'.1 b'.0 hb
                  | inr old ↦ elim (at_set s.views id j both b b'.1) [
                    | inl here ↦ sym (of j i a k here.0 (subst (λ (x : View P). has k x.parts ≡ true) (sym here.1) hb) a'.1 a'.0 ha)
                    | inr old' ↦ kept.apart i j a b k old.1 old'.1 ha hb
                  ]
                ]
              ]
            ];
      }
