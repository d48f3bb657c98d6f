-- What stays of the rule where one view changes, or one is added.
use Rattle.std.proofs.Common.{◌≡◌, ◌⊎◌, inl, inr, ℕ, ◌==◌, List, [], ◌∷◌, ◌++◌, set, refl, sym, ◌∙◌, ap, subst}
use Rattle.std.proofs.lemmas.Bool.{cases_Bool, eqb-true, eqb-false}
use mathlib.Core.Option.{some, some-injective}
use lib.ListN.{get_elem?}
use Rattle.atomic_table.proofs.Lists.{at_set, set_here, set_else, at_snoc, at_longer}
use Rattle.seen_journal.specs.declared.role.Role.{Role}
use Rattle.seen_journal.specs.declared.role.Role.TheVariants.{Own, Pass, Note}
use Rattle.seen_journal.specs.declared.view.View.{View}
use Rattle.seen_journal.specs.Prefixes.{IsPrefix}
use Rattle.seen_journal.specs.Views.{Asks, FitsList, IsKept}
use Rattle.seen_journal.proofs.laws.Prefixes.{IsPrefix-through}
use Rattle.seen_journal.proofs.Words.{within-get_elem}

module _ {E : Type 0} where
  -- a pass still asks, where a view that changes asks for no less
  pub Asks-set : (views : List (View E)) (id : ℕ) (v w : View E) → get_elem? views id ≡ some v → w.role ≡ v.role → (v.role ≡ Pass → w.number ≡ v.number) → (v.role ≡ Pass → IsPrefix v.asked w.asked)
      → (n : ℕ) (asked : List E) → Asks views n asked → Asks (set views id w) n asked
  Asks-set views id v w at role number more n asked h =
      elim (cases_Bool (h.0 == id)) [
        | inl here ↦
            let k : h.0 ≡ id = eqb-true h.0 id here in
            let same : h.1 ≡ v = some-injective h.1 v (sym h.2 ∙ (ap (λ j. get_elem? views j) k ∙ at)) in
            (id, w, set_here views id w (within-get_elem views id v at), role ∙ (ap (λ (u : View E). u.role) (sym same) ∙ h.3), number (ap (λ (u : View E). u.role) (sym same) ∙ h.3) ∙ (ap (λ (u : View E). u.number) (sym same) ∙ h.4), IsPrefix-through asked v.asked w.asked (subst (λ (u : View E). IsPrefix asked u.asked) same h.5) (more (ap (λ (u : View E). u.role) (sym same) ∙ h.3)))
        | inr there ↦ (h.0, h.1, set_else views id h.0 w (λ e. eqb-false h.0 id there e) ∙ h.2, h.3, h.4, h.5)
      ]

  -- another view still fits
  pub FitsList-set : (next : ℕ) (quotas : List ℕ) (all : List (ℕ × E)) (views : List (View E)) (id : ℕ) (v w u : View E) → get_elem? views id ≡ some v → w.role ≡ v.role → (v.role ≡ Pass → w.number ≡ v.number) → (v.role ≡ Pass → IsPrefix v.asked w.asked) → FitsList next quotas all views u → FitsList next quotas all (set views id w) u
  FitsList-set next quotas all views id v w u at role number more f = record {
    seen = f.seen;
    older = f.older;
    own = f.own;
    pass = f.pass;
    claim = λ no. elim (f.claim no) [ inl nothing ↦ inl nothing | inr asks ↦ inr (Asks-set views id v w at role number more u.number u.asked asks) ];
    place = f.place;
  }

  -- where the changed view stands, the old one has its role and number
  pub get_elem-set : (views : List (View E)) (id : ℕ) (v w : View E) → get_elem? views id ≡ some v → w.role ≡ v.role → (v.role ≡ Pass → w.number ≡ v.number)
      → (j : ℕ) (a : View E) → get_elem? (set views id w) j ≡ some a → (b : View E) × (get_elem? views j ≡ some b) × (b.role ≡ a.role) × (a.role ≡ Pass → b.number ≡ a.number)
  get_elem-set views id v w at role number j a e = elim (at_set views id j w a e) [
    | inl here ↦ (v, ap (λ n. get_elem? views n) here.0 ∙ at, sym role ∙ ap (λ (x : View E). x.role) here.1, λ pass. sym (number (sym role ∙ (ap (λ (x : View E). x.role) here.1 ∙ pass))) ∙ ap (λ (x : View E). x.number) here.1)
    | inr there ↦ (a, there.1, refl, λ _. refl)
  ]

  -- the rule stays where one view has changed, and has kept its role and its number
  pub IsKept-set : (words : List ℕ) (views : List (View E)) (id : ℕ) (v w : View E) → get_elem? views id ≡ some v → w.role ≡ v.role → (v.role ≡ Pass → w.number ≡ v.number) → (v.role ≡ Pass → IsPrefix v.asked w.asked)
      → (k : IsKept words views) → FitsList k.next k.quotas k.all (set views id w) w → IsKept words (set views id w)
  IsKept-set words views id v w at role number more k fits = record {
    all = k.all;
    next = k.next;
    quotas = k.quotas;
    fresh = k.fresh;
    bound = k.bound;
    count = k.count;
    fits = λ j u e. elim (at_set views id j w u e) [
      | inl here ↦ subst (λ (x : View E). FitsList k.next k.quotas k.all (set views id w) x) here.1 fits
      | inr there ↦ FitsList-set k.next k.quotas k.all views id v w u at role number more (k.fits j u there.1)
    ];
    one_own = λ i j a b ea eb ra rb. let p = get_elem-set views id v w at role number i a ea in let q = get_elem-set views id v w at role number j b eb in k.one_own i j p.0 q.0 p.1 q.1 (p.2 ∙ ra) (q.2 ∙ rb);
    one_pass = λ i j a b ea eb ra rb same. let p = get_elem-set views id v w at role number i a ea in let q = get_elem-set views id v w at role number j b eb in k.one_pass i j p.0 q.0 p.1 q.1 (p.2 ∙ ra) (q.2 ∙ rb) (p.3 ra ∙ (same ∙ sym (q.3 rb)));
  }

  -- a pass still asks, where a view is added
  pub Asks-push : (views : List (View E)) (w : View E) (n : ℕ) (asked : List E) → Asks views n asked → Asks (views ++ w ∷ []) n asked
  Asks-push views w n asked h = (h.0, h.1, at_longer views (w ∷ []) h.0 h.1 h.2, h.3, h.4, h.5)

  -- the rule stays where a note is added
  pub IsKept-push : (words : List ℕ) (views : List (View E)) (w : View E) → w.role ≡ Note → (k : IsKept words views) → FitsList k.next k.quotas k.all (views ++ w ∷ []) w → IsKept words (views ++ w ∷ [])
  IsKept-push words views w note k fits = record {
    all = k.all;
    next = k.next;
    quotas = k.quotas;
    fresh = k.fresh;
    bound = k.bound;
    count = k.count;
    fits = λ j u e. elim (at_snoc views w u j e) [
      | inl there ↦
          let f : FitsList k.next k.quotas k.all views u = k.fits j u there in
          record {
            seen = f.seen;
            older = f.older;
            own = f.own;
            pass = f.pass;
            claim = λ no. elim (f.claim no) [ inl nothing ↦ inl nothing | inr a ↦ inr (Asks-push views w u.number u.asked a) ];
            place = f.place;
          }
      | inr here ↦ subst (λ (x : View E). FitsList k.next k.quotas k.all (views ++ w ∷ []) x) here fits
    ];
    one_own = λ i j a b ea eb ra rb.
        elim (at_snoc views w a i ea) [
          | inl a' ↦ elim (at_snoc views w b j eb) [ inl b' ↦ k.one_own i j a b a' b' ra rb | inr b' ↦ absurd (cc (note, ap (λ (x : View E). x.role) b', rb)) ]
          | inr a' ↦ absurd (cc (note, ap (λ (x : View E). x.role) a', ra))
        ];
    one_pass = λ i j a b ea eb ra rb same.
        elim (at_snoc views w a i ea) [
          | inl a' ↦ elim (at_snoc views w b j eb) [ inl b' ↦ k.one_pass i j a b a' b' ra rb same | inr b' ↦ absurd (cc (note, ap (λ (x : View E). x.role) b', rb)) ]
          | inr a' ↦ absurd (cc (note, ap (λ (x : View E). x.role) a', ra))
        ];
  }

  -- a view is of a pass or not
  pub is_pass-cases : (v : View E) → (v.role ≡ Pass) ⊎ (v.role ≡ Pass → ⊥)
  is_pass-cases v = role_cases v.role
    where
      role_cases : (r : Role) → (r ≡ Pass) ⊎ (r ≡ Pass → ⊥)
      role_cases Own = inr (λ e. cc)
      role_cases Pass = inl refl
      role_cases Note = inr (λ e. cc)
