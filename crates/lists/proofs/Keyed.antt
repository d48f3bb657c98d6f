-- Lists whose elements have keys that differ, and one element in place of another with its key.
use Rattle.std.proofs.Common.{◌≡◌, ◌≢◌, ℕ, ◌<◌, Bool, true, false, cond, eqb, List, length, map, find, get_or, Some, inl, inr, refl, sym, subst, ap, ◌∙◌, arith}
use Rattle.std.specs.List.{All, AllPairs, list_any}
use Rattle.std.proofs.lemmas.Bool.{cases_order, eqb-true}
use Rattle.std.proofs.lemmas.List.Elements.{All-map}
use Rattle.lists.proofs.Choices.{cond-case}
use Rattle.lists.proofs.Pairs.{AllPairs-map}
use Rattle.lists.proofs.Tests.{find-found, list_any-map}

module _ {X : Type 0} (key : X → ℕ) where
  -- the keys of two elements differ
  abbrev pub KeysDiffer : List X → Type 0
  KeysDiffer xs = AllPairs (λ a b. key a ≢ key b) xs

  -- whether an element has this key
  abbrev pub has_key : ℕ → X → Bool
  has_key k x = eqb k (key x)

  -- the elements with this one in place of the one with its key
  abbrev pub replaced : X → List X → List X
  replaced new xs = map (λ x. cond (has_key (key new) x) new x) xs

  -- two with one key stand at one place
  pub place-key : (xs : List X) (i j : ℕ) (d : X) → KeysDiffer xs → i < length xs → j < length xs → key (get_or xs i d) ≡ key (get_or xs j d) → i ≡ j
  place-key xs i j d differ within within' same = elim (cases_order i j) [
    | inl e ↦ e
    | inr (inl lt) ↦ absurd (differ i j d lt within' same)
    | inr (inr lt) ↦ absurd (differ j i d lt within (sym same))
  ]

  module _ (xs : List X) (new g : X) (differ : KeysDiffer xs) (found : find (has_key (key new)) xs ≡ Some g) where
    -- only the one that was found has the key
    pub get_or-key : (k : ℕ) (d : X) → k < length xs → has_key (key new) (get_or xs k d) ≡ true → get_or xs k d ≡ g
    get_or-key k d within is =
        let f = find-found (has_key (key new)) xs g found in
        let mine : key new ≡ key g = eqb-true (key new) (key g) f.passes in
        let its : key new ≡ key (get_or xs k d) = eqb-true (key new) (key (get_or xs k d)) is in
        let place : k ≡ f.place = place-key xs k f.place d differ within f.within (sym its ∙ mine ∙ ap key (sym (f.at d))) in
        ap (λ (n : ℕ). get_or xs n d) place ∙ f.at d

    -- what holds of the new one and of each other holds of all
    pub All-replaced : (P : X → Type 0) → P new → ((k : ℕ) (d : X) → k < length xs → has_key (key new) (get_or xs k d) ≡ false → P (get_or xs k d)) → All P (replaced new xs)
    All-replaced P pn others = All-map P (λ x. cond (has_key (key new) x) new x) xs (λ k d within. cond-case P (has_key (key new) (get_or xs k d)) new (get_or xs k d) (λ is. pn) (λ is. others k d within is))

    -- what holds of the new one and of all held of the old ones holds of all
    pub All-replaced_kept : (P : X → Type 0) → P new → All P xs → All P (replaced new xs)
    All-replaced_kept P pn all = All-replaced P pn (λ k d within other. all k d within)

    -- one still passes, where the new one does so if the old one did
    pub list_any-replaced : (p : X → Bool) → (p g ≡ true → p new ≡ true) → list_any p xs ≡ true → list_any p (replaced new xs) ≡ true
    list_any-replaced p kept some = list_any-map p (λ x. cond (has_key (key new) x) new x) xs (λ k d within passes.
        cond-case (λ (x : X). p x ≡ true) (has_key (key new) (get_or xs k d)) new (get_or xs k d)
        (λ is. kept (ap p (sym (get_or-key k d within is)) ∙ passes)) (λ is. passes)) some

    -- the old one beside another
    pub AllPairs-beside : (R : X → X → Type 0) → ((a b : X) → R a b → R b a) → AllPairs R xs → (k : ℕ) (d : X) → k < length xs → has_key (key new) (get_or xs k d) ≡ false → R g (get_or xs k d)
    AllPairs-beside R turned pairs k d within other =
        let f = find-found (has_key (key new)) xs g found in
        elim (cases_order k f.place) [
          | inl e ↦ absurd (let both : true ≡ false = sym (ap (has_key (key new)) (ap (λ (n : ℕ). get_or xs n d) e ∙ f.at d) ∙ f.passes) ∙ other in cc)
          | inr (inl lt) ↦ turned (get_or xs k d) g (subst (λ (x : X). R (get_or xs k d) x) (f.at d) (pairs k f.place d lt f.within))
          | inr (inr lt) ↦ subst (λ (x : X). R x (get_or xs k d)) (f.at d) (pairs f.place k d lt within)
        ]

    -- pairs of which the new one is good with each other that the old one was good with
    pub AllPairs-replaced : (R : X → X → Type 0) → ((a b : X) → R a b → R b a) → AllPairs R xs
        → ((k : ℕ) (d : X) → k < length xs → has_key (key new) (get_or xs k d) ≡ false → R g (get_or xs k d) → R new (get_or xs k d)) → AllPairs R (replaced new xs)
    AllPairs-replaced R turned pairs step = AllPairs-map R (λ x. cond (has_key (key new) x) new x) xs (λ i j d below within.
        let lower : i < length xs = omega arith in
        at (has_key (key new) (get_or xs i d)) (has_key (key new) (get_or xs j d)) i j d refl refl below lower within)
      where
        at : (a b : Bool) (i j : ℕ) (d : X) → has_key (key new) (get_or xs i d) ≡ a → has_key (key new) (get_or xs j d) ≡ b → i < j → i < length xs → j < length xs
            → R (cond a new (get_or xs i d)) (cond b new (get_or xs j d))
        at true true i j d is js below lower within = absurd (differ i j d below within (ap key (get_or-key i d lower is ∙ sym (get_or-key j d within js))))
        at true false i j d is js below lower within = step j d within js (AllPairs-beside R turned pairs j d within js)
        at false true i j d is js below lower within = turned new (get_or xs i d) (step i d lower is (AllPairs-beside R turned pairs i d lower is))
        at false false i j d is js below lower within = pairs i j d below within
