-- Names of which each is kept once: what one more does, and the place of each.
use Rattle.std.proofs.Common.{◌≡◌, ℕ, suc, ◌+◌, ◌<◌, Bool, true, false, cond, not, ◌||◌, List, [], ◌∷◌, ◌++◌, length, get_or, Option, Some, None, unwrap_or, refl, sym, ap, ◌∙◌, subst, arith, position, ltb, ◌≤◌, length-append, length-take, get_or-take, take, add-one}
use Rattle.std.specs.List.{list_any, position_or_len, slice_get, IsDistinct}
use Rattle.std.specs.Str.{bytes_eq}
use Rattle.std.specs.Cmp.{IsEquivalence}
use Rattle.std.proofs.lemmas.Slice.Eq.{bytes_eq-Decides}
use Rattle.std.proofs.lemmas.Bool.Decides.{same_from_decides}
use Rattle.std.proofs.lemmas.Option.{slice_get_within, get_or_from_slice_get, same_Some, none-some}
use Rattle.std.proofs.Math.Seq.{take-suc}
use Rattle.std.proofs.lemmas.List.Folds.{position_or_len_push, list_any_none}
use Rattle.std.proofs.lemmas.List.Sums.{position_or_len_is, prefix_len-le-length}
use Rattle.std.proofs.lemmas.Grind.{common_steps}
use Rattle.std.proofs.lemmas.Map.Keys.{apart_from_distinct, IsDistinct-push}
use Rattle.path_names.specs.Interned.{interned, number_of}
use Rattle.path_names.specs.NameIndex.{AreNumbered}

-- equal bytes are an equivalence
pub IsEquivalence-bytes_eq : IsEquivalence bytes_eq
IsEquivalence-bytes_eq = record {
  refl = λ x. (bytes_eq-Decides x x).1 refl;
  symm = λ x y. same_from_decides (bytes_eq x y) (bytes_eq y x) (bytes_eq-Decides x y) ((λ is. sym ((bytes_eq-Decides y x).0 is)), (λ e. (bytes_eq-Decides y x).1 (sym e)));
  congr = λ x y z same. let e : x ≡ y = (bytes_eq-Decides x y).0 same in ap (λ w. bytes_eq w z) e;
}

-- a new name keeps names apart
pub IsDistinct-push_name : (names : List (List ℕ)) (name : List ℕ) → IsDistinct bytes_eq names → list_any (bytes_eq name) names ≡ false → IsDistinct bytes_eq (names ++ name ∷ [])
IsDistinct-push_name names name apart unknown = IsDistinct-push IsEquivalence-bytes_eq names name apart unknown

-- each name stands at one place
pub number_of-only : (names : List (List ℕ)) (i : ℕ) (name : List ℕ) → IsDistinct bytes_eq names → slice_get names i ≡ Some name → number_of name names ≡ i
number_of-only names i name apart at =
    let within : i < length names = slice_get_within names i name at in
    let here : (d : List ℕ) → get_or names i d ≡ name = λ d. get_or_from_slice_get names i name d at in
    position_or_len_is (bytes_eq name) names i [] (omega arith)
    (λ k below. let e : bytes_eq (get_or names k []) (get_or names i []) ≡ false = apart_from_distinct bytes_eq names k i [] apart below within in
    IsEquivalence-bytes_eq.symm name (get_or names k []) ∙ subst (λ n. bytes_eq (get_or names k []) n ≡ false) (here []) e)
    (λ _. rw (here []) (IsEquivalence-bytes_eq.refl name))

-- a name that is there
pub interned-known : (names : List (List ℕ)) (name : List ℕ) → list_any (bytes_eq name) names ≡ true → names ≡ interned name names
interned-known names name known = rw known refl

-- no names are apart
pub IsDistinct-nil : IsDistinct bytes_eq []
unfolding IsDistinct
IsDistinct-nil = tt

-- the number that a name gets is that of its place
pub slice_get-interned : (name : List ℕ) (names : List (List ℕ)) → slice_get (interned name names) (number_of name names) ≡ Some name
slice_get-interned name [] = refl
slice_get-interned name (x ∷ xs) =
    let place = position_or_len (bytes_eq name) xs in
    let rest : slice_get (interned name xs) place ≡ Some name = slice_get-interned name xs in
    let next : 1 + place ≡ suc place = omega arith in
    elim (bytes_eq name x) as (λ b. bytes_eq name x ≡ b → slice_get (cond (b || list_any (bytes_eq name) xs) (x ∷ xs) (x ∷ (xs ++ name ∷ []))) (cond (not b) (1 + place) 0) ≡ Some name) [
      | true ↦ (λ is. ap Some (sym ((bytes_eq-Decides name x).0 is)))
      | false ↦ (λ _. rw next (elim (list_any (bytes_eq name) xs) as (λ b. slice_get (cond b xs (xs ++ name ∷ [])) place ≡ Some name → slice_get (cond b (x ∷ xs) (x ∷ (xs ++ name ∷ []))) (suc place) ≡ Some name)
          [ true ↦ (λ h. h) | false ↦ (λ h. h) ] rest))
    ] refl

-- a name is known exactly where its place is below the number of names
list_any-position : (p : List ℕ → Bool) (names : List (List ℕ)) → list_any p names ≡ ltb (position_or_len p names) (length names)
list_any-position p [] = refl
list_any-position p (x ∷ xs) = at (p x) (list_any-position p xs)
  where
    at : (b : Bool) → list_any p xs ≡ ltb (position_or_len p xs) (length xs) → (b || list_any p xs) ≡ ltb (cond (not b) (1 + position_or_len p xs) 0) (suc (length xs))
    at true h = grind arith
    at false h = rw h (grind arith)

-- no names, and no numbers
pub AreNumbered-nil : (number : List ℕ → Option ℕ) → ((name : List ℕ) → number name ≡ None) → AreNumbered [] number
AreNumbered-nil number none = record { apart = IsDistinct-nil; places = λ name. none name }

module _ (names : List (List ℕ)) (number : List ℕ → Option ℕ) (h : AreNumbered names number) (name : List ℕ) where
  -- the two cases of a search for a name
  cases : (b : Bool) → list_any (bytes_eq name) names ≡ b → number name ≡ cond b (Some (number_of name names)) None
  cases b e = h.places name ∙ ap (λ (b : Bool). cond b (Some (number_of name names)) None) (sym (list_any-position (bytes_eq name) names) ∙ e)

  -- a name that has a number is known
  pub list_any-numbered : (i : ℕ) → Some i ≡ number name → list_any (bytes_eq name) names ≡ true
  list_any-numbered i e = at (list_any (bytes_eq name) names) refl
    where
      at : (b : Bool) → list_any (bytes_eq name) names ≡ b → b ≡ true
      at true is = refl
      at false is = absurd (none-some i (sym (e ∙ cases false is)))

  -- and its number is that of its place
  pub number_of-numbered : (i : ℕ) → Some i ≡ number name → i ≡ number_of name names
  number_of-numbered i e = same_Some i (number_of name names) (e ∙ cases true (list_any-numbered i e))

  -- a name that has none is new
  pub list_any-unnumbered : None ≡ number name → list_any (bytes_eq name) names ≡ false
  list_any-unnumbered e = at (list_any (bytes_eq name) names) refl
    where
      at : (b : Bool) → list_any (bytes_eq name) names ≡ b → b ≡ false
      at true is = absurd (none-some (number_of name names) (e ∙ cases true is))
      at false is = refl

-- the place of a new name
pub number_of-unknown : (name : List ℕ) (names : List (List ℕ)) → list_any (bytes_eq name) names ≡ false → number_of name names ≡ length names
number_of-unknown name [] e = refl
number_of-unknown name (x ∷ xs) e = at (bytes_eq name x) (λ unknown. number_of-unknown name xs unknown) e
  where
    at : (b : Bool) → (list_any (bytes_eq name) xs ≡ false → number_of name xs ≡ length xs) → (b || list_any (bytes_eq name) xs) ≡ false → cond (not b) (1 + number_of name xs) 0 ≡ suc (length xs)
    at true h e = absurd cc
    at false h e = omega (arith, h e)

-- the place of a name where another has come
position-push : (name other : List ℕ) (names : List (List ℕ)) → list_any (bytes_eq name) names ≡ false
    → position (bytes_eq other) (names ++ name ∷ []) ≡ cond (bytes_eq name other) (Some (length names)) (position (bytes_eq other) names)
position-push name other names new = at (bytes_eq name other) refl
  where
    at : (b : Bool) → bytes_eq name other ≡ b → position (bytes_eq other) (names ++ name ∷ []) ≡ cond b (Some (length names)) (position (bytes_eq other) names)
    at true same =
        let is : name ≡ other = (bytes_eq-Decides name other).0 same in
        let unknown : list_any (bytes_eq other) names ≡ false = subst (λ (text : List ℕ). list_any (bytes_eq text) names ≡ false) is new in
        let here : bytes_eq other name ≡ true = IsEquivalence-bytes_eq.symm other name ∙ same in
        let place : number_of other names ≡ length names = number_of-unknown other names unknown in
        grind (arith, common_steps, position_or_len_push (bytes_eq other) names name, length-append names (name ∷ []))
    at false differ =
        let elsewhere : bytes_eq other name ≡ false = IsEquivalence-bytes_eq.symm other name ∙ differ in
        let within : number_of other names ≤ length names = prefix_len-le-length (λ text. not (bytes_eq other text)) names in
        grind (arith, common_steps, position_or_len_push (bytes_eq other) names name, length-append names (name ∷ []))

-- one name more, which has the next number
pub AreNumbered-push : (names : List (List ℕ)) (number after : List ℕ → Option ℕ) (name : List ℕ) → AreNumbered names number → None ≡ number name
    → ((other : List ℕ) → after other ≡ cond (bytes_eq name other) (Some (length names)) (number other)) → AreNumbered (names ++ name ∷ []) after
AreNumbered-push names number after name h none more =
    let new : list_any (bytes_eq name) names ≡ false = list_any-unnumbered names number h name none in
    record {
      apart = IsDistinct-push_name names name h.apart new;
      places = λ other. more other ∙ ap (λ (i : Option ℕ). cond (bytes_eq name other) (Some (length names)) i) (h.places other) ∙ sym (position-push name other names new);
    }

-- a name is not among those before it, where each is kept once
list_any-before : (names : List (List ℕ)) (i : ℕ) (name : List ℕ) → IsDistinct bytes_eq names → slice_get names i ≡ Some name → list_any (bytes_eq name) (take i names) ≡ false
list_any-before names i name apart at =
    let within : i < length names = slice_get_within names i name at in
    list_any_none (bytes_eq name) (take i names) (λ k d below.
    let before : k < i = omega (arith, below, length-take i names) in
    let other : bytes_eq (get_or names k d) (get_or names i d) ≡ false = apart_from_distinct bytes_eq names k i d apart before within in
    rw (get_or-take i names k d before) (IsEquivalence-bytes_eq.symm name (get_or names k d)
    ∙ subst (λ n. bytes_eq (get_or names k d) n ≡ false) (get_or_from_slice_get names i name d at) other))

-- one name of a list more, of which each is kept once
pub AreNumbered-take : (names : List (List ℕ)) (i : ℕ) (number after : List ℕ → Option ℕ) (name : List ℕ) → IsDistinct bytes_eq names → slice_get names i ≡ Some name → AreNumbered (take i names) number
    → ((other : List ℕ) → after other ≡ cond (bytes_eq name other) (Some i) (number other)) → AreNumbered (take (i + 1) names) after
AreNumbered-take names i number after name apart at h more =
    let within : i < length names = slice_get_within names i name at in
    let count : length (take i names) ≡ i = omega (arith, length-take i names) in
    let grown : take (i + 1) names ≡ take i names ++ name ∷ [] = rw add-one (take-suc names i [] within) ∙ ap (λ (n : List ℕ). take i names ++ n ∷ []) (get_or_from_slice_get names i name [] at) in
    let none : None ≡ number name = sym (cases (take i names) number h name false (list_any-before names i name apart at)) in
    rw grown (AreNumbered-push (take i names) number after name h none
    (λ other. more other ∙ ap (λ (place : ℕ). cond (bytes_eq name other) (Some place) (number other)) (sym count)))

-- What a search for a name and its keeping lead to: its number, and the names that are known then.
pub record Numbered (names : List (List ℕ)) (name : List ℕ) (i : ℕ) (after : List (List ℕ)) : Type 0 where
  pub place : i ≡ number_of name names
  pub known : after ≡ interned name names
  pub named : slice_get after i ≡ Some name

-- so it is where the number is the place and the names are those after it came
Numbered-from : (names : List (List ℕ)) (name : List ℕ) (i : ℕ) (after : List (List ℕ)) → i ≡ number_of name names → after ≡ interned name names → Numbered names name i after
Numbered-from names name i after at same = record {
  place = at;
  known = same;
  named = rw (at, same) (slice_get-interned name names);
}

-- a name that is found
pub Numbered-known : (names : List (List ℕ)) (number : List ℕ → Option ℕ) → AreNumbered names number → (name : List ℕ) (i : ℕ) → Some i ≡ number name → Numbered names name i names
Numbered-known names number h name i found =
    Numbered-from names name i names (number_of-numbered names number h name i found) (interned-known names name (list_any-numbered names number h name i found))

-- a new name, which is put at the end
pub Numbered-new : (names : List (List ℕ)) (number : List ℕ → Option ℕ) → AreNumbered names number → (name : List ℕ) → None ≡ number name → Numbered names name (length names) (names ++ name ∷ [])
Numbered-new names number h name none =
    let new : list_any (bytes_eq name) names ≡ false = list_any-unnumbered names number h name none in
    Numbered-from names name (length names) (names ++ name ∷ []) (sym (number_of-unknown name names new)) (rw new refl)

-- a name that was known has its own number still
pub AreNumbered-known : (names : List (List ℕ)) (number after : List ℕ → Option ℕ) (name : List ℕ) (n : ℕ) → AreNumbered names number → Some n ≡ number name
    → ((other : List ℕ) → after other ≡ cond (bytes_eq name other) (Some n) (number other)) → AreNumbered names after
AreNumbered-known names number after name n h own more = record { apart = h.apart; places = λ other. more other ∙ at other (bytes_eq name other) refl ∙ h.places other }
  where
    at : (other : List ℕ) (b : Bool) → bytes_eq name other ≡ b → cond b (Some n) (number other) ≡ number other
    at other true same = own ∙ ap number ((bytes_eq-Decides name other).0 same)
    at other false differ = refl

-- the number of a name that has one, and else the next: it is the next one just where the name is new
pub number-or_next : (names : List (List ℕ)) (number : List ℕ → Option ℕ) → AreNumbered names number → (name : List ℕ) (n next : ℕ) → next ≡ length names → n ≡ unwrap_or (number name) next
    → (n ≡ next → None ≡ number name) × ((n ≡ next → ⊥) → Some n ≡ number name)
number-or_next names number h name n next last is = at (number name) refl
  where
    at : (o : Option ℕ) → number name ≡ o → (n ≡ next → None ≡ number name) × ((n ≡ next → ⊥) → Some n ≡ number name)
    at None none = ((λ same. sym none), λ differ. absurd (differ (is ∙ ap (λ (o : Option ℕ). unwrap_or o next) none)))
    at (Some i) some =
        let own : n ≡ i = is ∙ ap (λ (o : Option ℕ). unwrap_or o next) some in
        let below : i < length names = slice_get_within names i name (Numbered-known names number h name i (sym some)).named in
        ((λ same. absurd (omega (arith, own, below, same, last))), λ differ. ap (λ (k : ℕ). Some k) own ∙ sym some)
