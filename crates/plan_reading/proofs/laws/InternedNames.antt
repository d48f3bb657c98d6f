-- Names that are known, and names that come.
use Rattle.std.proofs.Common.{◌≡◌, ℕ, suc, ◌+◌, ◌<◌, Bool, true, false, cond, not, ◌||◌, List, [], ◌∷◌, ◌++◌, length, drop, get_or, Some, None, refl, sym, ap, subst, ◌∙◌, arith, length-append}
use Rattle.std.specs.List.{list_any, position_or_len, slice_get}
use Rattle.std.specs.Str.{bytes_eq}
use Rattle.std.proofs.lemmas.Slice.Eq.{bytes_eq-Decides}
use Rattle.std.proofs.lemmas.List.{get_or-take, take-append-drop}
use Rattle.std.proofs.lemmas.List.Folds.{list_any_at, position_or_len_push}
use Rattle.std.proofs.lemmas.Grind.{common_steps}
use Rattle.std.proofs.lemmas.Option.{unwrap_or-slice_get}
use Rattle.path_names.specs.Components.{is_component, is_slash}
use Rattle.path_names.specs.Interned.{Keeps, interned, number_of}
use Rattle.path_names.specs.PathTable.{entry_of}
use Rattle.path_names.specs.PathTexts.{name_in}
use Rattle.path_names.specs.declared.dirs.DirRef.TheVariants.{Root}
use Rattle.path_names.specs.declared.names.NameId.{NameId}
use Rattle.plan_reading.specs.GroupWrites.{IsGroupName}

-- a name is the same as itself
bytes_eq-same : (name : List ℕ) → bytes_eq name name ≡ true
bytes_eq-same name = (bytes_eq-Decides name name).1 refl

-- the place of what is found in front
position_or_len-front : {X : Type 0} (p : X → Bool) (xs ys : List X) → list_any p xs ≡ true → position_or_len p (xs ++ ys) ≡ position_or_len p xs
position_or_len-front p [] ys known = absurd cc
position_or_len-front p (x ∷ xs) ys known = at (p x) (λ rest. position_or_len-front p xs ys rest) known
  where
    at : (b : Bool) → (list_any p xs ≡ true → position_or_len p (xs ++ ys) ≡ position_or_len p xs) → (b || list_any p xs) ≡ true → cond (not b) (1 + position_or_len p (xs ++ ys)) 0 ≡ cond (not b) (1 + position_or_len p xs) 0
    at true h known = refl
    at false h known = ap (λ (n : ℕ). 1 + n) (h known)

-- a name that is known is among the names
pub list_any-known : (names : List (List ℕ)) (id : NameId) → id.0 < length names → list_any (bytes_eq (name_in names id)) names ≡ true
list_any-known names id known =
    list_any_at (bytes_eq (name_in names id)) names id.0 [] known
    (ap (λ (name : List ℕ). bytes_eq (name_in names id) name) (sym (unwrap_or-slice_get names id.0 [])) ∙ bytes_eq-same (name_in names id))

-- the name of a number stays the same while names come
name_in-kept : (old new : List (List ℕ)) (id : NameId) → Keeps old new → id.0 < length old → name_in new id ≡ name_in old id
name_in-kept old new id kept known =
    unwrap_or-slice_get new id.0 []
    ∙ sym (get_or-take (length old) new id.0 [] known)
    ∙ ap (λ (names : List (List ℕ)). get_or names id.0 []) kept
    ∙ sym (unwrap_or-slice_get old id.0 [])

-- there are no fewer names
length-kept : (old new : List (List ℕ)) → Keeps old new → old ++ drop (length old) new ≡ new
length-kept old new kept = ap (λ (front : List (List ℕ)). front ++ drop (length old) new) (sym kept) ∙ take-append-drop (length old) new

-- so a name of a group stays one
pub IsGroupName-kept : (old new : List (List ℕ)) (id : NameId) → Keeps old new → IsGroupName old id → IsGroupName new id
IsGroupName-kept old new id kept is =
    let same : name_in new id ≡ name_in old id = name_in-kept old new id kept is.known in
    let all : old ++ drop (length old) new ≡ new = length-kept old new kept in
    record {
      component = subst (λ (name : List ℕ). is_component name ≡ true) (sym same) is.component;
      whole = subst (λ (name : List ℕ). list_any is_slash name ≡ false) (sym same) is.whole;
      free = λ domains. subst (λ (name : List ℕ). entry_of domains Root name ≡ None) (sym same) (is.free domains);
      known = subst (λ (names : List (List ℕ)). id.0 < length names) all (within (length old) (drop (length old) new) is.known);
      numbered = ap (λ (name : List ℕ). number_of name new) same
          ∙ ap (λ (names : List (List ℕ)). number_of (name_in old id) names) (sym all)
          ∙ position_or_len-front (bytes_eq (name_in old id)) old (drop (length old) new) (list_any-known old id is.known)
          ∙ is.numbered;
    }
  where
    within : (n : ℕ) (more : List (List ℕ)) → id.0 < length old → id.0 < length (old ++ more)
    within n more known = omega (arith, known, length-append old more)

-- a name that is not among the names would have the next number
number_of-unknown : (name : List ℕ) (names : List (List ℕ)) → list_any (bytes_eq name) names ≡ false → number_of name names ≡ length names
number_of-unknown name [] e = refl
number_of-unknown name (x ∷ xs) e = at (bytes_eq name x) (λ unknown. number_of-unknown name xs unknown) e
  where
    at : (b : Bool) → (list_any (bytes_eq name) xs ≡ false → number_of name xs ≡ length xs) → (b || list_any (bytes_eq name) xs) ≡ false → cond (not b) (1 + number_of name xs) 0 ≡ suc (length xs)
    at true h e = absurd cc
    at false h e = omega (arith, h e)

-- a name that comes stands under its number
pub slice_get-interned : (name : List ℕ) (names : List (List ℕ)) → slice_get (interned name names) (number_of name names) ≡ Some name
slice_get-interned name [] = refl
slice_get-interned name (x ∷ xs) =
    let place = position_or_len (bytes_eq name) xs in
    let rest : slice_get (interned name xs) place ≡ Some name = slice_get-interned name xs in
    let next : 1 + place ≡ suc place = omega arith in
    elim (bytes_eq name x) as (λ b. bytes_eq name x ≡ b → slice_get (cond (b || list_any (bytes_eq name) xs) (x ∷ xs) (x ∷ (xs ++ name ∷ []))) (cond (not b) (1 + place) 0) ≡ Some name) [
      | true ↦ (λ is. ap Some (sym ((bytes_eq-Decides name x).0 is)))
      | false ↦ (λ _. rw next (elim (list_any (bytes_eq name) xs) as (λ b. slice_get (cond b xs (xs ++ name ∷ [])) place ≡ Some name → slice_get (cond b (x ∷ xs) (x ∷ (xs ++ name ∷ []))) (suc place) ≡ Some name)
          [ true ↦ (λ h. h) | false ↦ (λ h. h) ] rest))
    ] refl

-- a name that comes has the number that it would have had
pub number_of-interned : (name : List ℕ) (names : List (List ℕ)) → number_of name (interned name names) ≡ number_of name names
number_of-interned name names = at (list_any (bytes_eq name) names) refl
  where
    at : (b : Bool) → list_any (bytes_eq name) names ≡ b → number_of name (cond b names (names ++ name ∷ [])) ≡ number_of name names
    at true is = refl
    at false is =
        let last : number_of name names ≡ length names = number_of-unknown name names is in
        let same : bytes_eq name name ≡ true = bytes_eq-same name in
        grind (arith, common_steps, position_or_len_push (bytes_eq name) names name)
