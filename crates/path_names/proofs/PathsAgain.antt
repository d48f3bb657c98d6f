-- A path that is read again at once: it names the same, and adds no name.
use Rattle.std.proofs.Common.{◌≡◌, ℕ, ◌+◌, Bool, true, false, cond, not, ◌||◌, List, [], ◌∷◌, ◌++◌, length, drop, Option, Some, None, refl, sym, ap, ◌∙◌, subst, arith}
use Rattle.std.specs.List.{list_any, position_or_len}
use Rattle.std.specs.Str.{bytes_eq}
use Rattle.std.proofs.lemmas.Grind.{common_steps}
use Rattle.std.proofs.lemmas.List.{take-append-drop}
use Rattle.std.proofs.lemmas.List.Folds.{list_any-append, position_or_len_push}
use Rattle.path_names.specs.declared.dirs.DirRef.{DirRef}
use Rattle.path_names.specs.declared.path_ref.PathRef.{PathRef}
use Rattle.path_names.specs.declared.path_ref.PathRef.TheVariants.{Dir, File, Free, Nowhere}
use Rattle.path_names.specs.Components.{components_of}
use Rattle.path_names.specs.Interned.{Keeps, id_of, interned, number_of}
use Rattle.path_names.specs.PathTable.{entry_of}
use Rattle.path_names.specs.Reading.{Reached, entry_or_named, led, or_nowhere, path_of, reached, reached_from}
use Rattle.path_names.specs.declared.dirs.DirRef.TheVariants.{Root}
use Rattle.path_names.proofs.NameTable.{IsEquivalence-bytes_eq, number_of-unknown}
use Rattle.path_names.proofs.PathCounts.{Keeps-same, Keeps-trans}
use Rattle.path_names.proofs.laws.ShortNames.{Keeps-or_nowhere, Keeps-reached_from, option_map-or_nowhere}

-- ---- names that are known

-- the place of what is found in front
position_or_len-front : {X : Type 0} (p : X → Bool) (xs ys : List X) → list_any p xs ≡ true → position_or_len p (xs ++ ys) ≡ position_or_len p xs
position_or_len-front p [] ys known = absurd cc
position_or_len-front p (x ∷ xs) ys known = at (p x) (λ rest. position_or_len-front p xs ys rest) known
  where
    at : (b : Bool) → (list_any p xs ≡ true → position_or_len p (xs ++ ys) ≡ position_or_len p xs) → (b || list_any p xs) ≡ true → cond (not b) (1 + position_or_len p (xs ++ ys)) 0 ≡ cond (not b) (1 + position_or_len p xs) 0
    at true h known = refl
    at false h known = ap (λ (n : ℕ). 1 + n) (h known)

-- a name is known once it has come
list_any-interned : (name : List ℕ) (names : List (List ℕ)) → list_any (bytes_eq name) (interned name names) ≡ true
list_any-interned name names = at (list_any (bytes_eq name) names) refl
  where
    at : (b : Bool) → list_any (bytes_eq name) names ≡ b → list_any (bytes_eq name) (cond b names (names ++ name ∷ [])) ≡ true
    at true is = is
    at false is = list_any-append (bytes_eq name) names (name ∷ []) ∙ rw (is, IsEquivalence-bytes_eq.refl name) refl

-- and then it has the number that it would have had
number_of-interned : (name : List ℕ) (names : List (List ℕ)) → number_of name (interned name names) ≡ number_of name names
number_of-interned name names = at (list_any (bytes_eq name) names) refl
  where
    at : (b : Bool) → list_any (bytes_eq name) names ≡ b → number_of name (cond b names (names ++ name ∷ [])) ≡ number_of name names
    at true is = refl
    at false is =
        let last : number_of name names ≡ length names = number_of-unknown name names is in
        let same : bytes_eq name name ≡ true = IsEquivalence-bytes_eq.refl name in
        grind (arith, common_steps, position_or_len_push (bytes_eq name) names name)

-- names that are kept stand in front
append-kept : (old new : List (List ℕ)) → Keeps old new → old ++ drop (length old) new ≡ new
append-kept old new kept = ap (λ (front : List (List ℕ)). front ++ drop (length old) new) (sym kept) ∙ take-append-drop (length old) new

module _ (name : List ℕ) (names after : List (List ℕ)) (kept : Keeps (interned name names) after) where
  abbrev rest : List (List ℕ)
  rest = drop (length (interned name names)) after

  known : list_any (bytes_eq name) after ≡ true
  known = subst (λ (all : List (List ℕ)). list_any (bytes_eq name) all ≡ true) (append-kept (interned name names) after kept)
      (list_any-append (bytes_eq name) (interned name names) rest ∙ rw (list_any-interned name names) refl)

  -- a name that has come does not come again
  interned-again : interned name after ≡ after
  interned-again = rw known refl

  -- and keeps its number
  id_of-again : id_of name after ≡ id_of name names
  id_of-again = ap (λ (n : ℕ). record { 0 = n })
      (ap (λ (all : List (List ℕ)). number_of name all) (sym (append-kept (interned name names) after kept))
      ∙ position_or_len-front (bytes_eq name) (interned name names) rest (list_any-interned name names) ∙ number_of-interned name names)

-- ---- where components lead again

-- an entry is found again, and a name that has come names the same
entry_or_named-again : (entry : Option PathRef) (dir : DirRef) (name : List ℕ) (names after : List (List ℕ)) → Keeps (entry_or_named entry dir name names).1 after
    → entry_or_named entry dir name after ≡ ((entry_or_named entry dir name names).0, after)
entry_or_named-again (Some path) dir name names after kept = refl
entry_or_named-again None dir name names after kept = rw (interned-again name names after kept, id_of-again name names after kept) refl

-- a component leads to the same
led-again : (domains : ℕ) (at : Option PathRef) (names : List (List ℕ)) (name : List ℕ) (after : List (List ℕ)) → Keeps (led domains at names name).1 after
    → led domains at after name ≡ ((led domains at names name).0, after)
led-again domains None names name after kept = refl
led-again domains (Some (Dir dir)) names name after kept = entry_or_named-again (entry_of domains dir name) dir name names after kept
led-again domains (Some (File dir kind)) names name after kept = refl
led-again domains (Some (Free dir free)) names name after kept = refl
led-again domains (Some (Nowhere whole)) names name after kept = refl

-- so do several
reached_from-again : (domains : ℕ) (at : Option PathRef) (names parts after : List (List ℕ)) → Keeps (reached_from domains (at, names) parts).1 after
    → reached_from domains (at, after) parts ≡ ((reached_from domains (at, names) parts).0, after)
reached_from-again domains at names [] after kept = refl
reached_from-again domains at names (name ∷ parts) after kept =
    let next = led domains at names name in
    let first : Keeps next.1 after = Keeps-trans next.1 (reached_from domains next parts).1 after (Keeps-reached_from domains next parts) kept in
    ap (λ (from : Reached). reached_from domains from parts) (led-again domains at names name after first) ∙ reached_from-again domains next.0 next.1 parts after kept

-- a path that leads nowhere has come as one name
or_nowhere-again : (text : List ℕ) (at : Reached) (path : PathRef) (after : List (List ℕ)) → or_nowhere text at ≡ (path, after) → or_nowhere text (at.0, after) ≡ (path, after)
or_nowhere-again text (Some there, names) path after is = ap (λ (p : PathRef × List (List ℕ)). (p.0, after)) is
or_nowhere-again text (None, names) path after is =
    let kept : Keeps (interned text names) after = subst (λ (all : List (List ℕ)). Keeps (interned text names) all) (ap (λ (p : PathRef × List (List ℕ)). p.1) is) (Keeps-same (interned text names)) in
    rw (interned-again text names after kept, id_of-again text names after kept) (ap (λ (p : PathRef × List (List ℕ)). (p.0, after)) is)

-- a text names the same again
pub path_of-again : (domains : ℕ) (names : List (List ℕ)) (text : List ℕ) (path : PathRef) (after : List (List ℕ)) → path_of domains names text ≡ Some (path, after) → path_of domains after text ≡ Some (path, after)
path_of-again domains names text path after read =
    let found = option_map-or_nowhere domains names text (components_of text) path after read in
    let at = reached domains names found.0 in
    let kept : Keeps at.1 after = subst (λ (all : List (List ℕ)). Keeps at.1 all) (ap (λ (p : PathRef × List (List ℕ)). p.1) found.2) (Keeps-or_nowhere text at) in
    let again : reached domains after found.0 ≡ (at.0, after) = reached_from-again domains (Some (Dir Root)) names found.0 after kept in
    rw (found.1, again) (ap Some (or_nowhere-again text at path after found.2))
