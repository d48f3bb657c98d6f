-- The covered accesses of a window, in a list.
use Rattle.std.proofs.Common.{◌≡◌, ℕ, ◌+◌, ◌%◌, ◌<◌, Bool, true, false, cond, not, ◌&&◌, ◌||◌, ◌==◌, List, [], ◌∷◌, ◌++◌, length, take, get_or, inl, inr, refl, sym, subst, ap, ◌∙◌, arith}
use Rattle.std.specs.List.{count_by, filter, list_any}
use Rattle.std.proofs.lemmas.List.Sums.{length-filter}
use Rattle.std.proofs.lemmas.Bool.{cases_Bool, eqb-true, true≢false, false≢true}
use Rattle.std.proofs.lemmas.Grind.{flat_map-append}
use Rattle.std.proofs.lemmas.List.{append_assoc, append-nil, length-append, take_at}
use Rattle.std.proofs.lemmas.List.Folds.{list_any-append}
use Rattle.cache_core.specs.declared.entry.What.{What}
use Rattle.cache_core.specs.declared.entry.What.TheVariants.{Access, Raise, Flush, Lock, Look, Drop}
use Rattle.cache_core.specs.declared.entry.SliceEntry.{SliceEntry}
use Rattle.lists.specs.Sums.{one_if}
use Rattle.private_lru.specs.GroupCounts.{hits_of_group, is_own_hit, is_private_hit, private_hits_after}
use Rattle.private_lru.specs.Covered.{covered_after, covered_front_after, hit_of, hits_in, is_covered, is_loaded_use, is_other_use, is_own, item_of, items, uses_line, with_front}
use Rattle.private_lru.specs.Isolation.{HitsAsPrivate, IsIsolated}
use Rattle.private_lru.specs.Private.{hits_after, private_hit}
use Rattle.private_lru.specs.declared.item.Item.{Item}
use Rattle.private_lru.specs.declared.item.Item.TheVariants.{Use, Drop as Dropped}

-- one more in a count
count_by-cons : {X : Type 0} (p : X → Bool) (x : X) (xs : List X) → count_by p (x ∷ xs) ≡ cond (p x) (1 + count_by p xs) (count_by p xs)
count_by-cons p x xs = sym (length-filter p (x ∷ xs)) ∙ at (p x)
  where
    at : (b : Bool) → length (cond b (x ∷ filter p xs) (filter p xs)) ≡ cond b (1 + count_by p xs) (count_by p xs)
    at true = let rest : length (filter p xs) ≡ count_by p xs = length-filter p xs in omega arith
    at false = length-filter p xs

module _ (sets group : ℕ) (opening : What) (window : List SliceEntry) where
  -- what is not covered stays so
  is_covered-front : (earlier : List SliceEntry) (e : SliceEntry) → is_covered sets group opening window earlier ≡ false → is_covered sets group opening window (earlier ++ e ∷ []) ≡ false
  is_covered-front earlier e none =
      let other : SliceEntry → Bool = λ x. is_other_use group window x.what in
      at (list_any (λ (x : SliceEntry). is_loaded_use sets group opening x.what) window) (list_any other earlier) (list_any other (earlier ++ e ∷ [])) (list_any other (e ∷ [])) (list_any-append other earlier (e ∷ [])) none
    where
      at : (a b c d : Bool) → c ≡ (b || d) → (not a && not b) ≡ false → (not a && not c) ≡ false
      at true b c d e none = refl
      at false true true d e none = refl
      at false true false d e none = absurd (false≢true e)
      at false false c d e none = absurd (true≢false none)

  -- so no access after it is covered
  pub covered_after-none : (earlier es : List SliceEntry) → is_covered sets group opening window earlier ≡ false → covered_after sets group opening window earlier es ≡ []
  covered_after-none earlier [] none = refl
  covered_after-none earlier (e ∷ es) none = rw none (at (is_own group e.what) (covered_after-none (earlier ++ e ∷ []) es (is_covered-front earlier e none)))
    where
      at : (b : Bool) → covered_after sets group opening window (earlier ++ e ∷ []) es ≡ [] → cond (b && false) (e ∷ covered_after sets group opening window (earlier ++ e ∷ []) es) (covered_after sets group opening window (earlier ++ e ∷ []) es) ≡ []
      at true none = none
      at false none = none

  -- and nothing stands before its last
  pub covered_front_after-none : (earlier es : List SliceEntry) → is_covered sets group opening window earlier ≡ false → covered_front_after sets group opening window earlier es ≡ []
  covered_front_after-none earlier [] none = refl
  covered_front_after-none earlier (e ∷ es) none = rw none (at (is_own group e.what) (covered_front_after sets group opening window (earlier ++ e ∷ []) es) (covered_front_after-none (earlier ++ e ∷ []) es (is_covered-front earlier e none)))
    where
      at : (b : Bool) (rest : List SliceEntry) → rest ≡ [] → with_front (b && false) e rest ≡ []
      at true rest is = rw is refl
      at false rest is = rw is refl

  module _ (ways : ℕ) (isolated : IsIsolated sets group ways opening window) where
    abbrev own : ℕ → Bool
    own = uses_line group window

    -- the items of one entry more
    items-push : (s : ℕ) (es : List SliceEntry) (e : SliceEntry) → items sets group s own (es ++ e ∷ []) ≡ items sets group s own es ++ item_of sets group s own e.what
    items-push s es e = flat_map-append (λ (x : SliceEntry). item_of sets group s own x.what) es (e ∷ []) ∙ ap (λ l. items sets group s own es ++ l) (append-nil (item_of sets group s own e.what))

    -- the entry after some that leave accesses covered
    HitsAsPrivate-at : (earlier es : List SliceEntry) (e : SliceEntry) → window ≡ earlier ++ (e ∷ es) → is_covered sets group opening window earlier ≡ true → HitsAsPrivate sets group own ways earlier e.what
    HitsAsPrivate-at earlier es e split is =
        let front : take (length earlier) window ≡ earlier = ap (take (length earlier)) split ∙ take_at earlier (e ∷ es) (length earlier) refl in
        let here : get_or window (length earlier) e ≡ e = ap (λ (l : List SliceEntry). get_or l (length earlier) e) split ∙ get_or-append-here earlier es e in
        let within : length earlier < length window = omega (arith, ap length split, length-append earlier (e ∷ es)) in
        let at : HitsAsPrivate sets group own ways (take (length earlier) window) (get_or window (length earlier) e).what = isolated (length earlier) e within (ap (is_covered sets group opening window) front ∙ is) in
        subst (λ (x : SliceEntry). HitsAsPrivate sets group own ways earlier x.what) here (subst (λ (l : List SliceEntry). HitsAsPrivate sets group own ways l (get_or window (length earlier) e).what) front at)
      where
        get_or-append-here : (xs ys : List SliceEntry) (x : SliceEntry) → get_or (xs ++ x ∷ ys) (length xs) x ≡ x
        get_or-append-here [] ys x = refl
        get_or-append-here (y ∷ xs) ys x = get_or-append-here xs ys x

    module _ (set : ℕ) where
      -- an entry that is no item of the set
      hits_after-none : (earlier lines : List Item) (hits : List Bool) → hits ≡ hits_after ways (earlier ++ []) lines → hits ≡ hits_after ways earlier lines
      hits_after-none earlier lines hits is = rw append-nil at is

      -- an entry
      hits_after-entry : (earlier : List SliceEntry) (lines : List Item) (what : What) (hits : List Bool) → HitsAsPrivate sets group own ways earlier what
          → hits ≡ hits_after ways (items sets group set own earlier ++ item_of sets group set own what) lines
          → hit_of sets group set own what ++ hits ≡ hits_after ways (items sets group set own earlier) (item_of sets group set own what ++ lines)
      hits_after-entry earlier lines (Access hit way owner rmid mask line) hits private is = elim (cases_Bool (owner.0 == group)) [
        | inl mine ↦ elim (cases_Bool (line % sets == set)) [
          | inl here ↦
              let same : line % sets ≡ set = eqb-true (line % sets) set here in
              let first : hit ≡ private_hit ways (items sets group set own earlier) line = private mine ∙ ap (λ s. private_hit ways (items sets group s own earlier) line) same in
              let rest : hits ≡ hits_after ways (items sets group set own earlier ++ Use line ∷ []) lines = rw (mine, here) at is in
              rw (mine, here) (ap (λ b. b ∷ hits) first ∙ ap (λ bs. private_hit ways (items sets group set own earlier) line ∷ bs) rest)
          | inr there ↦
              let rest : hits ≡ hits_after ways (items sets group set own earlier ++ []) lines = rw (mine, there) at is in
              rw (mine, there) (hits_after-none (items sets group set own earlier) lines hits rest)
        ]
        | inr other ↦
            let rest : hits ≡ hits_after ways (items sets group set own earlier ++ []) lines = rw other at is in
            rw other (hits_after-none (items sets group set own earlier) lines hits rest)
      ]
      hits_after-entry earlier lines (Drop line at) hits private is = go (own line && (line % sets == set)) is
        where
          go : (b : Bool) → hits ≡ hits_after ways (items sets group set own earlier ++ cond b (Dropped line ∷ []) []) lines
              → cond b (false ∷ []) [] ++ hits ≡ hits_after ways (items sets group set own earlier) (cond b (Dropped line ∷ []) [] ++ lines)
          go true is = ap (λ bs. false ∷ bs) is
          go false is = hits_after-none (items sets group set own earlier) lines hits is
      hits_after-entry earlier lines Raise hits private is = hits_after-none (items sets group set own earlier) lines hits is
      hits_after-entry earlier lines Flush hits private is = hits_after-none (items sets group set own earlier) lines hits is
      hits_after-entry earlier lines (Lock mask first_line) hits private is = hits_after-none (items sets group set own earlier) lines hits is
      hits_after-entry earlier lines (Look rmid counted) hits private is = hits_after-none (items sets group set own earlier) lines hits is

      -- the items up to the last covered access, after some entries that leave accesses covered
      pub hits_in-covered_front_after : (earlier es : List SliceEntry) → window ≡ earlier ++ es → is_covered sets group opening window earlier ≡ true
          → hits_in sets group set own (covered_front_after sets group opening window earlier es) ≡ hits_after ways (items sets group set own earlier) (items sets group set own (covered_front_after sets group opening window earlier es))
      hits_in-covered_front_after earlier [] split is = refl
      hits_in-covered_front_after earlier (e ∷ es) split is =
          let rest : List SliceEntry = covered_front_after sets group opening window (earlier ++ e ∷ []) es in
          let further : window ≡ (earlier ++ e ∷ []) ++ es = split ∙ sym (append_assoc earlier (e ∷ []) es) in
          let next : hits_in sets group set own rest ≡ hits_after ways (items sets group set own (earlier ++ e ∷ [])) (items sets group set own rest) =
          elim (cases_Bool (is_covered sets group opening window (earlier ++ e ∷ []))) [
            | inl still ↦ hits_in-covered_front_after (earlier ++ e ∷ []) es further still
            | inr none ↦
                let empty : rest ≡ [] = covered_front_after-none (earlier ++ e ∷ []) es none in
                subst (λ (l : List SliceEntry). hits_in sets group set own l ≡ hits_after ways (items sets group set own (earlier ++ e ∷ [])) (items sets group set own l)) (sym empty) refl
          ] in
          let now : hits_in sets group set own rest ≡ hits_after ways (items sets group set own earlier ++ item_of sets group set own e.what) (items sets group set own rest) = subst (λ l. hits_in sets group set own rest ≡ hits_after ways l (items sets group set own rest)) (items-push set earlier e) next in
          whole (is_own group e.what && is_covered sets group opening window earlier) rest now
        where
          one : (rest : List SliceEntry) → hits_in sets group set own rest ≡ hits_after ways (items sets group set own earlier ++ item_of sets group set own e.what) (items sets group set own rest)
              → hits_in sets group set own (e ∷ rest) ≡ hits_after ways (items sets group set own earlier) (items sets group set own (e ∷ rest))
          one rest now = hits_after-entry earlier (items sets group set own rest) e.what (hits_in sets group set own rest) (HitsAsPrivate-at earlier es e split is) now

          whole : (b : Bool) (rest : List SliceEntry) → hits_in sets group set own rest ≡ hits_after ways (items sets group set own earlier ++ item_of sets group set own e.what) (items sets group set own rest)
              → hits_in sets group set own (with_front b e rest) ≡ hits_after ways (items sets group set own earlier) (items sets group set own (with_front b e rest))
          whole true rest now = one rest now
          whole false [] now = refl
          whole false (r ∷ rs) now = one (r ∷ rs) now

    -- an access of the group hits where it does in a private cache
    is_own_hit-private : (earlier : List SliceEntry) (what : What) → is_own group what ≡ true → HitsAsPrivate sets group own ways earlier what → is_own_hit group what ≡ is_private_hit sets group own ways earlier what
    is_own_hit-private earlier (Access hit way owner rmid mask line) mine private = rw mine (private mine)
    is_own_hit-private earlier Raise mine private = refl
    is_own_hit-private earlier Flush mine private = refl
    is_own_hit-private earlier (Lock mask first_line) mine private = refl
    is_own_hit-private earlier (Look rmid lines) mine private = refl
    is_own_hit-private earlier (Drop line at) mine private = refl

    -- what is no access of the group is no hit of its private cache
    is_private_hit-other : (earlier : List SliceEntry) (what : What) → is_own group what ≡ false → is_private_hit sets group own ways earlier what ≡ false
    is_private_hit-other earlier (Access hit way owner rmid mask line) other = rw other refl
    is_private_hit-other earlier Raise other = refl
    is_private_hit-other earlier Flush other = refl
    is_private_hit-other earlier (Lock mask first_line) other = refl
    is_private_hit-other earlier (Look rmid lines) other = refl
    is_private_hit-other earlier (Drop line at) other = refl

    -- as many of the covered accesses hit as would in a private cache
    pub hits_of_group-covered_after : (earlier es : List SliceEntry) → window ≡ earlier ++ es → is_covered sets group opening window earlier ≡ true
        → hits_of_group group (covered_after sets group opening window earlier es) ≡ private_hits_after sets group own ways earlier (covered_front_after sets group opening window earlier es)
    hits_of_group-covered_after earlier [] split is = refl
    hits_of_group-covered_after earlier (e ∷ es) split is =
        let rest : List SliceEntry = covered_after sets group opening window (earlier ++ e ∷ []) es in
        let front : List SliceEntry = covered_front_after sets group opening window (earlier ++ e ∷ []) es in
        let further : window ≡ (earlier ++ e ∷ []) ++ es = split ∙ sym (append_assoc earlier (e ∷ []) es) in
        let next : hits_of_group group rest ≡ private_hits_after sets group own ways (earlier ++ e ∷ []) front =
        elim (cases_Bool (is_covered sets group opening window (earlier ++ e ∷ []))) [
          | inl still ↦ hits_of_group-covered_after (earlier ++ e ∷ []) es further still
          | inr none ↦
              let empty : rest ≡ [] = covered_after-none (earlier ++ e ∷ []) es none in
              let empty_front : front ≡ [] = covered_front_after-none (earlier ++ e ∷ []) es none in
              ap (hits_of_group group) empty ∙ sym (ap (private_hits_after sets group own ways (earlier ++ e ∷ [])) empty_front)
        ] in
        rw is (by_own (is_own group e.what) refl rest front next)
      where
        by_own : (b : Bool) → is_own group e.what ≡ b → (rest front : List SliceEntry) → hits_of_group group rest ≡ private_hits_after sets group own ways (earlier ++ e ∷ []) front
            → hits_of_group group (cond (b && true) (e ∷ rest) rest) ≡ private_hits_after sets group own ways earlier (with_front (b && true) e front)
        by_own true mine rest front next =
            let hit : is_own_hit group e.what ≡ is_private_hit sets group own ways earlier e.what = is_own_hit-private earlier e.what mine (HitsAsPrivate-at earlier es e split is) in
            count_by-cons (λ (x : SliceEntry). is_own_hit group x.what) e rest
            ∙ count (is_own_hit group e.what) (is_private_hit sets group own ways earlier e.what) (hits_of_group group rest) (private_hits_after sets group own ways (earlier ++ e ∷ []) front) hit next
          where
            count : (a b : Bool) (n k : ℕ) → a ≡ b → n ≡ k → cond a (1 + n) n ≡ one_if b + k
            count true true n k hit more = omega arith
            count false false n k hit more = omega arith
            count true false n k hit more = absurd (true≢false hit)
            count false true n k hit more = absurd (false≢true hit)
        by_own false other rest [] next = next
        by_own false other rest (r ∷ rs) next = let none : one_if (is_private_hit sets group own ways earlier e.what) ≡ 0 = ap one_if (is_private_hit-other earlier e.what other) in omega (arith, next, none)
