-- The counts of a group's window, by what is found of the entries after its opening.
use Rattle.std.proofs.Common.{◌≡◌, ℕ, zero, suc, ◌<◌, ◌≤◌, Bool, true, false, cond, eqb, not, List, [], ◌∷◌, filter, length, get_or, take, unwrap_or, Some, inl, inr, refl, sym, subst, ap, ◌∙◌, arith, take-take}
use Rattle.std.specs.Prelude.{◌&&◌, min, slice_get}
use Rattle.std.specs.List.{list_any, position, position_or_len}
use Rattle.std.proofs.lemmas.Bool.{and_from, and_parts, cases_Bool, eq-eqb, eqb-true, false≢true, true≢false}
use Rattle.std.proofs.lemmas.List.{length-take-le}
use Rattle.std.proofs.lemmas.List.Folds.{Any-from_list_any, list_any_at}
use Rattle.std.proofs.lemmas.List.Sums.{length-filter}
use Rattle.std.proofs.lemmas.Option.{get_or_from_slice_get, slice_get-get_or, slice_get_within}
use Rattle.cache_core.specs.declared.entry.SliceEntry.{SliceEntry}
use Rattle.cache_core.specs.declared.entry.What.{What}
use Rattle.cache_core.specs.declared.entry.What.TheVariants as whats
use Rattle.private_lru.proofs.laws.AloneEntries.{covered-filter, hits_of_group-filter}
use Rattle.private_lru.specs.Covered.{covered, is_loaded_use, is_other_use, is_own, is_use, uses_line}
use Rattle.private_lru.specs.GroupCounts.{accesses_of, hits_of_group}
use Rattle.private_lru.specs.declared.counts.WindowCounts.{WindowCounts}
use Rattle.private_lru.proofs.HighEpochs.{held_len-le}
use Rattle.private_lru.proofs.laws.FirstPlaces.{unwrap_or-position}
use Rattle.private_lru.specs.Ends.{AreEnds, IsEnd, IsHeld, held_len}
use Rattle.private_lru.specs.Tallies.{AreCounted, AreTallies, IsCounted, IsTally}
use Rattle.private_lru.specs.Uses.{is_foreign}
use Rattle.private_lru.specs.declared.exclusive_span.ExclusiveSpan.{ExclusiveSpan}

-- ---- lists

-- what stands among the first ones
slice_get-take : {X : Type 0} (n k : ℕ) (xs : List X) → k < n → slice_get (take n xs) k ≡ slice_get xs k
slice_get-take zero k xs lt = absurd (omega (arith, lt))
slice_get-take (suc n) k [] lt = refl
slice_get-take (suc n) zero (x ∷ xs) lt = refl
slice_get-take (suc n) (suc k) (x ∷ xs) lt = slice_get-take n k xs (omega (arith, lt))

-- the first element that passes a test, by what stands before it and there
position_or_len-is : {X : Type 0} (p : X → Bool) (xs : List X) (r : ℕ) → r ≤ length xs → ((q : ℕ) (x : X) → slice_get xs q ≡ Some x → q < r → p x ≡ false)
    → ((x : X) → slice_get xs r ≡ Some x → p x ≡ true) → position_or_len p xs ≡ r
position_or_len-is p [] r le before there = omega (arith, le)
position_or_len-is p (x ∷ xs) zero le before there = rw (there x refl) refl
position_or_len-is p (x ∷ xs) (suc r) le before there =
    let first : p x ≡ false = before 0 x refl (omega arith) in
    let rest : position_or_len p xs ≡ r = position_or_len-is p xs r (omega (arith, le)) (λ q y at lt. before (suc q) y at (omega (arith, lt))) there in
    rw first (omega (arith, rest))

-- ---- one group

module _ (sets : ℕ) (opening : What) (entries : List SliceEntry) (s : ExclusiveSpan) (end : ℕ) (is : IsEnd sets opening entries s end) where
  abbrev group : ℕ
  group = s.gid.0

  abbrev held : ℕ
  held = held_len s.last entries

  abbrev window : List SliceEntry
  window = take held entries

  abbrev loaded : Bool
  loaded = list_any (λ (e : SliceEntry). is_loaded_use sets group opening e.what) window

  abbrev other_use : SliceEntry → Bool
  other_use e = is_other_use group window e.what

  length-window : length window ≡ held
  length-window = length-take-le held entries (held_len-le entries s.last)

  -- an entry of the window by its place
  IsHeld-window : (q : ℕ) (e : SliceEntry) → slice_get window q ≡ Some e → IsHeld entries s.last q e
  IsHeld-window q e at =
      let within = slice_get_within window q e at in
      let len = length-window in
      record {
        at = sym (slice_get-take held q entries (omega (arith, within, len))) ∙ at;
        held = omega (arith, within, len);
      }

  window-IsHeld : (q : ℕ) (e : SliceEntry) → IsHeld entries s.last q e → slice_get window q ≡ Some e
  window-IsHeld q e h = slice_get-take held q entries h.held ∙ h.at

  -- one that passes a test
  list_any-IsHeld : (p : SliceEntry → Bool) (q : ℕ) (e : SliceEntry) → IsHeld entries s.last q e → p e ≡ true → list_any p window ≡ true
  list_any-IsHeld p q e h passes =
      let at = window-IsHeld q e h in
      list_any_at p window q e (slice_get_within window q e at) (ap p (get_or_from_slice_get window q e e at) ∙ passes)

  IsHeld-list_any : (p : SliceEntry → Bool) → list_any p window ≡ true → (q : ℕ) × (e : SliceEntry) × IsHeld entries s.last q e × (p e ≡ true)
  IsHeld-list_any p some =
      let a = Any-from_list_any p window some in
      (a.0, a.1, IsHeld-window a.0 a.1 (slice_get-get_or window a.0 a.1 a.2 ∙ ap (λ (y : SliceEntry). Some y) a.3), a.4)

  -- before the end stands no other's access to a line of the group
  other_use-before : (q : ℕ) (e : SliceEntry) → slice_get window q ≡ Some e → q < end → other_use e ≡ false
  other_use-before q e at lt = by e.what (λ x used.
      let u = IsHeld-list_any (λ (y : SliceEntry). is_use group x y.what) used in
      is.before u.0 q x u.1 e u.2 u.3 (IsHeld-window q e at).at lt)
    where
      by : (what : What) → ((x : ℕ) → uses_line group window x ≡ true → is_foreign group x what ≡ false) → is_other_use group window what ≡ false
      by (whats.Access hit way owner rmid mask line) none = elim (cases_Bool (uses_line group window line)) [
        | inr unused ↦ rw unused (at_false (not (eqb owner.0 group)))
        | inl used ↦ rw used (ap (λ b. not (eqb owner.0 group) && b) (sym (eq-eqb line line refl)) ∙ none line used)
      ]
        where
          at_false : (b : Bool) → (b && false) ≡ false
          at_false true = refl
          at_false false = refl
      by whats.Raise none = refl
      by whats.Flush none = refl
      by (whats.Lock mask first) none = refl
      by (whats.Look rmid lines) none = refl
      by (whats.Drop line at) none = refl

  -- and there stands one, where the opening loaded no line of the group
  other_use-at : (e : SliceEntry) → slice_get window end ≡ Some e → loaded ≡ false → other_use e ≡ true
  other_use-at e at none =
      let h = IsHeld-window end e at in
      let r = is.reached e h.at in
      elim r.3 [
        | inl used ↦ absurd (true≢false (sym (list_any-IsHeld (λ (y : SliceEntry). is_loaded_use sets group opening y.what) r.0 r.1 r.2 used) ∙ none))
        | inr f ↦ by e.what f.0 f.2 (list_any-IsHeld (λ (y : SliceEntry). is_use group f.0 y.what) r.0 r.1 r.2 f.1)
      ]
    where
      by : (what : What) (x : ℕ) → is_foreign group x what ≡ true → uses_line group window x ≡ true → is_other_use group window what ≡ true
      by (whats.Access hit way owner rmid mask line) x foreign used =
          let both = and_parts (not (eqb owner.0 group)) (eqb line x) foreign in
          and_from (not (eqb owner.0 group)) (uses_line group window line) both.0 (subst (λ k. uses_line group window k ≡ true) (sym (eqb-true line x both.1)) used)
      by whats.Raise x foreign used = absurd (false≢true foreign)
      by whats.Flush x foreign used = absurd (false≢true foreign)
      by (whats.Lock mask first) x foreign used = absurd (false≢true foreign)
      by (whats.Look rmid lines) x foreign used = absurd (false≢true foreign)
      by (whats.Drop line at) x foreign used = absurd (false≢true foreign)

  -- so the covered accesses are those before the end
  covered-end : covered sets group opening window ≡ filter (λ (e : SliceEntry). is_own group e.what) (take (min end held) entries)
  covered-end = covered-filter sets group opening window loaded refl ∙ ap (filter (λ (e : SliceEntry). is_own group e.what)) (elim (cases_Bool loaded) [
    | inl some ↦
        let u = IsHeld-list_any (λ (y : SliceEntry). is_loaded_use sets group opening y.what) some in
        let none = is.loaded u.0 u.1 u.2 u.3 in
        let zero_len : min end held ≡ 0 = omega (arith, none) in
        ap (λ b. take (cond b 0 (unwrap_or (position other_use window) (length window))) window) some ∙ ap (λ k. take k entries) (sym zero_len)
    | inr none ↦
        let len = length-window in
        let found : unwrap_or (position other_use window) (length window) ≡ min end held = unwrap_or-position other_use window ∙ position_or_len-is other_use window (min end held) (omega (arith, len))
        (λ q e at lt. other_use-before q e at (omega (arith, lt)))
        (λ e at.
        let within = slice_get_within window (min end held) e at in
        let same : min end held ≡ end = omega (arith, within, len) in
        other_use-at e (ap (slice_get window) (sym same) ∙ at) none) in
        ap (λ b. take (cond b 0 (unwrap_or (position other_use window) (length window))) window) none ∙ (ap (λ k. take k window) found ∙ take-take (min end held) held entries (omega arith))
  ])

  -- and so many are counted
  pub IsCounted-end : (c : WindowCounts) → IsTally entries (length entries) s end c → IsCounted sets opening entries s c
  IsCounted-end c tally =
      let most = held_len-le entries s.last in
      let all : min (length entries) held ≡ held = omega (arith, most) in
      let front : min (length entries) (min end held) ≡ min end held = omega (arith, most) in
      record {
        accesses = tally.accesses ∙ ap (λ k. accesses_of group (take k entries)) all;
        hits = tally.hits ∙ ap (λ k. hits_of_group group (take k entries)) all;
        covers = tally.covers ∙ (ap (λ k. accesses_of group (take k entries)) front ∙ (sym (length-filter (λ (e : SliceEntry). is_own group e.what) (take (min end held) entries)) ∙ ap length (sym covered-end)));
        covers_hits = tally.covers_hits ∙ (ap (λ k. hits_of_group group (take k entries)) front ∙ (sym (hits_of_group-filter group (take (min end held) entries)) ∙ ap (hits_of_group group) (sym covered-end)));
      }

-- ---- all groups

pub AreCounted-tallies : (sets : ℕ) (opening : What) (entries : List SliceEntry) (stays : List ExclusiveSpan) (ends : List ℕ) (tallies : List WindowCounts) → AreEnds sets opening entries stays ends
    → AreTallies entries (length entries) stays ends tallies → AreCounted sets opening entries stays tallies
AreCounted-tallies sets opening entries stays ends tallies are counted = record {
  same = counted.same;
  each = λ j d c within. IsCounted-end sets opening entries (get_or stays j d) (get_or ends j 0) (are.each j d within) (get_or tallies j c) (counted.each j d c within);
}
