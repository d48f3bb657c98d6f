-- A list of exclusive groups of which one changes.
use Rattle.std.proofs.Common.{◌≡◌, ℕ, zero, suc, ◌<◌, ◌≤◌, true, false, eqb, ltb, List, [], ◌∷◌, ◌++◌, length, get_or, find, drop, Option, Some, None, inl, inr, refl, sym, subst, ap, ap₂, ◌∙◌, arith}
use Rattle.std.specs.List.{All, AllWithin}
use Rattle.std.specs.List.Sorted.{IsPartitionedBy}
use Rattle.std.specs.Prelude.{nat_lt, slice_get}
use Rattle.std.proofs.lemmas.Bool.{cases_eq, cases_lt, eq-eqb, le-ltb, lt-ltb, ltb-true, ne_eqb}
use Rattle.std.proofs.lemmas.List.{append-nil, drop_at, set_at, take_at}
use Rattle.lists.proofs.Pairs.{AllPairs-head, AllPairs-tail}
use Rattle.rc_base.specs.declared.names.Gid.{Gid}
use Rattle.run_windows.specs.OneGroup.{AreInOrder, is_of, joined, listed, others, own_of, place_in, with_new, with_other}
use Rattle.run_windows.specs.declared.exclusive_group.ExclusiveGroup.{ExclusiveGroup}

-- a list of groups: those that are older than one, its own record, where there is one, and those that are younger
pub record IsParted (gid : Gid) (xs : List ExclusiveGroup) : Type 0 where
  pub older : List ExclusiveGroup
  pub own : Option ExclusiveGroup
  pub younger : List ExclusiveGroup
  pub is : xs ≡ older ++ (listed own ++ younger)
  pub place : place_in gid xs ≡ length older
  pub found : find (is_of gid) xs ≡ own
  pub there : own_of gid (slice_get xs (place_in gid xs)) ≡ own
  pub without : others gid xs ≡ older ++ younger
  pub with_own : (o : Option ExclusiveGroup) → joined gid o (older ++ younger) ≡ older ++ (listed o ++ younger)

module _ (gid : Gid) where
  -- younger ones are others
  others-younger : (xs : List ExclusiveGroup) → All (λ (x : ExclusiveGroup). gid.0 < x.gid.0) xs → others gid xs ≡ xs
  others-younger [] above = refl
  others-younger (x ∷ xs) above =
      let lt = above 0 x (omega arith) in
      let other : eqb gid.0 x.gid.0 ≡ false = ne_eqb gid.0 x.gid.0 (λ e. omega (arith, lt, e)) in
      rw other (ap (λ (l : List ExclusiveGroup). x ∷ l) (others-younger xs (λ k d within. above (suc k) d (omega (arith, within)))))

  -- none of them is its own
  find-younger : (xs : List ExclusiveGroup) → All (λ (x : ExclusiveGroup). gid.0 < x.gid.0) xs → find (is_of gid) xs ≡ None
  find-younger [] above = refl
  find-younger (x ∷ xs) above =
      let lt = above 0 x (omega arith) in
      let other : eqb gid.0 x.gid.0 ≡ false = ne_eqb gid.0 x.gid.0 (λ e. omega (arith, lt, e)) in
      rw other (find-younger xs (λ k d within. above (suc k) d (omega (arith, within))))

  -- its own comes before them
  joined-younger : (o : Option ExclusiveGroup) (xs : List ExclusiveGroup) → All (λ (x : ExclusiveGroup). gid.0 < x.gid.0) xs → joined gid o xs ≡ listed o ++ xs
  joined-younger o [] above = sym (append-nil (listed o))
  joined-younger o (x ∷ xs) above =
      let lt = above 0 x (omega arith) in
      let late : nat_lt x.gid.0 gid.0 ≡ false = le-ltb x.gid.0 gid.0 (omega (arith, lt)) in
      rw late refl

  -- each list in order is parted
  pub IsParted-from_order : (xs : List ExclusiveGroup) → AreInOrder xs → IsParted gid xs
  IsParted-from_order [] order = record {
    older = [];
    own = None;
    younger = [];
    is = refl;
    place = refl;
    found = refl;
    there = refl;
    without = refl;
    with_own = λ o. sym (append-nil (listed o));
  }
  IsParted-from_order (x ∷ xs) order = elim (cases_lt x.gid.0 gid.0) [
    | inl lt ↦ before lt (IsParted-from_order xs (AllPairs-tail (λ (a b : ExclusiveGroup). a.gid.0 < b.gid.0) x xs order))
    | inr ge ↦ elim (cases_eq gid.0 x.gid.0) [
      | inl same ↦ here same
      | inr differ ↦ after (omega (arith, ge, differ))
    ]
  ]
    where
      later : All (λ (y : ExclusiveGroup). x.gid.0 < y.gid.0) xs
      later = AllPairs-head (λ (a b : ExclusiveGroup). a.gid.0 < b.gid.0) x xs order

      before : x.gid.0 < gid.0 → IsParted gid xs → IsParted gid (x ∷ xs)
      before lt p =
          let early : nat_lt x.gid.0 gid.0 ≡ true = lt-ltb x.gid.0 gid.0 lt in
          let other : eqb gid.0 x.gid.0 ≡ false = ne_eqb gid.0 x.gid.0 (λ e. omega (arith, lt, e)) in
          record {
            older = x ∷ p.older;
            own = p.own;
            younger = p.younger;
            is = ap (λ (l : List ExclusiveGroup). x ∷ l) p.is;
            place = rw early (ap suc p.place);
            found = rw other p.found;
            there = rw early p.there;
            without = rw other (ap (λ (l : List ExclusiveGroup). x ∷ l) p.without);
            with_own = λ o. rw early (ap (λ (l : List ExclusiveGroup). x ∷ l) (p.with_own o));
          }

      here : gid.0 ≡ x.gid.0 → IsParted gid (x ∷ xs)
      here same =
          let late : nat_lt x.gid.0 gid.0 ≡ false = le-ltb x.gid.0 gid.0 (omega (arith, same)) in
          let its : eqb gid.0 x.gid.0 ≡ true = eq-eqb gid.0 x.gid.0 same in
          let above : All (λ (y : ExclusiveGroup). gid.0 < y.gid.0) xs = λ k d within. let lt = later k d within in omega (arith, lt, same) in
          record {
            older = [];
            own = Some x;
            younger = xs;
            is = refl;
            place = rw late refl;
            found = rw its refl;
            there = rw (late, its) refl;
            without = rw its (others-younger xs above);
            with_own = λ o. joined-younger o xs above;
          }

      after : gid.0 < x.gid.0 → IsParted gid (x ∷ xs)
      after lt =
          let late : nat_lt x.gid.0 gid.0 ≡ false = le-ltb x.gid.0 gid.0 (omega (arith, lt)) in
          let other : eqb gid.0 x.gid.0 ≡ false = ne_eqb gid.0 x.gid.0 (λ e. omega (arith, lt, e)) in
          let above : All (λ (y : ExclusiveGroup). gid.0 < y.gid.0) xs = λ k d within. let less = later k d within in omega (arith, less, lt) in
          record {
            older = [];
            own = None;
            younger = x ∷ xs;
            is = refl;
            place = rw late refl;
            found = rw other (find-younger xs above);
            there = rw (late, other) refl;
            without = rw other (ap (λ (l : List ExclusiveGroup). x ∷ l) (others-younger xs above));
            with_own = λ o. rw late refl;
          }

  -- the record of a group among those of the others
  pub joined-own : (xs : List ExclusiveGroup) → AreInOrder xs → joined gid (find (is_of gid) xs) (others gid xs) ≡ xs
  joined-own xs order =
      let p = IsParted-from_order xs order in
      ap₂ (joined gid) p.found p.without ∙ (p.with_own p.own ∙ sym p.is)

-- ---- where the place is found

-- the older ones come first
pub IsPartitionedBy-older : (gid : Gid) (xs : List ExclusiveGroup) → AreInOrder xs → IsPartitionedBy (λ (x : ExclusiveGroup). ltb x.gid.0 gid.0) xs
IsPartitionedBy-older gid xs order = λ a b d le within older. elim (cases_lt a b) [
  | inl lt ↦ let less = order a b d lt within in let is = ltb-true (get_or xs b d).gid.0 gid.0 older in lt-ltb (get_or xs a d).gid.0 gid.0 (omega (arith, less, is))
  | inr ge ↦ let same : b ≡ a = omega (arith, le, ge) in subst (λ k. ltb (get_or xs k d).gid.0 gid.0 ≡ true) same older
]

-- so many are older
pub place_in-older : (gid : Gid) (xs : List ExclusiveGroup) (at : ℕ) → at ≤ length xs → AllWithin (λ (x : ExclusiveGroup). x.gid.0 < gid.0) xs 0 at → AllWithin (λ (x : ExclusiveGroup). gid.0 ≤ x.gid.0) xs at (length xs)
    → at ≡ place_in gid xs
place_in-older gid [] at within early late = omega (arith, within)
place_in-older gid (x ∷ xs) zero within early late = let le = late 0 x (omega arith) (omega arith) in rw (le-ltb x.gid.0 gid.0 le) refl
place_in-older gid (x ∷ xs) (suc at) within early late =
    let lt = early 0 x (omega arith) (omega arith) in
    rw (lt-ltb x.gid.0 gid.0 lt)
    (ap suc (place_in-older gid xs at (omega (arith, within)) (λ k d low high. early (suc k) d (omega arith) (omega (arith, high))) (λ k d low high. late (suc k) d (omega (arith, low)) (omega (arith, high)))))

module _ (gid : Gid) (xs : List ExclusiveGroup) (order : AreInOrder xs) where
  p : IsParted gid xs
  p = IsParted-from_order gid xs order

  -- the record of a group that is there, made what it is now
  pub with_other-joined : (old : ExclusiveGroup) (now : Option ExclusiveGroup) → own_of gid (slice_get xs (place_in gid xs)) ≡ Some old → with_other (place_in gid xs) now xs ≡ joined gid now (others gid xs)
  with_other-joined old now there = at p.own (sym p.there ∙ there) now
    where
      at : (own : Option ExclusiveGroup) → p.own ≡ Some old → (now : Option ExclusiveGroup) → with_other (place_in gid xs) now xs ≡ joined gid now (others gid xs)
      at own is now =
          let whole : xs ≡ p.older ++ old ∷ p.younger = p.is ∙ ap (λ (o : Option ExclusiveGroup). p.older ++ (listed o ++ p.younger)) is in
          let after : joined gid now (others gid xs) ≡ p.older ++ (listed now ++ p.younger) = ap (joined gid now) p.without ∙ p.with_own now in
          ap₂ (λ (n : ℕ) (l : List ExclusiveGroup). with_other n now l) p.place whole ∙ (made now ∙ sym after)
        where
          made : (now : Option ExclusiveGroup) → with_other (length p.older) now (p.older ++ old ∷ p.younger) ≡ p.older ++ (listed now ++ p.younger)
          made (Some g) = set_at p.older old p.younger g (length p.older) refl
          made None = ap₂ (λ (a b : List ExclusiveGroup). a ++ b) (take_at p.older (old ∷ p.younger) (length p.older) refl) (drop-past p.older)
            where
              drop-past : (l : List ExclusiveGroup) → drop (suc (length l)) (l ++ old ∷ p.younger) ≡ p.younger
              drop-past [] = refl
              drop-past (y ∷ ys) = drop-past ys

  -- of one that is not
  pub with_new-joined : (now : Option ExclusiveGroup) → own_of gid (slice_get xs (place_in gid xs)) ≡ None → with_new (place_in gid xs) now xs ≡ joined gid now (others gid xs)
  with_new-joined now there =
      let is : p.own ≡ None = sym p.there ∙ there in
      let whole : xs ≡ p.older ++ p.younger = p.is ∙ ap (λ (o : Option ExclusiveGroup). p.older ++ (listed o ++ p.younger)) is in
      let after : joined gid now (others gid xs) ≡ p.older ++ (listed now ++ p.younger) = ap (joined gid now) p.without ∙ p.with_own now in
      ap₂ (λ (n : ℕ) (l : List ExclusiveGroup). with_new n now l) p.place whole ∙ (made now ∙ sym after)
    where
      made : (now : Option ExclusiveGroup) → with_new (length p.older) now (p.older ++ p.younger) ≡ p.older ++ (listed now ++ p.younger)
      made (Some g) = ap₂ (λ (a b : List ExclusiveGroup). a ++ g ∷ b) (take_at p.older p.younger (length p.older) refl) (drop_at p.older p.younger (length p.older) refl)
      made None = refl
