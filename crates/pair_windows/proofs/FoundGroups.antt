-- Groups that are found in a list, or not.
use Rattle.std.proofs.Common.{◌≡◌, ◌<◌, Bool, true, false, List, [], ◌∷◌, filter, find, get_or, None, Some, inl, inr, refl, arith}
use Rattle.std.specs.List.{All, AllPairs}
use Rattle.std.proofs.lemmas.Bool.{cases_Bool, eq-eqb, ne_eqb}
use Rattle.std.proofs.lemmas.List.Elements.{All-cons, All-nil}
use Rattle.group_tree.specs.Records.{is_mode}
use Rattle.lists.proofs.Pairs.{AllPairs-head, AllPairs-tail}
use Rattle.pair_law.specs.State.{has_gid}
use Rattle.pair_text.specs.declared.group.PairGroup.{PairGroup}
use Rattle.rc_base.specs.declared.names.Mode.TheVariants.{Shareable, Exclusive, LockSetup, Locked}
use Rattle.rc_base.specs.declared.names.Mode.{Mode}

module _ {X : Type 0} (p : X → Bool) where
  -- where none is found, all are left out
  pub filter-found_none : (xs : List X) → find p xs ≡ None → filter p xs ≡ []
  filter-found_none [] none = refl
  filter-found_none (x ∷ xs) none = elim (cases_Bool (p x)) [
    | inl is ↦ let some : Some x ≡ None = rw is at none in absurd cc
    | inr isnt ↦ let rest : find p xs ≡ None = rw isnt at none in rw isnt (filter-found_none xs rest)
  ]

-- a mode that is said to be exclusive is
pub is_mode-exclusive : (mode : Mode) → is_mode Exclusive mode ≡ true → mode ≡ Exclusive
is_mode-exclusive Exclusive is = refl
is_mode-exclusive Shareable is = absurd (let f : false ≡ true = is in cc)
is_mode-exclusive LockSetup is = absurd (let f : false ≡ true = is in cc)
is_mode-exclusive Locked is = absurd (let f : false ≡ true = is in cc)

-- a group of rising ones is found by its number
pub find-rising : (groups : List PairGroup) → AllPairs (λ (a b : PairGroup). a.gid.0 < b.gid.0) groups → All (λ (g : PairGroup). find (has_gid g.gid) groups ≡ Some g) groups
find-rising [] rise = All-nil (λ (g : PairGroup). find (has_gid g.gid) [] ≡ Some g)
find-rising (x ∷ xs) rise =
    let own : has_gid x.gid x ≡ true = eq-eqb x.gid.0 x.gid.0 refl in
    let first : find (has_gid x.gid) (x ∷ xs) ≡ Some x = rw own refl in
    let after = find-rising xs (AllPairs-tail (λ (a b : PairGroup). a.gid.0 < b.gid.0) x xs rise) in
    All-cons (λ (g : PairGroup). find (has_gid g.gid) (x ∷ xs) ≡ Some g) x xs first
    (λ k d within.
    let lt = AllPairs-head (λ (a b : PairGroup). a.gid.0 < b.gid.0) x xs rise k d within in
    let other : has_gid (get_or xs k d).gid x ≡ false = ne_eqb (get_or xs k d).gid.0 x.gid.0 (λ same. omega (arith, lt, same)) in
    rw other (after k d within))
