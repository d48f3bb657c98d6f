-- The exclusive ones of a tree's groups, as a list of which one changes.
use Rattle.std.proofs.Common.{◌≡◌, suc, ◌<◌, Bool, true, false, cond, eqb, List, [], ◌∷◌, map, filter, find, Some, None, refl, sym, ap, ap₂, ◌∙◌, arith}
use Rattle.std.specs.List.{All}
use Rattle.std.proofs.lemmas.Bool.{eqb-true, ne_eqb}
use Rattle.std.proofs.lemmas.List.Kept.{AllPairs-filter}
use Rattle.group_tree.specs.Records.{has_gid, has_mode, is_other_in}
use Rattle.group_tree.specs.declared.group.Group.{Group}
use Rattle.lists.proofs.Pairs.{AllPairs-head, AllPairs-map, AllPairs-tail}
use Rattle.rc_base.specs.declared.names.Gid.{Gid}
use Rattle.rc_base.specs.declared.names.Mode.TheVariants.{Exclusive}
use Rattle.run_windows.specs.OneGroup.{AreInOrder, if_exclusive, is_of, joined, others}
use Rattle.run_windows.specs.Stays.{exclusive_in, exclusive_of}
use Rattle.run_windows.specs.declared.exclusive_group.ExclusiveGroup.{ExclusiveGroup}
use Rattle.run_windows.proofs.OneGroup.{joined-own}
use Rattle.tree_law.proofs.laws.RisingGroups.{AreRisen}

-- they are in order
pub AreInOrder-exclusive : (groups : List Group) → AreRisen groups → AreInOrder (exclusive_in groups)
AreInOrder-exclusive groups risen =
    AllPairs-map (λ (a b : ExclusiveGroup). a.gid.0 < b.gid.0) exclusive_of (filter (has_mode Exclusive) groups) (AllPairs-filter (λ (a b : Group). a.gid.0 < b.gid.0) (has_mode Exclusive) groups risen)

-- those of other groups
pub others-exclusive : (gid : Gid) (groups : List Group) → others gid (exclusive_in groups) ≡ map exclusive_of (filter (is_other_in (Some gid) Exclusive) groups)
others-exclusive gid [] = refl
others-exclusive gid (g ∷ gs) = at (has_gid gid g) (has_mode Exclusive g) refl refl (others-exclusive gid gs)
  where
    at : (b c : Bool) → has_gid gid g ≡ b → has_mode Exclusive g ≡ c → others gid (exclusive_in gs) ≡ map exclusive_of (filter (is_other_in (Some gid) Exclusive) gs)
        → others gid (map exclusive_of (cond c (g ∷ filter (has_mode Exclusive) gs) (filter (has_mode Exclusive) gs)))
        ≡ map exclusive_of (cond (is_other_in (Some gid) Exclusive g) (g ∷ filter (is_other_in (Some gid) Exclusive) gs) (filter (is_other_in (Some gid) Exclusive) gs))
    at true true own is rest = rw own rest
    at true false own is rest = rw own rest
    at false true own is rest = rw (own, is) (ap (λ (l : List ExclusiveGroup). exclusive_of g ∷ l) rest)
    at false false own is rest = rw (own, is) rest

-- a younger group is none of the older ones
find-exclusive_none : (gid : Gid) (groups : List Group) → All (λ (g : Group). gid.0 < g.gid.0) groups → find (is_of gid) (exclusive_in groups) ≡ None
find-exclusive_none gid [] above = refl
find-exclusive_none gid (g ∷ gs) above = at (has_mode Exclusive g) (find-exclusive_none gid gs (λ k d within. above (suc k) d (omega (arith, within))))
  where
    other : eqb gid.0 g.gid.0 ≡ false
    other = let lt = above 0 g (omega arith) in ne_eqb gid.0 g.gid.0 (λ e. omega (arith, lt, e))

    at : (b : Bool) → find (is_of gid) (exclusive_in gs) ≡ None → find (is_of gid) (map exclusive_of (cond b (g ∷ filter (has_mode Exclusive) gs) (filter (has_mode Exclusive) gs))) ≡ None
    at true rest = rw other rest
    at false rest = rest

-- the record of one of them is that of its group, where that is exclusive
pub find-exclusive : (gid : Gid) (groups : List Group) → AreRisen groups → find (is_of gid) (exclusive_in groups) ≡ if_exclusive (find (has_gid gid) groups)
find-exclusive gid [] risen = refl
find-exclusive gid (g ∷ gs) risen = at (has_gid gid g) (has_mode Exclusive g) refl refl (find-exclusive gid gs (AllPairs-tail (λ (a b : Group). a.gid.0 < b.gid.0) g gs risen))
  where
    younger : has_gid gid g ≡ true → All (λ (x : Group). gid.0 < x.gid.0) gs
    younger own = λ k d within. let lt = AllPairs-head (λ (a b : Group). a.gid.0 < b.gid.0) g gs risen k d within in let same = eqb-true gid.0 g.gid.0 own in omega (arith, lt, same)

    at : (b c : Bool) → has_gid gid g ≡ b → has_mode Exclusive g ≡ c → find (is_of gid) (exclusive_in gs) ≡ if_exclusive (find (has_gid gid) gs)
        → find (is_of gid) (map exclusive_of (cond c (g ∷ filter (has_mode Exclusive) gs) (filter (has_mode Exclusive) gs))) ≡ if_exclusive (cond b (Some g) (find (has_gid gid) gs))
    at true true own is rest = rw (own, is) refl
    at true false own is rest = rw is (find-exclusive_none gid gs (younger own))
    at false true own is rest = rw own rest
    at false false own is rest = rest

-- they are the same where those of the tree's groups are
pub others-kept : (gid : Gid) (old new : List Group) → filter (is_other_in (Some gid) Exclusive) new ≡ filter (is_other_in (Some gid) Exclusive) old → others gid (exclusive_in old) ≡ others gid (exclusive_in new)
others-kept gid old new kept = others-exclusive gid old ∙ (sym (ap (map exclusive_of) kept) ∙ sym (others-exclusive gid new))

-- those that a tree has now, made of the others and of the record of one
pub joined-exclusive : (gid : Gid) (old : List ExclusiveGroup) (new : List Group) → AreRisen new → others gid old ≡ others gid (exclusive_in new) → joined gid (if_exclusive (find (has_gid gid) new)) (others gid old) ≡ exclusive_in new
joined-exclusive gid old new risen kept = ap₂ (joined gid) (sym (find-exclusive gid new risen)) kept ∙ joined-own gid (exclusive_in new) (AreInOrder-exclusive new risen)
