-- Replacing and removing the record at a place, where gids differ.
use Rattle.std.proofs.Common.{◌≡◌, ◌≢◌, ℕ, zero, suc, ◌<◌, ◌≤◌, Bool, true, false, cond, not, List, [], ◌∷◌, ◌++◌, length, filter, find, get_or, set, take, drop, length-append, length-set, Some, refl, sym, ap, ◌∙◌, arith}
use Rattle.std.specs.List.{refill, remove}
use Rattle.std.proofs.lemmas.Bool.{eqb-false, eqb-true, ne_eqb, or_parts}
use Rattle.std.proofs.lemmas.List.Kept.{AllPairs-filter}
use Rattle.std.proofs.lemmas.List.Quantifiers.{all_pairs_push}
use Rattle.std.proofs.lemmas.Option.{same_Some}
use Rattle.rc_base.specs.declared.names.Gid.{Gid}
use Rattle.group_tree.specs.declared.group.Group.{Group}
use Rattle.group_tree.specs.Lists.{BeginsWithDefault, GidsDiffer, IsTree, has_group, replaced, without}
use Rattle.group_tree.specs.Records.{has_gid}
use Rattle.group_tree.proofs.laws.Records.{exchanged-gid}

-- no group has this gid
abbrev pub HasNone : Gid → List Group → Type 0
HasNone gid groups = (k : ℕ) (d : Group) → k < length groups → has_gid gid (get_or groups k d) ≡ false

-- the groups after the first differ too
pub GidsDiffer-tail : (g : Group) (gs : List Group) → GidsDiffer (g ∷ gs) → GidsDiffer gs
GidsDiffer-tail g gs differ = λ i j d below within. differ (suc i) (suc j) d (omega arith) (omega arith)

-- the first has another gid than each of them
GidsDiffer-head : (g : Group) (gs : List Group) → GidsDiffer (g ∷ gs) → (k : ℕ) (d : Group) → k < length gs → g.gid.0 ≢ (get_or gs k d).gid.0
GidsDiffer-head g gs differ = λ k d within. differ 0 (suc k) d (omega arith) (omega arith)

-- what has the gid of the first is not among the rest
pub HasNone-others : (gid : Gid) (g : Group) (gs : List Group) → has_gid gid g ≡ true → GidsDiffer (g ∷ gs) → HasNone gid gs
HasNone-others gid g gs is differ = λ k d within. let same : gid.0 ≡ g.gid.0 = eqb-true gid.0 g.gid.0 is in
    ne_eqb gid.0 (get_or gs k d).gid.0 (λ e. GidsDiffer-head g gs differ k d within (sym same ∙ e))

-- what has the gid of one of the rest is not the first
has_gid-first : (gid : Gid) (g : Group) (gs : List Group) (i : ℕ) (d : Group) → i < length gs → has_gid gid (get_or gs i d) ≡ true → GidsDiffer (g ∷ gs) → has_gid gid g ≡ false
has_gid-first gid g gs i d within is differ = let same : gid.0 ≡ (get_or gs i d).gid.0 = eqb-true gid.0 (get_or gs i d).gid.0 is in
    ne_eqb gid.0 g.gid.0 (λ e. GidsDiffer-head g gs differ i d within (sym e ∙ same))

-- what no group has, none of the rest has
HasNone-tail : (gid : Gid) (g : Group) (gs : List Group) → HasNone gid (g ∷ gs) → HasNone gid gs
HasNone-tail gid g gs none = λ k d within. none (suc k) d (omega arith)

-- ---- a gid that no group has

-- replacing it leaves all as they are
pub replaced-none : (new : Group) (gs : List Group) → HasNone new.gid gs → replaced new gs ≡ gs
replaced-none new [] none = refl
replaced-none new (g ∷ gs) none = rw (none 0 g (omega arith)) (ap (λ (xs : List Group). g ∷ xs) (replaced-none new gs (HasNone-tail new.gid g gs none)))

-- removing it leaves all as they are
pub without-none : (gid : Gid) (gs : List Group) → HasNone gid gs → without gid gs ≡ gs
without-none gid [] none = refl
without-none gid (g ∷ gs) none = rw (none 0 g (omega arith)) (ap (λ (xs : List Group). g ∷ xs) (without-none gid gs (HasNone-tail gid g gs none)))

-- ---- the gid of the group at a place

-- a record that is put there replaces that group
pub set-replaced : (new : Group) (gs : List Group) (i : ℕ) (d : Group) → i < length gs → has_gid new.gid (get_or gs i d) ≡ true → GidsDiffer gs → set gs i new ≡ replaced new gs
set-replaced new [] i d within is differ = absurd (omega arith)
set-replaced new (g ∷ gs) zero d within is differ = rw is (ap (λ (xs : List Group). new ∷ xs) (sym (replaced-none new gs (HasNone-others new.gid g gs is differ))))
set-replaced new (g ∷ gs) (suc i) d within is differ =
    rw (has_gid-first new.gid g gs i d (omega arith) is differ) (ap (λ (xs : List Group). g ∷ xs) (set-replaced new gs i d (omega arith) is (GidsDiffer-tail g gs differ)))

-- removing there removes that group
pub remove-without : (gid : Gid) (gs : List Group) (i : ℕ) (d : Group) → i < length gs → has_gid gid (get_or gs i d) ≡ true → GidsDiffer gs → remove gs i ≡ without gid gs
remove-without gid [] i d within is differ = absurd (omega arith)
remove-without gid (g ∷ gs) zero d within is differ = rw is (sym (without-none gid gs (HasNone-others gid g gs is differ)))
remove-without gid (g ∷ gs) (suc i) d within is differ =
    rw (has_gid-first gid g gs i d (omega arith) is differ) (ap (λ (xs : List Group). g ∷ xs) (remove-without gid gs i d (omega arith) is (GidsDiffer-tail g gs differ)))

-- and it is what a search finds
pub find-place : (gid : Gid) (gs : List Group) (i : ℕ) (d : Group) → i < length gs → has_gid gid (get_or gs i d) ≡ true → GidsDiffer gs → find (has_gid gid) gs ≡ Some (get_or gs i d)
find-place gid [] i d within is differ = absurd (omega arith)
find-place gid (g ∷ gs) zero d within is differ = rw is refl
find-place gid (g ∷ gs) (suc i) d within is differ = rw (has_gid-first gid g gs i d (omega arith) is differ) (find-place gid gs i d (omega arith) is (GidsDiffer-tail g gs differ))

-- ---- what stays of a tree

-- each place keeps its gid
get_or-replaced_gid : (new : Group) (gs : List Group) (k : ℕ) (d : Group) → (get_or (replaced new gs) k d).gid.0 ≡ (get_or gs k d).gid.0
get_or-replaced_gid new [] k d = refl
get_or-replaced_gid new (g ∷ gs) zero d = exchanged-gid new g
get_or-replaced_gid new (g ∷ gs) (suc k) d = get_or-replaced_gid new gs k d

-- and there are as many
pub length-replaced : (new : Group) (gs : List Group) → length (replaced new gs) ≡ length gs
length-replaced new [] = refl
length-replaced new (g ∷ gs) = ap suc (length-replaced new gs)

-- the default group stays first
BeginsWithDefault-replaced : (new : Group) (gs : List Group) → BeginsWithDefault gs → BeginsWithDefault (replaced new gs)
BeginsWithDefault-replaced new [] begins = begins
BeginsWithDefault-replaced new (g ∷ gs) begins = ap Some (exchanged-gid new g) ∙ begins

-- the groups of a tree with another record in place of one are those of a tree
pub IsTree-replaced : (new : Group) (gs : List Group) → IsTree gs → IsTree (replaced new gs)
IsTree-replaced new gs tree = record {
  fits = omega (arith, length-replaced new gs, tree.fits);
  default_first = BeginsWithDefault-replaced new gs tree.default_first;
  gids_differ = λ i j d below within e. tree.gids_differ i j d below (omega (arith, length-replaced new gs)) (sym (get_or-replaced_gid new gs i d) ∙ e ∙ get_or-replaced_gid new gs j d);
}

-- the default group stays first where another is removed
BeginsWithDefault-without : (gid : Gid) (gs : List Group) → gid.0 ≢ 0 → BeginsWithDefault gs → BeginsWithDefault (without gid gs)
BeginsWithDefault-without gid [] other begins = begins
BeginsWithDefault-without gid (g ∷ gs) other begins =
    let zeroth : g.gid.0 ≡ 0 = same_Some g.gid.0 0 begins in
    rw (ne_eqb gid.0 g.gid.0 (λ e. other (e ∙ zeroth))) begins

-- a filter keeps at most as many
length-filter : (p : Group → Bool) (gs : List Group) → length (filter p gs) ≤ length gs
length-filter p [] = omega arith
length-filter p (g ∷ gs) = at (p g) (length-filter p gs)
  where
    at : (b : Bool) → length (filter p gs) ≤ length gs → length (cond b (g ∷ filter p gs) (filter p gs)) ≤ suc (length gs)
    at true le = omega arith
    at false le = omega arith

-- the groups of a tree but for one that is not the default group are those of a tree
pub IsTree-without : (gid : Gid) (gs : List Group) → gid.0 ≢ 0 → IsTree gs → IsTree (without gid gs)
IsTree-without gid gs other tree = record {
  fits = omega (arith, length-filter (λ (g : Group). not (has_gid gid g)) gs, tree.fits);
  default_first = BeginsWithDefault-without gid gs other tree.default_first;
  gids_differ = AllPairs-filter (λ (one later : Group). one.gid.0 ≢ later.gid.0) (λ (g : Group). not (has_gid gid g)) gs tree.gids_differ;
}

-- the default group alone is a tree
pub IsTree-one : (g : Group) → g.gid.0 ≡ 0 → IsTree (g ∷ [])
IsTree-one g zeroth = record { fits = omega arith; default_first = ap Some zeroth; gids_differ = λ i j d below within. absurd (omega arith) }

-- no group has a gid that the list does not have
HasNone-from_false : (gid : Gid) (gs : List Group) → has_group gid gs ≡ false → HasNone gid gs
HasNone-from_false gid [] absent = λ k d within. absurd (omega arith)
HasNone-from_false gid (g ∷ gs) absent = at (HasNone-from_false gid gs parts.1)
  where
    parts : (has_gid gid g ≡ false) × (has_group gid gs ≡ false)
    parts = or_parts (has_gid gid g) (has_group gid gs) absent

    at : HasNone gid gs → (k : ℕ) (d : Group) → k < length (g ∷ gs) → has_gid gid (get_or (g ∷ gs) k d) ≡ false
    at none zero d within = parts.0
    at none (suc k) d within = none k d (omega arith)

-- the default group stays first where one is added after the others
BeginsWithDefault-inserted : (new : Group) (gs : List Group) → BeginsWithDefault gs → BeginsWithDefault (gs ++ new ∷ [])
BeginsWithDefault-inserted new [] begins = absurd cc
BeginsWithDefault-inserted new (g ∷ gs) begins = begins

-- the groups of a tree and a new one are those of a tree
pub IsTree-inserted : (new : Group) (gs : List Group) → has_group new.gid gs ≡ false → length gs < 328 → IsTree gs → IsTree (gs ++ new ∷ [])
IsTree-inserted new gs fresh place tree = record {
  fits = omega (arith, length-append gs (new ∷ []));
  default_first = BeginsWithDefault-inserted new gs tree.default_first;
  gids_differ = all_pairs_push (λ (one later : Group). one.gid.0 ≢ later.gid.0) gs new tree.gids_differ
      (λ k d within e. eqb-false new.gid.0 (get_or gs k d).gid.0 (HasNone-from_false new.gid gs fresh k d within) (sym e));
}

-- ---- a write through a slice of the records

-- all records are written back
pub refill-set : (gs : List Group) (i : ℕ) (new : Group) → refill (length gs) gs (set gs i new) ≡ set gs i new
refill-set gs i new =
    let whole : drop (length (set gs i new)) gs ≡ [] = ap (λ (n : ℕ). drop n gs) (length-set gs i new) ∙ drop_all gs in
    ap (λ (rest : List Group). take (length gs) (set gs i new ++ rest)) whole ∙ ap (λ (xs : List Group). take (length gs) xs) (append_none (set gs i new)) ∙ ap (λ (n : ℕ). take n (set gs i new)) (sym (length-set gs i new)) ∙ take_all (set gs i new)
  where
    append_none : (xs : List Group) → xs ++ [] ≡ xs
    append_none [] = refl
    append_none (x ∷ xs) = ap (λ (ys : List Group). x ∷ ys) (append_none xs)

    drop_all : (xs : List Group) → drop (length xs) xs ≡ []
    drop_all [] = refl
    drop_all (x ∷ xs) = drop_all xs

    take_all : (xs : List Group) → take (length xs) xs ≡ xs
    take_all [] = refl
    take_all (x ∷ xs) = ap (λ (ys : List Group). x ∷ ys) (take_all xs)
