-- How many groups pass a test, with and without one of them.
use Rattle.std.proofs.Common.{◌≡◌, ℕ, ◌+◌, Bool, true, false, not, cond, List, [], ◌∷◌, filter, find, Option, Some, None, refl, ap, arith}
use Rattle.std.specs.List.{count_by}
use Rattle.std.proofs.lemmas.List.Sums.{sum_by-cons}
use Rattle.rc_base.specs.declared.names.Gid.{Gid}
use Rattle.group_tree.specs.Counts.{own_group}
use Rattle.group_tree.specs.Lists.{GidsDiffer, replaced, without}
use Rattle.group_tree.specs.Records.{has_gid, is_other}
use Rattle.group_tree.specs.declared.group.Group.{Group}
use Rattle.group_tree.proofs.Edits.{GidsDiffer-tail, HasNone-others, without-none, replaced-none}

-- the first counts where it passes
pub count_by-cons : (p : Group → Bool) (g : Group) (gs : List Group) → count_by p (g ∷ gs) ≡ cond (p g) 1 0 + count_by p gs
count_by-cons p g gs = sum_by-cons (λ (x : Group). cond (p x) 1 0) g gs

-- those but for one, where one is named
abbrev pub others_than : Option Gid → List Group → List Group
others_than gid groups = filter (is_other gid) groups

-- what a group that may be there counts
abbrev pub one_if : (Group → Bool) → Option Group → ℕ
one_if p None = 0
one_if p (Some g) = cond (p g) 1 0

-- where none is named, all are others
others_than-None : (gs : List Group) → others_than None gs ≡ gs
others_than-None [] = refl
others_than-None (g ∷ gs) = ap (λ (xs : List Group). g ∷ xs) (others_than-None gs)

-- the others and the one are all
pub count_by-without : (p : Group → Bool) (gid : Gid) (gs : List Group) → GidsDiffer gs → count_by p (without gid gs) + one_if p (find (has_gid gid) gs) ≡ count_by p gs
count_by-without p gid [] differ = refl
count_by-without p gid (g ∷ gs) differ = at (has_gid gid g) refl (count_by-without p gid gs (GidsDiffer-tail g gs differ))
  where
    at : (b : Bool) → has_gid gid g ≡ b → count_by p (without gid gs) + one_if p (find (has_gid gid) gs) ≡ count_by p gs
        → count_by p (cond (not b) (g ∷ without gid gs) (without gid gs)) + one_if p (cond b (Some g) (find (has_gid gid) gs)) ≡ count_by p (g ∷ gs)
    at true is rest = (
        let none = ap (count_by p) (without-none gid gs (HasNone-others gid g gs is differ)) in
        let all = count_by-cons p g gs in omega arith)
    at false is rest = (
        let kept = count_by-cons p g (without gid gs) in
        let all = count_by-cons p g gs in omega arith)

pub count_by-others : (p : Group → Bool) (gid : Option Gid) (gs : List Group) → GidsDiffer gs → count_by p (others_than gid gs) + one_if p (own_group gid gs) ≡ count_by p gs
count_by-others p None gs differ = (let all = ap (count_by p) (others_than-None gs) in omega arith)
count_by-others p (Some gid) gs differ = count_by-without p gid gs differ

-- a record that takes the place of another
pub count_by-replaced : (p : Group → Bool) (new old : Group) (gs : List Group) → find (has_gid new.gid) gs ≡ Some old → GidsDiffer gs → count_by p (replaced new gs) ≡ count_by p (without new.gid gs) + cond (p new) 1 0
count_by-replaced p new old [] found differ = absurd cc
count_by-replaced p new old (g ∷ gs) found differ = at (has_gid new.gid g) refl found (λ e. count_by-replaced p new old gs e (GidsDiffer-tail g gs differ))
  where
    at : (b : Bool) → has_gid new.gid g ≡ b → cond b (Some g) (find (has_gid new.gid) gs) ≡ Some old
        → (find (has_gid new.gid) gs ≡ Some old → count_by p (replaced new gs) ≡ count_by p (without new.gid gs) + cond (p new) 1 0)
        → count_by p (cond b new g ∷ replaced new gs) ≡ count_by p (cond (not b) (g ∷ without new.gid gs) (without new.gid gs)) + cond (p new) 1 0
    at true is e rest = (
        let none = HasNone-others new.gid g gs is differ in
        let kept = ap (count_by p) (without-none new.gid gs none) in
        let same = ap (count_by p) (replaced-none new gs none) in
        let all = count_by-cons p new (replaced new gs) in omega arith)
    at false is e rest = (
        let others = rest e in
        let kept = count_by-cons p g (without new.gid gs) in
        let all = count_by-cons p g (replaced new gs) in omega arith)
