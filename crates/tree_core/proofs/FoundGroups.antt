-- Groups that a look-up found.
use Rattle.std.proofs.Common.{◌≡◌, ℕ, Bool, true, false, cond, List, find, None, Some, refl, sym, subst, ap, ◌∙◌}
use Rattle.std.proofs.lemmas.Bool.{eqb-true}
use Rattle.std.proofs.lemmas.List.Folds.{list_any_at}
use Rattle.group_tree.specs.Lists.{has_group}
use Rattle.group_tree.specs.Records.{has_gid, is_control}
use Rattle.group_tree.specs.declared.group.Group.{Group}
use Rattle.lists.proofs.Options.{option_and_then-some}
use Rattle.lists.proofs.Tests.{find-found}
use Rattle.path_names.specs.declared.dirs.DirRef.{DirRef}
use Rattle.rc_base.specs.declared.names.Gid.{Gid}
use Rattle.tree_law.specs.Existing.{directory_gid, group_of}
use Rattle.tree_law.specs.Places.{control_at, group_at, only_control}
use Rattle.tree_law.specs.State.{State}

-- a group that was found is there, with that gid
pub has_group-found : (groups : List Group) (gid : Gid) (g : Group) → find (has_gid gid) groups ≡ Some g → has_group gid groups ≡ true
has_group-found groups gid g found =
    let f = find-found (has_gid gid) groups g found in
    list_any_at (has_gid gid) groups f.place g f.within (ap (has_gid gid) (f.at g) ∙ f.passes)

abbrev gid_of : ℕ → Gid
gid_of n = record { 0 = n }

-- a group that was found has the gid that was looked for
pub gid-found : (groups : List Group) (gid : Gid) (g : Group) → find (has_gid gid) groups ≡ Some g → gid ≡ g.gid
gid-found groups gid g found = let same : gid.0 ≡ g.gid.0 = eqb-true gid.0 g.gid.0 (find-found (has_gid gid) groups g found).passes in ap (λ (n : ℕ). gid_of n) same

-- the control group of a directory is found by its gid
pub find-control_at : (s : State) (dir : DirRef) (g : Group) → control_at s dir ≡ Some g → find (has_gid g.gid) s.groups ≡ Some g
find-control_at s dir g is =
    let at = option_and_then-some only_control (group_at s dir) g is in
    let by = option_and_then-some (group_of s) (directory_gid s dir) at.0 at.1 in
    own by.0 at.0 by.2 (same at.0 (is_control at.0.kind) at.2)
  where
    same : (x : Group) (b : Bool) → cond b (Some x) None ≡ Some g → x ≡ g
    same x true e = let some : Some x ≡ Some g = e in cc
    same x false e = absurd (let none : None ≡ Some g = e in cc)

    own : (gid : Gid) (x : Group) → find (has_gid gid) s.groups ≡ Some x → x ≡ g → find (has_gid g.gid) s.groups ≡ Some g
    own gid x found e =
        let mine : find (has_gid gid) s.groups ≡ Some g = found ∙ ap Some e in
        subst (λ (i : Gid). find (has_gid i) s.groups ≡ Some g) (gid-found s.groups gid g mine) mine

-- it is a control group
pub is_control-control_at : (s : State) (dir : DirRef) (g : Group) → control_at s dir ≡ Some g → is_control g.kind ≡ true
is_control-control_at s dir g is = (let at = option_and_then-some only_control (group_at s dir) g is in same at.0 (is_control at.0.kind) refl at.2)
  where
    same : (x : Group) (b : Bool) → is_control x.kind ≡ b → cond b (Some x) None ≡ Some g → is_control g.kind ≡ true
    same x true kind e = let it : x ≡ g = (let some : Some x ≡ Some g = e in cc) in ap (λ (y : Group). is_control y.kind) (sym it) ∙ kind
    same x false kind e = absurd (let none : None ≡ Some g = e in cc)
