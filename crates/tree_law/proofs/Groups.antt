-- Groups that are found, and groups with one record in place of another with its gid.
use Rattle.std.proofs.Common.{◌≡◌, ℕ, Bool, true, false, not, ◌||◌, cond, eqb, List, [], ◌∷◌, find, Option, Some, inr, refl, sym, subst, ap, ◌∙◌}
use Rattle.std.specs.List.{list_any}
use Rattle.std.specs.Option.{option_map_or}
use Rattle.std.proofs.lemmas.Bool.{eq-eqb, eqb-true}
use Rattle.std.proofs.lemmas.List.Folds.{list_any_at}
use Rattle.group_tree.specs.Records.{has_gid, is_monitor_of}
use Rattle.group_tree.specs.declared.group.Group.{Group}
use Rattle.lists.proofs.Tests.{find-found}
use Rattle.path_names.specs.declared.dirs.DirRef.{DirRef}
use Rattle.rc_base.specs.declared.names.Gid.{Gid}
use Rattle.lists.proofs.Options.{option_and_then-some}
use Rattle.tree_law.specs.Counted.{is_counted}
use Rattle.tree_law.specs.Existing.{directory_gid, group_of}
use Rattle.tree_law.specs.Places.{group_at, is_closed}
use Rattle.tree_law.specs.Sound.{AreNamed, IsCounted, IsOf, counts, monitors}
use Rattle.tree_law.specs.State.{State}

-- a group has its own gid
pub has_gid-own : (g : Group) → has_gid g.gid g ≡ true
has_gid-own g = eq-eqb g.gid.0 g.gid.0 refl

-- the number of a group
abbrev pub gid_number : Group → ℕ
gid_number g = g.gid.0

-- the group of a number
abbrev as_gid : ℕ → Gid
as_gid n = record { 0 = n }

-- what was found by a gid has that gid
pub find-gid : (gid : Gid) (groups : List Group) (g : Group) → find (has_gid gid) groups ≡ Some g → gid ≡ g.gid
find-gid gid groups g found = ap as_gid (eqb-true gid.0 g.gid.0 (find-found (has_gid gid) groups g found).passes)

-- what was found by a gid is found by its own gid
pub find-own : (gid : Gid) (groups : List Group) (g : Group) → find (has_gid gid) groups ≡ Some g → find (has_gid g.gid) groups ≡ Some g
find-own gid groups g found = subst (λ (i : Gid). find (has_gid i) groups ≡ Some g) (find-gid gid groups g found) found

-- the group of a directory is in the list
pub group_at-found : (s : State) (dir : DirRef) (g : Group) → group_at s dir ≡ Some g → find (has_gid g.gid) s.groups ≡ Some g
group_at-found s dir g is = let e = option_and_then-some (group_of s) (directory_gid s dir) g is in find-own e.0 s.groups g e.2

-- ---- counted groups

-- a group that is there and counted
pub IsCounted-found : (gid : Gid) (groups : List Group) (g : Group) → find (has_gid gid) groups ≡ Some g → is_counted g ≡ true → IsCounted groups gid
IsCounted-found gid groups g found counted =
    let f = find-found (has_gid gid) groups g found in
    list_any_at (counts gid) groups f.place g f.within (subst (λ (x : Group). counts gid x ≡ true) (sym (f.at g)) (at (has_gid gid g) f.passes))
  where
    at : (b : Bool) → b ≡ true → cond b (is_counted g) false ≡ true
    at true is = counted
    at false is = absurd (let f : false ≡ true = is in cc)

-- a monitor group that is there
pub IsOf-found : (gid control : Gid) (groups : List Group) (g : Group) → find (has_gid gid) groups ≡ Some g → is_monitor_of control g.kind ≡ true → IsOf groups control gid
IsOf-found gid control groups g found is =
    let f = find-found (has_gid gid) groups g found in
    inr (list_any_at (monitors control gid) groups f.place g f.within (subst (λ (x : Group). monitors control gid x ≡ true) (sym (f.at g)) (at (has_gid gid g) f.passes)))
  where
    at : (b : Bool) → b ≡ true → cond b (is_monitor_of control g.kind) false ≡ true
    at true e = is
    at false e = absurd (let f : false ≡ true = e in cc)

-- a group that is not closed is counted
pub is_counted-open : (s : State) (gid : Gid) (g : Group) → group_of s gid ≡ Some g → is_closed s gid ≡ false → is_counted g ≡ true
is_counted-open s gid g found opened = at (is_counted g) (ap (λ (o : Option Group). option_map_or (λ (x : Group). not (is_counted x)) o false) (sym found) ∙ opened)
  where
    at : (b : Bool) → not b ≡ false → b ≡ true
    at true e = refl
    at false e = absurd (let f : true ≡ false = e in cc)

-- the default group is counted
pub IsCounted-default : (groups : List Group) (next_gid : ℕ) → AreNamed groups next_gid → IsCounted groups (record { 0 = 0 })
IsCounted-default [] next_gid named = absurd named.first
IsCounted-default (g ∷ gs) next_gid named = at (eqb 0 g.gid.0) (eq-eqb 0 g.gid.0 (sym named.first.gid))
  where
    at : (b : Bool) → b ≡ true → (cond b (is_counted g) false || list_any (counts (record { 0 = 0 })) gs) ≡ true
    at true e = ap (λ (b : Bool). b || list_any (counts (record { 0 = 0 })) gs) named.first.counted
    at false e = absurd (let f : false ≡ true = e in cc)
