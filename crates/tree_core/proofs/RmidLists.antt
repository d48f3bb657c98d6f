-- The RMIDs of monitor groups.
use Rattle.std.proofs.Common.{◌≡◌, ℕ, suc, ◌+◌, ◌≤◌, ◌<◌, Bool, true, false, cond, List, [], ◌∷◌, ◌++◌, length, filter, get_or, Option, None, Some, IsSome, refl, sym, ap, ◌∙◌, arith, length-append, drop, drop-cons}
use Rattle.std.specs.List.{All, flat_map}
use Rattle.std.specs.Option.{option_map_or, option_to_list}
use Rattle.group_tree.specs.Records.{is_control, is_monitor_of}
use Rattle.group_tree.specs.declared.group.Group.{Group}
use Rattle.group_tree.specs.declared.group_kind.GroupKind.{GroupKind}
use Rattle.group_tree.specs.declared.group_kind.GroupKind.TheVariants.{Control, Monitor}
use Rattle.machine.specs.declared.parameters.Parameters.{Parameters}
use Rattle.rc_base.specs.declared.names.Gid.{Gid}
use Rattle.tree_core.proofs.KeptTables.{IsDefault-first, length-positive}
use Rattle.tree_core.proofs.Room.{length-rmids_le}
use Rattle.tree_core.specs.Kept.{Keeps}
use Rattle.tree_core.specs.RmidLists.{monitor_rmids, rmids_if_monitor}
use Rattle.tree_core.specs.Tables.{Tables}
use Rattle.tree_law.specs.Counted.{is_counted, is_counted_mode}
use Rattle.tree_law.specs.Existing.{group_of}
use Rattle.tree_law.specs.Freeing.{rmids_of, rmids_with}
use Rattle.tree_law.specs.Sound.{HasIds}
use Rattle.tree_law.specs.State.{State}

-- the RMID of the first group, where it is a monitor group, comes first
pub monitor_rmids-cons : (control : Gid) (g : Group) (gs : List Group) → monitor_rmids control (g ∷ gs) ≡ rmids_if_monitor control g ++ monitor_rmids control gs
monitor_rmids-cons control g gs = at (is_monitor_of control g.kind)
  where
    at : (b : Bool) → flat_map rmids_of (cond b (g ∷ filter (λ (x : Group). is_monitor_of control x.kind) gs) (filter (λ (x : Group). is_monitor_of control x.kind) gs)) ≡ cond b (rmids_of g) [] ++ monitor_rmids control gs
    at true = refl
    at false = refl

-- those from a place on begin with that of its group
pub monitor_rmids-drop : (control : Gid) (groups : List Group) (i : ℕ) (d : Group) → i < length groups → monitor_rmids control (drop i groups) ≡ rmids_if_monitor control (get_or groups i d) ++ monitor_rmids control (drop (i + 1) groups)
monitor_rmids-drop control groups i d within =
    let next : i + 1 ≡ suc i = omega arith in
    ap (monitor_rmids control) (drop-cons groups i d within) ∙ monitor_rmids-cons control (get_or groups i d) (drop (suc i) groups) ∙ ap (λ (n : ℕ). rmids_if_monitor control (get_or groups i d) ++ monitor_rmids control (drop n groups)) (sym next)

-- a group has at most one RMID
length-rmids_of : (rmid : Option ℕ) → length (option_to_list rmid) ≤ 1
length-rmids_of None = omega arith
length-rmids_of (Some id) = omega arith

-- there are no more of them than RMIDs of groups
length-monitor_rmids : (control : Gid) (groups : List Group) → length (monitor_rmids control groups) ≤ length (flat_map rmids_of groups)
length-monitor_rmids control [] = omega arith
length-monitor_rmids control (g ∷ gs) =
    let rest = length-monitor_rmids control gs in
    let both = ap length (monitor_rmids-cons control g gs) ∙ length-append (rmids_if_monitor control g) (monitor_rmids control gs) in
    let all = length-append (rmids_of g) (flat_map rmids_of gs) in
    let one = at (is_monitor_of control g.kind) in
    omega arith
  where
    at : (b : Bool) → length (cond b (rmids_of g) []) ≤ length (rmids_of g)
    at true = omega arith
    at false = omega arith

-- a counted group is no monitor group
pub is_monitor_of-counted : (control : Gid) (g : Group) → is_counted g ≡ true → is_monitor_of control g.kind ≡ false
is_monitor_of-counted control g counted = at g.kind counted
  where
    at : (kind : GroupKind) → cond (is_control kind) (is_counted_mode g.mode) false ≡ true → is_monitor_of control kind ≡ false
    at Control e = refl
    at (Monitor parent) e = absurd (let f : false ≡ true = e in cc)

-- where the first group is no monitor group and has an RMID, there are fewer
length-monitor_rmids_lt : (control : Gid) (groups : List Group) (d : Group) → 0 < length groups → is_monitor_of control (get_or groups 0 d).kind ≡ false → (get_or groups 0 d).rmid ≡ Some 0 → length (monitor_rmids control groups) < length (flat_map rmids_of groups)
length-monitor_rmids_lt control [] d some first has = absurd (omega arith)
length-monitor_rmids_lt control (g ∷ gs) d some first has =
    let rest = length-monitor_rmids control gs in
    let both = ap length (monitor_rmids-cons control g gs) ∙ length-append (rmids_if_monitor control g) (monitor_rmids control gs) in
    let all = length-append (rmids_of g) (flat_map rmids_of gs) in
    let none : length (rmids_if_monitor control g) ≡ 0 = ap (λ (b : Bool). length (cond b (rmids_of g) [])) first in
    let one : length (rmids_of g) ≡ 1 = ap (λ (o : Option ℕ). length (option_to_list o)) has in
    omega arith

-- where each group has the ids of its kind, there are as many as monitor groups
pub length-monitor_groups : (control : Gid) (all groups : List Group) → All (λ (g : Group). HasIds all g.kind g) groups → length (monitor_rmids control groups) ≡ length (filter (λ (g : Group). is_monitor_of control g.kind) groups)
length-monitor_groups control all [] each = refl
length-monitor_groups control all (g ∷ gs) each = ap length (monitor_rmids-cons control g gs) ∙ length-append (rmids_if_monitor control g) (monitor_rmids control gs)
    ∙ at (is_monitor_of control g.kind) (λ is. own g.kind is (each 0 g (omega arith))) (length-monitor_groups control all gs (λ k d within. each (suc k) d (omega arith)))
  where
    some : (o : Option ℕ) → IsSome o → length (option_to_list o) ≡ 1
    some None is = absurd (let f : false ≡ true = is in cc)
    some (Some id) is = refl

    own : (kind : GroupKind) → is_monitor_of control kind ≡ true → HasIds all kind g → length (rmids_of g) ≡ 1
    own Control is has = absurd (let f : false ≡ true = is in cc)
    own (Monitor parent) is has = some g.rmid has.1

    at : (b : Bool) → (b ≡ true → length (rmids_of g) ≡ 1) → length (monitor_rmids control gs) ≡ length (filter (λ (x : Group). is_monitor_of control x.kind) gs)
        → length (cond b (rmids_of g) []) + length (monitor_rmids control gs) ≡ length (cond b (g ∷ filter (λ (x : Group). is_monitor_of control x.kind) gs) (filter (λ (x : Group). is_monitor_of control x.kind) gs))
    at true one rest = let here = one refl in omega arith
    at false one rest = omega (arith, rest)

module _ {m : Parameters} {t : Tables} {s : State} {epoch : ℕ} (keeps : Keeps m t s epoch) where
  -- the RMIDs that go with a group are no more than a machine has
  pub length-rmids_with : (gid : Gid) (d : Group) → length (rmids_with s gid) ≤ m.rmids
  length-rmids_with gid d =
      let some = length-positive s.groups keeps.sound.named.first in
      let first = is_monitor_of-counted gid (get_or s.groups 0 d) (IsDefault-first s.groups d keeps.sound.named.first).counted in
      let monitors = length-monitor_rmids_lt gid s.groups d some first (IsDefault-first s.groups d keeps.sound.named.first).rmid in
      let all : length (flat_map rmids_of s.groups) ≤ m.rmids = length-rmids_le keeps in
      let both = length-append (option_map_or rmids_of (group_of s gid) []) (monitor_rmids gid s.groups) in
      let one = own (group_of s gid) in
      omega arith
    where
      own : (o : Option Group) → length (option_map_or rmids_of o []) ≤ 1
      own None = omega arith
      own (Some g) = length-rmids_of g.rmid
