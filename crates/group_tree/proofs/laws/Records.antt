-- Records of groups: their kinds, and the gid of one that takes the place of another.
use Rattle.std.proofs.Common.{◌≡◌, Bool, true, false, cond, refl}
use Rattle.std.proofs.lemmas.Bool.{eqb-true}
use Rattle.group_tree.specs.Lists.{exchanged}
use Rattle.group_tree.specs.Records.{has_gid, is_control, is_monitor_of}
use Rattle.group_tree.specs.declared.group.Group.{Group}
use Rattle.group_tree.specs.declared.group_kind.GroupKind.{GroupKind}
use Rattle.group_tree.specs.declared.group_kind.GroupKind.TheVariants.{Control, Monitor}
use Rattle.rc_base.specs.declared.names.Gid.{Gid}

-- a control group is no monitor group
pub is_monitor_of-control : (gid : Gid) (kind : GroupKind) → is_control kind ≡ true → is_monitor_of gid kind ≡ false
is_monitor_of-control gid Control e = refl
is_monitor_of-control gid (Monitor p) e = absurd (let f : false ≡ true = e in cc)

-- a record that takes a place has the gid of the one that stood there
pub exchanged-gid : (new g : Group) → (exchanged new g).gid.0 ≡ g.gid.0
exchanged-gid new g = at (has_gid new.gid g) (λ is. eqb-true new.gid.0 g.gid.0 is) refl
  where
    at : (b : Bool) → (b ≡ true → new.gid.0 ≡ g.gid.0) → b ≡ has_gid new.gid g → (cond b new g).gid.0 ≡ g.gid.0
    at true same e = same refl
    at false same e = refl
