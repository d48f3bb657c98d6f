-- What groups use of a cache.
use Rattle.std.specs.Prelude.{◌≡◌, ℕ, List, map, filter, Option}
use Rattle.rc_base.specs.declared.names.Gid.{Gid}
use Rattle.rc_base.specs.declared.names.Mode.{Mode}
use Rattle.rc_base.specs.declared.names.Mode.TheVariants.{Shareable, Exclusive, Locked}
use Rattle.cbm.specs.Masks.{IsUnion}
use Rattle.mode_rules.specs.declared.domain_use.DomainUse.{DomainUse}
use Rattle.group_tree.specs.declared.group.Group.{Group}
use Rattle.group_tree.specs.Lists.{GroupList}
use Rattle.group_tree.specs.Records.{is_other_in, mask_in}

-- the control groups in a mode, but for one; all of them where none is named
abbrev pub others_in : Option Gid → Mode → List Group → List Group
others_in gid mode groups = filter (is_other_in gid mode) groups

-- their masks in a domain
abbrev pub masks_of_others : Option Gid → Mode → ℕ → List Group → List ℕ
masks_of_others gid mode domain groups = map (mask_in domain) (others_in gid mode groups)

-- (For proofs.) a mask has just the ways that the other control groups in a mode have in the domain
abbrev pub IsUnionOfOthers : Option Gid → Mode → ℕ → List Group → ℕ → Type 0
IsUnionOfOthers gid mode domain groups mask = IsUnion mask (masks_of_others gid mode domain groups)

-- (For proofs.) what all control groups but one use of a cache
pub record IsUseByOthers (t : GroupList) (gid : Option Gid) (domain : ℕ) (used : DomainUse) : Type 0 where
  pub hardware : used.hardware ≡ t.shareable
  pub shared : IsUnionOfOthers gid Shareable domain t.groups used.shared
  pub exclusive : IsUnionOfOthers gid Exclusive domain t.groups used.exclusive
  pub region : IsUnionOfOthers gid Locked domain t.groups used.region
