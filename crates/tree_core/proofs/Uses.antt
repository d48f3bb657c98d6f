-- What all groups but one use of a cache, as the groups tell it and as the state has it.
use Rattle.std.proofs.Common.{◌≡◌, ℕ, List, Option, Some, refl, subst, ap, ◌∙◌}
use Rattle.cbm.specs.Masks.{has_way, overlaps, ways_of}
use Rattle.group_tree.specs.Others.{IsUnionOfOthers, IsUseByOthers, masks_of_others}
use Rattle.group_tree.specs.declared.group.Group.{Group}
use Rattle.machine.specs.declared.parameters.Parameters.{Parameters}
use Rattle.mode_rules.specs.Overlaps.{is_apart, leaving_overlap, write_overlap}
use Rattle.mode_rules.specs.declared.domain_use.DomainUse.{DomainUse}
use Rattle.rc_base.specs.declared.names.Gid.{Gid}
use Rattle.rc_base.specs.declared.names.Mode.{Mode}
use Rattle.rc_base.specs.declared.names.Mode.TheVariants.{Shareable, Exclusive}
use Rattle.schemata_text.specs.declared.assignment.Assignment.{Assignment}
use Rattle.tree_core.proofs.laws.Unions.{has_way-union}
use Rattle.tree_core.specs.Kept.{Keeps}
use Rattle.tree_core.specs.Tables.{Tables}
use Rattle.tree_core.specs.Uses.{SameUse}
use Rattle.tree_law.specs.Space.{region_mask, used_in}
use Rattle.tree_law.specs.State.{State}
use Rattle.tree_law.specs.commands.Schemata.{against_entry, against_overlap}
use Rattle.lists.proofs.Tests.{list_any-same}

module _ {m : Parameters} {t : Tables} {s : State} {epoch : ℕ} (keeps : Keeps m t s epoch) where
  -- what the groups tell of a domain, with its region, is what the state has there
  pub SameUse-kept : (gid : Option Gid) (domain region : ℕ) (used : DomainUse) → IsUseByOthers t.groups gid domain used → region ≡ region_mask s.regions domain → SameUse (record used { region = region }) (used_in m s gid domain)
  SameUse-kept gid domain region used told is = record {
    hardware = λ way. ap (λ (mask : ℕ). has_way mask way) (told.hardware ∙ keeps.stands.shareable);
    shared = λ way. has_way-union used.shared (masks_of_others gid Shareable domain s.groups) way (moved Shareable used.shared told.shared);
    exclusive = λ way. has_way-union used.exclusive (masks_of_others gid Exclusive domain s.groups) way (moved Exclusive used.exclusive told.exclusive);
    region = is;
  }
    where
      moved : (mode : Mode) (mask : ℕ) → IsUnionOfOthers gid mode domain t.groups.groups mask → IsUnionOfOthers gid mode domain s.groups mask
      moved mode mask told = subst (λ (gs : List Group). IsUnionOfOthers gid mode domain gs mask) keeps.stands.groups told

-- ---- tests of the same use

-- a mask overlaps two masks with the same ways alike
overlaps-same : (mask a b : ℕ) → ((way : ℕ) → has_way a way ≡ has_way b way) → overlaps mask a ≡ overlaps mask b
unfolding overlaps
overlaps-same mask a b same = list_any-same (has_way a) (has_way b) (ways_of mask) same

-- the same stands against a mask
pub write_overlap-same : (mode : Mode) (mask : ℕ) (a b : DomainUse) → SameUse a b → write_overlap mode mask a ≡ write_overlap mode mask b
unfolding write_overlap
write_overlap-same mode mask a b same =
    rw (overlaps-same mask a.hardware b.hardware same.hardware, overlaps-same mask a.shared b.shared same.shared, overlaps-same mask a.exclusive b.exclusive same.exclusive, same.region) refl

-- also against one that a group kept in pseudo-locksetup
pub leaving_overlap-same : (mask : ℕ) (a b : DomainUse) → SameUse a b → leaving_overlap mask a ≡ leaving_overlap mask b
unfolding leaving_overlap
leaving_overlap-same mask a b same = rw (overlaps-same mask a.exclusive b.exclusive same.exclusive, same.region) refl

-- and a mask keeps apart alike
pub is_apart-same : (mask : ℕ) (a b : DomainUse) → SameUse a b → is_apart mask a ≡ is_apart mask b
unfolding is_apart
is_apart-same mask a b same = rw (overlaps-same mask a.hardware b.hardware same.hardware, overlaps-same mask a.shared b.shared same.shared, overlaps-same mask a.exclusive b.exclusive same.exclusive) refl

-- what is against an assignment, by a use with the same ways
pub against_entry-same : (m : Parameters) (s : State) (g : Group) (a : Assignment) (used : DomainUse) → SameUse used (used_in m s (Some g.gid) a.domain) → against_overlap a.domain (write_overlap g.mode a.mask used) ≡ against_entry m s g a
against_entry-same m s g a used same = ap (against_overlap a.domain) (write_overlap-same g.mode a.mask used (used_in m s (Some g.gid) a.domain) same)
