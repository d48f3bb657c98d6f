-- What groups keep apart, from both sides.
use Rattle.std.proofs.Common.{◌≡◌, ℕ, Option, None, Some, ◌⊎◌, inl, inr, sym, ◌∙◌}
use Rattle.cbm.proofs.laws.Overlaps.{overlaps-comm}
use Rattle.group_tree.specs.Records.{mask_in}
use Rattle.group_tree.specs.declared.group.Group.{Group}
use Rattle.group_tree.specs.declared.group_kind.GroupKind.{GroupKind}
use Rattle.group_tree.specs.declared.group_kind.GroupKind.TheVariants.{Control, Monitor}
use Rattle.rc_base.specs.declared.names.Mode.TheVariants.{Exclusive}
use Rattle.tree_law.specs.Masks.{KeepApart}
use Rattle.tree_law.specs.Sound.{Differ, IdsDiffer, NamesDiffer, StandTogether}

-- groups stand together in either order
StandTogether-turned : (a b : GroupKind) → StandTogether a b → StandTogether b a
StandTogether-turned Control Control together = tt
StandTogether-turned (Monitor p) (Monitor q) together = sym together
StandTogether-turned Control (Monitor q) together = together
StandTogether-turned (Monitor p) Control together = together

-- names differ in either order
pub NamesDiffer-turned : (a b : Group) → NamesDiffer a b → NamesDiffer b a
NamesDiffer-turned a b differ = λ together e. differ (StandTogether-turned b.kind a.kind together) (sym e)

-- ids differ in either order
pub Differ-turned : (a b : Option ℕ) → Differ a b → Differ b a
Differ-turned None None differ = tt
Differ-turned None (Some b) differ = tt
Differ-turned (Some a) None differ = tt
Differ-turned (Some a) (Some b) differ = λ e. differ (sym e)

-- the ids of two groups differ in either order
pub IdsDiffer-turned : (a b : Group) → IdsDiffer a b → IdsDiffer b a
IdsDiffer-turned a b differ = (Differ-turned a.class b.class differ.0, Differ-turned a.rmid b.rmid differ.1)

-- groups keep apart in either order
pub KeepApart-turned : (domain : ℕ) (a b : Group) → KeepApart domain a b → KeepApart domain b a
KeepApart-turned domain a b apart = λ cb ca either. overlaps-comm (mask_in domain b) (mask_in domain a) ∙ apart ca cb (turned either)
  where
    turned : (b.mode ≡ Exclusive) ⊎ (a.mode ≡ Exclusive) → (a.mode ≡ Exclusive) ⊎ (b.mode ≡ Exclusive)
    turned (inl e) = inr e
    turned (inr e) = inl e
