-- Groups that keep apart, from either's view.
use Rattle.std.proofs.Common.{◌≡◌, ℕ, ◌<◌, ◌⊎◌, inl, inr, subst, ◌∙◌}
use Rattle.cbm.proofs.laws.Overlaps.{overlaps-comm}
use Rattle.machine.specs.declared.parameters.Parameters.{Parameters}
use Rattle.pair_law.proofs.laws.Sides.{is_beside-turned, side_machine-beside}
use Rattle.pair_law.specs.Sound.{KeepApart}
use Rattle.pair_law.specs.State.{PairGroup, mask_in}
use Rattle.pair_text.specs.Values.{Machines}
use Rattle.rc_base.specs.declared.names.Mode.TheVariants.{Exclusive}

-- the number of a group
abbrev pub gid_number : PairGroup → ℕ
gid_number g = g.gid.0

-- in either order
pub KeepApart-turned : (m : Machines) (a b : PairGroup) → KeepApart m a b → KeepApart m b a
KeepApart-turned m a b keep = λ one other domain beside lt either.
    overlaps-comm (mask_in one domain b) (mask_in other domain a)
    ∙ keep other one domain (is_beside-turned m.l2 one other beside) (subst (λ (p : Parameters). domain < p.domains) (side_machine-beside m one other beside) lt) (turned either)
  where
    turned : (b.mode ≡ Exclusive) ⊎ (a.mode ≡ Exclusive) → (a.mode ≡ Exclusive) ⊎ (b.mode ≡ Exclusive)
    turned (inl e) = inr e
    turned (inr e) = inl e
