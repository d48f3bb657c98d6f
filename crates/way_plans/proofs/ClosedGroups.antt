-- The commands of a plan that make groups exclusive.
use Rattle.std.proofs.Common.{List, Option, [], ap, arith, false, get_or, inl, inr, map, refl, subst, sym, true, ℕ, ◌<◌, ◌∙◌, ◌∷◌, ◌≡◌, ◌⊎◌}
use Rattle.std.proofs.lemmas.Bool.{cases_order, eqb-false}
use Rattle.std.specs.Prelude.{codes}
use Rattle.cbm.proofs.laws.Overlaps.{overlaps-comm}
use Rattle.cbm.specs.Masks.{overlaps}
use Rattle.group_tree.specs.Records.{has_gid, mask_in}
use Rattle.group_tree.specs.declared.group.Group.{Group}
use Rattle.lists.proofs.Tests.{IsFound-all, find-found}
use Rattle.machine.specs.Ranges.{InRange}
use Rattle.machine.specs.declared.parameters.Parameters.{Parameters}
use Rattle.pseudo_lock.specs.declared.region.Region.{Region}
use Rattle.rc_base.specs.declared.names.Mode.TheVariants.{Exclusive, Shareable}
use Rattle.rc_base.specs.declared.replies.Reply.TheVariants as replies
use Rattle.tree_law.specs.Counted.{is_counted}
use Rattle.tree_law.specs.Places.{with_record}
use Rattle.tree_law.specs.State.{State}
use Rattle.tree_law.specs.Steps.{next}
use Rattle.way_plans.proofs.AcceptedWrites.{Takes, Turns-exclusive, Turns-still_exclusive}
use Rattle.way_plans.proofs.CommandSteps.{mode-counted, mode-fits, sound-taken, takes-mode}
use Rattle.way_plans.proofs.GivenWays.{HasWays}
use Rattle.way_plans.proofs.OtherMasks.{KeepsOff, overlaps_some-none}
use Rattle.way_plans.proofs.PlannedEntries.{AreGiven}
use Rattle.way_plans.proofs.Stages.{Stage, Stage-same, Stage-turned, Stands, Whichever, turned}
use Rattle.way_plans.specs.PlanCommands.{AreAnswered, exclusive_op, played}

-- a counted group has the masks of its place
abbrev pub HasPlace : Parameters → ℕ → (ℕ → ℕ → ℕ) → (ℕ → ℕ) → Group → Type 0
HasPlace m count mask gid_at g = is_counted g ≡ true → HasWays m count mask gid_at g

-- an exclusive group
abbrev pub IsExclusive : Group → Type 0
IsExclusive g = g.mode ≡ Exclusive

module _ (m : Parameters) (range : InRange m) (regions : List (Option Region)) (plan : List Group) (count : ℕ) (mask : ℕ → ℕ → ℕ) (given : AreGiven m regions count mask) (gid_at : ℕ → ℕ) where
  abbrev pub Closing : List Group → State → Type 0
  Closing rest s = Stage m Whichever (HasPlace m count mask gid_at) IsExclusive regions plan rest s

  -- two groups at two places have no way in common
  apart-ways : (g y : Group) → HasWays m count mask gid_at g → HasWays m count mask gid_at y → has_gid g.gid y ≡ false → (domain : ℕ) → domain < m.domains → overlaps (mask_in domain g) (mask_in domain y) ≡ false
  apart-ways g y a b other domain below =
      let none : overlaps (mask domain a.place) (mask domain b.place) ≡ false = elim (cases_order a.place b.place) [
        | inl e ↦ absurd (eqb-false g.gid.0 y.gid.0 other (sym a.gid ∙ (ap gid_at e ∙ b.gid)))
        | inr (inl lt) ↦ given.apart domain a.place b.place below lt b.within
        | inr (inr gt) ↦ overlaps-comm (mask domain a.place) (mask domain b.place) ∙ given.apart domain b.place a.place below gt a.within
      ] in
      ap (λ (n : ℕ). overlaps n (mask_in domain y)) (a.masks domain below) ∙ (ap (overlaps (mask domain a.place)) (b.masks domain below) ∙ none)

  closing-step : (p : Group) (rest : List Group) (s : State) → Closing (p ∷ rest) s → (left : State) × Takes m s (exclusive_op p) left × Closing rest left
  closing-step p rest s stage = at (mode-counted stage.stand.0.group stage.stand.0.counted)
    where
      at : (stage.stand.0.group.mode ≡ Shareable) ⊎ (stage.stand.0.group.mode ≡ Exclusive) → (left : State) × Takes m s (exclusive_op p) left × Closing rest left
      at (inr is) =
          let left : State = record s { status = replies.Ok } in
          let taken = takes-mode Whichever m s p (codes "exclusive") s stage.sound stage.stand.0 (Turns-still_exclusive m s stage.stand.0.group is) in
          let sound = sound-taken m s (exclusive_op p) left range stage.sound (mode-fits m s p (codes "exclusive") (omega arith)) taken in
          (left, taken, Stage-same m Whichever (HasPlace m count mask gid_at) IsExclusive regions plan p rest s stage left refl refl sound is)
      at (inl is) =
          let st : Stands Whichever s.groups p = stage.stand.0 in
          let g : Group = st.group in
          let f = find-found (has_gid p.gid) s.groups g st.found in
          let ways : HasWays m count mask gid_at g = IsFound-all (HasPlace m count mask gid_at) (has_gid p.gid) s.groups g f stage.each st.counted in
          let off : KeepsOff m g = λ counted domain below. ap (λ (n : ℕ). overlaps n m.shareable) (ways.masks domain below) ∙ given.off_shareable domain ways.place below ways.within in
          let none = overlaps_some-none m s g st.counted off (λ k d within other counted later domain below. apart-ways g (get_or s.groups k d) ways (stage.each k d within later) other domain below) in
          let left : State = record (with_record s (turned g Exclusive g.masks)) { status = replies.Ok } in
          let taken = takes-mode Whichever m s p (codes "exclusive") (with_record s (turned g Exclusive g.masks)) stage.sound st (Turns-exclusive m s g is none) in
          let sound = sound-taken m s (exclusive_op p) left range stage.sound (mode-fits m s p (codes "exclusive") (omega arith)) taken in (
            left,
            taken,
            Stage-turned m Whichever (HasPlace m count mask gid_at) IsExclusive regions plan p rest s stage Exclusive g.masks refl left refl refl sound (λ q any. tt)
                (λ has counted. record { place = ways.place; within = ways.within; gid = ways.gid; masks = ways.masks }) refl,
          )

  pub closing : (rest : List Group) (s : State) → Closing rest s → AreAnswered m s (map exclusive_op rest) × Closing [] (played m s (map exclusive_op rest))
  closing [] s stage = (tt, stage)
  closing (p ∷ rest) s stage =
      let step = closing-step p rest s stage in
      let taken = step.1 in
      let more = closing rest (next m s (exclusive_op p) []).state (subst (Closing rest) (sym taken.state) step.2) in
      ((taken.counts, taken.success, more.0), more.1)
