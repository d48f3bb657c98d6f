-- A group in place of the one with its serial number, and the groups without one.
use Rattle.std.proofs.Common.{◌≡◌, ◌≢◌, ℕ, ◌<◌, Bool, true, false, cond, List, [], ◌∷◌, length, map, get_or, set, Some, inl, inr, refl, sym, ap, ◌∙◌, arith}
use Rattle.std.proofs.lemmas.Bool.{cases_Bool, eqb-true, eq-eqb}
use Rattle.std.proofs.lemmas.List.{ext_get_or, get_or-map, get_or-set_other, get_or-set_same, length-map, length-set}
use Rattle.std.proofs.lemmas.Option.{get_or_from_slice_get, slice_get_within}
use Rattle.std.specs.List.{slice_get}
use Rattle.lists.proofs.Keyed.{place-key}
use Rattle.pair_law.specs.Sound.{GidsDiffer}
use Rattle.pair_law.specs.Reading.{SideMask}
use Rattle.pair_law.specs.State.{PairGroup, PairState, has_gid}
use Rattle.pair_law.specs.commands.Schemata.{exchanged, with_mask, with_masks, with_record}
use Rattle.pair_text.specs.declared.side.Side.{Side}
use Rattle.pair_text.specs.declared.side.Side.TheVariants.{First, Second}

module _ (new x : PairGroup) (gs : List PairGroup) (place : ℕ) (differ : GidsDiffer gs) (there : slice_get gs place ≡ Some x) (own : new.gid.0 ≡ x.gid.0) where
  -- one that is written at a place takes the place of the one with its serial number
  pub set-exchanged : set gs place new ≡ map (exchanged new) gs
  set-exchanged = ext_get_or new (set gs place new) (map (exchanged new) gs) (omega (arith, length-set gs place new, length-map gs (exchanged new))) each
    where
      within : place < length gs
      within = slice_get_within gs place x there

      is : get_or gs place new ≡ x
      is = get_or_from_slice_get gs place x new there

      each : (k : ℕ) → k < length (set gs place new) → get_or (set gs place new) k new ≡ get_or (map (exchanged new) gs) k new
      each k below = whole k (omega (arith, length-set gs place new))
        where
          here : (k : ℕ) → k < length gs → has_gid new.gid (get_or gs k new) ≡ true → get_or (set gs place new) k new ≡ exchanged new (get_or gs k new)
          here k lower is =
              let same : k ≡ place = place-key (λ (g : PairGroup). g.gid.0) gs k place new differ lower within (sym (eqb-true new.gid.0 (get_or gs k new).gid.0 is) ∙ own ∙ ap (λ (g : PairGroup). g.gid.0) (sym (get_or_from_slice_get gs place x new there))) in
              ap (λ (n : ℕ). get_or (set gs place new) n new) same ∙ get_or-set_same gs place new new within ∙ sym (ap (λ (b : Bool). cond b new (get_or gs k new)) is)

          elsewhere : (k : ℕ) → has_gid new.gid (get_or gs k new) ≡ false → get_or (set gs place new) k new ≡ exchanged new (get_or gs k new)
          elsewhere k other =
              let apart : k ≢ place = λ e. absurd (let both : true ≡ false = sym (eq-eqb new.gid.0 x.gid.0 own) ∙ ap (has_gid new.gid) (sym (ap (λ (n : ℕ). get_or gs n new) e ∙ get_or_from_slice_get gs place x new there)) ∙ other in cc) in
              get_or-set_other gs place k new new apart ∙ sym (ap (λ (b : Bool). cond b new (get_or gs k new)) other)

          whole : (k : ℕ) → k < length gs → get_or (set gs place new) k new ≡ get_or (map (exchanged new) gs) k new
          whole k lower = elim (cases_Bool (has_gid new.gid (get_or gs k new))) [
            | inl is ↦ here k lower is ∙ sym (get_or-map (exchanged new) gs k new new lower)
            | inr other ↦ elsewhere k other ∙ sym (get_or-map (exchanged new) gs k new new lower)
          ]

-- the state with it
pub with_record-set : (s : PairState) (new x : PairGroup) (place : ℕ) → GidsDiffer s.groups → slice_get s.groups place ≡ Some x → new.gid.0 ≡ x.gid.0 → record s { groups = set s.groups place new } ≡ with_record s new
with_record-set s new x place differ there own = ap (λ (gs : List PairGroup). record s { groups = gs }) (set-exchanged new x s.groups place differ there own)

-- masks leave a group's serial number
pub with_masks-gid : (g : PairGroup) (all : List SideMask) → (with_masks g all).gid.0 ≡ g.gid.0
with_masks-gid g [] = refl
with_masks-gid g (a ∷ all) = with_masks-gid (with_mask g a.side a.domain a.mask) all ∙ at a.side
  where
    at : (side : Side) → (with_mask g side a.domain a.mask).gid.0 ≡ g.gid.0
    at First = refl
    at Second = refl
