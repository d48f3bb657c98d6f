-- Where the uses of all lines end what is covered, the covered accesses of the entries end.
use Rattle.std.proofs.Common.{◌≡◌, ℕ, ◌<◌, ◌⊎◌, true, false, eqb, not, List, length, get_or, Some, inl, inr, refl, sym, subst, ap, ◌∙◌, arith}
use Rattle.std.specs.Prelude.{slice_get}
use Rattle.std.proofs.lemmas.Bool.{and_from, cases_Bool, eq-eqb, lt-ltb, ltb-true, ne_eqb}
use Rattle.std.proofs.lemmas.Option.{get_or_from_slice_get, same_Some, slice_get-get_or, slice_get_within}
use Rattle.cache_core.specs.declared.entry.SliceEntry.{SliceEntry}
use Rattle.cache_core.specs.declared.entry.What.{What}
use Rattle.private_lru.proofs.LineUses.{access-is_foreign, access-is_loaded_use, access-is_use, is_foreign-access, is_loaded_use-access, is_own-access, is_use-access}
use Rattle.private_lru.specs.Covered.{is_loaded_use, is_own, is_use, loads}
use Rattle.private_lru.specs.Cuts.{AreCuts, AreReaches, IsCut, IsOwnUse, IsReach}
use Rattle.private_lru.specs.Ends.{AreEnds, IsEnd, IsHeld, held_len}
use Rattle.private_lru.specs.Uses.{AreUses, IsUseIn, StandsAt, access_of, is_foreign, use_at}
use Rattle.private_lru.specs.declared.exclusive_span.ExclusiveSpan.{ExclusiveSpan}
use Rattle.private_lru.specs.declared.uses.Access.{Access}
use Rattle.private_lru.specs.declared.uses.LineUse.{LineUse}

module _ (sets : ℕ) (opening : What) (entries : List SliceEntry) (uses : List LineUse) (are : AreUses entries uses) where
  -- the use of an access
  use-of : (q : ℕ) (e : SliceEntry) (a : Access) → StandsAt entries q e → access_of e.what ≡ Some a → (i : ℕ) × (i < length uses) × (slice_get uses i ≡ Some (use_at q a))
  use-of q e a at is =
      let c = are.all q e a at is in
      (c.0, c.1, slice_get-get_or uses c.0 (use_at q a) c.1 ∙ ap (λ (u : LineUse). Some u) c.2)

  -- the access of a use
  access-of : (i : ℕ) (u : LineUse) → slice_get uses i ≡ Some u → IsUseIn entries u
  access-of i u at = subst (IsUseIn entries) (get_or_from_slice_get uses i u u at) (are.each i u (slice_get_within uses i u at))

  module _ (s : ExclusiveSpan) (reach end : ℕ) (reaches : IsReach entries (length entries) s reach) (cut : IsCut sets opening uses (length uses) (length entries) s reach end) where
    abbrev group : ℕ
    group = s.gid.0

    -- an access of the group in its window is one of its uses
    own_use : (q : ℕ) (e : SliceEntry) (a : Access) → IsHeld entries s.last q e → access_of e.what ≡ Some a → a.owner.0 ≡ group → IsOwnUse s reach (use_at q a)
    own_use q e a h is own =
        let owns : is_own group e.what ≡ true = is_own-access e.what a group is ∙ eq-eqb a.owner.0 group own in
        (own, ltb-true q reach (reaches.each q e h.at owns (slice_get_within entries q e h.at) ∙ lt-ltb q (held_len s.last entries) h.held))

    -- and the other way round
    held_use : (u : LineUse) → IsOwnUse s reach u → (is : IsUseIn entries u) → IsHeld entries s.last u.at is.entry
    held_use u own is =
        let owns : is_own group is.entry.what ≡ true = is_own-access is.entry.what (record { line = u.line; owner = u.owner }) group is.access ∙ eq-eqb u.owner.0 group own.0 in
        let told = reaches.each u.at is.entry is.at owns (slice_get_within entries u.at is.entry is.at) in
        record { at = is.at; held = ltb-true u.at (held_len s.last entries) (sym told ∙ lt-ltb u.at reach own.1) }

    end-loaded : (q : ℕ) (e : SliceEntry) → IsHeld entries s.last q e → is_loaded_use sets group opening e.what ≡ true → end ≡ 0
    end-loaded q e h used =
        let a = access-is_loaded_use sets group opening e.what used in
        let u = use-of q e a.0 h.at a.1 in
        cut.loaded u.0 (use_at q a.0) u.2 u.1 (own_use q e a.0 h a.1 a.2) a.3

    end-before : (q p x : ℕ) (e other : SliceEntry) → IsHeld entries s.last q e → is_use group x e.what ≡ true → StandsAt entries p other → p < end → is_foreign group x other.what ≡ false
    end-before q p x e other h used at lt = elim (cases_Bool (is_foreign group x other.what)) [
      | inr isnt ↦ isnt
      | inl is ↦
          let a = access-is_use group x e.what used in
          let b = access-is_foreign group x other.what is in
          let u = use-of q e a.0 h.at a.1 in
          let v = use-of p other b.0 at b.1 in
          let le = cut.before u.0 v.0 (use_at q a.0) (use_at p b.0) u.2 v.2 u.1 v.1 (own_use q e a.0 h a.1 a.2) (b.2, b.3 ∙ sym a.3) in
          absurd (omega (arith, le, lt))
    ]

    end-reached : (other : SliceEntry) → StandsAt entries end other
        → (q : ℕ) × (e : SliceEntry) × IsHeld entries s.last q e
        × ((is_loaded_use sets group opening e.what ≡ true) ⊎ ((x : ℕ) × (is_use group x e.what ≡ true) × (is_foreign group x other.what ≡ true)))
    end-reached other at = elim cut.reached [
      | inl all ↦ absurd (let within = slice_get_within entries end other at in omega (arith, all, within))
      | inr r ↦
          let u : LineUse = r.1 in
          let is = access-of r.0 u r.2 in
          let a : Access = record { line = u.line; owner = u.owner } in
          let own = eq-eqb u.owner.0 group r.3.0 in (
            u.at,
            is.entry,
            held_use u r.3 is,
            elim r.4 [
              | inl its ↦ inl (is_loaded_use-access sets opening is.entry.what a group is.access ∙ and_from (eqb u.owner.0 group) (loads sets opening u.line) own its)
              | inr f ↦
                  let v : LineUse = f.1 in
                  let its = access-of f.0 v f.2 in
                  let there : StandsAt entries v.at other = ap (slice_get entries) (sym f.4) ∙ at in
                  let same : its.entry ≡ other = same_Some its.entry other (sym its.at ∙ there) in
                  let used : is_use group u.line is.entry.what ≡ true = is_use-access is.entry.what a group u.line is.access ∙ and_from (eqb u.owner.0 group) (eqb u.line u.line) own (eq-eqb u.line u.line refl) in
                  let foreign : is_foreign group u.line its.entry.what ≡ true = is_foreign-access its.entry.what (record { line = v.line; owner = v.owner }) group u.line its.access
                  ∙ and_from (not (eqb v.owner.0 group)) (eqb v.line u.line) (ap not (ne_eqb v.owner.0 group f.3.0)) (eq-eqb v.line u.line f.3.1) in
                  inr (u.line, used, ap (λ (y : SliceEntry). is_foreign group u.line y.what) (sym same) ∙ foreign)
            ],
          )
    ]

    pub IsEnd-cut : IsEnd sets opening entries s end
    IsEnd-cut = record { loaded = end-loaded; before = end-before; reached = end-reached }

  pub AreEnds-cuts : (stays : List ExclusiveSpan) (reaches ends : List ℕ) → AreReaches entries (length entries) stays reaches → AreCuts sets opening uses (length uses) (length entries) stays reaches ends → AreEnds sets opening entries stays ends
  AreEnds-cuts stays reaches ends reach cuts = record {
    same = cuts.same;
    each = λ j d within. IsEnd-cut (get_or stays j d) (get_or reaches j 0) (get_or ends j 0) (reach.each j d within) (cuts.each j d within);
  }
