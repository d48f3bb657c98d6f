-- Up to where the accesses of one group are covered, with one use more.
use Rattle.std.proofs.Common.{◌≡◌, ℕ, ◌+◌, ◌<◌, ◌≤◌, true, List, Some, ◌⊎◌, inl, inr, refl, sym, subst, ap, ◌∙◌, arith}
use Rattle.std.specs.Prelude.{slice_get}
use Rattle.std.proofs.lemmas.Bool.{cases_eq, cases_lt}
use Rattle.std.proofs.lemmas.Option.{same_Some}
use Rattle.cache_core.specs.declared.entry.What.{What}
use Rattle.private_lru.specs.Covered.{loads}
use Rattle.private_lru.specs.Cuts.{IsCut, IsOtherUse, IsOwnUse, IsStart, loaded_by, shared_by}
use Rattle.private_lru.specs.declared.exclusive_span.ExclusiveSpan.{ExclusiveSpan}
use Rattle.private_lru.specs.declared.uses.LineUse.{LineUse}
use Rattle.private_lru.proofs.LoweredEnds.{loaded_by-own, loaded_by-or, shared_by-le, shared_by-second, shared_by-first, shared_by-or}

module _ (sets : ℕ) (opening : What) (uses : List LineUse) (none : ℕ) (s : ExclusiveSpan) (reach : ℕ) where
  -- no use so far
  pub IsCut-none : IsCut sets opening uses 0 none s reach none
  IsCut-none = record {
    loaded = λ i u at lt own is. absurd (omega (arith, lt));
    before = λ i k u v at its lt less own other. absurd (omega (arith, lt));
    reached = inl refl;
  }

  module _ (n start end : ℕ) (first next : LineUse) (at_first : slice_get uses start ≡ Some first) (at_next : slice_get uses n ≡ Some next) (early : start ≤ n) (begins : IsStart uses (n + 1) start) (was : IsCut sets opening uses n none s reach end) where
    abbrev loaded_end : ℕ
    loaded_end = loaded_by sets opening next s reach end

    abbrev new_end : ℕ
    new_end = shared_by first next s reach loaded_end

    loaded-le : loaded_end ≤ end
    loaded-le = elim (loaded_by-or sets opening next s reach end) [
      | inl same ↦ omega (arith, same)
      | inr none_left ↦ let zero_end = none_left.2 in omega (arith, zero_end)
    ]

    new-le : new_end ≤ end
    new-le = let a = shared_by-le first next s reach loaded_end in let b = loaded-le in omega (arith, a, b)

    -- the use that stands there
    is_next : (i : ℕ) (u : LineUse) → slice_get uses i ≡ Some u → i ≡ n → next ≡ u
    is_next i u at same = same_Some next u (sym at_next ∙ (ap (slice_get uses) (sym same) ∙ at))

    -- a use of the line of the next one does not stand before the first
    from_start : (i : ℕ) (u : LineUse) → slice_get uses i ≡ Some u → u.line ≡ next.line → start ≤ i
    from_start i u at line = elim (cases_lt i start) [
      | inr ge ↦ ge
      | inl lt ↦
          let low = begins.others i first u at_first at lt in
          let same = (begins.same n first next at_first at_next early (omega arith)).0 in
          absurd (omega (arith, low, same, line))
    ]

    -- and stands on the line of the first, not before it
    with_first : (i : ℕ) (u : LineUse) → slice_get uses i ≡ Some u → i < n + 1 → u.line ≡ next.line → (u.line ≡ first.line) × (first.at ≤ u.at)
    with_first i u at lt line = begins.same i first u at_first at (from_start i u at line) lt

    -- the next use is the group's, and an earlier one another's
    next_own : (k : ℕ) (v : LineUse) → slice_get uses k ≡ Some v → k < n → IsOwnUse s reach next → IsOtherUse s next v → new_end ≤ v.at
    next_own k v at lt own other =
        let line = other.1 in
        let v_first = with_first k v at (omega (arith, lt)) line in
        let n_first = with_first n next at_next (omega arith) refl in
        elim (cases_eq first.owner.0 s.gid.0) [
          | inl same ↦
              let reach_first : first.at < reach = omega (arith, n_first.1, own.1) in
              let from = from_start k v at line in
              let old = was.before start k first v at_first at (omega (arith, from, lt)) lt (same, reach_first) (other.0, v_first.0) in
              let le = new-le in
              omega (arith, old, le)
          | inr apart ↦
              let low = shared_by-second first next s reach loaded_end (λ is. apart (is ∙ own.0)) own in
              omega (arith, low, v_first.1)
        ]

    -- the next use is another's, and an earlier one the group's
    next_other : (i : ℕ) (u : LineUse) → slice_get uses i ≡ Some u → i < n → IsOwnUse s reach u → IsOtherUse s u next → new_end ≤ next.at
    next_other i u at lt own other =
        let line = sym other.1 in
        let u_first = with_first i u at (omega (arith, lt)) line in
        let n_first = with_first n next at_next (omega arith) refl in
        elim (cases_eq first.owner.0 s.gid.0) [
          | inl same ↦
              let reach_first : first.at < reach = omega (arith, u_first.1, own.1) in
              shared_by-first first next s reach loaded_end (λ is. other.0 (sym is ∙ same)) (same, reach_first)
          | inr apart ↦
              let from = from_start i u at line in
              let old = was.before i start u first at at_first lt (omega (arith, from, lt)) own (apart, sym u_first.0) in
              let le = new-le in
              omega (arith, old, le, n_first.1)
        ]

    all_before : (i k : ℕ) (u v : LineUse) → slice_get uses i ≡ Some u → slice_get uses k ≡ Some v → i < n + 1 → k < n + 1 → IsOwnUse s reach u → IsOtherUse s u v → new_end ≤ v.at
    all_before i k u v at its lt less own other = elim (cases_lt i n) [
      | inl i_early ↦ elim (cases_lt k n) [
        | inl k_early ↦ let old = was.before i k u v at its i_early k_early own other in let le = new-le in omega (arith, old, le)
        | inr k_late ↦
            let is : next ≡ v = is_next k v its (omega (arith, less, k_late)) in
            subst (λ (w : LineUse). IsOtherUse s u w → new_end ≤ w.at) is (next_other i u at i_early own) other
      ]
      | inr i_late ↦
          let is_u : next ≡ u = is_next i u at (omega (arith, lt, i_late)) in
          elim (cases_lt k n) [
            | inl k_early ↦ subst (λ (w : LineUse). IsOwnUse s reach w → IsOtherUse s w v → new_end ≤ v.at) is_u (next_own k v its k_early) own other
            | inr k_late ↦
                let is_v : next ≡ v = is_next k v its (omega (arith, less, k_late)) in
                absurd (other.0 (ap (λ (w : LineUse). w.owner.0) (sym is_v ∙ is_u) ∙ own.0))
          ]
    ]

    all_reached : (new_end ≡ none)
        ⊎ ((i : ℕ) × (u : LineUse) × (slice_get uses i ≡ Some u) × IsOwnUse s reach u
        × ((loads sets opening u.line ≡ true) ⊎ ((k : ℕ) × (v : LineUse) × (slice_get uses k ≡ Some v) × IsOtherUse s u v × (new_end ≡ v.at))))
    all_reached = elim (shared_by-or first next s reach loaded_end) [
      | inr cut ↦
          let n_first = with_first n next at_next (omega arith) refl in
          elim cut.1 [
            | inl second ↦ inr (n, next, at_next, second.0, inr (start, first, at_first, ((λ own. cut.0 (own ∙ sym second.0.0)), sym n_first.0), second.1))
            | inr one ↦ inr (start, first, at_first, one.0, inr (n, next, at_next, ((λ own. cut.0 (one.0.0 ∙ sym own)), n_first.0), one.1))
          ]
      | inl kept ↦ elim (loaded_by-or sets opening next s reach end) [
        | inr is ↦ inr (n, next, at_next, is.0, inl is.1)
        | inl same ↦ elim was.reached [
          | inl all ↦ inl (kept ∙ (same ∙ all))
          | inr r ↦ inr (
            r.0,
            r.1,
            r.2,
            r.3,
            elim r.4 [
              | inl is ↦ inl is
              | inr f ↦ inr (f.0, f.1, f.2, f.3, kept ∙ (same ∙ f.4))
            ],
          )
        ]
      ]
    ]

    pub IsCut-next : IsCut sets opening uses (n + 1) none s reach new_end
    IsCut-next = record {
      loaded = λ i u at lt own is. elim (cases_lt i n) [
        | inl i_early ↦ let old = was.loaded i u at i_early own is in let le = new-le in omega (arith, old, le)
        | inr i_late ↦
            let same : next ≡ u = is_next i u at (omega (arith, lt, i_late)) in
            let own_next : IsOwnUse s reach next = subst (IsOwnUse s reach) (sym same) own in
            let its : loads sets opening next.line ≡ true = ap (λ (w : LineUse). loads sets opening w.line) same ∙ is in
            let zero_end = loaded_by-own sets opening next s reach end its own_next in
            let le = shared_by-le first next s reach loaded_end in
            omega (arith, zero_end, le)
      ];
      before = all_before;
      reached = all_reached;
    }
