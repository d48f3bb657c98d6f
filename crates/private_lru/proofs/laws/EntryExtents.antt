-- How far the entries of a slice are gone over.
use Rattle.std.proofs.Common.{◌≡◌, ℕ, ◌+◌, ◌-◌, ◌<◌, ◌≤◌, List, [], ◌∷◌, length, drop, get_or, Option, None, Some, ◌⊎◌, inl, inr, refl, sym, subst, ◌∙◌, arith, true, false}
use Rattle.std.specs.List.{All}
use Rattle.std.specs.Prelude.{IfSome, slice_get}
use Rattle.std.proofs.lemmas.Bool.{cases_Bool, cases_lt, true≢false}
use Rattle.std.proofs.lemmas.List.{get_or-drop, get_or-take, length-take}
use Rattle.std.proofs.lemmas.Option.{same_Some, slice_get-get_or, slice_get_within}
use Rattle.cache_core.specs.Filled.{empties}
use Rattle.cache_core.specs.declared.entry.SliceEntry.{SliceEntry}
use Rattle.private_lru.proofs.laws.Extents.{IsExtent, IsExtent-some}
use Rattle.private_lru.specs.Isolation.{between}

-- the entry at a place is gone over
abbrev pub IsOverAt : (SliceEntry → Type 0) → List SliceEntry → ℕ → Type 0
IsOverAt Over es k = (e : SliceEntry) → slice_get es k ≡ Some e → Over e

-- each entry is gone over, or it ends that
module _ (Over End : SliceEntry → Type 0) (either : (e : SliceEntry) → Over e ⊎ End e) (apart : (e : SliceEntry) → End e → Over e → ⊥) (es : List SliceEntry) where
  IsOverAt-or_not : (k : ℕ) → IsOverAt Over es k ⊎ (IsOverAt Over es k → ⊥)
  IsOverAt-or_not k = at (slice_get es k) refl
    where
      at : (o : Option SliceEntry) → slice_get es k ≡ o → IsOverAt Over es k ⊎ (IsOverAt Over es k → ⊥)
      at None none = inl (λ e there. absurd (let bad : None ≡ Some e = sym none ∙ there in cc))
      at (Some x) is = elim (either x) [
        | inl over ↦ inl (λ e there. subst Over (same_Some x e (sym is ∙ there)) over)
        | inr ends ↦ inr (λ all. apart x ends (all x is))
      ]

  -- those from a place on, up to the first that ends it
  pub IsExtent-entries : (start : ℕ) → start ≤ length es → (to : ℕ) × IsExtent (IsOverAt Over es) start (length es) to
  IsExtent-entries start within = IsExtent-some (IsOverAt Over es) IsOverAt-or_not (length es - start) start (length es) (omega (arith, within))

  -- what stands at the end of an extent
  pub IsExtent-end : (start to : ℕ) → IsExtent (IsOverAt Over es) start (length es) to → IfSome (slice_get es to) End
  IsExtent-end start to x = at (slice_get es to) refl
    where
      at : (o : Option SliceEntry) → slice_get es to ≡ o → IfSome o End
      at None none = tt
      at (Some e) is = elim (either e) [
        | inl over ↦ absurd (x.ends (slice_get_within es to e is) (λ y there. subst Over (same_Some e y (sym is ∙ there)) over))
        | inr ends ↦ ends
      ]

  -- the extent of what is gone over after a place, up to what ends it
  pub IsExtent-between : (from to : ℕ) → from < to → to ≤ length es → ((p : ℕ) (e : SliceEntry) → slice_get es p ≡ Some e → from < p → p < to → Over e) → IfSome (slice_get es to) End
      → IsExtent (IsOverAt Over es) (from + 1) (length es) to
  IsExtent-between from to after within goes_over ends = record {
    begins = omega (arith, after);
    within = within;
    over = λ k low high e there. goes_over k e there (omega (arith, low)) high;
    ends = λ less over. at (slice_get es to) refl ends less over;
  }
    where
      at : (o : Option SliceEntry) → slice_get es to ≡ o → IfSome o End → to < length es → IsOverAt Over es to → ⊥
      at None none ends less over = (
          let d : SliceEntry = entry_of es less in
          let some : slice_get es to ≡ Some (get_or es to d) = slice_get-get_or es to d less in let bad : None ≡ Some (get_or es to d) = sym none ∙ some in cc)
        where
          entry_of : (l : List SliceEntry) → to < length l → SliceEntry
          entry_of [] lt = absurd (omega (arith, lt))
          entry_of (e ∷ rest) lt = e
      at (Some e) is ends less over = apart e ends (over e is)

-- ---- in a window, up to an epoch

-- an entry is gone over, or ends the window
pub ends-or_over : (last : ℕ) (e : SliceEntry) → ((empties e.what ≡ false) × (e.epoch ≤ last)) ⊎ ((empties e.what ≡ true) ⊎ (last < e.epoch))
ends-or_over last e = elim (cases_Bool (empties e.what)) [
  | inl empty ↦ inr (inl empty)
  | inr full ↦ elim (cases_lt last e.epoch) [
    | inl late ↦ inr (inr late)
    | inr early ↦ inl (full, early)
  ]
]

-- what ends it is not gone over
pub ends-not_over : (last : ℕ) (e : SliceEntry) → (empties e.what ≡ true) ⊎ (last < e.epoch) → (empties e.what ≡ false) × (e.epoch ≤ last) → ⊥
ends-not_over last e (inl empty) over = true≢false (sym empty ∙ over.0)
ends-not_over last e (inr late) over = let le = over.1 in absurd (omega (arith, late, le))

-- what holds of the entries between two places holds of each of the list of them
pub All-between : (P : SliceEntry → Type 0) (es : List SliceEntry) (from to : ℕ) → from < to → to ≤ length es → ((p : ℕ) (e : SliceEntry) → slice_get es p ≡ Some e → from < p → p < to → P e) → All P (between es from to)
All-between P es from to less most each k d within =
    let n : ℕ = to - (from + 1) in
    let rest : List SliceEntry = drop (from + 1) es in
    let small : k < n = omega (arith, within, length-take n rest) in
    let p : ℕ = from + 1 + k in
    let is : get_or (between es from to) k d ≡ get_or es p d = get_or-take n rest k d small ∙ get_or-drop (from + 1) es k d in
    subst P (sym is) (each p (get_or es p d) (slice_get-get_or es p d (omega arith)) (omega arith) (omega arith))
