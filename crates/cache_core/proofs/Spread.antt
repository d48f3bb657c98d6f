-- What is read of the sets of a domain of which a slice keeps its own.
use Rattle.std.proofs.Common.{◌≡◌, ◌≢◌, ℕ, ◌+◌, ◌-◌, ◌*◌, ◌/◌, ◌%◌, ◌<◌, ◌==◌, Bool, true, false, cond, List, [], length, Option, None, slice_set, refl, sym, ◌∙◌, ap, subst, arith, inl, inr}
use Rattle.std.proofs.lemmas.Bool.{cases_Bool, cases_lt, cond-true, eqb-true, eqb-false, eq-eqb}
use Rattle.std.proofs.lemmas.List.{ext_get_or, get_or-set_same, get_or-set_other, length-set}
use Rattle.std.proofs.lemmas.List.FromFn.{get_or-map-range_with_len, length-map-range_with_len}
use Rattle.std.proofs.Math.ListN.{get_or-eq_default}
use Rattle.std.proofs.Math.Nat.{div-add-mod, div-lt_iff_lt-mul, mod-lt}
use Rattle.cache_core.specs.declared.cached_line.CachedLine.{CachedLine}
use Rattle.cache_core.specs.History.{Shape, IsOwn, is_own}
use Rattle.cache_core.specs.Kept.{spread}
use Rattle.cache_core.specs.Places.{place_in, set_in}
use Rattle.cache_core.proofs.KeptPlaces.{get_or-set}

-- how many sets the domain has
pub length-spread : (m : Shape) (own : List (List (Option CachedLine))) → length (spread m own) ≡ m.sets
unfolding spread
length-spread m own = length-map-range_with_len (λ s. cond (is_own m s) (set_in own (s / m.slices)) []) 0 m.sets

-- a set, which is kept or has no way
pub set_in-spread : (m : Shape) (own : List (List (Option CachedLine))) (s : ℕ) → s < m.sets → set_in (spread m own) s ≡ cond (is_own m s) (set_in own (s / m.slices)) []
unfolding spread
set_in-spread m own s within = get_or-map-range_with_len (λ s. cond (is_own m s) (set_in own (s / m.slices)) []) 0 m.sets s s [] within (omega arith)

-- an own set
pub set_in-spread_own : (m : Shape) (own : List (List (Option CachedLine))) (s : ℕ) → IsOwn m s → set_in (spread m own) s ≡ set_in own (s / m.slices)
set_in-spread_own m own s is = set_in-spread m own s is.0 ∙ cond-true (is_own m s) (set_in own (s / m.slices)) [] (eq-eqb (s % m.slices) m.slice is.1)

-- where no kept set holds a line, no set does
pub place_in-spread_empty : (m : Shape) (own : List (List (Option CachedLine))) → ((s w : ℕ) → place_in (set_in own s) w ≡ None) → (s w : ℕ) → place_in (set_in (spread m own) s) w ≡ None
place_in-spread_empty m own none s w = elim (cases_lt s m.sets) [
  | inl inside ↦ ap (λ ps. place_in ps w) (set_in-spread m own s inside) ∙ go (is_own m s)
  | inr past ↦ ap (λ ps. place_in ps w) (get_or-eq_default (spread m own) [] (let count : length (spread m own) ≡ m.sets = length-spread m own in omega arith))
]
  where
    go : (b : Bool) → place_in (cond b (set_in own (s / m.slices)) []) w ≡ None
    go true = none (s / m.slices) w
    go false = refl

-- two own sets are kept apart
div-apart : (m : Shape) (s t : ℕ) → s % m.slices ≡ t % m.slices → t ≢ s → t / m.slices ≢ s / m.slices
div-apart m s t same apart e = apart (let both : m.slices * (t / m.slices) ≡ m.slices * (s / m.slices) = ap (λ k. m.slices * k) e in omega (arith, both, same, div-add-mod t m.slices, div-add-mod s m.slices))

-- a change of an own set
pub spread-slice_set : (m : Shape) (own : List (List (Option CachedLine))) (s : ℕ) (changed : List (Option CachedLine)) → IsOwn m s → s / m.slices < length own
    → spread m (slice_set own (s / m.slices) changed) ≡ slice_set (spread m own) s changed
spread-slice_set m own s changed is within =
    let new : List (List (Option CachedLine)) = slice_set own (s / m.slices) changed in
    let at : s < length (spread m own) = subst (λ n. s < n) (sym (length-spread m own)) is.0 in
    ext_get_or [] (spread m new) (slice_set (spread m own) s changed) (length-spread m new ∙ (sym (length-spread m own) ∙ sym (length-set (spread m own) s changed)))
    (λ t l.
    let inside : t < m.sets = subst (λ n. t < n) (length-spread m new) l in
    set_in-spread m new t inside
    ∙ ((elim (cases_Bool (s == t)) [
      | inl e ↦
          let same : s ≡ t = eqb-true s t e in
          let mine : is_own m t ≡ true = eq-eqb (t % m.slices) m.slice (ap (λ k. k % m.slices) (sym same) ∙ is.1) in
          rw e
          (cond-true (is_own m t) (set_in new (t / m.slices)) [] mine
          ∙ (ap (λ k. set_in new (k / m.slices)) (sym same) ∙ get_or-set_same own (s / m.slices) changed [] within))
      | inr e ↦
          rw e
          ((elim (cases_Bool (is_own m t)) [
            | inl mine ↦ rw mine (get_or-set_other own (s / m.slices) (t / m.slices) changed [] (div-apart m s t (is.1 ∙ sym (eqb-true (t % m.slices) m.slice mine)) (λ back. eqb-false s t e (sym back))))
            | inr other ↦ rw other refl
          ]) ∙ sym (set_in-spread m own t inside))
    ]) ∙ sym (get_or-set (spread m own) s t changed [] at)))

-- a set of the domain has its number below that of the kept ones
pub div-lt_sets : (s sets k : ℕ) → s < sets → 0 < k → s / k < (sets - 1) / k + 1
div-lt_sets s sets k within some =
    (div-lt_iff_lt-mul {k = k} {x = s} {y = (sets - 1) / k + 1} some).1
    (let rest : (sets - 1) % k < k = mod-lt (sets - 1) some in
    let all : k * ((sets - 1) / k) + (sets - 1) % k ≡ sets - 1 = div-add-mod (sets - 1) k in
    let split : ((sets - 1) / k + 1) * k ≡ k * ((sets - 1) / k) + k = omega arith in
    omega arith)
