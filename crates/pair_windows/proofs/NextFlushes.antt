-- The entries of a domain from one flush to the next.
use Rattle.std.proofs.Common.{◌≡◌, ℕ, ◌+◌, ◌-◌, ◌<◌, ◌≤◌, true, false, List, length, drop, get_or, Option, None, Some, inl, inr, refl, sym, ap, ◌∙◌, arith}
use Rattle.std.specs.List.{slice_get}
use Rattle.std.proofs.lemmas.Bool.{cases_lt, eqb-false, eqb-true}
use Rattle.std.proofs.lemmas.List.{length-drop}
use Rattle.std.proofs.lemmas.Option.{get_or_from_slice_get, slice_get-get_or, slice_get_within}
use Rattle.cache_core.specs.Filled.{empties}
use Rattle.cache_core.specs.declared.entry.SliceEntry.{SliceEntry}
use Rattle.cache_core.specs.declared.entry.What.TheVariants.{Flush}
use Rattle.pair_windows.proofs.CountedWindows.{what-flush}
use Rattle.pair_windows.proofs.NoEntry.{no_entry}
use Rattle.pair_windows.specs.CdpWalks.{is_of}
use Rattle.pair_windows.specs.Counted.{RiseByEpoch}
use Rattle.pair_windows.specs.Fronts.{flush_len, front_len, is_flush}
use Rattle.private_lru.proofs.laws.FirstPlaces.{position_or_len-at, position_or_len-before, position_or_len-le, slice_get-drop}
use Rattle.run_law.specs.Journals.{At}

-- what empties a cache comes no later than a flush
pub front_len-flush_len : (xs : List SliceEntry) → front_len xs ≤ flush_len xs
front_len-flush_len xs =
    let n : ℕ = flush_len xs in
    let most : front_len xs ≤ length xs = position_or_len-le (λ (e : SliceEntry). empties e.what) xs in
    elim (cases_lt n (front_len xs)) [
      | inl less ↦ absurd (
          let e : SliceEntry = get_or xs n no_entry in
          let at : slice_get xs n ≡ Some e = slice_get-get_or xs n no_entry (omega (arith, less, most)) in
          let what : e.what ≡ Flush = what-flush e.what (position_or_len-at (λ (x : SliceEntry). is_flush x.what) xs e at) in
          let full : empties e.what ≡ false = position_or_len-before (λ (x : SliceEntry). empties x.what) xs n e at less in
          let empty : empties e.what ≡ true = ap empties what in
          let both : false ≡ true = sym full ∙ empty in cc)
      | inr ge ↦ omega (arith, ge)
    ]

-- whether an entry is of an epoch
pub due-within : (epoch n : ℕ) (xs : List SliceEntry) → is_of epoch (slice_get xs n) ≡ true → n < length xs
due-within epoch n xs is = of (slice_get xs n) refl is
  where
    of : (o : Option SliceEntry) → slice_get xs n ≡ o → is_of epoch o ≡ true → n < length xs
    of None at due = absurd (let f : false ≡ true = due in cc)
    of (Some e) at due = slice_get_within xs n e at

pub due-epoch : (epoch n : ℕ) (xs : List SliceEntry) (e : SliceEntry) → is_of epoch (slice_get xs n) ≡ true → At xs n e → e.epoch ≡ epoch
due-epoch epoch n xs e is at = eqb-true e.epoch epoch (sym (ap (is_of epoch) at) ∙ is)

pub not_due : (epoch n : ℕ) (xs : List SliceEntry) (e : SliceEntry) → is_of epoch (slice_get xs n) ≡ false → At xs n e → e.epoch ≡ epoch → ⊥
not_due epoch n xs e is at = eqb-false e.epoch epoch (sym (ap (is_of epoch) at) ∙ is)

module _ (entries : List SliceEntry) where
  -- they rise
  pub rises-at : RiseByEpoch entries → (p q : ℕ) (e f : SliceEntry) → At entries p e → At entries q f → p ≤ q → e.epoch ≤ f.epoch
  rises-at rise p q e f at there le =
      let one = ap (λ (x : SliceEntry). x.epoch) (get_or_from_slice_get entries p e e at) in
      let two = ap (λ (x : SliceEntry). x.epoch) (get_or_from_slice_get entries q f e there) in
      elim (cases_lt p q) [
        | inl less ↦ let rises = rise p q e less (slice_get_within entries q f there) in omega (arith, rises, one, two)
        | inr ge ↦ let same : p ≡ q = omega (arith, le, ge) in let is = ap (λ n. (get_or entries n e).epoch) same in omega (arith, is, one, two)
      ]

  -- the flush after a place
  module _ (from : ℕ) where
    pub next-within : from < length entries → from + 1 + flush_len (drop (from + 1) entries) ≤ length entries
    next-within lt = omega (arith, lt, position_or_len-le (λ (e : SliceEntry). is_flush e.what) (drop (from + 1) entries), length-drop (from + 1) entries)

    pub next-flush : (e : SliceEntry) → At entries (from + 1 + flush_len (drop (from + 1) entries)) e → e.what ≡ Flush
    next-flush e at =
        let rest : List SliceEntry = drop (from + 1) entries in
        what-flush e.what (position_or_len-at (λ (x : SliceEntry). is_flush x.what) rest e (slice_get-drop (from + 1) (flush_len rest) entries ∙ at))

    pub next-quiet : (p : ℕ) (e : SliceEntry) → At entries p e → from + 1 ≤ p → p < from + 1 + flush_len (drop (from + 1) entries) → is_flush e.what ≡ false
    next-quiet p e at low high =
        let k : ℕ = p - (from + 1) in
        let place : (from + 1) + k ≡ p = omega (arith, low) in
        position_or_len-before (λ (x : SliceEntry). is_flush x.what) (drop (from + 1) entries) k e (slice_get-drop (from + 1) k entries ∙ (ap (slice_get entries) place ∙ at)) (omega (arith, low, high))
