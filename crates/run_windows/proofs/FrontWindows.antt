-- The window of a group among the entries up to the next opening.
use Rattle.std.proofs.Common.{◌≡◌, ℕ, suc, ◌+◌, ◌-◌, ◌<◌, ◌≤◌, Bool, true, List, [], ◌∷◌, length, drop, take, inl, inr, refl, sym, ap, ◌∙◌, arith, take-take}
use Rattle.std.specs.Prelude.{nat_lt}
use Rattle.std.specs.List.{position_or_len}
use Rattle.std.proofs.lemmas.Bool.{cases_Bool}
use Rattle.cache_core.specs.Filled.{empties}
use Rattle.cache_core.specs.declared.entry.SliceEntry.{SliceEntry}
use Rattle.cbm.specs.Masks.{ways_of}
use Rattle.machine.specs.Slices.{slice_number}
use Rattle.private_lru.specs.declared.counts.WindowCounts.{WindowCounts}
use Rattle.private_lru.specs.Isolation.{between}
use Rattle.run_law.specs.Journals.{At, JournalsValue, slice_at}
use Rattle.run_law.specs.Runs.{IsRun}
use Rattle.run_counts.specs.declared.window.Window.{Window}
use Rattle.run_windows.proofs.CountedWindows.{IsCountedWindow-from, IsWindow-from}
use Rattle.private_lru.specs.Ends.{held_len}
use Rattle.run_windows.specs.Fronts.{front_of}
use Rattle.private_lru.specs.Tallies.{IsCounted}
use Rattle.run_windows.specs.WindowCounts.{IsCountedWindow}
use Rattle.run_windows.specs.Windows.{StaysExclusive, ends_window}
use Rattle.private_lru.specs.declared.exclusive_span.ExclusiveSpan.{ExclusiveSpan}
use Rattle.script_ops.specs.Values.{IsLawful, ScriptValue}

-- an entry that empties the slice
abbrev is_empty : SliceEntry → Bool
is_empty e = empties e.what

-- the first entry that ends a window is sought up to the next opening
held_len-front : (last : ℕ) (rest : List SliceEntry) → held_len last (take (position_or_len is_empty rest) rest) ≡ position_or_len (ends_window last) rest
held_len-front last [] = refl
held_len-front last (e ∷ rest) = elim (cases_Bool (empties e.what)) [
  | inl empty ↦ rw empty refl
  | inr full ↦
      let one : 1 + position_or_len is_empty rest ≡ suc (position_or_len is_empty rest) = omega arith in
      rw (full, one) (elim (cases_Bool (nat_lt last e.epoch)) [
        | inl late ↦ rw late refl
        | inr early ↦ rw early (ap (λ k. 1 + k) (held_len-front last rest))
      ])
]

-- it stands no later than that
ends_window-le : (last : ℕ) (rest : List SliceEntry) → position_or_len (ends_window last) rest ≤ position_or_len is_empty rest
ends_window-le last [] = omega arith
ends_window-le last (e ∷ rest) = elim (cases_Bool (empties e.what)) [
  | inl empty ↦ rw empty (omega arith)
  | inr full ↦ rw full (elim (cases_Bool (nat_lt last e.epoch)) [
    | inl late ↦ rw late (omega arith)
    | inr early ↦ let le = ends_window-le last rest in rw early (omega (arith, le))
  ])
]

module _ (script : ScriptValue) (j : JournalsValue) (domain slice from : ℕ) (opening : SliceEntry) (s : ExclusiveSpan) where
  abbrev entries : List SliceEntry
  entries = slice_at j (slice_number script.machine domain slice)

  abbrev rest : List SliceEntry
  rest = drop (from + 1) entries

  abbrev front : List SliceEntry
  front = front_of from entries

  -- the entries of the window
  between-front : take (held_len s.last front) front ≡ between entries from (from + 1 + held_len s.last front)
  between-front =
      let n : ℕ = position_or_len (ends_window s.last) rest in
      let same : held_len s.last front ≡ n = held_len-front s.last rest in
      let len : n ≡ from + 1 + n - (from + 1) = omega arith in
      ap (λ k. take k front) same ∙ (take-take n (position_or_len is_empty rest) rest (ends_window-le s.last rest) ∙ (ap (λ k. take k rest) len ∙ ap (λ k. between entries from (from + 1 + k)) (sym same)))

  -- a window with these counts
  pub IsCountedWindow-front : (c : WindowCounts) (w : Window) → IsLawful script → IsRun script j → domain < script.machine.domains → slice < script.machine.slices
      → At entries from opening → empties opening.what ≡ true → StaysExclusive script j domain s.gid s.mask opening.epoch s.last → IsCounted script.machine.sets opening.what front s c
      → w.domain ≡ domain → w.slice ≡ slice → w.from ≡ from → w.gid ≡ s.gid → w.ways ≡ length (ways_of s.mask)
      → w.accesses ≡ c.accesses → w.hits ≡ c.hits → w.covered ≡ c.covered → w.covered_hits ≡ c.covered_hits → w.private ≡ c.covered_hits
      → IsCountedWindow script j opening s.mask s.last w
  IsCountedWindow-front c w lawful run exists there opens empty exclusive counted domain_is slice_is from_is group_is ways accesses hits covers covers_hits private =
      let n : ℕ = held_len s.last front in
      IsCountedWindow-from script j domain slice from (from + 1 + n) opening s.gid s.mask s.last (take n front) w lawful run
      (IsWindow-from script j domain slice from n opening s.gid s.mask s.last exists there opens empty exclusive (held_len-front s.last rest))
      between-front domain_is slice_is from_is group_is ways
      (accesses ∙ counted.accesses) (hits ∙ counted.hits) (covers ∙ counted.covers) (covers_hits ∙ counted.covers_hits) (private ∙ sym covers_hits)
