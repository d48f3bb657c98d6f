-- The highest epoch so far, and how far windows reach.
use Rattle.std.proofs.Common.{◌≡◌, ℕ, ◌+◌, ◌≤◌, List, length, get_or, inl, inr, refl, sym, ◌∙◌, arith}
use Rattle.std.specs.Prelude.{nat_le, nat_lt}
use Rattle.std.proofs.lemmas.Bool.{cases_lt, le-leb, le-ltb, lt-leb, lt-ltb, ltb-false, ltb-true}
use Rattle.std.proofs.lemmas.Option.{slice_get-get_or, slice_get_within}
use Rattle.cache_core.specs.declared.entry.SliceEntry.{SliceEntry}
use Rattle.private_lru.proofs.laws.FirstPlaces.{position_or_len-at, position_or_len-before, position_or_len-le}
use Rattle.private_lru.specs.Uses.{StandsAt}
use Rattle.private_lru.specs.Ends.{IsHigh, held_len}

module _ (entries : List SliceEntry) where
  -- none at first
  pub IsHigh-none : IsHigh entries 0 0
  IsHigh-none = record { most = λ q e at lt. absurd (omega (arith, lt)); reached = inl refl }

  -- a window goes on over an entry where no epoch up to it is past its last
  pub held_len-high : (n high last : ℕ) (e : SliceEntry) → StandsAt entries n e → IsHigh entries (n + 1) high → nat_le high last ≡ nat_lt n (held_len last entries)
  held_len-high n high last e there is = elim (cases_lt n (held_len last entries)) [
    | inl on ↦
        let le : high ≤ last = elim is.reached [
          | inl none ↦ omega (arith, none)
          | inr r ↦
              let lt = r.3 in
              let epoch = r.4 in
              let early = ltb-false last r.1.epoch (position_or_len-before (λ (y : SliceEntry). nat_lt last y.epoch) entries r.0 r.1 r.2 (omega (arith, lt, on))) in
              omega (arith, epoch, early)
        ] in
        le-leb high last le ∙ sym (lt-ltb n (held_len last entries) on)
    | inr past ↦
        let within = slice_get_within entries n e there in
        let end : ℕ = held_len last entries in
        let ender : SliceEntry = get_or entries end e in
        let at : StandsAt entries end ender = slice_get-get_or entries end e (omega (arith, past, within)) in
        let late = ltb-true last ender.epoch (position_or_len-at (λ (y : SliceEntry). nat_lt last y.epoch) entries ender at) in
        let most = is.most end ender at (omega (arith, past)) in
        lt-leb high last (omega (arith, late, most)) ∙ sym (le-ltb n (held_len last entries) past)
  ]

  -- within the entries
  pub held_len-le : (last : ℕ) → held_len last entries ≤ length entries
  held_len-le last = position_or_len-le (λ (y : SliceEntry). nat_lt last y.epoch) entries
