-- What is counted of windows, entry by entry.
use Rattle.std.proofs.Common.{◌≡◌, ℕ, ◌+◌, ◌<◌, ◌≤◌, Bool, true, false, eqb, List, length, get_or, set, inl, inr, refl, sym, subst, ap, ◌∙◌, arith, take}
use Rattle.std.specs.Prelude.{◌&&◌, count_by, min, nat_le, nat_lt}
use Rattle.std.proofs.lemmas.Bool.{and_parts, cases_lt, eqb-false, eqb-true, false_from_ne_true, le-ltb, lt-ltb, ltb-true, true≢false}
use Rattle.std.proofs.lemmas.List.{get_or-set_other, get_or-set_same, get_or_default, length-set, length-take}
use Rattle.std.proofs.lemmas.List.Sums.{count_by-le-length, count_by_more_no, count_by_more_yes}
use Rattle.cache_core.specs.declared.entry.SliceEntry.{SliceEntry}
use Rattle.lists.specs.Sums.{one_if}
use Rattle.private_lru.proofs.laws.AloneEntries.{is_own-hit}
use Rattle.private_lru.specs.Covered.{is_own}
use Rattle.private_lru.specs.GroupCounts.{is_own_hit}
use Rattle.private_lru.specs.declared.counts.WindowCounts.{WindowCounts}
use Rattle.private_lru.proofs.HighEpochs.{held_len-high}
use Rattle.private_lru.specs.Uses.{StandsAt}
use Rattle.private_lru.specs.Ends.{IsHigh, held_len}
use Rattle.private_lru.specs.Tallies.{AreTallies, IsTally}
use Rattle.private_lru.specs.declared.exclusive_span.ExclusiveSpan.{ExclusiveSpan}

-- what stands past the end of a list of counts
abbrev pub no_counts : WindowCounts
no_counts = record { accesses = 0; hits = 0; covered = 0; covered_hits = 0 }

-- ---- how many of the first ones up to a bound pass a test

module _ {X : Type 0} (p : X → Bool) (xs : List X) (n bound : ℕ) (d : X) (within : n < length xs) where
  -- with one more
  count_by-min_suc : (b : Bool) → p (get_or xs n d) ≡ b → n < bound → one_if b + count_by p (take (min n bound) xs) ≡ count_by p (take (min (n + 1) bound) xs)
  count_by-min_suc b is lt =
      let now : min n bound ≡ n = omega (arith, lt) in
      let next : min (n + 1) bound ≡ n + 1 = omega (arith, lt) in
      rw (now, next) (at b is)
    where
      at : (b : Bool) → p (get_or xs n d) ≡ b → one_if b + count_by p (take n xs) ≡ count_by p (take (n + 1) xs)
      at true passes = let more = count_by_more_yes p xs n d within passes in omega (arith, more)
      at false fails = let same = count_by_more_no p xs n d within fails in omega (arith, same)

  -- past the bound
  count_by-min_past : bound ≤ n → count_by p (take (min n bound) xs) ≡ count_by p (take (min (n + 1) bound) xs)
  count_by-min_past past =
      let same : min n bound ≡ min (n + 1) bound = omega (arith, past) in
      ap (λ k. count_by p (take k xs)) same

  -- past one that does not pass
  count_by-min_none : (n < bound → p (get_or xs n d) ≡ true → ⊥) → count_by p (take (min n bound) xs) ≡ count_by p (take (min (n + 1) bound) xs)
  count_by-min_none none = elim (cases_lt n bound) [
    | inr past ↦ count_by-min_past past
    | inl lt ↦ let same = count_by-min_suc false (false_from_ne_true (p (get_or xs n d)) (none lt)) lt in omega (arith, same)
  ]

-- so few
pub count_by-min_le : {X : Type 0} (p : X → Bool) (xs : List X) (n bound : ℕ) → count_by p (take (min n bound) xs) ≤ n
count_by-min_le p xs n bound = let le = count_by-le-length p (take (min n bound) xs) in let len = length-take (min n bound) xs in omega (arith, le, len)

-- none before the first
count_by-min_zero : {X : Type 0} (p : X → Bool) (xs : List X) (bound : ℕ) → 0 ≡ count_by p (take (min 0 bound) xs)
count_by-min_zero p xs bound = let none : min 0 bound ≡ 0 = omega arith in ap (λ k. count_by p (take k xs)) (sym none)

-- ---- one group

module _ (entries : List SliceEntry) (s : ExclusiveSpan) (end : ℕ) where
  -- its accesses
  abbrev own : SliceEntry → Bool
  own e = is_own s.gid.0 e.what

  -- those that hit
  abbrev own_hit : SliceEntry → Bool
  own_hit e = is_own_hit s.gid.0 e.what

  abbrev held : ℕ
  held = held_len s.last entries

  -- before the first entry
  pub IsTally-none : IsTally entries 0 s end no_counts
  IsTally-none = record {
    accesses = count_by-min_zero own entries held;
    hits = count_by-min_zero own_hit entries held;
    covers = count_by-min_zero own entries (min end held);
    covers_hits = count_by-min_zero own_hit entries (min end held);
  }

  module _ (n : ℕ) (d : SliceEntry) (within : n < length entries) (c : WindowCounts) (was : IsTally entries n s end c) where
    -- past an entry that is no access of the group in its window
    pub IsTally-past : (own (get_or entries n d) && nat_lt n held) ≡ false → IsTally entries (n + 1) s end c
    IsTally-past isnt = record {
      accesses = was.accesses ∙ count_by-min_none own entries n held d within none;
      hits = was.hits ∙ count_by-min_none own_hit entries n held d within none_hit;
      covers = was.covers ∙ count_by-min_none own entries n (min end held) d within (λ lt. none (omega (arith, lt)));
      covers_hits = was.covers_hits ∙ count_by-min_none own_hit entries n (min end held) d within (λ lt. none_hit (omega (arith, lt)));
    }
      where
        none : n < held → own (get_or entries n d) ≡ true → ⊥
        none lt is = true≢false (sym (rw (is, lt-ltb n held lt) refl) ∙ isnt)

        none_hit : n < held → own_hit (get_or entries n d) ≡ true → ⊥
        none_hit lt is = none lt (is_own-hit s.gid.0 (get_or entries n d).what is)

    -- past an access of the group in its window
    pub IsTally-own : (next : WindowCounts) (hit : Bool) → own (get_or entries n d) ≡ true → own_hit (get_or entries n d) ≡ hit → n < held
        → next.accesses ≡ 1 + c.accesses → next.hits ≡ one_if hit + c.hits → next.covered ≡ one_if (nat_lt n end) + c.covered → next.covered_hits ≡ one_if (nat_lt n end && hit) + c.covered_hits
        → IsTally entries (n + 1) s end next
    IsTally-own next hit is is_hit on accesses hits covers covers_hits = record {
      accesses = accesses ∙ (ap (λ k. 1 + k) was.accesses ∙ count_by-min_suc own entries n held d within true is on);
      hits = hits ∙ (ap (λ k. one_if hit + k) was.hits ∙ count_by-min_suc own_hit entries n held d within hit is_hit on);
      covers = covers ∙ (ap (λ k. one_if (nat_lt n end) + k) was.covers ∙ more own true is (nat_lt n end) (λ lt. lt-ltb n end lt, λ le. le-ltb n end le));
      covers_hits = covers_hits ∙ (ap (λ k. one_if (nat_lt n end && hit) + k) was.covers_hits ∙ more own_hit hit is_hit (nat_lt n end && hit) (at hit));
    }
      where
        at : (b : Bool) → (n < end → (nat_lt n end && b) ≡ b) × (end ≤ n → (nat_lt n end && b) ≡ false)
        at b = (λ lt. rw (lt-ltb n end lt) refl, λ le. rw (le-ltb n end le) refl)

        more : (p : SliceEntry → Bool) (b : Bool) → p (get_or entries n d) ≡ b → (one : Bool) → (n < end → one ≡ b) × (end ≤ n → one ≡ false)
            → one_if one + count_by p (take (min n (min end held)) entries) ≡ count_by p (take (min (n + 1) (min end held)) entries)
        more p b passes one counts = elim (cases_lt n end) [
          | inl lt ↦ ap (λ k. one_if k + count_by p (take (min n (min end held)) entries)) (counts.0 lt) ∙ count_by-min_suc p entries n (min end held) d within b passes (omega (arith, lt, on))
          | inr le ↦
              let none = ap one_if (counts.1 le) in
              let same = count_by-min_past p entries n (min end held) d within (omega (arith, le)) in
              omega (arith, none, same)
        ]

-- ---- all groups

module _ (entries : List SliceEntry) (stays : List ExclusiveSpan) (ends : List ℕ) where
  -- before the first entry
  pub AreTallies-none : (tallies : List WindowCounts) → length tallies ≡ length stays → ((j : ℕ) (c : WindowCounts) → j < length stays → get_or tallies j c ≡ no_counts) → AreTallies entries 0 stays ends tallies
  AreTallies-none tallies same each = record {
    same = same;
    each = λ j d c within. subst (IsTally entries 0 (get_or stays j d) (get_or ends j 0)) (sym (each j c within)) (IsTally-none entries (get_or stays j d) (get_or ends j 0));
  }

  module _ (n high : ℕ) (e : SliceEntry) (tallies : List WindowCounts) (there : StandsAt entries n (get_or entries n e)) (within : n < length entries) (is_high : IsHigh entries (n + 1) high) (were : AreTallies entries n stays ends tallies) where
    abbrev here : SliceEntry
    here = get_or entries n e

    -- an entry that is counted in no window stays so by its place
    not_held : (s : ExclusiveSpan) → (is_own s.gid.0 here.what && nat_le high s.last) ≡ false → (is_own s.gid.0 here.what && nat_lt n (held_len s.last entries)) ≡ false
    not_held s isnt = ap (λ b. is_own s.gid.0 here.what && b) (sym (held_len-high entries n high s.last here there is_high)) ∙ isnt

    -- past an entry that is no access of any of them in its window
    pub AreTallies-past : ((j : ℕ) (d : ExclusiveSpan) → j < length stays → (is_own (get_or stays j d).gid.0 here.what && nat_le high (get_or stays j d).last) ≡ false) → AreTallies entries (n + 1) stays ends tallies
    AreTallies-past none = record {
      same = were.same;
      each = λ j d c inside. IsTally-past entries (get_or stays j d) (get_or ends j 0) n e within (get_or tallies j c) (were.each j d c inside) (not_held (get_or stays j d) (none j d inside));
    }

    -- past an access of one of them in its window
    pub AreTallies-own : (place : ℕ) (next : WindowCounts) (s : ExclusiveSpan) (hit : Bool) → place < length stays
        → ((j : ℕ) (d : ExclusiveSpan) → j < length stays → eqb place j ≡ (is_own (get_or stays j d).gid.0 here.what && nat_le high (get_or stays j d).last))
        → hit ≡ is_own_hit (get_or stays place s).gid.0 here.what
        → next.accesses ≡ 1 + (get_or tallies place no_counts).accesses → next.hits ≡ one_if hit + (get_or tallies place no_counts).hits
        → next.covered ≡ one_if (nat_lt n (get_or ends place 0)) + (get_or tallies place no_counts).covered
        → next.covered_hits ≡ one_if (nat_lt n (get_or ends place 0) && hit) + (get_or tallies place no_counts).covered_hits
        → AreTallies entries (n + 1) stays ends (set tallies place next)
    AreTallies-own place next s hit placed only is_hit accesses hits covers covers_hits = record {
      same = length-set tallies place next ∙ were.same;
      each = λ j d c inside. at j d c inside (eqb place j) refl;
    }
      where
        at : (j : ℕ) (d : ExclusiveSpan) (c : WindowCounts) → j < length stays → (b : Bool) → eqb place j ≡ b → IsTally entries (n + 1) (get_or stays j d) (get_or ends j 0) (get_or (set tallies place next) j c)
        at j d c inside true same =
            let is_j : place ≡ j = eqb-true place j same in
            let len = were.same in
            let new : get_or (set tallies place next) place c ≡ next = get_or-set_same tallies place next c (omega (arith, placed, len)) in
            let both = and_parts (is_own (get_or stays place d).gid.0 here.what) (nat_le high (get_or stays place d).last) (sym (only place d placed) ∙ (ap (eqb place) is_j ∙ same)) in
            let on = sym (held_len-high entries n high (get_or stays place d).last here there is_high) ∙ both.1 in
            let group : is_own_hit (get_or stays place d).gid.0 here.what ≡ hit = ap (λ (y : ExclusiveSpan). is_own_hit y.gid.0 here.what) (get_or_default stays place d s placed) ∙ sym is_hit in
            subst (λ k. IsTally entries (n + 1) (get_or stays k d) (get_or ends k 0) (get_or (set tallies place next) k c)) is_j
            (subst (IsTally entries (n + 1) (get_or stays place d) (get_or ends place 0)) (sym new)
            (IsTally-own entries (get_or stays place d) (get_or ends place 0) n e within (get_or tallies place no_counts) (were.each place d no_counts placed) next hit both.0 group
            (ltb-true n (held_len (get_or stays place d).last entries) on) accesses hits covers covers_hits))
        at j d c inside false other =
            let apart : (j ≡ place → ⊥) = λ same. eqb-false place j other (sym same) in
            subst (IsTally entries (n + 1) (get_or stays j d) (get_or ends j 0)) (sym (get_or-set_other tallies place j next c apart))
            (IsTally-past entries (get_or stays j d) (get_or ends j 0) n e within (get_or tallies j c) (were.each j d c inside) (not_held (get_or stays j d) (sym (only j d inside) ∙ other)))
