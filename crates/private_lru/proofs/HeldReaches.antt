-- Up to where groups have accesses in their windows, entry by entry.
use Rattle.std.proofs.Common.{◌≡◌, ℕ, ◌+◌, ◌<◌, Bool, true, false, eqb, List, length, get_or, set, inl, inr, refl, sym, subst, ap, ◌∙◌, arith}
use Rattle.std.specs.Prelude.{◌&&◌, nat_le, nat_lt, slice_get}
use Rattle.std.proofs.lemmas.Bool.{and_parts, cases_lt, eqb-false, eqb-true, le-ltb, lt-ltb, ltb-true}
use Rattle.std.proofs.lemmas.List.{get_or-set_other, get_or-set_same, length-set}
use Rattle.std.proofs.lemmas.Option.{same_Some}
use Rattle.cache_core.specs.declared.entry.SliceEntry.{SliceEntry}
use Rattle.private_lru.proofs.HighEpochs.{held_len-high}
use Rattle.private_lru.specs.Covered.{is_own}
use Rattle.private_lru.specs.Cuts.{AreReaches, IsReach}
use Rattle.private_lru.specs.Ends.{IsHigh, held_len}
use Rattle.private_lru.specs.Uses.{StandsAt}
use Rattle.private_lru.specs.declared.exclusive_span.ExclusiveSpan.{ExclusiveSpan}

module _ (entries : List SliceEntry) where
  -- before the first entry
  pub IsReach-none : (s : ExclusiveSpan) → IsReach entries 0 s 0
  IsReach-none s = record { most = omega arith; each = λ q e at own lt. absurd (omega (arith, lt)) }

  pub AreReaches-none : (stays : List ExclusiveSpan) (reaches : List ℕ) → length reaches ≡ length stays → ((j : ℕ) → j < length stays → get_or reaches j 0 ≡ 0) → AreReaches entries 0 stays reaches
  AreReaches-none stays reaches same each = record {
    same = same;
    each = λ j d within. subst (IsReach entries 0 (get_or stays j d)) (sym (each j within)) (IsReach-none (get_or stays j d));
  }

  module _ (n : ℕ) (e : SliceEntry) (there : StandsAt entries n e) (s : ExclusiveSpan) (reach : ℕ) (was : IsReach entries n s reach) where
    is_here : (q : ℕ) (x : SliceEntry) → StandsAt entries q x → q ≡ n → e ≡ x
    is_here q x at same = same_Some e x (sym there ∙ (ap (slice_get entries) (sym same) ∙ at))

    -- past an entry that is no access of the group in its window
    pub IsReach-past : (is_own s.gid.0 e.what && nat_lt n (held_len s.last entries)) ≡ false → IsReach entries (n + 1) s reach
    IsReach-past isnt = record {
      most = let most = was.most in omega (arith, most);
      each = λ q x at own lt. elim (cases_lt q n) [
        | inl early ↦ was.each q x at own early
        | inr late ↦
            let same : q ≡ n = omega (arith, lt, late) in
            let most = was.most in
            let own_here : is_own s.gid.0 e.what ≡ true = ap (λ (y : SliceEntry). is_own s.gid.0 y.what) (is_here q x at same) ∙ own in
            let out : nat_lt n (held_len s.last entries) ≡ false = sym (ap (λ b. b && nat_lt n (held_len s.last entries)) own_here) ∙ isnt in
            le-ltb q reach (omega (arith, same, most)) ∙ sym (ap (λ k. nat_lt k (held_len s.last entries)) same ∙ out)
      ];
    }

    -- past an access of the group in its window
    pub IsReach-own : n < held_len s.last entries → IsReach entries (n + 1) s (n + 1)
    IsReach-own on = record {
      most = omega arith;
      each = λ q x at own lt. lt-ltb q (n + 1) lt ∙ sym (lt-ltb q (held_len s.last entries) (omega (arith, lt, on)));
    }

  module _ (stays : List ExclusiveSpan) (n high : ℕ) (e : SliceEntry) (reaches : List ℕ) (there : StandsAt entries n e) (is_high : IsHigh entries (n + 1) high) (were : AreReaches entries n stays reaches) where
    -- an entry that is no access of a group in its window is told by the highest epoch
    past : (j : ℕ) (d : ExclusiveSpan) → j < length stays → (is_own (get_or stays j d).gid.0 e.what && nat_le high (get_or stays j d).last) ≡ false → IsReach entries (n + 1) (get_or stays j d) (get_or reaches j 0)
    past j d within isnt = IsReach-past n e there (get_or stays j d) (get_or reaches j 0) (were.each j d within)
        (ap (λ b. is_own (get_or stays j d).gid.0 e.what && b) (sym (held_len-high entries n high (get_or stays j d).last e there is_high)) ∙ isnt)

    -- past an entry that is no access of any of them in its window
    pub AreReaches-past : ((j : ℕ) (d : ExclusiveSpan) → j < length stays → (is_own (get_or stays j d).gid.0 e.what && nat_le high (get_or stays j d).last) ≡ false) → AreReaches entries (n + 1) stays reaches
    AreReaches-past none = record { same = were.same; each = λ j d within. past j d within (none j d within) }

    -- past an access of one of them in its window
    pub AreReaches-own : (place : ℕ) → place < length stays
        → ((j : ℕ) (d : ExclusiveSpan) → j < length stays → eqb place j ≡ (is_own (get_or stays j d).gid.0 e.what && nat_le high (get_or stays j d).last))
        → AreReaches entries (n + 1) stays (set reaches place (n + 1))
    AreReaches-own place within only = record {
      same = length-set reaches place (n + 1) ∙ were.same;
      each = λ j d inside. at j d inside (eqb place j) refl;
    }
      where
        at : (j : ℕ) (d : ExclusiveSpan) → j < length stays → (b : Bool) → eqb place j ≡ b → IsReach entries (n + 1) (get_or stays j d) (get_or (set reaches place (n + 1)) j 0)
        at j d inside true same =
            let here : place ≡ j = eqb-true place j same in
            let both = and_parts (is_own (get_or stays j d).gid.0 e.what) (nat_le high (get_or stays j d).last) (sym (only j d inside) ∙ same) in
            let on : nat_lt n (held_len (get_or stays j d).last entries) ≡ true = sym (held_len-high entries n high (get_or stays j d).last e there is_high) ∙ both.1 in
            let len = were.same in
            let new : get_or (set reaches place (n + 1)) j 0 ≡ n + 1 = ap (λ k. get_or (set reaches place (n + 1)) k 0) (sym here) ∙ get_or-set_same reaches place (n + 1) 0 (omega (arith, within, len)) in
            subst (IsReach entries (n + 1) (get_or stays j d)) (sym new) (IsReach-own n e there (get_or stays j d) (get_or reaches j 0) (were.each j d inside) (ltb-true n (held_len (get_or stays j d).last entries) on))
        at j d inside false other =
            let apart : j ≡ place → ⊥ = λ same. eqb-false place j other (sym same) in
            subst (IsReach entries (n + 1) (get_or stays j d)) (sym (get_or-set_other reaches place j (n + 1) 0 apart)) (past j d inside (sym (only j d inside) ∙ other))
