-- The accesses among entries, one after the other, and line by line.
use Rattle.std.proofs.Common.{◌≡◌, ℕ, ◌+◌, ◌<◌, ◌≤◌, false, List, [], length, get_or, None, Some, inl, inr, sym, ap, ◌∙◌, arith}
use Rattle.std.specs.Prelude.{All, slice_get}
use Rattle.std.specs.List.Sorted.{IsNonDecreasingBy, IsPermutation, IsSortedByKey, IsStableByKey}
use Rattle.std.specs.Ordering.{is_lt, nat_cmp}
use Rattle.std.proofs.lemmas.Bool.{cases_lt}
use Rattle.std.proofs.lemmas.Bool.Decides.{nat_tests}
use Rattle.std.proofs.lemmas.List.Elements.{All-weaker}
use Rattle.std.proofs.lemmas.List.Sorted.{All-permutation, Contains-permutation, ties_still_rise}
use Rattle.std.proofs.lemmas.Option.{same_Some}
use Rattle.cache_core.specs.declared.entry.SliceEntry.{SliceEntry}
use Rattle.private_lru.specs.Uses.{AreAccesses, AreUses, IsUseIn, StandsAt, access_of, line_of, place_of, use_at}
use Rattle.private_lru.specs.declared.uses.LineUse.{LineUse}

-- what stands past the end of a list of uses
abbrev pub no_use : LineUse
no_use = record { line = 0; at = 0; owner = record { 0 = 0 } }

module _ (entries : List SliceEntry) where
  -- none at first
  pub AreAccesses-none : AreAccesses entries 0 []
  AreAccesses-none = record {
    each = λ k d lt. absurd (omega (arith, lt));
    all = λ q e a at is lt. absurd (omega (arith, lt));
    rising = λ i j d le lt. absurd (omega (arith, lt));
  }

  module _ (n : ℕ) (e : SliceEntry) (there : StandsAt entries n e) (old : List LineUse) (were : AreAccesses entries n old) where
    -- the entry that stands there
    is_same : (q : ℕ) (x : SliceEntry) → StandsAt entries q x → q ≡ n → e ≡ x
    is_same q x at same = same_Some e x (sym there ∙ (ap (slice_get entries) (sym same) ∙ at))

    early_ones : All (λ (u : LineUse). IsUseIn entries u × (u.at < n + 1)) old
    early_ones = All-weaker (λ (u : LineUse). IsUseIn entries u × (u.at < n)) (λ (u : LineUse). IsUseIn entries u × (u.at < n + 1)) (λ u w. (w.0, let lt = w.1 in omega (arith, lt))) old were.each

    -- past an entry that is no access
    pub AreAccesses-other : access_of e.what ≡ None → AreAccesses entries (n + 1) old
    AreAccesses-other none = record {
      each = early_ones;
      all = λ q x a at is lt. elim (cases_lt q n) [
        | inl early ↦ were.all q x a at is early
        | inr late ↦
            let here : access_of e.what ≡ Some a = ap (λ (y : SliceEntry). access_of y.what) (is_same q x at (omega (arith, lt, late))) ∙ is in
            let wrong : None ≡ Some a = sym none ∙ here in
            absurd cc
      ];
      rising = were.rising;
    }

-- ---- after the sort

-- numbers that do not fall are sorted
IsSortedByKey-place : (uses : List LineUse) → IsNonDecreasingBy place_of uses → IsSortedByKey place_of nat_cmp uses
IsSortedByKey-place uses rising = λ k d low lt. let le = rising k (k + 1) d (omega arith) lt in not_less (get_or uses (k + 1) d).at (get_or uses k d).at le
  where
    not_less : (a b : ℕ) → b ≤ a → is_lt (nat_cmp a b) ≡ false
    not_less a b le = grind (arith, nat_tests)

pub AreUses-sorted : (entries : List SliceEntry) (old new : List LineUse) → AreAccesses entries (length entries) old → IsPermutation old new → IsNonDecreasingBy line_of new → IsStableByKey line_of nat_cmp old new
    → ((q : ℕ) (e : SliceEntry) → StandsAt entries q e → q < length entries) → AreUses entries new
AreUses-sorted entries old new were moved lines stable inside = record {
  each = All-permutation (IsUseIn entries) old new moved (All-weaker (λ (u : LineUse). IsUseIn entries u × (u.at < length entries)) (IsUseIn entries) (λ u w. w.0) old were.each);
  all = λ q e a at is. Contains-permutation old new (use_at q a) moved (were.all q e a at is (inside q e at));
  by_line = record {
    lines = lines;
    places = λ k d lt same. ties_still_rise place_of line_of old new (IsSortedByKey-place old were.rising) stable k d lt same;
  };
}
