-- What a search in one set of the flat vectors tells of the set's places.
use Rattle.std.proofs.Common.{◌≡◌, ℕ, ◌+◌, ◌*◌, ◌<◌, ◌≤◌, Bool, true, false, cond, List, length, Option, Some, None, option_map, refl, sym, ◌∙◌, ap, subst, arith, inl, inr}
use Rattle.std.specs.Prelude.{IsTrue, IsSome, slice_index, MatchOption}
use Rattle.std.proofs.lemmas.Bool.{cases_lt, false≢true}
use Rattle.std.proofs.Math.ListN.{get_or-eq_default}
use Rattle.cbm.specs.Masks.{has_way}
use Rattle.cache_core.specs.declared.cached_line.CachedLine.{CachedLine}
use Rattle.cache_core.specs.Fills.{Resident, Holds, IsVictim}
use Rattle.cache_core.specs.Flat.{Flat, flat_set, flat_sets}
use Rattle.cache_core.specs.Places.{set_in, place_in, resident_in, stamp_in}
use Rattle.way_fill.specs.Sets.{HoldsLine, IsChosen}
use Rattle.cache_core.proofs.FlatPlaces.{here_in, length-flat_set, set_in-flat_sets, place_in-flat_set}
use Rattle.cache_core.proofs.KeptPlaces.{res, stamp}

-- A set whose places are told by a word of valid ways and by what each way has.
pub record IsRow (row : List (Option CachedLine)) (ways valid : ℕ) (here : ℕ → CachedLine) : Type 0 where
  pub count : length row ≡ ways
  pub reads : (w : ℕ) → w < ways → place_in row w ≡ cond (has_way valid w) (Some (here w)) None

-- each set is one
pub IsRow-flat_sets : (f : Flat) (set : ℕ) → set < length f.valid → IsRow (set_in (flat_sets f) set) f.ways (slice_index f.valid set) (here_in f set)
IsRow-flat_sets f set within =
    let is : set_in (flat_sets f) set ≡ flat_set f set = set_in-flat_sets f set within in
    record {
      count = ap length is ∙ length-flat_set f set;
      reads = λ w l. ap (λ ps. place_in ps w) is ∙ place_in-flat_set f set w l;
    }

-- ---- a line

-- a place that holds a line is valid, and has it
some-line : (b : Bool) (p : CachedLine) (line : ℕ) → option_map (λ (r : Resident). r.line) (res (cond b (Some p) None)) ≡ Some line → (b ≡ true) × (p.line ≡ line)
some-line true p line h = (refl, grind (arith, h))
some-line false p line h = absurd cc

-- a way past the last holds none
beyond : (row : List (Option CachedLine)) (way line : ℕ) → length row ≤ way → Holds (resident_in row) line way → ⊥
beyond row way line past h = let none : place_in row way ≡ None = get_or-eq_default row None past in absurd (no_line (place_in row way) none h)
  where
    no_line : (o : Option CachedLine) → o ≡ None → option_map (λ (r : Resident). r.line) (res o) ≡ Some line → ⊥
    no_line None is h = absurd cc
    no_line (Some p) is h = absurd cc

-- a way that holds the line by its place holds it by the lists
pub HoldsLine-from_Holds : (row : List (Option CachedLine)) (ways valid : ℕ) (here : ℕ → CachedLine) (lines : List ℕ) (line way : ℕ) → IsRow row ways valid here → ((w : ℕ) → w < ways → slice_index lines w ≡ (here w).line)
    → Holds (resident_in row) line way → (way < ways) × HoldsLine lines valid line way
HoldsLine-from_Holds row ways valid here lines line way is reads h = elim (cases_lt way ways) [
  | inl less ↦
      let both = some-line (has_way valid way) (here way) line (ap (λ o. option_map (λ (r : Resident). r.line) (res o)) (sym (is.reads way less)) ∙ h) in
      (less, (both.0, reads way less ∙ both.1))
  | inr more ↦ absurd (beyond row way line (let count : length row ≡ ways = is.count in omega arith) h)
]

-- a way of the flat vectors that holds a line has it
pub line-from_Holds : (f : Flat) (set line way : ℕ) → set < length f.valid → Holds (resident_in (set_in (flat_sets f) set)) line way → slice_index f.lines (set * f.ways + way) ≡ line
line-from_Holds f set line way within h =
    let row : List (Option CachedLine) = set_in (flat_sets f) set in
    let is : IsRow row f.ways (slice_index f.valid set) (here_in f set) = IsRow-flat_sets f set within in
    elim (cases_lt way f.ways) [
      | inl less ↦ (some-line (has_way (slice_index f.valid set) way) (here_in f set way) line (ap (λ o. option_map (λ (r : Resident). r.line) (res o)) (sym (is.reads way less)) ∙ h)).1
      | inr more ↦ absurd (beyond row way line (let count : length row ≡ f.ways = is.count in omega arith) h)
    ]

-- and the other way round
pub Holds-from_HoldsLine : (row : List (Option CachedLine)) (ways valid : ℕ) (here : ℕ → CachedLine) (lines : List ℕ) (line way : ℕ) → IsRow row ways valid here → ((w : ℕ) → w < ways → slice_index lines w ≡ (here w).line)
    → way < ways → HoldsLine lines valid line way → Holds (resident_in row) line way
Holds-from_HoldsLine row ways valid here lines line way is reads less h =
    ap (λ o. option_map (λ (r : Resident). r.line) (res o)) (is.reads way less)
    ∙ (ap (λ b. option_map (λ (r : Resident). r.line) (res (cond b (Some (here way)) None))) h.0 ∙ ap (λ n. Some n) (sym (reads way less) ∙ h.1))

-- what a search by the lists finds
pub MatchOption-find : (row : List (Option CachedLine)) (ways valid : ℕ) (here : ℕ → CachedLine) (lines : List ℕ) (line : ℕ) (found : Option ℕ) → IsRow row ways valid here → length lines ≡ ways → ((w : ℕ) → w < ways → slice_index lines w ≡ (here w).line)
    → MatchOption found ((way : ℕ) → way < length lines → HoldsLine lines valid line way → ⊥) (λ way. (way < length lines) × HoldsLine lines valid line way)
    → MatchOption found ((way : ℕ) → Holds (resident_in row) line way → ⊥) (λ way. (way < length row) × Holds (resident_in row) line way)
MatchOption-find row ways valid here lines line None is count reads h = λ way holds. let both = HoldsLine-from_Holds row ways valid here lines line way is reads holds in h way (let less : way < ways = both.0 in omega arith) both.1
MatchOption-find row ways valid here lines line (Some way) is count reads h = let less : way < ways = omega (arith, count, h.0) in (omega (arith, less, is.count), Holds-from_HoldsLine row ways valid here lines line way is reads less h.1)

-- ---- a victim

-- a valid way is full
full : (row : List (Option CachedLine)) (ways valid : ℕ) (here : ℕ → CachedLine) (w : ℕ) → IsRow row ways valid here → w < ways → IsTrue (has_way valid w) → IsSome (resident_in row w)
full row ways valid here w is less some = subst (λ (o : Option CachedLine). IsSome (res o)) (sym (is.reads w less ∙ ap (λ b. cond b (Some (here w)) None) some)) refl

-- and the other way round
valid_way : (row : List (Option CachedLine)) (ways valid : ℕ) (here : ℕ → CachedLine) (w : ℕ) → IsRow row ways valid here → w < ways → IsSome (resident_in row w) → IsTrue (has_way valid w)
valid_way row ways valid here w is less some = go (has_way valid w) (subst (λ (o : Option CachedLine). IsSome (res o)) (is.reads w less) some)
  where
    go : (b : Bool) → IsSome (res (cond b (Some (here w)) None)) → IsTrue b
    go true h = refl
    go false h = elim (false≢true h) [ ]

-- an empty way is not valid
empty_way : (row : List (Option CachedLine)) (ways valid : ℕ) (here : ℕ → CachedLine) (w : ℕ) → IsRow row ways valid here → w < ways → resident_in row w ≡ None → has_way valid w ≡ false
empty_way row ways valid here w is less none = go (has_way valid w) (ap res (sym (is.reads w less)) ∙ none)
  where
    go : (b : Bool) → res (cond b (Some (here w)) None) ≡ None → b ≡ false
    go true h = absurd cc
    go false h = refl

-- the stamp of a valid way
stamp_in-valid : (row : List (Option CachedLine)) (ways valid : ℕ) (here : ℕ → CachedLine) (w : ℕ) → IsRow row ways valid here → w < ways → IsTrue (has_way valid w) → stamp_in row w ≡ (here w).used
stamp_in-valid row ways valid here w is less some = ap stamp (is.reads w less) ∙ ap (λ b. stamp (cond b (Some (here w)) None)) some

-- a way that is chosen by the lists is the victim by the places
pub IsVictim-chosen : (row : List (Option CachedLine)) (ways valid : ℕ) (here : ℕ → CachedLine) (used : List ℕ) (mask way : ℕ) → IsRow row ways valid here → length used ≡ ways → ((w : ℕ) → w < ways → slice_index used w ≡ (here w).used)
    → IsChosen used valid mask way → IsVictim (length row) mask (resident_in row) (stamp_in row) way
IsVictim-chosen row ways valid here used mask way is count reads v =
    let size : length row ≡ ways = is.count in
    let inside : way < ways = omega (arith, v.within, count) in
    let sv : IsSome (resident_in row way) → IsTrue (has_way valid way) = valid_way row ways valid here way is inside in
    let now : (w : ℕ) → w < ways → IsTrue (has_way valid w) → stamp_in row w ≡ slice_index used w = λ w l s. stamp_in-valid row ways valid here w is l s ∙ sym (reads w l) in
    let all : IsSome (resident_in row way) → (w : ℕ) → w < ways → IsTrue (has_way mask w) → IsTrue (has_way valid w) = λ s w l m. v.none_empty (sv s) w (omega (arith, l, count)) m in
    record {
      within = omega (arith, inside, size);
      allowed = v.allowed;
      lowest_empty = λ e w l m. let lw : w < ways = omega (arith, l, inside) in full row ways valid here w is lw (v.lowest_empty (empty_way row ways valid here way is inside e) w l m);
      none_empty = λ s w l m. let lw : w < ways = omega (arith, l, size) in full row ways valid here w is lw (all s w lw m);
      oldest = λ s w l m.
          let lw : w < ways = omega (arith, l, size) in
          let le : slice_index used way ≤ slice_index used w = v.oldest (sv s) w (omega (arith, lw, count)) m in
          omega (arith, le, now way inside (sv s), now w lw (all s w lw m));
      lowest = λ s w l m.
          let lw : w < ways = omega (arith, l, inside) in
          let less : slice_index used way < slice_index used w = v.lowest (sv s) w l m in
          omega (arith, less, now way inside (sv s), now w lw (all s w lw m));
    }

-- the RMID of a way
pub option_map-rmid : (f : Flat) (set way valid rmid : ℕ) → set < length f.valid → way < f.ways → valid ≡ slice_index f.valid set → rmid ≡ slice_index f.rmids (set * f.ways + way)
    → cond (has_way valid way) (Some rmid) None ≡ option_map (λ (p : CachedLine). p.rmid) (place_in (set_in (flat_sets f) set) way)
option_map-rmid f set way valid rmid within inside word is =
    rw (word, is)
    (go (has_way (slice_index f.valid set) way) (here_in f set way)
    ∙ ap (option_map (λ (p : CachedLine). p.rmid)) (sym ((IsRow-flat_sets f set within).reads way inside)))
  where
    go : (b : Bool) (p : CachedLine) → cond b (Some p.rmid) None ≡ option_map (λ (p : CachedLine). p.rmid) (cond b (Some p) None)
    go true p = refl
    go false p = refl
