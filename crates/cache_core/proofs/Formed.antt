-- An access or a drop leaves each set with its ways, each stamp below the clock, and each RMID below the machine's number.
use Rattle.std.proofs.Common.{◌≡◌, ℕ, ◌+◌, ◌<◌, ◌≤◌, Bool, true, false, cond, ◌==◌, List, [], length, Option, Some, None, option_map, arith, refl, sym, ◌∙◌, ap, subst, slice_set, length-set, inl, inr}
use Rattle.std.specs.Prelude.{IfSome}
use Rattle.std.proofs.lemmas.Bool.{cases_Bool, eqb-true}
use Rattle.cache_core.specs.declared.cached_line.CachedLine.{CachedLine}
use Rattle.cache_core.specs.declared.touched.Touched.{Touched}
use Rattle.cache_core.specs.declared.touched.Touched.TheVariants.{Hit, Filled, Stale}
use Rattle.cache_core.specs.History.{Shape}
use Rattle.cache_core.specs.Places.{IsFormed, set_in, place_in}
use Rattle.cache_core.specs.Stands.{Touches}
use Rattle.cache_core.proofs.KeptPlaces.{get_or-set}

-- a place whose stamp is below the clock and whose RMID is one of the machine
abbrev IsFit : ℕ → ℕ → CachedLine → Type 0
IsFit rmids clock p = (p.used < clock) × (p.rmid < rmids)

-- each place of a set is fit
abbrev AllFit : ℕ → ℕ → List (Option CachedLine) → Type 0
AllFit rmids clock places = (w : ℕ) → IfSome (place_in places w) (IsFit rmids clock)

-- either of two that fit
IfSome-cond : (rmids clock : ℕ) (b : Bool) (x y : Option CachedLine) → IfSome x (IsFit rmids clock) → IfSome y (IsFit rmids clock) → IfSome (cond b x y) (IsFit rmids clock)
IfSome-cond rmids clock true x y h k = h
IfSome-cond rmids clock false x y h k = k

-- what fits still fits later
IfSome-later : (rmids clock later : ℕ) (o : Option CachedLine) → clock ≤ later → IfSome o (IsFit rmids clock) → IfSome o (IsFit rmids later)
IfSome-later rmids clock later None le h = tt
IfSome-later rmids clock later (Some p) le h = (omega (arith, h.0), h.1)

-- a place that is used now fits
IfSome-marked : (rmids clock : ℕ) (o : Option CachedLine) → IfSome o (IsFit rmids clock) → IfSome (option_map (λ (p : CachedLine). record p { used = clock }) o) (IsFit rmids (clock + 1))
IfSome-marked rmids clock None h = tt
IfSome-marked rmids clock (Some p) h = (omega arith, h.1)

-- a stamp and an RMID that fit
IfSome-both : (rmids clock : ℕ) (o : Option CachedLine) → IfSome o (λ p. p.used < clock) → IfSome o (λ p. p.rmid < rmids) → IfSome o (IsFit rmids clock)
IfSome-both rmids clock None h k = tt
IfSome-both rmids clock (Some p) h k = (h, k)

-- a place that fits has a stamp below the clock
IfSome-used : (rmids clock : ℕ) (o : Option CachedLine) → IfSome o (IsFit rmids clock) → IfSome o (λ p. p.used < clock)
IfSome-used rmids clock None h = tt
IfSome-used rmids clock (Some p) h = h.0

-- and its RMID
IfSome-rmid : (rmids clock : ℕ) (o : Option CachedLine) → IfSome o (IsFit rmids clock) → IfSome o (λ p. p.rmid < rmids)
IfSome-rmid rmids clock None h = tt
IfSome-rmid rmids clock (Some p) h = h.1

-- a way is changed
AllFit-slice_set : (rmids clock later : ℕ) (old : List (Option CachedLine)) (way : ℕ) (o : Option CachedLine) → clock ≤ later → way < length old → AllFit rmids clock old → IfSome o (IsFit rmids later) → AllFit rmids later (slice_set old way o)
AllFit-slice_set rmids clock later old way o le within fit new w =
    subst (λ (p : Option CachedLine). IfSome p (IsFit rmids later)) (sym (get_or-set old way w o None within)) (IfSome-cond rmids later (way == w) o (place_in old w) new (IfSome-later rmids clock later (place_in old w) le (fit w)))

-- an access leaves its set fit
AllFit-touches : (rmids clock mask : ℕ) (place : CachedLine) (old changed : List (Option CachedLine)) (answer : Touched) → place.used ≡ clock → place.rmid < rmids
    → AllFit rmids clock old → Touches old changed mask place answer → (length changed ≡ length old) × AllFit rmids (clock + 1) changed
AllFit-touches rmids clock mask place old changed (Hit way) now named fit t =
    let marked : Option CachedLine = option_map (λ (p : CachedLine). record p { used = place.used }) (place_in old way) in
    let is : IfSome marked (IsFit rmids (clock + 1)) = subst (λ n. IfSome (option_map (λ (p : CachedLine). record p { used = n }) (place_in old way)) (IsFit rmids (clock + 1))) (sym now) (IfSome-marked rmids clock (place_in old way) (fit way)) in
    (ap length t.2 ∙ length-set old way marked, subst (λ ps. AllFit rmids (clock + 1) ps) (sym t.2) (AllFit-slice_set rmids clock (clock + 1) old way marked (omega arith) t.0 fit is))
AllFit-touches rmids clock mask place old changed (Filled way) now named fit t =
    let is : IfSome (Some place) (IsFit rmids (clock + 1)) = (omega (arith, now), named) in
    (ap length t.2 ∙ length-set old way (Some place), subst (λ ps. AllFit rmids (clock + 1) ps) (sym t.2) (AllFit-slice_set rmids clock (clock + 1) old way (Some place) (omega arith) t.1.within fit is))
AllFit-touches rmids clock mask place old changed (Stale floor) now named fit t = absurd t

-- the sets of a formed cache are fit
AllFit-set_in : (shape : Shape) (rmids clock : ℕ) (places : List (List (Option CachedLine))) (s : ℕ) → IsFormed shape rmids clock places → AllFit rmids clock (set_in places s)
AllFit-set_in shape rmids clock places s formed w = IfSome-both rmids clock (place_in (set_in places s) w) (formed.stamped s w) (formed.named s w)

-- a set is changed that stays as wide, and fit
IsFormed-changed : (shape : Shape) (rmids clock later : ℕ) (places : List (List (Option CachedLine))) (s : ℕ) (changed : List (Option CachedLine))
    → IsFormed shape rmids clock places → clock ≤ later → s < shape.sets → length changed ≡ length (set_in places s) → AllFit rmids later changed → IsFormed shape rmids later (slice_set places s changed)
IsFormed-changed shape rmids clock later places s changed formed le within width new =
    let inside : s < length places = rw formed.count within in
    let read : (k : ℕ) → set_in (slice_set places s changed) k ≡ cond (s == k) changed (set_in places k) = λ k. get_or-set places s k changed [] inside in
    let all : (k : ℕ) → AllFit rmids later (set_in (slice_set places s changed) k) = λ k w.
    subst (λ ps. IfSome (place_in ps w) (IsFit rmids later)) (sym (read k)) (one (s == k) w changed (set_in places k) (new w) (IfSome-later rmids clock later (place_in (set_in places k) w) le (AllFit-set_in shape rmids clock places k formed w))) in
    record {
      count = length-set places s changed ∙ formed.count;
      widths = λ k l.
          ap length (read k)
          ∙ ((elim (cases_Bool (s == k)) [
            | inl here ↦ rw here (width ∙ ap (λ j. length (set_in places j)) (eqb-true s k here))
            | inr there ↦ rw there refl
          ]) ∙ formed.widths k l);
      stamped = λ k w. IfSome-used rmids later (place_in (set_in (slice_set places s changed) k) w) (all k w);
      named = λ k w. IfSome-rmid rmids later (place_in (set_in (slice_set places s changed) k) w) (all k w);
    }
  where
    one : (b : Bool) (w : ℕ) (x y : List (Option CachedLine)) → IfSome (place_in x w) (IsFit rmids later) → IfSome (place_in y w) (IsFit rmids later) → IfSome (place_in (cond b x y) w) (IsFit rmids later)
    one true w x y h k = h
    one false w x y h k = k

-- an access leaves the cache formed
pub IsFormed-slice_set : (shape : Shape) (rmids clock : ℕ) (places : List (List (Option CachedLine))) (s mask : ℕ) (place : CachedLine) (chosen changed : List (Option CachedLine)) (answer : Touched)
    → IsFormed shape rmids clock places → s < shape.sets → chosen ≡ set_in places s → place.used ≡ clock → place.rmid < rmids → Touches chosen changed mask place answer
    → IsFormed shape rmids (clock + 1) (slice_set places s changed)
IsFormed-slice_set shape rmids clock places s mask place chosen changed answer formed within is now named t =
    let fit : AllFit rmids clock chosen = subst (λ ps. AllFit rmids clock ps) (sym is) (AllFit-set_in shape rmids clock places s formed) in
    let after : (length changed ≡ length chosen) × AllFit rmids (clock + 1) changed = AllFit-touches rmids clock mask place chosen changed answer now named fit t in
    IsFormed-changed shape rmids clock (clock + 1) places s changed formed (omega arith) within (after.0 ∙ ap length is) after.1

-- a way of a set is emptied
pub IsFormed-emptied : (shape : Shape) (rmids clock : ℕ) (places : List (List (Option CachedLine))) (s way : ℕ)
    → IsFormed shape rmids clock places → s < shape.sets → way < length (set_in places s) → IsFormed shape rmids (clock + 1) (slice_set places s (slice_set (set_in places s) way None))
IsFormed-emptied shape rmids clock places s way formed within inside =
    IsFormed-changed shape rmids clock (clock + 1) places s (slice_set (set_in places s) way None) formed (omega arith) within (length-set (set_in places s) way None)
    (AllFit-slice_set rmids clock (clock + 1) (set_in places s) way None (omega arith) inside (AllFit-set_in shape rmids clock places s formed) tt)
