-- What is read of the places that a cache keeps.
use Rattle.std.proofs.Common.{◌≡◌, ℕ, ◌%◌, ◌<◌, Bool, true, false, cond, ◌==◌, List, length, Option, option_map, refl, sym, ◌∙◌, subst, inl, inr, set, get_or}
use Rattle.std.specs.Option.{option_map_or}
use Rattle.std.proofs.lemmas.Bool.{cases_Bool, cond-true, eqb-true, eqb-false, eq-eqb}
use Rattle.std.proofs.lemmas.List.{get_or-set_same, get_or-set_other}
use Rattle.machine.specs.declared.machine.Machine.{Machine}
use Rattle.machine.specs.Maps.{parameters_of}
use Rattle.cache_core.specs.declared.cached_line.CachedLine.{CachedLine}
use Rattle.cache_core.specs.Fills.{Resident}
use Rattle.cache_core.specs.History.{IsOwn, shape_of, is_own}
use Rattle.cache_core.specs.Places.{IsFormed, set_in, CacheValue}

-- a read after a write: the new value there, and the old ones elsewhere
pub get_or-set : {X : Type 0} (xs : List X) (i j : ℕ) (y d : X) → i < length xs → get_or (set xs i y) j d ≡ cond (i == j) y (get_or xs j d)
get_or-set xs i j y d h =
    elim (cases_Bool (i == j)) [
      | inl e ↦ rw e (let same : i ≡ j = eqb-true i j e in subst (λ k. get_or (set xs i y) k d ≡ y) same (get_or-set_same xs i y d h))
      | inr e ↦ rw e (get_or-set_other xs i j y d (λ s. eqb-false i j e (sym s)))
    ]

-- a function of one of two values
pub cond-under : {X Y : Type 0} (f : X → Y) (b : Bool) (x y : X) → f (cond b x y) ≡ cond b (f x) (f y)
cond-under f true x y = refl
cond-under f false x y = refl

-- an own set has every way
pub length-set_in_own : (cache : CacheValue) (set : ℕ) → IsFormed cache.shape cache.rmids cache.clock cache.places → IsOwn cache.shape set → length (set_in cache.places set) ≡ cache.shape.ways
length-set_in_own cache set formed own = formed.widths set own.0 ∙ cond-true (is_own cache.shape set) cache.shape.ways 0 (eq-eqb (set % cache.shape.slices) cache.shape.slice own.1)

-- the line and RMID of a place
abbrev pub res : Option CachedLine → Option Resident
res o = option_map (λ (p : CachedLine). record { line = p.line; rmid = p.rmid }) o

-- when a place was used
abbrev pub stamp : Option CachedLine → ℕ
stamp o = option_map_or (λ (p : CachedLine). p.used) o 0

-- the state of a slice of a machine's cache that keeps these places
abbrev pub kept : Machine → ℕ → List (List (Option CachedLine)) → ℕ → ℕ → CacheValue
kept machine slice places floor clock = record { shape = shape_of (parameters_of machine) slice; rmids = machine.rmids; places = places; floor = floor; clock = clock }
