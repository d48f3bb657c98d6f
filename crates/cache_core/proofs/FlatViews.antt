-- What the flat vectors have, by the sets that contracts see.
use Rattle.std.proofs.Common.{◌≡◌, ℕ, ◌<◌, List, length, Option, sym, ◌∙◌, ap, arith}
use Rattle.cache_core.specs.declared.cached_line.CachedLine.{CachedLine}
use Rattle.cache_core.specs.Flat.{Flat, flat_sets}
use Rattle.cache_core.specs.Places.{set_in}
use Rattle.cache_core.proofs.FlatPlaces.{length-flat_sets}
use Rattle.cache_core.proofs.FlatReads.{IsRow-flat_sets}

-- a set is one of the vectors
pub lt-sets : (f : Flat) (now : List (List (Option CachedLine))) (set : ℕ) → flat_sets f ≡ now → set < length now → set < length f.valid
lt-sets f now set is within = let e : length (flat_sets f) ≡ length now = ap length is in omega (arith, e, length-flat_sets f, within)

-- a set has its ways
pub length-set_in_flat : (f : Flat) (now : List (List (Option CachedLine))) (set : ℕ) → flat_sets f ≡ now → set < length now → length (set_in now set) ≡ f.ways
length-set_in_flat f now set is within = ap (λ ps. length (set_in ps set)) (sym is) ∙ (IsRow-flat_sets f set (lt-sets f now set is within)).count

-- a way is one of the vectors
pub lt-ways : (f : Flat) (now : List (List (Option CachedLine))) (set way : ℕ) → flat_sets f ≡ now → set < length now → way < length (set_in now set) → way < f.ways
lt-ways f now set way is within inside = omega (arith, inside, length-set_in_flat f now set is within)
