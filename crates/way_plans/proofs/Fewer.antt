-- The fewer of two placeds.
use Rattle.std.proofs.Common.{◌≡◌, Bool, true, false, cond, ltb, Option, Some, None, IfSome, refl, arith}
use Rattle.way_plans.specs.declared.placed.Placed.{Placed}
use Rattle.way_plans.specs.Placings.{fewer, IsNoFewer}

-- a placed is no fewer than itself
pub IsNoFewer-same : (placed : Option Placed) → IsNoFewer placed placed
IsNoFewer-same None = tt
IsNoFewer-same (Some placed) = omega arith

-- what is no fewer than the first is no fewer than the fewer of the two
pub IsNoFewer-first : (placed first second : Option Placed) → IsNoFewer placed first → IsNoFewer placed (fewer first second)
IsNoFewer-first None first second h = tt
IsNoFewer-first (Some placed) None second h = absurd h
IsNoFewer-first (Some placed) (Some a) None h = h
IsNoFewer-first (Some placed) (Some a) (Some b) h = at (ltb b.misses a.misses) refl
  where
    at : (less : Bool) → ltb b.misses a.misses ≡ less → IsNoFewer (Some placed) (cond less (Some b) (Some a))
    at true is = grind (arith, h, is)
    at false is = h

-- nor is what is no fewer than the second
pub IsNoFewer-second : (placed first second : Option Placed) → IsNoFewer placed second → IsNoFewer placed (fewer first second)
IsNoFewer-second None first second h = tt
IsNoFewer-second (Some placed) None second h = h
IsNoFewer-second (Some placed) (Some a) None h = absurd h
IsNoFewer-second (Some placed) (Some a) (Some b) h = at (ltb b.misses a.misses) refl
  where
    at : (less : Bool) → ltb b.misses a.misses ≡ less → IsNoFewer (Some placed) (cond less (Some b) (Some a))
    at true is = h
    at false is = grind (arith, h, is)

-- the fewer of two is one of them
pub IfSome-fewer : (P : Placed → Type 0) (first second : Option Placed) → IfSome first P → IfSome second P → IfSome (fewer first second) P
IfSome-fewer P None second f s = s
IfSome-fewer P (Some a) None f s = f
IfSome-fewer P (Some a) (Some b) f s = at (ltb b.misses a.misses)
  where
    at : (less : Bool) → IfSome (cond less (Some b) (Some a)) P
    at true = s
    at false = f
