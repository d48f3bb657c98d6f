-- The better of two choices.
use Rattle.std.proofs.Common.{◌≡◌, Bool, true, false, cond, ltb, Option, Some, None, IfSome, refl, arith}
use Rattle.way_plans.specs.declared.choice.Choice.{Choice}
use Rattle.way_plans.specs.Rows.{better, IsNoBetter}

-- a choice is no better than itself
pub IsNoBetter-same : (choice : Option Choice) → IsNoBetter choice choice
IsNoBetter-same None = tt
IsNoBetter-same (Some choice) = omega arith

-- what is no better than the first is no better than the better of the two
pub IsNoBetter-first : (choice first second : Option Choice) → IsNoBetter choice first → IsNoBetter choice (better first second)
IsNoBetter-first None first second h = tt
IsNoBetter-first (Some choice) None second h = absurd h
IsNoBetter-first (Some choice) (Some a) None h = h
IsNoBetter-first (Some choice) (Some a) (Some b) h = at (ltb b.misses a.misses) refl
  where
    at : (less : Bool) → ltb b.misses a.misses ≡ less → IsNoBetter (Some choice) (cond less (Some b) (Some a))
    at true is = grind (arith, h, is)
    at false is = h

-- nor is what is no better than the second
pub IsNoBetter-second : (choice first second : Option Choice) → IsNoBetter choice second → IsNoBetter choice (better first second)
IsNoBetter-second None first second h = tt
IsNoBetter-second (Some choice) None second h = h
IsNoBetter-second (Some choice) (Some a) None h = absurd h
IsNoBetter-second (Some choice) (Some a) (Some b) h = at (ltb b.misses a.misses) refl
  where
    at : (less : Bool) → ltb b.misses a.misses ≡ less → IsNoBetter (Some choice) (cond less (Some b) (Some a))
    at true is = h
    at false is = grind (arith, h, is)

-- the better of two is one of them
pub IfSome-better : (P : Choice → Type 0) (first second : Option Choice) → IfSome first P → IfSome second P → IfSome (better first second) P
IfSome-better P None second f s = s
IfSome-better P (Some a) None f s = f
IfSome-better P (Some a) (Some b) f s = at (ltb b.misses a.misses)
  where
    at : (less : Bool) → IfSome (cond less (Some b) (Some a)) P
    at true = s
    at false = f
