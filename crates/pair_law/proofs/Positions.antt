-- Lists by their positions.
use Rattle.std.proofs.Common.{zero, suc, ◌-◌, List, [], ◌∷◌, map, arith}
use Rattle.std.specs.List.{All}

-- what holds of the values holds of what is mapped to them
pub All-unmap : {X Y : Type 0} (P : Y → Type 0) (f : X → Y) (xs : List X) → All P (map f xs) → All (λ x. P (f x)) xs
All-unmap P f [] all k d within = absurd (omega arith)
All-unmap P f (x ∷ xs) all zero d within = all 0 (f d) (omega arith)
All-unmap P f (x ∷ xs) all (suc k) d within = All-unmap P f xs (λ i e lt. all (suc i) e (omega arith)) k d (omega arith)
