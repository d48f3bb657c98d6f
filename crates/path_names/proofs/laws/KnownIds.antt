-- Numbers of names that are known.
use Rattle.std.proofs.Common.{ℕ, zero, ◌<◌, ◌++◌, List, [], ◌∷◌, length, subst, arith}
use Rattle.std.proofs.lemmas.List.{get_or_append_left, length-append}
use Rattle.std.proofs.Math.Seq.{get_or-append_seam}
use Rattle.path_names.specs.NamesIn.{AreKnown}

-- those in front
pub AreKnown-front : (n : ℕ) (xs ys : List ℕ) → AreKnown n (xs ++ ys) → AreKnown n xs
AreKnown-front n xs ys all = λ k d h. subst (λ (v : ℕ). v < n) (get_or_append_left xs ys d k h) (all k d (omega (arith, length-append xs ys, h)))

-- the last
pub AreKnown-last : (n : ℕ) (xs : List ℕ) (y : ℕ) → AreKnown n (xs ++ y ∷ []) → y < n
AreKnown-last n xs y all = subst (λ (v : ℕ). v < n) (get_or-append_seam xs y [] y) (all (length xs) y (omega (arith, length-append xs (y ∷ []))))

-- the only one
pub AreKnown-one : (n y : ℕ) → AreKnown n (y ∷ []) → y < n
AreKnown-one n y all = all zero y (omega arith)

pub ruleset known_ids = (AreKnown-front, AreKnown-last, AreKnown-one)
