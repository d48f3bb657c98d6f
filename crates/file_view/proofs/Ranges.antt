-- Lists over ranges of numbers, one number more.
use Rattle.std.proofs.Common.{◌≡◌, ℕ, ◌+◌, List, [], ◌∷◌, ◌++◌, ap, ◌∙◌, arith}
use Rattle.std.specs.List.{flat_map, range_with_len}
use Rattle.std.proofs.lemmas.Grind.{flat_map-append}
use Rattle.std.proofs.lemmas.List.{append-nil}
use Rattle.lists.proofs.Ranges.{range_with_len-suc}

-- what one number more adds
pub flat_map-range_with_len : {Y : Type 0} (f : ℕ → List Y) (n : ℕ) → flat_map f (range_with_len 0 (n + 1)) ≡ flat_map f (range_with_len 0 n) ++ f n
flat_map-range_with_len {Y = Y} f n =
    let here : 0 + n ≡ n = omega arith in
    let range : range_with_len 0 (n + 1) ≡ range_with_len 0 n ++ n ∷ [] = range_with_len-suc 0 n ∙ ap (λ (k : ℕ). range_with_len 0 n ++ k ∷ []) here in
    ap (flat_map f) range ∙ (flat_map-append f (range_with_len 0 n) (n ∷ []) ∙ ap (λ (t : List Y). flat_map f (range_with_len 0 n) ++ t) (append-nil (f n)))
