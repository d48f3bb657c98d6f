-- The decimal text of a number, two digits at a time.
use Rattle.std.proofs.Common.{◌≡◌, ℕ, ◌+◌, ◌/◌, ◌%◌, ◌^◌, ◌<◌, ◌≤◌, List, [], ◌∷◌, ◌++◌, length, ap, ◌∙◌, arith, append_assoc, length-append}
use Rattle.std.proofs.lemmas.Fmt.{decimal_digit, decimal_step}
use Rattle.std.specs.Fmt.{decimal}

-- the two digits of a number below a hundred
abbrev pub pair_digits : ℕ → List ℕ
pair_digits n = (48 + n / 10) ∷ (48 + n % 10) ∷ []

-- a number of two digits
pub decimal_pair : (n : ℕ) → 10 ≤ n → n < 100 → decimal n ≡ pair_digits n
decimal_pair n two few = decimal_step n two (omega arith) ∙ ap (λ (ds : List ℕ). ds ++ (48 + n % 10) ∷ []) (decimal_digit (n / 10) (omega arith))

-- a number of more digits: those of its front, and its last two
pub decimal_pairs : (n : ℕ) → 100 ≤ n → n < 2 ^ 64 → decimal n ≡ decimal (n / 100) ++ pair_digits (n % 100)
decimal_pairs n more small =
    let front : n / 10 / 10 ≡ n / 100 = omega arith in
    let tens : n / 10 % 10 ≡ n % 100 / 10 = omega arith in
    let ones : n % 10 ≡ n % 100 % 10 = omega arith in
    decimal_step n (omega arith) small
    ∙ ap (λ (ds : List ℕ). ds ++ (48 + n % 10) ∷ []) (decimal_step (n / 10) (omega arith) (omega arith))
    ∙ append_assoc (decimal (n / 10 / 10)) ((48 + n / 10 % 10) ∷ []) ((48 + n % 10) ∷ [])
    ∙ ap (λ m. decimal m ++ (48 + n / 10 % 10) ∷ (48 + n % 10) ∷ []) front
    ∙ ap (λ m. decimal (n / 100) ++ (48 + m) ∷ (48 + n % 10) ∷ []) tens
    ∙ ap (λ m. decimal (n / 100) ++ (48 + n % 100 / 10) ∷ (48 + m) ∷ []) ones

-- how long these texts are
pub length-decimal_pair : (n : ℕ) → 10 ≤ n → n < 100 → length (decimal n) ≡ 2
length-decimal_pair n two few = ap length (decimal_pair n two few)

-- with two digits more
pub length-decimal_pairs : (n : ℕ) → 100 ≤ n → n < 2 ^ 64 → length (decimal n) ≡ length (decimal (n / 100)) + 2
length-decimal_pairs n more small = ap length (decimal_pairs n more small) ∙ length-append (decimal (n / 100)) (pair_digits (n % 100))
