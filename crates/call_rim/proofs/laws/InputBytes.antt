-- What was read of a source, against what it had left.
use Rattle.std.proofs.Common.{◌≡◌, ℕ, ◌+◌, ◌<◌, ◌≤◌, List, [], ◌++◌, length, drop, Option, Some, None, sym, subst, ap, ◌∙◌, arith}
use Rattle.std.specs.Io.KnownBytes.{Consumes, IsAtEnd}
use Rattle.std.proofs.lemmas.List.{append-nil, append_cancel_left, drop_all, length-take, take_all, take-append-drop, take-append-le}
use Rattle.call_rim.specs.Outside.{IsInput, IsToTheEnd, LeavesNothing, LeavesRest, first_bytes, rest_bytes}

-- all of few bytes
first_bytes-all : (most : ℕ) (bytes : List ℕ) → length bytes ≤ most + 1 → first_bytes most bytes ≡ bytes
unfolding first_bytes
first_bytes-all most bytes fits = take_all (most + 1) bytes fits

-- the first of many
first_bytes-append : (most : ℕ) (bytes rest : List ℕ) → length bytes ≡ most + 1 → first_bytes most (bytes ++ rest) ≡ bytes
unfolding first_bytes
first_bytes-append most bytes rest full = take-append-le (most + 1) bytes rest (omega (arith, full)) ∙ take_all (most + 1) bytes (omega (arith, full))

-- the source is at its end
pub IsInput-at_end : (most : ℕ) (left now : Option (List ℕ)) (bytes : List ℕ) → Consumes left now bytes → IsAtEnd now → length bytes ≤ most + 1 → IsInput most left bytes
IsInput-at_end most None now bytes consumed end fits = tt
IsInput-at_end most (Some xs) None bytes consumed end fits = absurd consumed
IsInput-at_end most (Some xs) (Some ys) bytes consumed end fits =
    let all : xs ≡ bytes = consumed ∙ (ap (λ rest. bytes ++ rest) end ∙ append-nil bytes) in
    sym (ap (first_bytes most) all ∙ first_bytes-all most bytes fits)

-- one byte more was read than the most
pub IsInput-full : (most : ℕ) (left now : Option (List ℕ)) (bytes : List ℕ) → Consumes left now bytes → length bytes ≡ most + 1 → IsInput most left bytes
IsInput-full most None now bytes consumed full = tt
IsInput-full most (Some xs) None bytes consumed full = absurd consumed
IsInput-full most (Some xs) (Some ys) bytes consumed full = sym (ap (first_bytes most) consumed ∙ first_bytes-append most bytes ys full)

-- the bytes that a source had, where they are known
pub IsToTheEnd-known : (left : Option (List ℕ)) (had bytes : List ℕ) → left ≡ Some had → IsToTheEnd left bytes → bytes ≡ had
IsToTheEnd-known left had bytes known all = let at : IsToTheEnd (Some had) bytes = subst (λ (l : Option (List ℕ)). IsToTheEnd l bytes) known all in at

-- ---- what is left of the source

-- what follows the bytes that were taken
rest_bytes-consumed : (most : ℕ) (left now bytes : List ℕ) → left ≡ bytes ++ now → bytes ≡ first_bytes most left → now ≡ rest_bytes most left
unfolding first_bytes rest_bytes
rest_bytes-consumed most left now bytes consumed first =
    let rest = drop (most + 1) left in
    append_cancel_left bytes now rest (sym consumed ∙ (sym (take-append-drop (most + 1) left) ∙ ap (λ t. t ++ rest) (sym first)))

-- the rest
pub LeavesRest-of : (most : ℕ) (left now : Option (List ℕ)) (bytes : List ℕ) → Consumes left now bytes → IsInput most left bytes → LeavesRest most left now
LeavesRest-of most None now bytes consumed input = tt
LeavesRest-of most (Some xs) None bytes consumed input = absurd consumed
LeavesRest-of most (Some xs) (Some ys) bytes consumed input = ap Some (rest_bytes-consumed most xs ys bytes consumed input)

-- few bytes have no rest
pub rest_bytes-few : (most : ℕ) (left : List ℕ) → length left ≤ most → rest_bytes most left ≡ []
unfolding rest_bytes
rest_bytes-few most left few = drop_all (most + 1) left (omega (arith, few))

-- so nothing of them is left
pub LeavesRest-few : (most : ℕ) (left now : Option (List ℕ)) (bytes : List ℕ) → IsToTheEnd left bytes → length bytes ≤ most → LeavesRest most left now → LeavesNothing left now
LeavesRest-few most None now bytes all few rest = tt
LeavesRest-few most (Some xs) now bytes all few rest = rest ∙ ap Some (rest_bytes-few most xs (subst (λ b. length b ≤ most) all few))

-- ---- bytes that are cut off after one more than the most

-- few bytes are all
pub first_bytes-few : (most : ℕ) (left bytes : List ℕ) → bytes ≡ first_bytes most left → length bytes ≤ most → bytes ≡ left
unfolding first_bytes
first_bytes-few most left bytes input few =
    let same = ap length input in
    let taken = length-take (most + 1) left in
    input ∙ take_all (most + 1) left (omega (arith, same, taken, few))

-- fewer bytes than a first limit are all that there are
pub IsInput-short : (first most : ℕ) (left : Option (List ℕ)) (bytes : List ℕ) → IsInput first left bytes → length bytes ≤ first → first ≤ most → IsInput most left bytes
IsInput-short first most None bytes input few less = tt
IsInput-short first most (Some left) bytes input few less =
    let all : bytes ≡ left = first_bytes-few first left bytes input few in
    all ∙ sym (first_bytes-all most left (omega (arith, few, less, ap length all)))

-- and many are of more
pub first_bytes-many : (most : ℕ) (left bytes : List ℕ) → bytes ≡ first_bytes most left → most < length bytes → most < length left
unfolding first_bytes
first_bytes-many most left bytes input many =
    let same = ap length input in
    let taken = length-take (most + 1) left in
    omega (arith, same, taken, many)
