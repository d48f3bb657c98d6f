-- Numbers in a text, each after one space.
use Rattle.std.proofs.Common.{◌≡◌, ℕ, ◌*◌, ◌≤◌, List, [], ◌∷◌, ◌++◌, length, decimal, refl, sym, ap, ◌∙◌, arith, append_assoc, length-append}
use Rattle.std.proofs.lemmas.Fmt.{decimal_injective, decimal_nonempty}
use Rattle.std.proofs.lemmas.List.{append-nil}
use Rattle.journal_text.specs.Lines.{fields}
use Rattle.journal_text.specs.Taken.{AreNumbers, EndsWord, Takes}
use Rattle.journal_text.proofs.laws.Words.{IsWord-decimal, split-unique}

-- no numbers are no text
pub fields-nil : fields [] ≡ []
unfolding fields
fields-nil = refl

-- a number in front
pub fields-cons : (n : ℕ) (ns : List ℕ) → fields (n ∷ ns) ≡ 32 ∷ (decimal n ++ fields ns)
unfolding fields
fields-cons n ns = refl

-- numbers after numbers
pub fields-append : (ms ns : List ℕ) → fields (ms ++ ns) ≡ fields ms ++ fields ns
fields-append [] ns = ap (λ (t : List ℕ). t ++ fields ns) (sym fields-nil)
fields-append (m ∷ ms) ns =
    fields-cons m (ms ++ ns) ∙ ap (λ (t : List ℕ). 32 ∷ (decimal m ++ t)) (fields-append ms ns) ∙ ap (λ (t : List ℕ). 32 ∷ t) (sym (append_assoc (decimal m) (fields ms) (fields ns)))
    ∙ ap (λ (t : List ℕ). t ++ fields ns) (sym (fields-cons m ms))

-- after numbers a word ends, where it does after them
pub EndsWord-fields : (ns more : List ℕ) → EndsWord more → EndsWord (fields ns ++ more)
EndsWord-fields [] more m = rw fields-nil m
EndsWord-fields (n ∷ ns) more m = rw (fields-cons n ns) refl

-- each number has two bytes at least
pub length-fields : (ns : List ℕ) → AreNumbers ns → 2 * length ns ≤ length (fields ns)
length-fields [] fit = omega arith
length-fields (n ∷ ns) fit =
    rw (fields-cons n ns) (omega (arith, length-append (decimal n) (fields ns), decimal_nonempty n fit.0, length-fields ns fit.1))

-- a text begins with one list of numbers of a length
pub Takes-unique : (ms ns more rest text : List ℕ) → length ms ≡ length ns → Takes ms more text → Takes ns rest text → (ms ≡ ns) × (more ≡ rest)
Takes-unique ms ns more rest text count m n = same ms ns count m.fit n.fit (sym m.same ∙ n.same)
  where
    more_ends : EndsWord more
    more_ends = m.ends

    rest_ends : EndsWord rest
    rest_ends = n.ends

    same : (xs ys : List ℕ) → length xs ≡ length ys → AreNumbers xs → AreNumbers ys → fields xs ++ more ≡ fields ys ++ rest → (xs ≡ ys) × (more ≡ rest)
    same [] [] count x y e = (refl, ap (λ (t : List ℕ). t ++ more) (sym fields-nil) ∙ e ∙ ap (λ (t : List ℕ). t ++ rest) fields-nil)
    same [] (b ∷ ys) count x y e = absurd cc
    same (b ∷ xs) [] count x y e = absurd cc
    same (b ∷ xs) (c ∷ ys) count x y e =
        let long : 32 ∷ (decimal b ++ fields xs ++ more) ≡ 32 ∷ (decimal c ++ fields ys ++ rest) = sym (ap (λ (t : List ℕ). t ++ more) (fields-cons b xs)) ∙ e ∙ ap (λ (t : List ℕ). t ++ rest) (fields-cons c ys) in
        let words : decimal b ++ (fields xs ++ more) ≡ decimal c ++ (fields ys ++ rest) = sym (append_assoc (decimal b) (fields xs) more) ∙ (let tail : decimal b ++ fields xs ++ more ≡ decimal c ++ fields ys ++ rest = cc in tail) ∙ append_assoc (decimal c) (fields ys) rest in
        let both = split-unique (decimal b) (decimal c) (fields xs ++ more) (fields ys ++ rest) (IsWord-decimal b x.0) (IsWord-decimal c y.0) (EndsWord-fields xs more more_ends) (EndsWord-fields ys rest rest_ends) words in
        let number : b ≡ c = decimal_injective b c x.0 y.0 both.0 in
        let later = same xs ys (omega arith) x.1 y.1 both.1 in
        (let numbers : xs ≡ ys = later.0 in cc, later.1)

-- numbers and nothing else
pub Takes-all : (numbers : List ℕ) → AreNumbers numbers → Takes numbers [] (fields numbers)
Takes-all numbers fit = record { same = sym (append-nil (fields numbers)); fit = fit; ends = tt }
