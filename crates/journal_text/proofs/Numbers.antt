-- The number whose decimal text a text is.
use Rattle.std.proofs.Common.{◌≡◌, ℕ, ◌^◌, ◌<◌, Bool, true, false, cond, ◌&&◌, ltb, List, [], ◌∷◌, length, get_or, decimal, Option, Some, None, MatchOption, refl, sym, ap, ◌∙◌, arith, inl, inr, subst}
use Rattle.std.specs.Char.{digit_value, is_digit}
use Rattle.std.specs.List.{list_all}
use Rattle.std.specs.Str.Parse.{AllDigits, digits_value}
use Rattle.std.proofs.lemmas.Bool.{lt-ltb, ltb-true, cases_lt}
use Rattle.std.proofs.lemmas.Fmt.{decimal-digits_value, first_decimal}
use Rattle.std.proofs.lemmas.Str.Parse.{IsNumeralModel}
use Rattle.num_text.proofs.laws.Limits.{below-lt}
use Rattle.num_text.proofs.laws.Prints.{decimal_reads_back, length-decimal_digit}
use Rattle.num_text.specs.Numbers.{below, dec_of, number_of}

-- a decimal text of more than one digit does not begin with 0
pub decimal-leading_zero : (n : ℕ) (text : List ℕ) → n < 2 ^ 64 → decimal n ≡ text → 1 < length text → get_or text 0 0 ≡ 48 → ⊥
decimal-leading_zero n text small e long first = elim (cases_lt 0 n) [
  | inl some ↦ (let great : 48 < get_or text 0 0 = subst (λ (t : List ℕ). 48 < get_or t 0 0) e (first_decimal n some small) in omega arith)
  | inr none ↦ (let one : length text ≡ 1 = ap length (sym e) ∙ length-decimal_digit n (omega arith) in omega arith)
]

-- digits, where each byte is one
AllDigits-list_all : (base : ℕ) (cs : List ℕ) → list_all (λ b. is_digit b base) cs ≡ true → AllDigits base cs
AllDigits-list_all base [] h = tt
AllDigits-list_all base (c ∷ cs) h = step (ltb (digit_value c) base) refl h (AllDigits-list_all base cs)
  where
    step : (t : Bool) → ltb (digit_value c) base ≡ t → (t && list_all (λ b. is_digit b base) cs) ≡ true → (list_all (λ b. is_digit b base) cs ≡ true → AllDigits base cs) → AllDigits base (c ∷ cs)
    step true is h later = (ltb-true (digit_value c) base is, later h)
    step false is h later = absurd cc

-- what spells a number
record Spells (base : ℕ) (cs : List ℕ) (n : ℕ) : Type 0 where
  some : 0 < length cs
  digits : AllDigits base cs
  value : digits_value base cs ≡ n

-- a text that is read as a number spells it
Spells-number_of : (base : ℕ) (cs : List ℕ) (n : ℕ) → number_of base cs ≡ Some n → Spells base cs n
Spells-number_of base [] n h = absurd cc
Spells-number_of base (c ∷ cs) n h = step (list_all (λ b. is_digit b base) (c ∷ cs)) refl h
  where
    step : (t : Bool) → list_all (λ b. is_digit b base) (c ∷ cs) ≡ t → cond t (Some (digits_value base (c ∷ cs))) None ≡ Some n → Spells base (c ∷ cs) n
    step true is h = record { some = omega arith; digits = AllDigits-list_all base (c ∷ cs) is; value = (let e : Some (digits_value base (c ∷ cs)) ≡ Some n = h in cc) }
    step false is h = absurd (let e : None ≡ Some n = h in cc)

-- what is below a limit is what was read
below-some : (limit : ℕ) (o : Option ℕ) (n : ℕ) → below limit o ≡ Some n → o ≡ Some n
below-some limit None n e = absurd (let g : None ≡ Some n = e in cc)
below-some limit (Some x) n e = at (ltb x limit) e
  where
    at : (b : Bool) → cond b (Some x) None ≡ Some n → Some x ≡ Some n
    at true f = f
    at false f = absurd (let g : None ≡ Some n = f in cc)

-- digits as std has them
own : IsNumeralModel (AllDigits 10) (digits_value 10)
own = record { to = λ ds h. h; from = λ ds h. h; same = λ ds h. refl }

-- a text without a leading zero that is read is the decimal text of the number, and one that is not read is none
pub decimal-read : (o : Option ℕ) (text : List ℕ) → o ≡ below (2 ^ 64) (dec_of text) → (1 < length text → get_or text 0 0 ≡ 48 → ⊥) → MatchOption o ((n : ℕ) → n < 2 ^ 64 → decimal n ≡ text → ⊥) (λ n. decimal n ≡ text)
decimal-read None text e zero_less = λ n small is.
    let read : dec_of text ≡ Some n = ap dec_of (sym is) ∙ decimal_reads_back n small in
    let some : below (2 ^ 64) (dec_of text) ≡ Some n = ap (below (2 ^ 64)) read ∙ rw (lt-ltb n (2 ^ 64) small) refl in
    absurd (let g : None ≡ Some n = e ∙ some in cc)
decimal-read (Some x) text e zero_less =
    let s = Spells-number_of 10 text x (below-some (2 ^ 64) (dec_of text) x (sym e)) in
    let small : x < 2 ^ 64 = below-lt (2 ^ 64) (dec_of text) x (sym e) in
    ap decimal (sym s.value) ∙ decimal-digits_value own text s.digits s.some (λ first. elim (cases_lt 1 (length text)) [ inl long ↦ absurd (zero_less long first) | inr le ↦ (let some = s.some in omega arith) ]) (subst (λ (k : ℕ). k < 2 ^ 64) (sym s.value) small)
