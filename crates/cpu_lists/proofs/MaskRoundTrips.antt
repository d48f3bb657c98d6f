-- Printed masks are read again.
use Rattle.std.proofs.Common.{◌≡◌, ℕ, ◌+◌, ◌-◌, ◌*◌, ◌/◌, ◌%◌, ◌^◌, ◌<◌, ◌≤◌, Bool, true, false, eqb, ◌||◌, ◌&&◌, inl, inr, List, [], ◌∷◌, ◌++◌, length, Some, Ok, refl, sym, ap, ◌∙◌, arith, lt_of_lt_of_le, length-append}
use Rattle.std.specs.Char.{digit_value}
use Rattle.std.specs.Str.Parse.{AllDigits}
use Rattle.std.specs.Option.{option_map}
use Rattle.std.specs.List.{list_any, slice_split}
use Rattle.std.proofs.Math.Nat.{pow-le-pow_right}
use Rattle.std.proofs.lemmas.Bool.{ne_eqb, cases_lt, le-leb}
use Rattle.std.proofs.lemmas.List.Folds.{list_any-append}
use Rattle.num_text.specs.Numbers.{has_prefix, without_prefix}
use Rattle.num_text.specs.Printed.{hexadecimal}
use Rattle.num_text.proofs.laws.Digits.{eqb-digit, list_any-digits, AllDigits-hexadecimal, digits_value-hexadecimal, length-hexadecimal_some, number_of-digits}
use Rattle.num_text.proofs.laws.Pieces.{slice_split-join_with_byte}
use Rattle.lists.proofs.Cuts.{slice_split-none}
use Rattle.num_text.proofs.laws.Prints.{length-filled}
use Rattle.cpu_lists.specs.Sets.{numbers_of, answer_of, Says}
use Rattle.cpu_lists.specs.Masks.{comma, each, group_of, value_of, cpus_in, mask_cpus}
use Rattle.cpu_lists.specs.Printed.{digits_for, mask_text, MaskReadsBack}
use Rattle.cpu_lists.proofs.Bits.{has-above}
use Rattle.cpu_lists.proofs.LeastNumbers.{answer_of-all}
use Rattle.cpu_lists.proofs.Members.{is_among-numbers_of}
use Rattle.cpu_lists.proofs.Texts.{mask_cpus-pieces}
use Rattle.cpu_lists.proofs.MaskTexts.{mask_text-one_group, mask_text-two_groups}

-- the numbers of a set of CPUs that exist are the set
pub Says-numbers_of : (cpus len set : ℕ) → cpus ≤ len → set < 2 ^ cpus → Says (Ok set) (answer_of cpus (Some (numbers_of len set)))
Says-numbers_of cpus len set le small =
    let wide : set < 2 ^ len = lt_of_lt_of_le small (pow-le-pow_right {n = 2} (omega arith) le) in
    rw (answer_of-all cpus (numbers_of len set) (λ k from. is_among-numbers_of len set k wide ∙ has-above set cpus k small from)) (λ k. sym (is_among-numbers_of len set k wide))

-- ---- a mask

-- whether a byte is the second of a prefix
abbrev is_x : ℕ → Bool
is_x c = eqb 120 c || eqb 88 c

-- a digit is no `x`
is_x-digit : (c : ℕ) → digit_value c < 16 → is_x c ≡ false
is_x-digit c h = rw (ne_eqb 120 c (λ e. absurd (omega (arith, ap digit_value e))), ne_eqb 88 c (λ e. absurd (omega (arith, ap digit_value e)))) refl

-- a text without `x` has no prefix
without_prefix-plain : (cs : List ℕ) → list_any is_x cs ≡ false → without_prefix cs ≡ cs
without_prefix-plain cs h = rw (no_prefix cs h) refl
  where
    either : (x : Bool) → ((x && false) || (x && false)) ≡ false
    either true = refl
    either false = refl

    second : (a b : Bool) (x : Bool) (rest : Bool) → ((a || b) || rest) ≡ false → ((x && (a && true)) || (x && (b && true))) ≡ false
    second true b x rest e = absurd cc
    second false true x rest e = absurd cc
    second false false x rest e = either x

    no_prefix : (cs : List ℕ) → list_any is_x cs ≡ false → has_prefix cs ≡ false
    no_prefix [] h = refl
    no_prefix (b ∷ []) h = either (eqb 48 b)
    no_prefix (b ∷ c ∷ cs) h = second (eqb 120 c) (eqb 88 c) (eqb 48 b) (list_any is_x cs) (behind (is_x b) h)
      where
        behind : (a : Bool) → (a || (is_x c || list_any is_x cs)) ≡ false → (is_x c || list_any is_x cs) ≡ false
        behind true e = absurd cc
        behind false e = e

-- a digit is no comma
pub comma-digit : (c : ℕ) → digit_value c < 16 → comma c ≡ false
comma-digit c h = eqb-digit c 44 refl h

-- a group reads back
group_of-hexadecimal : (width n : ℕ) → width ≤ 8 → n < 2 ^ 32 → group_of (hexadecimal width n) ≡ Some n
group_of-hexadecimal width n narrow small =
    let wide : n < 2 ^ 64 = omega arith in
    let text = hexadecimal width n in
    let short : length text ≤ 8 = length-filled 16 7 width n (omega arith) small wide narrow in
    rw (le-leb (length text) 8 short) (number_of-digits 16 text (length-hexadecimal_some width n wide) (AllDigits-hexadecimal width n wide) ∙ ap Some (digits_value-hexadecimal width n wide))

-- a mask of one group reads back
mask_cpus-one_group : (width set : ℕ) → width ≤ 8 → set < 2 ^ 32 → mask_cpus (hexadecimal width set) ≡ Some (numbers_of 32 set)
mask_cpus-one_group width set narrow small =
    let wide : set < 2 ^ 64 = omega arith in
    let text = hexadecimal width set in
    let digits : AllDigits 16 text = AllDigits-hexadecimal width set wide in
    let plain : without_prefix text ≡ text = without_prefix-plain text (list_any-digits is_x is_x-digit text digits) in
    let one : slice_split comma text ≡ text ∷ [] = slice_split-none comma text (list_any-digits comma comma-digit text digits) in
    mask_cpus-pieces text (length-hexadecimal_some width set wide)
    ∙ ap (λ (t : List ℕ). option_map cpus_in (each group_of (slice_split comma t))) plain
    ∙ ap (λ (pieces : List (List ℕ)). option_map cpus_in (each group_of pieces)) one
    ∙ ap (option_map cpus_in) (single (group_of-hexadecimal width set narrow small))
    ∙ ap (λ (n : ℕ). Some (numbers_of 32 n)) value
  where
    single : group_of (hexadecimal width set) ≡ Some set → each group_of (hexadecimal width set ∷ []) ≡ Some (set ∷ [])
    single e = rw e refl

    value : value_of (set ∷ []) ≡ set
    value = omega arith

-- a mask of two groups reads back
mask_cpus-two_groups : (width high low : ℕ) → width ≤ 8 → high < 2 ^ 32 → low < 2 ^ 32 → mask_cpus (hexadecimal width high ++ 44 ∷ hexadecimal 8 low) ≡ Some (numbers_of 64 (high * 2 ^ 32 + low))
mask_cpus-two_groups width high low narrow high_small low_small =
    let first = hexadecimal width high in
    let second = hexadecimal 8 low in
    let text = first ++ 44 ∷ second in
    let first_digits : AllDigits 16 first = AllDigits-hexadecimal width high (omega arith) in
    let second_digits : AllDigits 16 second = AllDigits-hexadecimal 8 low (omega arith) in
    let no_x_text : list_any is_x text ≡ false = list_any-append is_x first (44 ∷ second) ∙ rw (list_any-digits is_x is_x-digit first first_digits, list_any-digits is_x is_x-digit second second_digits) refl in
    let plain : without_prefix text ≡ text = without_prefix-plain text no_x_text in
    let parts : slice_split comma text ≡ first ∷ second ∷ [] = slice_split-join_with_byte comma 44 refl (first ∷ second ∷ []) (omega arith) (list_any-digits comma comma-digit first first_digits, (list_any-digits comma comma-digit second second_digits, tt)) in
    mask_cpus-pieces text (omega (arith, length-append first (44 ∷ second)))
    ∙ ap (λ (t : List ℕ). option_map cpus_in (each group_of (slice_split comma t))) plain
    ∙ ap (λ (pieces : List (List ℕ)). option_map cpus_in (each group_of pieces)) parts
    ∙ ap (option_map cpus_in) (both (group_of-hexadecimal width high narrow high_small) (group_of-hexadecimal 8 low (omega arith) low_small))
    ∙ ap (λ (n : ℕ). Some (numbers_of 64 n)) value
  where
    both : group_of (hexadecimal width high) ≡ Some high → group_of (hexadecimal 8 low) ≡ Some low → each group_of (hexadecimal width high ∷ hexadecimal 8 low ∷ []) ≡ Some (high ∷ low ∷ [])
    both e f = rw (e, f) refl

    value : value_of (high ∷ low ∷ []) ≡ high * 2 ^ 32 + low
    value = omega arith

-- each printed mask reads back
pub mask_reads_back : MaskReadsBack
mask_reads_back cpus set few small = elim (cases_lt 32 cpus) [
  | inl many ↦ (let wide : set < 2 ^ 64 = lt_of_lt_of_le small (pow-le-pow_right {n = 2} (omega arith) few) in
      let whole : set / 2 ^ 32 * 2 ^ 32 + set % 2 ^ 32 ≡ set = omega arith in
      let reading : mask_cpus (mask_text cpus set) ≡ Some (numbers_of 64 set) = ap mask_cpus (mask_text-two_groups cpus set many) ∙ mask_cpus-two_groups (digits_for (cpus - 32)) (set / 2 ^ 32) (set % 2 ^ 32) (omega arith) (omega arith) (omega arith) ∙ ap (λ (n : ℕ). Some (numbers_of 64 n)) whole in
      rw reading (Says-numbers_of cpus 64 set few small))
  | inr less ↦ (let narrow : set < 2 ^ 32 = lt_of_lt_of_le small (pow-le-pow_right {n = 2} (omega arith) less) in
      let reading : mask_cpus (mask_text cpus set) ≡ Some (numbers_of 32 set) = ap mask_cpus (mask_text-one_group cpus set less) ∙ mask_cpus-one_group (digits_for cpus) set (omega arith) narrow in
      rw reading (Says-numbers_of cpus 32 set less small))
]
