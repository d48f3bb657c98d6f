-- The ways of a set that have a line, as a word with a bit for each way.
use Rattle.std.proofs.Common.{◌≡◌, ℕ, ◌+◌, ◌-◌, ◌*◌, ◌%◌, ◌^◌, ◌<◌, ◌≤◌, Bool, true, false, cond, ◌||◌, ◌&&◌, eqb, ltb, leb, min, bit_and, bit_or, List, length, map, get_or, inl, inr, replicate, subst, refl, sym, ap, ◌∙◌, arith, w32, w64}
use Rattle.std.proofs.Math.Bool.{and-false}
use Rattle.std.specs.Int.{bit_at, trailing_zeros}
use lib.Lanes.{chunk, mask_l, zip2, top}
use mir.Val.{bool_byte, hbits}
use Rattle.std.proofs.lemmas.Bool.{cases_lt, lt-ltb, le-ltb, lt-leb, ltb-true, eq-eqb, eqb-true, and_right, and_parts, true≢false}
use Rattle.std.proofs.lemmas.Bool.Decides.{nat_tests}
use Rattle.std.proofs.lemmas.List.{length-map}
use Rattle.std.proofs.lemmas.Nat.Bits.{bit_at_and, bit_at-trailing_zeros, bit_at-lt, bit_at_above}
use Rattle.std.proofs.lemmas.Simd.{bitmask_splat, length-chunk, mask_l-lt}
use Rattle.cbm.specs.Masks.{has_way}
use Rattle.way_fill.specs.Sets.{HoldsLine}
use Rattle.way_fill.proofs.WayWords.{has_way-zero, has_way-bit_or, has_way-mask_chunk, has_way-shl_below, has_way-shl_from, has_way-shl_above}

-- of one test or the other, and a third
or-and : (x y e : Bool) → ((x && e) || (y && e)) ≡ ((x || y) && e)
or-and true y true = refl
or-and true true false = refl
or-and true false false = refl
or-and false y e = refl

-- ---- the ways that were tried so far

-- the word has the ways below a limit that have the line, and no other
pub record HasEqual (lines : List ℕ) (line ways limit : ℕ) : Type 0 where
  pub bits : (way : ℕ) → has_way ways way ≡ (ltb way limit && eqb (get_or lines way 0) line)

-- before any way was tried
pub HasEqual-none : (lines : List ℕ) (line : ℕ) → HasEqual lines line 0 0
HasEqual-none lines line = record { bits = λ way. has_way-zero way ∙ sym (ap (λ (b : Bool). b && eqb (get_or lines way 0) line) (le-ltb way 0 (omega arith))) }

module _ (lines : List ℕ) (line ways part limit first n : ℕ) where
  -- some ways were tried together, of which the first was tried before or comes next
  pub record IsNext : Type 0 where
    pub before : HasEqual lines line ways limit
    pub bits : (way : ℕ) → has_way part way ≡ (ltb way n && eqb (get_or lines (first + way) 0) line)
    pub joins : first ≤ limit
    pub longer : limit ≤ first + n
    pub room : first + n ≤ 32

  -- a bit of that word
  bits-shifted : IsNext → (way : ℕ) → has_way (part * 2 ^ first % 2 ^ 32) way ≡ ((leb first way && ltb way (first + n)) && eqb (get_or lines way 0) line)
  bits-shifted h way = elim (cases_lt way first) [
    | inl under ↦ rw (lt-leb first way under) (has_way-shl_below part first way under (let room = h.room in let joins = h.joins in omega arith))
    | inr over ↦ elim (cases_lt way 32) [
      | inl lt ↦ (let same : first + (way - first) ≡ way = omega arith in
          has_way-shl_from part first way over lt ∙ h.bits (way - first) ∙ ap (λ (w : ℕ). ltb (way - first) n && eqb (get_or lines w 0) line) same ∙ ap (λ (b : Bool). b && eqb (get_or lines way 0) line) (tests way over))
      | inr beyond ↦ rw (le-ltb way (first + n) (let room = h.room in omega arith), and-false (leb first way)) (has_way-shl_above part first way beyond)
    ]
  ]
    where
      tests : (way : ℕ) → first ≤ way → ltb (way - first) n ≡ (leb first way && ltb way (first + n))
      tests way over = grind (arith, nat_tests)

  -- the word of all that were tried
  pub HasEqual-next : IsNext → HasEqual lines line (bit_or ways (part * 2 ^ first % 2 ^ 32)) (first + n)
  HasEqual-next h = record {
    bits = λ way.
        has_way-bit_or ways (part * 2 ^ first % 2 ^ 32) way
        ∙ rw (h.before.bits way, bits-shifted h way) (or-and (ltb way limit) (leb first way && ltb way (first + n)) (eqb (get_or lines way 0) line))
        ∙ ap (λ (b : Bool). b && eqb (get_or lines way 0) line) (tests way h.joins h.longer);
  }
    where
      tests : (way : ℕ) → first ≤ limit → limit ≤ first + n → (ltb way limit || (leb first way && ltb way (first + n))) ≡ ltb way (first + n)
      tests way joins longer = grind (arith, nat_tests)

-- where no way is left
pub HasEqual-whole : (lines : List ℕ) (line ways limit : ℕ) → HasEqual lines line ways limit → limit ≡ length lines → (way : ℕ) → has_way ways way ≡ (ltb way (length lines) && eqb (get_or lines way 0) line)
HasEqual-whole lines line ways limit h all way = h.bits way ∙ ap (λ (m : ℕ). ltb way m && eqb (get_or lines way 0) line) all

-- a test as a word
has_way-bool : (b : Bool) (way : ℕ) → has_way (bool_byte b) way ≡ (ltb way 1 && b)
has_way-bool false way = has_way-zero way ∙ sym (and_right (ltb way 1) false refl)
has_way-bool true way = elim (cases_lt way 1) [
  | inl lt ↦ (let first : way ≡ 0 = omega arith in rw first refl)
  | inr le ↦ rw (le-ltb way 1 le) (ap (λ (m : ℕ). eqb m 1) (bit_at_above 1 1 way (omega arith) le))
]

-- one way more
pub IsNext-one : (lines : List ℕ) (line ways way : ℕ) → HasEqual lines line ways way → way + 1 ≤ 32 → IsNext lines line ways (bool_byte (eqb (get_or lines way 0) line)) way way 1
IsNext-one lines line ways way h room = record {
  before = h;
  bits = λ w. has_way-bool (eqb (get_or lines way 0) line) w ∙ elim (cases_lt w 1) [
    | inl lt ↦ (let same : way + w ≡ way = omega arith in rw same refl)
    | inr le ↦ none (ltb w 1) (eqb (get_or lines way 0) line) (eqb (get_or lines (way + w) 0) line) (le-ltb w 1 le)
  ];
  joins = omega arith;
  longer = omega arith;
  room = room;
}
  where
    none : (b x y : Bool) → b ≡ false → (b && x) ≡ (b && y)
    none b x y is = rw is refl

-- ---- eight lanes

-- what the lanes say
mask-lanes : (lines : List ℕ) (line first : ℕ) → first + 8 ≤ length lines → mask_l (map (top (hbits w64)) (zip2 (λ (a b : ℕ). cond (eqb a b) (2 ^ 64 - 1) 0) (chunk first 8 lines) (replicate 8 line))) % 2 ^ 64 ≡ mask_l (map (λ (x : ℕ). eqb x line) (chunk first 8 lines))
mask-lanes lines line first room = bitmask_splat w64 eqb (chunk first 8 lines) 8 line (length-chunk first 8 lines room) (omega arith)

-- a way of them
pub has_way-lanes : (lines : List ℕ) (line first way : ℕ) → first + 8 ≤ length lines → has_way (mask_l (map (top (hbits w64)) (zip2 (λ (a b : ℕ). cond (eqb a b) (2 ^ 64 - 1) 0) (chunk first 8 lines) (replicate 8 line))) % 2 ^ 64) way ≡ (ltb way 8 && eqb (get_or lines (first + way) 0) line)
has_way-lanes lines line first way room = ap (λ (m : ℕ). has_way m way) (mask-lanes lines line first room) ∙ has_way-mask_chunk (λ (x : ℕ). eqb x line) lines first 8 way room

-- there are eight
pub lanes-lt : (lines : List ℕ) (line first : ℕ) → first + 8 ≤ length lines → mask_l (map (top (hbits w64)) (zip2 (λ (a b : ℕ). cond (eqb a b) (2 ^ 64 - 1) 0) (chunk first 8 lines) (replicate 8 line))) % 2 ^ 64 < 2 ^ 8
lanes-lt lines line first room =
    let tests = map (λ (x : ℕ). eqb x line) (chunk first 8 lines) in
    let eight : length tests ≡ 8 = simp length-map (length-chunk first 8 lines room) in
    rw (mask-lanes lines line first room) (subst (λ (n : ℕ). mask_l tests < 2 ^ n) eight (mask_l-lt tests))

-- ---- the lowest of the equal ways that are valid

-- what is in both words
has_way-bit_and : (a b way : ℕ) → has_way (bit_and a b) way ≡ (has_way a way && has_way b way)
has_way-bit_and a b way = ap (λ (m : ℕ). eqb m 1) (bit_at_and a b way) ∙ eqb-min (bit_at a way) (bit_at b way) (bit_at-lt a way) (bit_at-lt b way)
  where
    eqb-min : (x y : ℕ) → x < 2 → y < 2 → eqb (min x y) 1 ≡ (eqb x 1 && eqb y 1)
    eqb-min x y p q = grind (arith, nat_tests)

-- a word has just the ways that have the line
abbrev pub IsEqual : List ℕ → ℕ → ℕ → Type 0
IsEqual lines line word = (way : ℕ) → has_way word way ≡ (ltb way (length lines) && eqb (get_or lines way 0) line)

-- a way that holds the line is in that word and valid
pub has_way-holds : (lines : List ℕ) (valid line word way : ℕ) → IsEqual lines line word → way < length lines → HoldsLine lines valid line way → has_way (bit_and word valid) way ≡ true
has_way-holds lines valid line word way equal lt holds =
    has_way-bit_and word valid way
    ∙ rw (equal way, lt-ltb way (length lines) lt, eq-eqb (get_or lines way 0) line holds.1) holds.0

-- where no way is in both, none holds the line
pub holds-none : (lines : List ℕ) (valid line word way : ℕ) → IsEqual lines line word → bit_and word valid ≡ 0 → way < length lines → HoldsLine lines valid line way → ⊥
holds-none lines valid line word way equal none lt holds = true≢false (sym (has_way-holds lines valid line word way equal lt holds) ∙ ap (λ (m : ℕ). has_way m way) none ∙ has_way-zero way)

-- a way that is in both holds the line
pub holds-both : (lines : List ℕ) (valid line word way : ℕ) → IsEqual lines line word → has_way (bit_and word valid) way ≡ true → (way < length lines) × HoldsLine lines valid line way
holds-both lines valid line word way equal both =
    let parts = and_parts (has_way word way) (has_way valid way) (sym (has_way-bit_and word valid way) ∙ both) in
    let here = and_parts (ltb way (length lines)) (eqb (get_or lines way 0) line) (sym (equal way) ∙ parts.0) in
    (ltb-true way (length lines) here.0, (parts.1, eqb-true (get_or lines way 0) line here.1))

-- the lowest way of a word
pub has_way-trailing_zeros : (word : ℕ) → 0 < word → word < 2 ^ 32 → has_way word (trailing_zeros w32 word) ≡ true
has_way-trailing_zeros word some fits = eq-eqb (bit_at word (trailing_zeros w32 word)) 1 (bit_at-trailing_zeros w32 word some fits).1
