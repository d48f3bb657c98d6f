-- The ways that a new group may start with, as a mask.
use Rattle.std.proofs.Common.{◌≡◌, ℕ, zero, suc, ◌+◌, ◌-◌, ◌^◌, ◌<◌, ◌≤◌, Bool, true, false, not, ◌&&◌, ◌||◌, eqb, cond, bit_and, bit_or, List, ◌∷◌, filter, refl, ap, ap₂, ◌∙◌, arith, w32}
use Rattle.std.specs.Int.{bit_at, bit_not}
use Rattle.std.specs.List.{range_with_len}
use Rattle.std.proofs.lemmas.Nat.Bits.{bit_at-lt, bit_at_not, bit_at_ones, bit_at_ones_above}
use Rattle.std.proofs.Math.Bool.{and-false, and-true}
use Rattle.cbm.specs.Masks.{has_way, ways_of}
use Rattle.lists.proofs.Filters.{filter-none, filter-same}
use Rattle.cbm.proofs.laws.Ways.{has_way-one, has_way-bit_and, has_way-bit_or, has_way-zero}
use Rattle.mode_rules.specs.declared.domain_use.DomainUse.{DomainUse}
use Rattle.mode_rules.specs.StartingWays.{may_start_with, starting_ways}

-- the ways that a mask of 32 bits has_way-zero
has_way-bit_not : (mask k : ℕ) → mask < 2 ^ 32 → k < 32 → has_way (bit_not w32 mask) k ≡ not (has_way mask k)
has_way-bit_not mask k small lt = ap (λ (n : ℕ). eqb n 1) (bit_at_not w32 mask k small lt) ∙ other (bit_at mask k) (bit_at-lt mask k)
  where
    other : (n : ℕ) → n < 2 → eqb (1 - n) 1 ≡ not (eqb n 1)
    other zero lt = refl
    other (suc zero) lt = refl
    other (suc (suc n)) lt = absurd (omega arith)

-- the numbers of a longer range that pass a test which fails from the shorter range's end on
filter-longer : (p : ℕ → Bool) (a m n : ℕ) → m ≤ n → ((k : ℕ) → a + m ≤ k → p k ≡ false) → filter p (range_with_len a n) ≡ filter p (range_with_len a m)
filter-longer p a zero n le h = filter-none p a n (λ k low high. h k (omega arith))
filter-longer p a (suc m) zero le h = absurd (omega arith)
filter-longer p a (suc m) (suc n) le h =
    ap (λ (xs : List ℕ). cond (p a) (a ∷ xs) xs) (filter-longer p (a + 1) m n (omega arith) (λ k low. h k (omega arith)))

-- given, or neither taken
or-starting : (h s e r : Bool) → ((h || s) || not (e || r)) ≡ (h || s || (not s && not e && not r && not h))
or-starting true s e r = refl
or-starting false true e r = refl
or-starting false false true r = refl
or-starting false false false true = refl
or-starting false false false false = refl

-- a way is given or not taken just where a new group may start with it
pub filter-starting_ways : (others : DomainUse) (len : ℕ) → filter (λ way. has_way (bit_or others.hardware others.shared) way || not (has_way (bit_or others.exclusive others.region) way)) (range_with_len 0 len) ≡ starting_ways len others
unfolding starting_ways
filter-starting_ways others len = filter-same (λ way. has_way (bit_or others.hardware others.shared) way || not (has_way (bit_or others.exclusive others.region) way)) (may_start_with others) 0 len
    (λ k low high. ap₂ (λ (a b : Bool). a || not b) (has_way-bit_or others.hardware others.shared k) (has_way-bit_or others.exclusive others.region k) ∙ or-starting (has_way others.hardware k) (has_way others.shared k) (has_way others.exclusive k) (has_way others.region k))

-- the mask of what is given or not taken, below its length
abbrev pub union : ℕ → ℕ → ℕ → ℕ
union given taken len = bit_and (bit_or given (bit_not w32 taken)) (2 ^ len - 1)

-- it has the ways that are given or not taken
has_way-union : (given taken len k : ℕ) → len ≤ 32 → taken < 2 ^ 32 → k < len → has_way (union given taken len) k ≡ (has_way given k || not (has_way taken k))
has_way-union given taken len k le small lt =
    has_way-bit_and (bit_or given (bit_not w32 taken)) (2 ^ len - 1) k
    ∙ ap₂ (λ (a b : Bool). a && b) (has_way-bit_or given (bit_not w32 taken) k ∙ ap (λ (b : Bool). has_way given k || b) (has_way-bit_not taken k small (omega arith))) (has_way-one (2 ^ len - 1) k (bit_at_ones len k lt))
    ∙ and-true (has_way given k || not (has_way taken k))

-- and none from its length on
has_way-past_union : (given taken len k : ℕ) → len ≤ k → has_way (union given taken len) k ≡ false
has_way-past_union given taken len k le =
    has_way-bit_and (bit_or given (bit_not w32 taken)) (2 ^ len - 1) k
    ∙ ap (λ (b : Bool). has_way (bit_or given (bit_not w32 taken)) k && b) (has_way-zero (2 ^ len - 1) k (bit_at_ones_above len k le))
    ∙ and-false (has_way (bit_or given (bit_not w32 taken)) k)

-- so these are its ways
pub ways_of-union : (given taken len : ℕ) → len ≤ 32 → taken < 2 ^ 32 → ways_of (union given taken len) ≡ filter (λ way. has_way given way || not (has_way taken way)) (range_with_len 0 len)
unfolding ways_of
ways_of-union given taken len le small =
    filter-longer (has_way (union given taken len)) 0 len 64 (omega arith) (λ k low. has_way-past_union given taken len k (omega arith))
    ∙ filter-same (has_way (union given taken len)) (λ way. has_way given way || not (has_way taken way)) 0 len (λ k low high. has_way-union given taken len k le small (omega arith))
