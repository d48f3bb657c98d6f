-- Sums over the numbers below one.
use Rattle.std.proofs.Common.{◌≡◌, ℕ, suc, zero, ◌+◌, ◌*◌, ◌%◌, ◌==◌, ◌<◌, ◌≤◌, ◌⊎◌, Bool, true, false, cond, add-one, refl, sym, ap, ◌∙◌, inl, inr, arith}
use Rattle.std.proofs.lemmas.Bool.{cases_Bool, cases_lt, eq-eqb, eqb-true}
use Rattle.std.proofs.lemmas.Nat.{mod-mul-add}
use Rattle.lists.specs.Sums.{one_if, sum_below}

-- one more number
pub sum_below-suc : (n : ℕ) (f : ℕ → ℕ) → sum_below (n + 1) f ≡ sum_below n f + f n
sum_below-suc n f = rw add-one refl

-- two functions that agree below a number
pub sum_below-same : (n : ℕ) (f g : ℕ → ℕ) → ((k : ℕ) → k < n → f k ≡ g k) → sum_below n f ≡ sum_below n g
sum_below-same zero f g same = refl
sum_below-same (suc n) f g same =
    let less : sum_below n f ≡ sum_below n g = sum_below-same n f g (λ k h. same k (omega arith)) in
    let here : f n ≡ g n = same n (omega arith) in omega arith

-- a sum of nothing
pub sum_below-zero : (n : ℕ) (f : ℕ → ℕ) → ((k : ℕ) → k < n → f k ≡ 0) → sum_below n f ≡ 0
sum_below-zero zero f none = refl
sum_below-zero (suc n) f none =
    let less : sum_below n f ≡ 0 = sum_below-zero n f (λ k h. none k (omega arith)) in
    let here : f n ≡ 0 = none n (omega arith) in omega arith

-- a sum of sums is the sum of the two
pub sum_below-add : (n : ℕ) (f g : ℕ → ℕ) → sum_below n (λ k. f k + g k) ≡ sum_below n f + sum_below n g
sum_below-add zero f g = refl
sum_below-add (suc n) f g = let less : sum_below n (λ k. f k + g k) ≡ sum_below n f + sum_below n g = sum_below-add n f g in omega arith

-- sums in either order
pub sum_below-swap : (n k : ℕ) (f : ℕ → ℕ → ℕ) → sum_below n (λ i. sum_below k (λ r. f i r)) ≡ sum_below k (λ r. sum_below n (λ i. f i r))
sum_below-swap zero k f = sum_none k
  where
    sum_none : (k : ℕ) → 0 ≡ sum_below k (λ _. 0)
    sum_none zero = refl
    sum_none (suc k) = let less : 0 ≡ sum_below k (λ _. 0) = sum_none k in omega arith
sum_below-swap (suc n) k f =
    let less : sum_below n (λ i. sum_below k (λ r. f i r)) ≡ sum_below k (λ r. sum_below n (λ i. f i r)) = sum_below-swap n k f in
    let both : sum_below k (λ r. sum_below n (λ i. f i r) + f n r) ≡ sum_below k (λ r. sum_below n (λ i. f i r)) + sum_below k (λ r. f n r) = sum_below-add k (λ r. sum_below n (λ i. f i r)) (λ r. f n r) in
    omega arith

-- a sum over the numbers of which a test holds
pub cond-sum_below : (n : ℕ) (b : Bool) (f : ℕ → ℕ) → cond b (sum_below n f) 0 ≡ sum_below n (λ k. cond b (f k) 0)
cond-sum_below zero true f = refl
cond-sum_below zero false f = refl
cond-sum_below (suc n) true f = let less : sum_below n f ≡ sum_below n (λ k. cond true (f k) 0) = cond-sum_below n true f in omega arith
cond-sum_below (suc n) false f = let less : 0 ≡ sum_below n (λ k. cond false (f k) 0) = cond-sum_below n false f in omega arith

-- a sum of numbers that are each at most b
pub sum_below-le : (n b : ℕ) (f : ℕ → ℕ) → ((i : ℕ) → f i ≤ b) → sum_below n f ≤ n * b
sum_below-le zero b f each = omega arith
sum_below-le (suc n) b f each =
    let e : suc n * b ≡ n * b + b = omega arith in
    omega (arith, sum_below-le n b f each, each n, e)

-- a test counts at most 1
pub one_if-le : (b : Bool) → one_if b ≤ 1
one_if-le true = omega arith
one_if-le false = omega arith

-- a number that counts only where a test holds
pub cond-le : (b : Bool) (n most : ℕ) → n ≤ most → cond b n 0 ≤ most
cond-le true n most h = h
cond-le false n most h = omega arith

-- a sum of which one number is greater
pub sum_below-greater : (n k more : ℕ) (f g : ℕ → ℕ) → k < n → ((i : ℕ) → i < n → (i ≡ k → ⊥) → g i ≡ f i) → g k ≡ f k + more → sum_below n g ≡ sum_below n f + more
sum_below-greater zero k more f g within same here = absurd (omega arith)
sum_below-greater (suc n) k more f g within same here = elim (cases_lt k n) [
  | inl less ↦
      let rest : sum_below n g ≡ sum_below n f + more = sum_below-greater n k more f g less (λ i h apart. same i (omega arith) apart) here in
      let last : g n ≡ f n = same n (omega arith) (λ e. omega arith) in
      omega arith
  | inr more_or_same ↦
      let is : n ≡ k = omega arith in
      let rest : sum_below n g ≡ sum_below n f = sum_below-same n g f (λ i h. same i (omega arith) (λ e. omega arith)) in
      let last : g n ≡ f n + more = rw is here in
      omega arith
]

-- a sum in two parts
pub sum_below-plus : (a b : ℕ) (f : ℕ → ℕ) → sum_below (a + b) f ≡ sum_below a f + sum_below b (λ k. f (a + k))
sum_below-plus a zero f = ap (λ n. sum_below n f) (let same : a + 0 ≡ a = omega arith in same) ∙ (let same : sum_below a f ≡ sum_below a f + 0 = omega arith in same)
sum_below-plus a (suc b) f =
    let next : a + suc b ≡ suc (a + b) = omega arith in
    let less : sum_below (a + b) f ≡ sum_below a f + sum_below b (λ k. f (a + k)) = sum_below-plus a b f in
    ap (λ n. sum_below n f) next ∙ (let all : sum_below (a + b) f + f (a + b) ≡ sum_below a f + (sum_below b (λ k. f (a + k)) + f (a + b)) = omega arith in all)

-- of d numbers in a row one leaves r modulo d
pub sum_below-row : (q d r w : ℕ) → r < d → sum_below d (λ k. cond ((q * d + k) % d == r) w 0) ≡ w
sum_below-row q d r w within =
    let none : sum_below d (λ k. 0) ≡ 0 = sum_below-zero d (λ k. 0) (λ k h. refl) in
    let one : sum_below d (λ k. cond ((q * d + k) % d == r) w 0) ≡ sum_below d (λ k. 0) + w =
    sum_below-greater d r w (λ k. 0) (λ k. cond ((q * d + k) % d == r) w 0) within
    (λ k h apart. other k h apart (cases_Bool ((q * d + k) % d == r)))
    (ap (λ b. cond b w 0) (eq-eqb ((q * d + r) % d) r (mod-mul-add q d r within)) ∙ (let same : w ≡ 0 + w = omega arith in same)) in
    omega arith
  where
    other : (k : ℕ) → k < d → (k ≡ r → ⊥) → (((q * d + k) % d == r) ≡ true) ⊎ (((q * d + k) % d == r) ≡ false) → cond ((q * d + k) % d == r) w 0 ≡ 0
    other k h apart (inl e) = absurd (apart (sym (mod-mul-add q d k h) ∙ eqb-true ((q * d + k) % d) r e))
    other k h apart (inr e) = ap (λ b. cond b w 0) e

-- of q rows of d numbers one of each leaves r modulo d
pub sum_below-rows : (q d r w : ℕ) → r < d → sum_below (q * d) (λ k. cond (k % d == r) w 0) ≡ q * w
sum_below-rows zero d r w within =
    let none : 0 * d ≡ 0 = omega arith in
    ap (λ n. sum_below n (λ k. cond (k % d == r) w 0)) none ∙ (let same : 0 ≡ 0 * w = omega arith in same)
sum_below-rows (suc q) d r w within =
    let next : suc q * d ≡ q * d + d = omega arith in
    let less : sum_below (q * d) (λ k. cond (k % d == r) w 0) ≡ q * w = sum_below-rows q d r w within in
    let parts : sum_below (q * d + d) (λ k. cond (k % d == r) w 0) ≡ sum_below (q * d) (λ k. cond (k % d == r) w 0) + sum_below d (λ k. cond ((q * d + k) % d == r) w 0) = sum_below-plus (q * d) d (λ k. cond (k % d == r) w 0) in
    let row : sum_below d (λ k. cond ((q * d + k) % d == r) w 0) ≡ w = sum_below-row q d r w within in
    ap (λ n. sum_below n (λ k. cond (k % d == r) w 0)) next ∙ (let all : sum_below (q * d + d) (λ k. cond (k % d == r) w 0) ≡ suc q * w = omega arith in all)
