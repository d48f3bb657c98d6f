-- What is left of runs in a state, and in the state behind it.
use Rattle.std.proofs.Common.{◌≡◌, ℕ, zero, suc, ◌+◌, ◌-◌, ◌*◌, ◌/◌, ◌%◌, ◌<◌, ◌≤◌, inl, inr, Bool, List, [], ◌∷◌, refl, sym, ap, ◌∙◌, subst, arith}
use Rattle.std.proofs.Math.Nat.{add-mul, add_comm, mod-add-div', mul_assoc, mul_comm}
use Rattle.std.proofs.lemmas.Nat.{div-mul-add, mod-mul-add, mod_below}
use Rattle.way_plans.specs.AnyOrder.{AreApart}
use Rattle.way_plans.specs.declared.span.Span.{Span}
use Rattle.way_plans.specs.Divisions.{end}
use Rattle.way_plans.specs.Placings.{left_at, lowest_of}
use Rattle.way_plans.specs.Runs.{states_of}
use Rattle.way_plans.proofs.RunLists.{AreRuns, IsInSome, IsInSome-below}

-- how many ways the run at a place has
abbrev pub count_at : List Span → ℕ → ℕ
count_at [] piece = 0
count_at (run ∷ runs) zero = run.count
count_at (run ∷ runs) (suc piece) = count_at runs piece

-- where it begins
abbrev pub first_at : List Span → ℕ → ℕ
first_at [] piece = 0
first_at (run ∷ runs) zero = run.first
first_at (run ∷ runs) (suc piece) = first_at runs piece

-- in steps of how many a state counts its ways
abbrev pub stride_at : List Span → ℕ → ℕ
stride_at [] piece = 1
stride_at (run ∷ runs) zero = 1
stride_at (run ∷ runs) (suc piece) = (run.count + 1) * stride_at runs piece

-- the runs without so many of its lowest ways
abbrev pub shrunk : List Span → ℕ → ℕ → List Span
shrunk [] piece count = []
shrunk (run ∷ runs) zero count = record { first = run.first + count; count = run.count - count } ∷ runs
shrunk (run ∷ runs) (suc piece) count = run ∷ shrunk runs piece count

-- ---- numbers

-- what a quotient becomes where some whole steps are taken away
less-steps : (q k b r : ℕ) → k ≤ q → q * b + r - k * b ≡ (q - k) * b + r
less-steps q k b r le =
    let back : q - k + k ≡ q = omega (arith, le) in
    let whole : (q - k) * b + k * b ≡ q * b = sym (add-mul (q - k) k b) ∙ ap (λ (n : ℕ). n * b) back in omega (arith, whole)

turned : (c b s : ℕ) → c * (b * s) ≡ c * s * b
turned c b s = ap (λ (n : ℕ). c * n) (mul_comm b s) ∙ sym (mul_assoc c s b)

-- the rest and the quotient of a state where so many ways of the lowest run are taken
rest-less : (left b count : ℕ) → 0 < b → count ≤ left % b → (left - count) % b ≡ left % b - count
rest-less left b count some le =
    let below : left % b < b = mod_below left b some in
    let is : left - count ≡ left / b * b + (left % b - count) = omega (arith, mod-add-div' left b, le) in
    ap (λ (n : ℕ). n % b) is ∙ mod-mul-add (left / b) b (left % b - count) (omega (arith, below))

quotient-less : (left b count : ℕ) → 0 < b → count ≤ left % b → (left - count) / b ≡ left / b
quotient-less left b count some le =
    let below : left % b < b = mod_below left b some in
    let is : left - count ≡ left / b * b + (left % b - count) = omega (arith, mod-add-div' left b, le) in
    ap (λ (n : ℕ). n / b) is ∙ div-mul-add (left / b) b (left % b - count) (omega (arith, below))

-- and where whole steps of it are taken
steps-less : (left b steps : ℕ) → steps ≤ left / b → left - steps * b ≡ (left / b - steps) * b + left % b
steps-less left b steps le = ap (λ (n : ℕ). n - steps * b) (sym (mod-add-div' left b) ∙ add_comm (left % b) (left / b * b)) ∙ less-steps (left / b) steps b (left % b) le

steps-within : (left b steps : ℕ) → steps ≤ left / b → steps * b ≤ left
steps-within left b steps le = let more : steps * b ≤ left / b * b = mul-le_right steps (left / b) b le in omega (arith, more, mod-add-div' left b)
  where
    mul-le_right : (x y z : ℕ) → x ≤ y → x * z ≤ y * z
    mul-le_right x y z below =
        let back : x + (y - x) ≡ y = omega (arith, below) in
        let whole : x * z + (y - x) * z ≡ y * z = sym (add-mul x (y - x) z) ∙ ap (λ (n : ℕ). n * z) back in omega (arith, whole)

-- ---- the state behind

pub left_at-shrunk : (runs : List Span) (left piece count : ℕ) → count ≤ count_at (left_at runs left) piece
    → (count * stride_at runs piece ≤ left) × (left_at runs (left - count * stride_at runs piece) ≡ shrunk (left_at runs left) piece count)
left_at-shrunk [] left piece count le = let none : count ≡ 0 = omega (arith, le) in (omega (arith, none), refl)
left_at-shrunk (run ∷ runs) left zero count le =
    let b = run.count + 1 in
    let below : left % b < b = mod_below left b (omega arith) in
    let within : left % b ≤ left = omega (arith, mod-add-div' left b) in
    let one : count * 1 ≡ count = omega arith in
    let begins : end run - (left % b - count) ≡ end run - left % b + count = omega (arith, below, le) in (
      omega (arith, le, within),
      ap (λ (n : ℕ). left_at (run ∷ runs) (left - n)) one
          ∙ (ap (λ (n : ℕ). lowest_of run n n ∷ left_at runs ((left - count) / b)) (rest-less left b count (omega arith) le)
          ∙ (ap (λ (n : ℕ). lowest_of run (left % b - count) (left % b - count) ∷ left_at runs n) (quotient-less left b count (omega arith) le)
          ∙ ap (λ (f : ℕ). let span : Span = record { first = f; count = left % b - count } in span ∷ left_at runs (left / b)) begins)),
    )
left_at-shrunk (run ∷ runs) left (suc piece) count le =
    let b = run.count + 1 in
    let s = stride_at runs piece in
    let below : left % b < b = mod_below left b (omega arith) in
    let later = left_at-shrunk runs (left / b) piece count le in
    let steps : count * (b * s) ≡ count * s * b = turned count b s in
    let rest : left - count * (b * s) ≡ (left / b - count * s) * b + left % b = ap (λ (n : ℕ). left - n) steps ∙ steps-less left b (count * s) later.0 in (
      subst (λ (n : ℕ). n ≤ left) (sym steps) (steps-within left b (count * s) later.0),
      ap (left_at (run ∷ runs)) rest
          ∙ (ap (λ (n : ℕ). lowest_of run n n ∷ left_at runs (((left / b - count * s) * b + left % b) / b)) (mod-mul-add (left / b - count * s) b (left % b) below)
          ∙ (ap (λ (n : ℕ). lowest_of run (left % b) (left % b) ∷ left_at runs n) (div-mul-add (left / b - count * s) b (left % b) below)
          ∙ ap (λ (l : List Span). lowest_of run (left % b) (left % b) ∷ l) later.1)),
    )

-- there is a state
pub states_of-some : (runs : List Span) → 1 ≤ states_of runs
states_of-some [] = omega arith
states_of-some (run ∷ runs) = let rest : 1 ≤ states_of runs = states_of-some runs in let more : (run.count + 1) * states_of runs ≡ run.count * states_of runs + 1 * states_of runs = add-mul run.count 1 (states_of runs) in omega (arith, rest, more)

-- all ways are left in the last state
pub left_at-all : (runs : List Span) → left_at runs (states_of runs - 1) ≡ runs
left_at-all [] = refl
left_at-all (run ∷ runs) =
    let b = run.count + 1 in
    let states = states_of runs in
    let some : 1 ≤ states = states_of-some runs in
    let is : b * states - 1 ≡ (states - 1) * b + run.count = last-is b states run.count some refl in
    let begins : end run - run.count ≡ run.first = omega arith in
    let below : run.count < b = omega arith in
    ap (left_at (run ∷ runs)) is
    ∙ (ap (λ (n : ℕ). lowest_of run n n ∷ left_at runs (((states - 1) * b + run.count) / b)) (mod-mul-add (states - 1) b run.count below)
    ∙ (ap (λ (n : ℕ). lowest_of run run.count run.count ∷ left_at runs n) (div-mul-add (states - 1) b run.count below)
    ∙ (ap (λ (l : List Span). lowest_of run run.count run.count ∷ l) (left_at-all runs)
    ∙ ap (λ (f : ℕ). let span : Span = record { first = f; count = run.count } in span ∷ runs) begins)))
  where
    last-is : (b states count : ℕ) → 1 ≤ states → b ≡ count + 1 → b * states - 1 ≡ (states - 1) * b + count
    last-is b states count some is =
        let back : states - 1 + 1 ≡ states = omega (arith, some) in
        let whole : (states - 1) * b + 1 * b ≡ states * b = sym (add-mul (states - 1) 1 b) ∙ ap (λ (n : ℕ). n * b) back in
        omega (arith, whole, mul_comm b states, is)

-- ---- runs that lie apart

-- each run ends before those in front of it begin
abbrev pub AreBelow : List Span → Type 0
AreBelow [] = Unit {0}
AreBelow (run ∷ runs) = ((span : Span) → IsInSome span runs → end span ≤ run.first) × (AreBelow runs)

-- what lies in what is left lies in the runs
pub IsInSome-left : (runs : List Span) (left : ℕ) (span : Span) → IsInSome span (left_at runs left) → IsInSome span runs
IsInSome-left [] left span is = is
IsInSome-left (run ∷ runs) left span (inl is) = inl (record { begins = omega (arith, is.begins, mod_below left (run.count + 1) (omega arith)); ends = omega (arith, is.ends, mod_below left (run.count + 1) (omega arith)) })
IsInSome-left (run ∷ runs) left span (inr is) = inr (IsInSome-left runs (left / (run.count + 1)) span is)

pub AreBelow-left : (free : List Bool) (bound : ℕ) (runs : List Span) (left : ℕ) → AreRuns free bound runs → AreBelow (left_at runs left)
AreBelow-left free bound [] left are = tt
AreBelow-left free bound (run ∷ runs) left are = (
  λ span is. omega (arith, IsInSome-below free run.first runs span are.1 (IsInSome-left runs (left / (run.count + 1)) span is), mod_below left (run.count + 1) (omega arith)),
  AreBelow-left free run.first runs (left / (run.count + 1)) are.1,
)

-- what lies in shrunk runs lies in the runs
pub IsInSome-shrunk : (runs : List Span) (piece count : ℕ) (span : Span) → count ≤ count_at runs piece → IsInSome span (shrunk runs piece count) → IsInSome span runs
IsInSome-shrunk [] piece count span le is = is
IsInSome-shrunk (run ∷ runs) zero count span le (inl is) = inl (record { begins = omega (arith, is.begins); ends = omega (arith, is.ends, le) })
IsInSome-shrunk (run ∷ runs) zero count span le (inr is) = inr is
IsInSome-shrunk (run ∷ runs) (suc piece) count span le (inl is) = inl is
IsInSome-shrunk (run ∷ runs) (suc piece) count span le (inr is) = inr (IsInSome-shrunk runs piece count span le is)

-- the lowest ways of a run lie in it
pub IsInSome-lowest : (runs : List Span) (piece : ℕ) (span : Span) → span.first ≡ first_at runs piece → 1 ≤ span.count → span.count ≤ count_at runs piece → IsInSome span runs
IsInSome-lowest [] piece span begins any le = absurd (omega (arith, any, le))
IsInSome-lowest (run ∷ runs) zero span begins any le = inl (record { begins = omega (arith, begins); ends = omega (arith, begins, le) })
IsInSome-lowest (run ∷ runs) (suc piece) span begins any le = inr (IsInSome-lowest runs piece span begins any le)

-- and apart from what lies in the shrunk runs
pub AreApart-shrunk : (runs : List Span) (piece : ℕ) (span other : Span) → AreBelow runs → span.first ≡ first_at runs piece → 1 ≤ span.count → span.count ≤ count_at runs piece
    → IsInSome other (shrunk runs piece span.count) → AreApart span other
AreApart-shrunk [] piece span other are begins any le is = absurd is
AreApart-shrunk (run ∷ runs) zero span other are begins any le (inl is) = inl (omega (arith, begins, is.begins))
AreApart-shrunk (run ∷ runs) zero span other are begins any le (inr is) = let below : end other ≤ run.first = are.0 other is in inr (omega (arith, begins, below))
AreApart-shrunk (run ∷ runs) (suc piece) span other are begins any le (inl is) =
    let below : end span ≤ run.first = are.0 span (IsInSome-lowest runs piece span begins any le) in inl (omega (arith, below, is.begins))
AreApart-shrunk (run ∷ runs) (suc piece) span other are begins any le (inr is) = AreApart-shrunk runs piece span other are.1 begins any le is
