-- What a command owes, one thing after the other.
use Rattle.std.proofs.Common.{◌≡◌, ℕ, zero, suc, ◌+◌, ◌-◌, ◌<◌, ◌≤◌, Bool, true, false, cond, List, [], ◌∷◌, ◌++◌, drop, get_or, length, map, Some, refl, sym, ap, ◌∙◌, subst, arith}
use Rattle.std.specs.List.{flat_map}
use Rattle.std.specs.Prelude.{slice_get, slice_index_or}
use Rattle.std.proofs.lemmas.List.{append_assoc}
use Rattle.std.proofs.lemmas.Option.{slice_get-get_or}
use Rattle.journal_check.specs.Payments.{due, dues, rest}
use Rattle.journal_check.specs.Traces.{owed_by_step}
use Rattle.journal_check.specs.declared.trace.Step.{Step}
use Rattle.machine.specs.declared.parameters.Parameters.{Parameters}
use Rattle.run_law.specs.Owed.{Owed, follow_in, look_in}
use Rattle.tree_law.specs.declared.follow.Follow.{Follow}

-- ---- lists of lists

-- what is left begins with the next
flat-suc : {A : Type 0} (xss : List (List A)) (c : ℕ) → flat_map (λ (xs : List A). xs) (drop c xss) ≡ slice_index_or xss c [] ++ flat_map (λ (xs : List A). xs) (drop (suc c) xss)
flat-suc [] zero = refl
flat-suc [] (suc c) = refl
flat-suc (xs ∷ xss) zero = refl
flat-suc (xs ∷ xss) (suc c) = flat-suc xss c

flat-next : {A : Type 0} (xss : List (List A)) (c : ℕ) → flat_map (λ (xs : List A). xs) (drop c xss) ≡ slice_index_or xss c [] ++ flat_map (λ (xs : List A). xs) (drop (c + 1) xss)
flat-next {A} xss c =
    let on : suc c ≡ c + 1 = omega arith in
    subst (λ n. flat_map (λ (xs : List A). xs) (drop c xss) ≡ slice_index_or xss c [] ++ flat_map (λ (xs : List A). xs) (drop n xss)) on (flat-suc xss c)

-- nothing is left at the end
flat-end : {A : Type 0} (xss : List (List A)) (c : ℕ) → length xss ≤ c → flat_map (λ (xs : List A). xs) (drop c xss) ≡ []
flat-end [] zero past = refl
flat-end [] (suc c) past = refl
flat-end (xs ∷ xss) zero past = absurd (omega arith)
flat-end (xs ∷ xss) (suc c) past = flat-end xss c (omega arith)

module _ {A B C : Type 0} (f : A → List C) (g : B → List C) where
  -- one flat list
  flat-one : (ys : List B) → flat_map g ys ≡ flat_map (λ (zs : List C). zs) (map g ys)
  flat-one [] = refl
  flat-one (y ∷ ys) = ap (λ (zs : List C). g y ++ zs) (flat-one ys)

  -- two flat lists are one
  flat-both : (xs : List A) (ys : List B) → flat_map f xs ++ flat_map g ys ≡ flat_map (λ (zs : List C). zs) (map f xs ++ map g ys)
  flat-both [] ys = flat-one ys
  flat-both (x ∷ xs) ys = append_assoc (f x) (flat_map f xs) (flat_map g ys) ∙ ap (λ (zs : List C). f x ++ zs) (flat-both xs ys)

  -- the first of two
  pick-first : (xs : List A) (ys : List B) (c : ℕ) (x : A) → slice_get xs c ≡ Some x → slice_index_or (map f xs ++ map g ys) c [] ≡ f x
  pick-first [] ys c x at = absurd cc
  pick-first (z ∷ xs) ys zero x at = (let same : z ≡ x = cc in ap f same)
  pick-first (z ∷ xs) ys (suc c) x at = pick-first xs ys c x at

  -- one of the only
  pick-only : (ys : List B) (c : ℕ) (y : B) → slice_get ys c ≡ Some y → slice_index_or (map g ys) c [] ≡ g y
  pick-only [] c y at = absurd cc
  pick-only (z ∷ ys) zero y at = (let same : z ≡ y = cc in ap g same)
  pick-only (z ∷ ys) (suc c) y at = pick-only ys c y at

  -- the second of two
  pick-second : (xs : List A) (ys : List B) (c : ℕ) (y : B) → length xs ≤ c → slice_get ys (c - length xs) ≡ Some y → slice_index_or (map f xs ++ map g ys) c [] ≡ g y
  pick-second [] ys c y past at = (let all : c - 0 ≡ c = omega arith in pick-only ys c y (subst (λ n. slice_get ys n ≡ Some y) all at))
  pick-second (x ∷ xs) ys zero y past at = absurd (omega arith)
  pick-second (x ∷ xs) ys (suc c) y past at = (let same : suc c - suc (length xs) ≡ c - length xs = omega arith in pick-second xs ys c y (omega arith) (subst (λ n. slice_get ys n ≡ Some y) same at))

  -- how many there are
  length-both : (xs : List A) (ys : List B) → length (map f xs ++ map g ys) ≡ length xs + length ys
  length-both [] [] = refl
  length-both [] (y ∷ ys) = (let more = length-both [] ys in omega (arith, more))
  length-both (x ∷ xs) ys = (let more = length-both xs ys in omega (arith, more))

-- ---- what a command owes

module _ (m : Parameters) (i k : ℕ) (step : Step) where
  -- all of it
  pub owed-rest : owed_by_step m i k step ≡ rest m i k step 0
  owed-rest = flat-both (look_in m i k) (follow_in m i (k + 1)) step.needs step.follows.items

  -- the next
  pub rest-next : (c : ℕ) → rest m i k step c ≡ due m i k step c ++ rest m i k step (c + 1)
  rest-next c = flat-next (dues m i k step) c

  -- the end
  pub rest-end : (c : ℕ) → length step.needs + length step.follows.items ≤ c → rest m i k step c ≡ []
  rest-end c past = flat-end (dues m i k step) c (omega (arith, past, length-both (look_in m i k) (follow_in m i (k + 1)) step.needs step.follows.items))

  -- for a need
  pub due-need : (c : ℕ) (need : ℕ × ℕ) → slice_get step.needs c ≡ Some need → due m i k step c ≡ look_in m i k need
  due-need c need at = pick-first (look_in m i k) (follow_in m i (k + 1)) step.needs step.follows.items c need at

  -- for a follow-up
  pub due-follow : (c : ℕ) (f : Follow) → length step.needs ≤ c → slice_get step.follows.items (c - length step.needs) ≡ Some f → due m i k step c ≡ follow_in m i (k + 1) f
  due-follow c f past at = pick-second (look_in m i k) (follow_in m i (k + 1)) step.needs step.follows.items c f past at

  -- for the need at its place
  pub due-at_need : (needs : List (ℕ × ℕ)) (c : ℕ) → needs ≡ step.needs → c < length needs → due m i k step c ≡ look_in m i k (get_or needs c (0, 0))
  due-at_need needs c same within = due-need c (get_or needs c (0, 0)) (subst (λ (ns : List (ℕ × ℕ)). slice_get ns c ≡ Some (get_or needs c (0, 0))) same (slice_get-get_or needs c (0, 0) within))

  -- for the follow-up at its place
  pub due-at_follow : (needs : List (ℕ × ℕ)) (c : ℕ) (f d : Follow) → needs ≡ step.needs → length needs ≤ c → c < length step.needs + length step.follows.items → f ≡ get_or step.follows.items (c - length needs) d
      → due m i k step c ≡ follow_in m i (k + 1) f
  due-at_follow needs c f d same past within is =
      let count : length needs ≡ length step.needs = ap (λ (ns : List (ℕ × ℕ)). length ns) same in
      let at : slice_get step.follows.items (c - length needs) ≡ Some f = slice_get-get_or step.follows.items (c - length needs) d (omega (arith, count, past, within)) ∙ ap (λ (x : Follow). Some x) (sym is) in
      due-follow c f (omega (arith, count, past)) (subst (λ n. slice_get step.follows.items (c - n) ≡ Some f) count at)

-- nothing is owed where a test fails
pub none-if : (x : Owed) (b : Bool) → b ≡ false → cond b (x ∷ []) [] ≡ []
none-if x b fails = rw fails

-- and one thing where it passes
pub one-if : (x : Owed) (b : Bool) → b ≡ true → length (cond b (x ∷ []) []) ≡ 1
one-if x b passes = rw passes

-- ---- the first that is owed

-- a list that begins with one
one-first : {A : Type 0} (xs ys zs : List A) (x : A) → length xs ≡ 1 → xs ++ ys ≡ x ∷ zs → xs ≡ x ∷ []
one-first [] ys zs x one is = absurd (omega arith)
one-first (y ∷ []) ys zs x one is = (let same : y ≡ x = cc in ap (λ z. z ∷ []) same)
one-first (y ∷ z ∷ xs) ys zs x one is = absurd (omega arith)

-- is not empty
one-some : {A : Type 0} (xs ys : List A) → length xs ≡ 1 → xs ++ ys ≡ [] → ⊥
one-some [] ys one is = absurd (omega arith)
one-some (x ∷ xs) ys one is = cc

module _ (m : Parameters) (i k : ℕ) (step : Step) (c : ℕ) (one : length (due m i k step c) ≡ 1) where
  -- what is owed first is due first
  pub rest-first : (x : Owed) (more : List Owed) → rest m i k step c ≡ x ∷ more → due m i k step c ≡ x ∷ []
  rest-first x more is = one-first (due m i k step c) (rest m i k step (c + 1)) more x one (sym (rest-next m i k step c) ∙ is)

  -- what is due is owed
  pub rest-some : rest m i k step c ≡ [] → ⊥
  rest-some is = one-some (due m i k step c) (rest m i k step (c + 1)) one (sym (rest-next m i k step c) ∙ is)
