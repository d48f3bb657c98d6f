-- Spans, one epoch later.
use Rattle.std.proofs.Common.{◌≡◌, ℕ, ◌+◌, Bool, true, false, not, ◌&&◌, cond, eqb, List, [], ◌∷◌, ◌++◌, length, map, inl, inr, refl, sym, ap, ◌∙◌, arith}
use Rattle.std.specs.List.{position_or_len, range_with_len}
use Rattle.std.proofs.lemmas.Bool.{cases_Bool, eq-eqb, eqb-true, eqb-false, ne_eqb}
use Rattle.std.proofs.lemmas.List.FromFn.{length-range_with_len}
use Rattle.std.proofs.lemmas.List.Folds.{position_or_len_push}
use Rattle.lists.proofs.Ranges.{range_with_len-suc}
use Rattle.private_lru.specs.Keeping.{span_of, span_on, span_to}

-- one function after another
pub map-after : {X Y Z : Type 0} (g : Y → Z) (f : X → Y) (xs : List X) → map g (map f xs) ≡ map (λ x. g (f x)) xs
map-after g f [] = refl
map-after g f (x ∷ xs) = ap (λ ys. g (f x) ∷ ys) (map-after g f xs)

-- two functions that agree
map-agree : {X Y : Type 0} (f g : X → Y) → ((x : X) → f x ≡ g x) → (xs : List X) → map f xs ≡ map g xs
map-agree f g same [] = refl
map-agree f g same (x ∷ xs) = let head = same x in let rest = map-agree f g same xs in cc

-- by whether it was held up to the epoch before, and is held in this one
span_to-more : {H : Type 0} (holds : Bool) (h : H) (first more epoch pos later : ℕ) → epoch ≡ first + more → later ≡ cond (eqb pos more) (more + cond (not holds) 0 1) pos
    → span_to (first + later) h ≡ cond (eqb (first + pos) epoch && holds) (span_to (epoch + 1) h) (span_to (first + pos) h)
span_to-more true h first more epoch pos later at is = elim (cases_Bool (eqb pos more)) [
  | inl e ↦
      let same = eqb-true pos more e in
      let now : later ≡ more + 1 = rw e at is in
      rw (eq-eqb (first + pos) epoch (omega (arith, same, at))) (ap (λ n. span_to n h) (omega (arith, now, at)))
  | inr e ↦
      let other = eqb-false pos more e in
      let now : later ≡ pos = rw e at is in
      rw (ne_eqb (first + pos) epoch (λ same. other (omega (arith, same, at)))) (ap (λ n. span_to (first + n) h) now)
]
span_to-more false h first more epoch pos later at is = elim (cases_Bool (eqb pos more)) [
  | inl e ↦
      let same = eqb-true pos more e in
      let now : later ≡ more + 0 = rw e at is in
      rw (eq-eqb (first + pos) epoch (omega (arith, same, at))) (ap (λ n. span_to n h) (omega (arith, now, same)))
  | inr e ↦
      let other = eqb-false pos more e in
      let now : later ≡ pos = rw e at is in
      rw (ne_eqb (first + pos) epoch (λ same. other (omega (arith, same, at)))) (ap (λ n. span_to (first + n) h) now)
]

-- the spans of what is held in an epoch, by a test of it and of an epoch
module _ {X H : Type 0} (f : X → H) (holds : H → ℕ → Bool) (first : ℕ) (xs : List X) where
  -- at first each lasts up to its epoch
  pub spans-none : map (λ x. span_to first (f x)) xs ≡ map (λ x. span_of holds first 0 (f x)) xs
  spans-none = map-agree (λ x. span_to first (f x)) (λ x. span_of holds first 0 (f x)) (λ x. ap (λ n. span_to n (f x)) (omega arith)) xs

  -- one epoch more
  span_of-more : (more epoch : ℕ) → epoch ≡ first + more → (h : H) → span_of holds first (more + 1) h ≡ span_on (λ x. holds x (epoch + 1)) epoch (span_of holds first more h)
  span_of-more more epoch at h =
      let is_lost : ℕ → Bool = λ later. not (holds h later) in
      let ks : List ℕ = range_with_len (first + 1) more in
      let pos : ℕ = position_or_len is_lost ks in
      let len : length ks ≡ more = length-range_with_len (first + 1) more in
      let next : first + 1 + more ≡ epoch + 1 = omega (arith, at) in
      let longer : range_with_len (first + 1) (more + 1) ≡ ks ++ (epoch + 1) ∷ [] = range_with_len-suc (first + 1) more ∙ ap (λ (k : ℕ). ks ++ k ∷ []) next in
      let later : ℕ = position_or_len is_lost (range_with_len (first + 1) (more + 1)) in
      let is : later ≡ cond (eqb pos more) (more + cond (is_lost (epoch + 1)) 0 1) pos =
      ap (position_or_len is_lost) longer ∙ (position_or_len_push is_lost ks (epoch + 1) ∙ ap (λ n. cond (eqb pos n) (n + cond (is_lost (epoch + 1)) 0 1) pos) len) in
      span_to-more (holds h (epoch + 1)) h first more epoch pos later at is

  pub spans-more : (more epoch : ℕ) → epoch ≡ first + more → map (λ x. span_of holds first (more + 1) (f x)) xs ≡ map (span_on (λ h. holds h (epoch + 1)) epoch) (map (λ x. span_of holds first more (f x)) xs)
  spans-more more epoch at =
      map-agree (λ x. span_of holds first (more + 1) (f x)) (λ x. span_on (λ h. holds h (epoch + 1)) epoch (span_of holds first more (f x))) (λ x. span_of-more more epoch at (f x)) xs
      ∙ sym (map-after (span_on (λ h. holds h (epoch + 1)) epoch) (λ x. span_of holds first more (f x)) xs)
