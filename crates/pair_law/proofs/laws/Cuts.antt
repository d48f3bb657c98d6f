-- Entries by the op that made them: what stands before, at and after an op.
use Rattle.std.proofs.Common.{◌≡◌, ◌≢◌, ℕ, zero, suc, ◌+◌, ◌-◌, ◌<◌, ◌≤◌, Bool, true, false, ◌&&◌, ◌||◌, eqb, List, [], ◌∷◌, ◌++◌, map, get_or, inl, inr, refl, subst, ap, ap₂, ◌∙◌, arith}
use Rattle.std.specs.List.{All, flat_map, list_any, range_with_len}
use Rattle.std.proofs.lemmas.Bool.{cases_lt, eq-eqb, ne_eqb}
use Rattle.std.proofs.lemmas.Grind.{flat_map-append}
use Rattle.std.proofs.lemmas.List.Elements.{All-nil, All-cons}
use Rattle.std.proofs.lemmas.List.Folds.{list_any-append, list_any_none}
use Rattle.cache_core.specs.declared.entry.SliceEntry.{SliceEntry}
use Rattle.cache_core.specs.declared.entry.What.{What}
use Rattle.lists.proofs.Pairs.{All-flat_map}
use Rattle.pair_law.specs.LevelRuns.{has_at}

-- two ranges, one after the other
pub range_with_len-append : (a x y n b : ℕ) → n ≡ x + y → b ≡ a + x → range_with_len a n ≡ range_with_len a x ++ range_with_len b y
range_with_len-append a zero y n b total next = let e : n ≡ y = omega arith in let f : a ≡ b = omega arith in rw (e, f) refl
range_with_len-append a (suc x) y n b total next =
    let e : n ≡ suc (x + y) = omega arith in
    ap (range_with_len a) e ∙ ap (λ (l : List ℕ). a ∷ l) (range_with_len-append (a + 1) x y (x + y) b refl (omega arith))

-- what holds of each number of a range
pub All-range_with_len : (P : ℕ → Type 0) (a n : ℕ) → ((k : ℕ) → a ≤ k → k < a + n → P k) → All P (range_with_len a n)
All-range_with_len P a zero each = All-nil P
All-range_with_len P a (suc n) each = All-cons P a (range_with_len (a + 1) n) (each a (omega arith) (omega arith)) (All-range_with_len P (a + 1) n (λ k low high. each k (omega arith) (omega arith)))

-- what holds of all of a range holds of each of its numbers
pub range_with_len-All : (P : ℕ → Type 0) (a n : ℕ) → All P (range_with_len a n) → (k : ℕ) → a ≤ k → k < a + n → P k
range_with_len-All P a zero all k low high = absurd (omega arith)
range_with_len-All P a (suc n) all k low high = elim (cases_lt a k) [
  | inl lt ↦ range_with_len-All P (a + 1) n (λ i d within. all (suc i) d (omega arith)) k (omega arith) (omega arith)
  | inr le ↦ let e : a ≡ k = omega arith in subst P e (all 0 a (omega arith))
]

module _ {X : Type 0} where
  -- a map over a range, split at one number
  pub flat_map-range_at : (f : ℕ → List X) (a u v n p : ℕ) → n ≡ u + (v + 1) → p ≡ a + u → flat_map f (range_with_len a n) ≡ flat_map f (range_with_len a u) ++ (f p ++ flat_map f (range_with_len (p + 1) v))
  flat_map-range_at f a u v n p total there =
      ap (flat_map f) (range_with_len-append a u (v + 1) n p total there)
      ∙ (flat_map-append f (range_with_len a u) (range_with_len p (v + 1))
      ∙ ap (λ (l : List X). flat_map f (range_with_len a u) ++ l) (let e : v + 1 ≡ suc v = omega arith in ap (λ (k : ℕ). flat_map f (range_with_len p k)) e))

  -- what holds of all that is mapped from a range
  pub All-flat_map_range : (P : X → Type 0) (f : ℕ → List X) (a n : ℕ) → ((k : ℕ) → a ≤ k → k < a + n → All P (f k)) → All P (flat_map f (range_with_len a n))
  All-flat_map_range P f a n each = All-flat_map P f (range_with_len a n) (All-range_with_len (λ k. All P (f k)) a n each)

  -- the same maps
  pub flat_map-range_same : (f g : ℕ → List X) (a n : ℕ) → ((k : ℕ) → a ≤ k → k < a + n → f k ≡ g k) → flat_map f (range_with_len a n) ≡ flat_map g (range_with_len a n)
  flat_map-range_same f g a zero each = refl
  flat_map-range_same f g a (suc n) each = ap₂ (λ (l m : List X). l ++ m) (each a (omega arith) (omega arith)) (flat_map-range_same f g (a + 1) n (λ k low high. each k (omega arith) (omega arith)))

  pub flat_map-flat_map : {Y Z : Type 0} (g : X → List Y) (f : Z → List X) (zs : List Z) → flat_map g (flat_map f zs) ≡ flat_map (λ z. flat_map g (f z)) zs
  flat_map-flat_map g f [] = refl
  flat_map-flat_map g f (z ∷ zs) = flat_map-append g (f z) (flat_map f zs) ∙ ap (λ l. flat_map g (f z) ++ l) (flat_map-flat_map g f zs)

-- ---- lists that are mapped

module _ {X Y : Type 0} (f : X → Y) where
  -- a list whose image falls into two parts
  pub record Split (es : List X) (A B : List Y) : Type 0 where
    pub left : List X
    pub right : List X
    pub whole : es ≡ left ++ right
    pub left_is : map f left ≡ A
    pub right_is : map f right ≡ B

  cons-same : (x y : Y) (xs ys : List Y) → x ∷ xs ≡ y ∷ ys → (x ≡ y) × (xs ≡ ys)
  cons-same x y xs ys e = (cc, cc)

  pub map-split : (es : List X) (A B : List Y) → map f es ≡ A ++ B → Split es A B
  map-split es [] B e = record { left = []; right = es; whole = refl; left_is = refl; right_is = e }
  map-split [] (a ∷ A) B e = absurd (let bad : [] ≡ a ∷ (A ++ B) = e in cc)
  map-split (x ∷ es) (a ∷ A) B e =
      let parts = cons-same (f x) a (map f es) (A ++ B) e in
      let rest = map-split es A B parts.1 in
      record { left = x ∷ rest.left; right = rest.right; whole = ap (λ (l : List X). x ∷ l) rest.whole; left_is = ap₂ (λ (y : Y) (l : List Y). y ∷ l) parts.0 rest.left_is; right_is = rest.right_is }

  -- a list whose image has one at a place
  pub record Cut (es : List X) (A : List Y) (y : Y) (B : List Y) : Type 0 where
    pub left : List X
    pub here : X
    pub right : List X
    pub whole : es ≡ left ++ here ∷ right
    pub left_is : map f left ≡ A
    pub here_is : f here ≡ y
    pub right_is : map f right ≡ B

  pub map-cut : (es : List X) (A : List Y) (y : Y) (B : List Y) → map f es ≡ A ++ y ∷ B → Cut es A y B
  map-cut es A y B e = at (map-split es A (y ∷ B) e)
    where
      head : (left right : List X) → es ≡ left ++ right → map f left ≡ A → map f right ≡ y ∷ B → Cut es A y B
      head left [] whole left_is right_is = absurd (let bad : [] ≡ y ∷ B = right_is in cc)
      head left (x ∷ xs) whole left_is right_is = (let parts = cons-same (f x) y (map f xs) B right_is in record { left = left; here = x; right = xs; whole = whole; left_is = left_is; here_is = parts.0; right_is = parts.1 })

      at : Split es A (y ∷ B) → Cut es A y B
      at s = head s.left s.right s.whole s.left_is s.right_is

  -- a list whose image the numbers below n give, cut where one of them gives one element
  pub cut-range : (es : List X) (g : ℕ → List Y) (n i : ℕ) (y : Y) → map f es ≡ flat_map g (range_with_len 0 n) → i < n → g i ≡ y ∷ []
      → Cut es (flat_map g (range_with_len 0 i)) y (flat_map g (range_with_len (i + 1) (n - (i + 1))))
  cut-range es g n i y is within one = map-cut es (flat_map g (range_with_len 0 i)) y (flat_map g (range_with_len (i + 1) (n - (i + 1))))
      (is
      ∙ (flat_map-range_at g 0 i (n - (i + 1)) n i (omega arith) (omega arith)
      ∙ ap (λ (l : List Y). flat_map g (range_with_len 0 i) ++ (l ++ flat_map g (range_with_len (i + 1) (n - (i + 1))))) one))

-- ---- the entry of an op

-- of entries before, at and after an op, one alone is the op's
pub has_at-cut : (left right : List SliceEntry) (e : SliceEntry) (i : ℕ) (p : What → Bool) → All (λ (x : SliceEntry). x.op ≢ i) left → All (λ (x : SliceEntry). x.op ≢ i) right → e.op ≡ i
    → has_at (left ++ e ∷ right) i p ≡ p e.what
has_at-cut left right e i p before after is =
    let q : SliceEntry → Bool = λ (x : SliceEntry). eqb x.op i && p x.what in
    let none : (x : SliceEntry) → x.op ≢ i → q x ≡ false = λ x ne. rw (ne_eqb x.op i ne) refl in
    list_any-append q left (e ∷ right)
    ∙ (ap (λ (b : Bool). b || (q e || list_any q right)) (list_any_none q left (λ k d within. none (get_or left k d) (before k d within)))
    ∙ (ap (λ (b : Bool). q e || b) (list_any_none q right (λ k d within. none (get_or right k d) (after k d within)))
    ∙ (or-false (q e) ∙ ap (λ (b : Bool). b && p e.what) (eq-eqb e.op i is))))
  where
    or-false : (b : Bool) → (b || false) ≡ b
    or-false true = refl
    or-false false = refl
