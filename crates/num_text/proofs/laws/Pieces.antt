-- Pieces of a text between separators.
use Rattle.std.proofs.Common.{◌≡◌, ℕ, suc, ◌+◌, ◌<◌, Bool, true, false, cond, not, ◌||◌, List, [], ◌∷◌, ◌++◌, length, take, drop, refl, sym, ap, ◌∙◌, arith, length-append, append_assoc}
use Rattle.std.specs.List.{before_first, after_first, position_or_len, list_any, slice_split, onto_first, join_with_byte, flat_map, AllByRecursion}
use Rattle.std.proofs.lemmas.List.{take_at, drop_at, append-nil}
use Rattle.std.proofs.lemmas.List.Folds.{list_any-append}
use Rattle.lists.proofs.Cuts.{slice_split-none}

-- what no piece has, and the separator is not, the joined text has not
pub list_any-join_with_byte : (q : ℕ → Bool) (c : ℕ) → q c ≡ false → (pieces : List (List ℕ)) → AllByRecursion (λ x. list_any q x ≡ false) pieces → list_any q (join_with_byte c pieces) ≡ false
list_any-join_with_byte q c sep [] all = refl
list_any-join_with_byte q c sep (x ∷ []) all = all.0
list_any-join_with_byte q c sep (x ∷ y ∷ ys) all = list_any-append q x (c ∷ join_with_byte c (y ∷ ys)) ∙ rw (all.0, sep) (list_any-join_with_byte q c sep (y ∷ ys) all.1)

-- a piece without the separator, and what follows it
slice_split-append : (p : ℕ → Bool) (x : List ℕ) (c : ℕ) (rest : List ℕ) → list_any p x ≡ false → p c ≡ true → slice_split p (x ++ c ∷ rest) ≡ x ∷ slice_split p rest
slice_split-append p [] c rest h sep = rw sep refl
slice_split-append p (b ∷ x) c rest h sep = step (p b) h (slice_split-append p x c rest)
  where
    step : (t : Bool) → (t || list_any p x) ≡ false → (list_any p x ≡ false → p c ≡ true → slice_split p (x ++ c ∷ rest) ≡ x ∷ slice_split p rest) → cond t ([] ∷ slice_split p (x ++ c ∷ rest)) (onto_first b (slice_split p (x ++ c ∷ rest))) ≡ (b ∷ x) ∷ slice_split p rest
    step true h go = absurd cc
    step false h go = rw (go h sep) refl

-- a joined text is parted into the pieces that were joined
pub slice_split-join_with_byte : (p : ℕ → Bool) (c : ℕ) → p c ≡ true → (pieces : List (List ℕ)) → 0 < length pieces → AllByRecursion (λ x. list_any p x ≡ false) pieces → slice_split p (join_with_byte c pieces) ≡ pieces
slice_split-join_with_byte p c sep [] some all = absurd (omega arith)
slice_split-join_with_byte p c sep (x ∷ []) some all = slice_split-none p x all.0
slice_split-join_with_byte p c sep (x ∷ y ∷ ys) some all = slice_split-append p x c (join_with_byte c (y ∷ ys)) all.0 sep ∙ ap (λ (rest : List (List ℕ)). x ∷ rest) (slice_split-join_with_byte p c sep (y ∷ ys) (omega arith) all.1)

-- joined pieces are the first, and each other after a separator
pub join_with_byte-cons : (c : ℕ) (x : List ℕ) (xs : List (List ℕ)) → join_with_byte c (x ∷ xs) ≡ x ++ flat_map (λ (y : List ℕ). c ∷ y) xs
join_with_byte-cons c x [] = sym (append-nil x)
join_with_byte-cons c x (y ∷ ys) = ap (λ (rest : List ℕ). x ++ c ∷ rest) (join_with_byte-cons c y ys)

-- ---- a text that is cut at its first separator

-- the first separator stands after such a piece
position_or_len-append : (p : ℕ → Bool) (x : List ℕ) (c : ℕ) (rest : List ℕ) → list_any p x ≡ false → p c ≡ true → position_or_len p (x ++ c ∷ rest) ≡ length x
position_or_len-append p [] c rest h sep = rw sep refl
position_or_len-append p (b ∷ x) c rest h sep = step (p b) h (position_or_len-append p x c rest)
  where
    step : (t : Bool) → (t || list_any p x) ≡ false → (list_any p x ≡ false → p c ≡ true → position_or_len p (x ++ c ∷ rest) ≡ length x) → cond (not t) (1 + position_or_len p (x ++ c ∷ rest)) 0 ≡ suc (length x)
    step true h go = absurd cc
    step false h go = omega (arith, go h sep)

-- the parts of a text before and after its first separator
pub record Cut (p : ℕ → Bool) (text front back : List ℕ) : Type 0 where
  pub any : list_any p text ≡ true
  pub before : before_first p text ≡ front
  pub behind : after_first p text ≡ back

-- a piece without the separator is all that stands before it
pub Cut-append : (p : ℕ → Bool) (x : List ℕ) (c : ℕ) (rest : List ℕ) → list_any p x ≡ false → p c ≡ true → Cut p (x ++ c ∷ rest) x rest
Cut-append p x c rest h sep =
    let at = position_or_len-append p x c rest h sep in
    record {
      any = list_any-append p x (c ∷ rest) ∙ rw (h, sep) refl;
      before = ap (λ (n : ℕ). take n (x ++ c ∷ rest)) at ∙ take_at x (c ∷ rest) (length x) refl;
      behind = ap (λ (n : ℕ). drop (n + 1) (x ++ c ∷ rest)) at ∙ ap (λ (xs : List ℕ). drop (length x + 1) xs) (sym (append_assoc x (c ∷ []) rest)) ∙ drop_at (x ++ c ∷ []) rest (length x + 1) (omega (arith, length-append x (c ∷ [])));
    }
