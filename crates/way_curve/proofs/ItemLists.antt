-- Uses and drops, one more, and uses alone.
use Rattle.std.proofs.Common.{◌≡◌, ℕ, ◌+◌, ◌%◌, Bool, true, false, ◌==◌, List, [], ◌∷◌, ◌++◌, cond, length, length-append, suc, refl, sym, ◌∙◌, ap, ap₂, arith, append_assoc, inl, inr}
use Rattle.std.specs.List.{filter}
use Rattle.std.proofs.lemmas.Bool.{cases_Bool}
use Rattle.std.proofs.lemmas.List.{append-nil, map-append}
use Rattle.std.proofs.lemmas.List.Elements.{filter-append}
use Rattle.std.proofs.lemmas.List.Sums.{length-filter}
use Rattle.lists.specs.Sums.{one_if}
use Rattle.private_lru.specs.Private.{private_hit}
use Rattle.private_lru.specs.declared.item.Item.{Item}
use Rattle.private_lru.specs.declared.item.Item.TheVariants.{Use, Drop}
use Rattle.way_curve.specs.Curves.{is_set_hit, set_hits_after, uses_of_set}
use Rattle.way_curve.specs.ItemCurves.{is_item_hit, is_use, item_hits_after, items_of_set, line_of, uses_in}
use Rattle.way_curve.proofs.Alive.{uses}

-- ---- one item more

-- in its set
pub items_of_set-own : (sets set : ℕ) (items : List Item) (item : Item) → (line_of item % sets == set) ≡ true → items_of_set sets set (items ++ item ∷ []) ≡ items_of_set sets set items ++ item ∷ []
items_of_set-own sets set items item own =
    filter-append (λ (i : Item). line_of i % sets == set) items (item ∷ []) ∙ ap (λ (b : Bool). items_of_set sets set items ++ cond b (item ∷ []) []) own

-- and in another
pub items_of_set-other : (sets set : ℕ) (items : List Item) (item : Item) → (line_of item % sets == set) ≡ false → items_of_set sets set (items ++ item ∷ []) ≡ items_of_set sets set items
items_of_set-other sets set items item other =
    filter-append (λ (i : Item). line_of i % sets == set) items (item ∷ [])
    ∙ (ap (λ (b : Bool). items_of_set sets set items ++ cond b (item ∷ []) []) other ∙ append-nil (items_of_set sets set items))

-- it counts where it is a use
pub uses_in-push : (items : List Item) (item : Item) → uses_in (items ++ item ∷ []) ≡ uses_in items + one_if (is_use item)
uses_in-push items item = sym (length-filter is_use (items ++ item ∷ [])) ∙ (ap length (filter-append is_use items (item ∷ []))
    ∙ (length-append (filter is_use items) (filter is_use (item ∷ [])) ∙ ap₂ (λ (a b : ℕ). a + b) (length-filter is_use items) (one item)))
  where
    one : (item : Item) → length (filter is_use (item ∷ [])) ≡ one_if (is_use item)
    one (Use x) = refl
    one (Drop x) = refl

-- nothing before it
zero-plus : (a b : ℕ) → a ≡ b → a + 0 ≡ 0 + b
zero-plus a b e = omega arith

-- one part more in front
add-front : (h n m a b : ℕ) → n ≡ m + a → a ≡ b → h + n ≡ h + m + b
add-front h n m a b e d = omega arith

-- it counts where it is a use that hits
pub item_hits_after-push : (sets ways : ℕ) (earlier items : List Item) (item : Item)
    → item_hits_after sets ways earlier (items ++ item ∷ []) ≡ item_hits_after sets ways earlier items + one_if (is_item_hit sets ways (earlier ++ items) item)
item_hits_after-push sets ways earlier [] item =
    zero-plus _ _ (ap (λ (l : List Item). one_if (is_item_hit sets ways l item)) (sym (append-nil earlier)))
item_hits_after-push sets ways earlier (i ∷ items) item =
    add-front (one_if (is_item_hit sets ways earlier i)) _ _ _ _ (item_hits_after-push sets ways (earlier ++ i ∷ []) items item)
    (ap (λ (l : List Item). one_if (is_item_hit sets ways l item)) (append_assoc earlier (i ∷ []) items))

-- ---- uses alone

-- one use more
pub uses-push : (lines : List ℕ) (x : ℕ) → uses lines ++ Use x ∷ [] ≡ uses (lines ++ x ∷ [])
uses-push lines x = sym (map-append (λ (y : ℕ). Use y) lines (x ∷ []))

-- those of a set
pub items_of_set-uses : (sets set : ℕ) (lines : List ℕ) → items_of_set sets set (uses lines) ≡ uses_of_set sets set lines
items_of_set-uses sets set [] = refl
items_of_set-uses sets set (x ∷ lines) = elim (cases_Bool (x % sets == set)) [
  | inl own ↦ rw own (ap (λ (l : List Item). Use x ∷ l) (items_of_set-uses sets set lines))
  | inr other ↦ rw other (items_of_set-uses sets set lines)
]

-- all count
pub uses_in-uses : (lines : List ℕ) → uses_in (uses lines) ≡ length lines
uses_in-uses lines = sym (length-filter is_use (uses lines)) ∙ all lines
  where
    all : (lines : List ℕ) → length (filter is_use (uses lines)) ≡ length lines
    all [] = refl
    all (x ∷ lines) = ap (λ (n : ℕ). suc n) (all lines)

-- as many hit
pub item_hits_after-uses : (sets ways : ℕ) (earlier lines : List ℕ) → item_hits_after sets ways (uses earlier) (uses lines) ≡ set_hits_after sets ways earlier lines
item_hits_after-uses sets ways earlier [] = refl
item_hits_after-uses sets ways earlier (x ∷ lines) =
    let here : one_if (is_item_hit sets ways (uses earlier) (Use x)) ≡ one_if (is_set_hit sets ways earlier x) = ap (λ (l : List Item). one_if (private_hit ways l x)) (items_of_set-uses sets (x % sets) earlier) in
    let later : item_hits_after sets ways (uses earlier ++ Use x ∷ []) (uses lines) ≡ set_hits_after sets ways (earlier ++ x ∷ []) lines =
    ap (λ (l : List Item). item_hits_after sets ways l (uses lines)) (uses-push earlier x) ∙ item_hits_after-uses sets ways (earlier ++ x ∷ []) lines in
    omega (arith, here, later)

-- a set's uses and one more of its own
pub uses_of_set-own : (sets set x : ℕ) (lines : List ℕ) → (x % sets == set) ≡ true → uses_of_set sets set (lines ++ x ∷ []) ≡ uses_of_set sets set lines ++ Use x ∷ []
uses_of_set-own sets set x lines own =
    sym (items_of_set-uses sets set (lines ++ x ∷ [])) ∙ (ap (items_of_set sets set) (sym (uses-push lines x))
    ∙ (items_of_set-own sets set (uses lines) (Use x) own ∙ ap (λ (l : List Item). l ++ Use x ∷ []) (items_of_set-uses sets set lines)))

-- and one of another set
pub uses_of_set-other : (sets set x : ℕ) (lines : List ℕ) → (x % sets == set) ≡ false → uses_of_set sets set (lines ++ x ∷ []) ≡ uses_of_set sets set lines
uses_of_set-other sets set x lines other =
    sym (items_of_set-uses sets set (lines ++ x ∷ [])) ∙ (ap (items_of_set sets set) (sym (uses-push lines x))
    ∙ (items_of_set-other sets set (uses lines) (Use x) other ∙ items_of_set-uses sets set lines))
