-- Entries of an index: those of one place, and edits of lists of them.
use Rattle.std.proofs.Common.{◌≡◌, ◌≢◌, ℕ, zero, suc, ◌+◌, ◌-◌, ◌<◌, ◌≤◌, Bool, true, false, not, cond, List, [], ◌∷◌, ◌++◌, length, map, filter, take, drop, get_or, All, AllPairs, count_by, insert, refl, sym, ap, ◌∙◌, subst, arith}
use Rattle.std.specs.List.{refill}
use Rattle.std.proofs.lemmas.Bool.{eqb-true, ne_eqb}
use Rattle.std.proofs.lemmas.List.{append-nil, drop_all, take_all}
use Rattle.std.proofs.lemmas.List.Edits.{get_or-insert_above, get_or-insert_at, get_or-insert_below, length-insert}
use Rattle.std.proofs.lemmas.List.Elements.{All-append, All-cons, All-drop, All-take}
use Rattle.std.proofs.lemmas.List.Sums.{sum_by-cons}
use Rattle.group_tree.specs.Indices.{is_at, lowered}
use Rattle.group_tree.specs.declared.index.Entry.{Entry}

-- what an entry adds to the count of a place
abbrev pub count_at : ℕ → Entry → ℕ
count_at place e = cond (is_at place e) 1 0

-- ---- entries of a place

-- a place of which there is no entry
pub count_by-none : (place : ℕ) (xs : List Entry) → All (λ e. e.place ≢ place) xs → count_by (is_at place) xs ≡ 0
count_by-none place [] all = refl
count_by-none place (x ∷ xs) all =
    let other : is_at place x ≡ false = ne_eqb x.place place (all 0 x (omega arith)) in
    let nothing : count_at place x ≡ 0 = rw other refl in
    let rest = count_by-none place xs (λ k d h. all (suc k) d (omega arith)) in
    sum_by-cons (count_at place) x xs ∙ omega (arith, nothing, rest)

-- the entries of one place are still there when those of another are gone
pub count_by-filter : (place gone : ℕ) → place ≢ gone → (xs : List Entry) → count_by (is_at place) (filter (λ e. not (is_at gone e)) xs) ≡ count_by (is_at place) xs
count_by-filter place gone other [] = refl
count_by-filter place gone other (x ∷ xs) = at (is_at gone x) (count_by-filter place gone other xs) refl
  where
    at : (b : Bool) → count_by (is_at place) (filter (λ e. not (is_at gone e)) xs) ≡ count_by (is_at place) xs → b ≡ is_at gone x
        → count_by (is_at place) (cond (not b) (x ∷ filter (λ e. not (is_at gone e)) xs) (filter (λ e. not (is_at gone e)) xs)) ≡ count_by (is_at place) (x ∷ xs)
    at true rest is =
        let there : x.place ≡ gone = eqb-true x.place gone (sym is) in
        let apart : is_at place x ≡ false = ne_eqb x.place place (λ e. other (sym e ∙ there)) in
        let nothing : count_at place x ≡ 0 = rw apart refl in
        rest ∙ omega (arith, nothing, sum_by-cons (count_at place) x xs)
    at false rest is = sum_by-cons (count_at place) x (filter (λ e. not (is_at gone e)) xs) ∙ omega (arith, rest, sum_by-cons (count_at place) x xs)

-- the entries of a place when the places after a gap have moved
pub count_by-lowered : (gap place from : ℕ) → ((x : Entry) → x.place ≢ gap → is_at place (lowered gap x) ≡ is_at from x) → (xs : List Entry) → All (λ e. e.place ≢ gap) xs
    → count_by (is_at place) (map (lowered gap) xs) ≡ count_by (is_at from) xs
count_by-lowered gap place from same [] all = refl
count_by-lowered gap place from same (x ∷ xs) all =
    let here : count_at place (lowered gap x) ≡ count_at from x = ap (λ (b : Bool). cond b 1 0) (same x (all 0 x (omega arith))) in
    let rest = count_by-lowered gap place from same xs (λ k d h. all (suc k) d (omega arith)) in
    sum_by-cons (count_at place) (lowered gap x) (map (lowered gap) xs) ∙ omega (arith, here, rest, sum_by-cons (count_at from) x xs)

-- ---- edits of lists

-- an insert between what may stand before and what may stand after
pub AllPairs-insert : (test : Entry → Entry → Bool) (xs : List Entry) (i : ℕ) (y : Entry) → AllPairs (λ a b. test a b ≡ true) xs → i ≤ length xs
    → ((k : ℕ) (d : Entry) → k < i → test (get_or xs k d) y ≡ true) → ((k : ℕ) (d : Entry) → i ≤ k → k < length xs → test y (get_or xs k d) ≡ true)
    → AllPairs (λ a b. test a b ≡ true) (insert xs i y)
AllPairs-insert test xs i y pairs bound before after =
    let long = length-insert xs i y bound in
    let below : (k : ℕ) (d : Entry) → k < i → get_or (insert xs i y) k d ≡ get_or xs k d = λ k d lt. get_or-insert_below xs i y d k lt bound in
    let here : (k : ℕ) (d : Entry) → k ≡ i → get_or (insert xs i y) k d ≡ y = λ k d same. rw same (get_or-insert_at xs i y d bound) in
    let above : (k : ℕ) (d : Entry) → i < k → get_or (insert xs i y) k d ≡ get_or xs (k - 1) d = λ k d lt.
    subst (λ q. get_or (insert xs i y) q d ≡ get_or xs (k - 1) d) {x = k - 1 + 1} (omega arith) (get_or-insert_above xs i y d (k - 1) (omega arith) bound) in
    λ a b d lt within. grind (arith, below a d, here a d, above a d, below b d, here b d, above b d, pairs a b d, pairs a (b - 1) d, pairs (a - 1) (b - 1) d, before a d, after (b - 1) d, long)

-- what holds of all and of a new one
pub All-insert : (P : Entry → Type 0) (xs : List Entry) (i : ℕ) (y : Entry) → All P xs → P y → All P (insert xs i y)
All-insert P xs i y all new = All-append P _ _ (All-take P i xs all) (All-cons P y _ new (All-drop P i xs all))

-- an element of a list that was mapped
pub get_or-map : (f : Entry → Entry) (xs : List Entry) (k : ℕ) (d e : Entry) → k < length xs → get_or (map f xs) k d ≡ f (get_or xs k e)
get_or-map f [] k d e within = absurd (omega arith)
get_or-map f (x ∷ xs) zero d e within = refl
get_or-map f (x ∷ xs) (suc k) d e within = get_or-map f xs k d e (omega arith)

-- all elements are written back through a slice
pub refill-whole : (xs ys : List Entry) → length ys ≡ length xs → refill (length xs) xs ys ≡ ys
refill-whole xs ys same =
    let rest : drop (length ys) xs ≡ [] = drop_all (length ys) xs (omega (arith, same)) in
    ap (λ (zs : List Entry). take (length xs) (ys ++ zs)) rest ∙ ap (λ (zs : List Entry). take (length xs) zs) (append-nil ys) ∙ take_all (length xs) ys (omega (arith, same))
