-- The private cache of the law of one slice is a set under the policy: its items are a legal history of a slice with one set.
use Rattle.std.proofs.Common.{◌≡◌, ℕ, ◌+◌, ◌-◌, ◌%◌, ◌^◌, ◌<◌, ◌≤◌, Bool, true, false, ◌||◌, ◌==◌, List, [], ◌∷◌, ◌++◌, length, map, take, get_or, refl, sym, ◌∙◌, ap, subst, inl, inr, arith}
use Rattle.std.specs.List.{list_any, All}
use Rattle.std.proofs.Math.Nat.{mod-one}
use Rattle.std.proofs.Math.Seq.{take-append_seam, take-length, get_or-append_seam}
use Rattle.std.proofs.lemmas.Bool.{cases_Bool, eq-eqb}
use Rattle.std.proofs.lemmas.List.{length-append}
use Rattle.cbm.specs.Masks.{ways_of}
use Rattle.cache_core.specs.declared.entry.What.TheVariants.{Flush}
use Rattle.cache_core.specs.declared.entry.SliceEntry.{SliceEntry}
use Rattle.cache_core.specs.History.{floor_of, IsLegal, MayHappen}
use Rattle.cache_core.specs.Stands.{entry}
use Rattle.private_lru.specs.declared.item.Item.{Item}
use Rattle.private_lru.specs.declared.item.Item.TheVariants.{Use, Drop as Dropped}
use Rattle.private_lru.specs.Covered.{is_covered, is_loaded_use, is_other_use, items, uses_line}
use Rattle.private_lru.specs.Isolation.{HitsAsPrivate, IsIsolated, Respects, between}
use Rattle.private_lru.specs.Private.{private_hit}
use Rattle.private_lru.proofs.laws.SliceWindows.{IsIsolated-between}
use Rattle.policy_law.specs.Policies.{CacheSet, after_event, set_after, empty_set}
use Rattle.policy_law.specs.KnownPolicies.{Stamps, lru}
use Rattle.policy_law.specs.PrivateCaches.{PrivateIsLru, event_of}
use Rattle.policy_law.specs.SliceSets.{ways_in}
use Rattle.policy_law.proofs.Windows.{IsSetOf-flushed}
use Rattle.policy_law.proofs.ItemEntries.{shape, what_of, entries_of, GoesOn-items, Respects-items, loaded-items, other-items}

-- the line of an item
abbrev line_of : Item → ℕ
line_of (Use x) = x
line_of (Dropped x) = x

-- uses of the lines of items
abbrev uses_of : List Item → List Item
uses_of [] = []
uses_of (i ∷ is) = Use (line_of i) ∷ uses_of is

-- whether a line is used among items
abbrev is_used_in : ℕ → List Item → Bool
is_used_in y [] = false
is_used_in y (Use x ∷ is) = (x == y) || is_used_in y is
is_used_in y (Dropped x ∷ is) = is_used_in y is

-- it is used among their entries
uses_line-items : (n mask y : ℕ) (is : List Item) (c : CacheSet Stamps) → uses_line 0 (entries_of n mask c is) y ≡ is_used_in y is
uses_line-items n mask y [] c = refl
uses_line-items n mask y (Use x ∷ is) c = ap (λ b. (x == y) || b) (uses_line-items n mask y is (after_event lru c (event_of (ways_in n mask) (Use x))))
uses_line-items n mask y (Dropped x ∷ is) c = uses_line-items n mask y is (after_event lru c (event_of (ways_in n mask) (Dropped x)))

-- of two lists
is_used_in-append : (y : ℕ) (xs ys : List Item) → is_used_in y ys ≡ true → is_used_in y (xs ++ ys) ≡ true
is_used_in-append y [] ys h = h
is_used_in-append y (Use x ∷ xs) ys h = elim (cases_Bool (x == y)) [ inl k ↦ rw k refl | inr k ↦ rw k (is_used_in-append y xs ys h) ]
is_used_in-append y (Dropped x ∷ xs) ys h = is_used_in-append y xs ys h

-- a use in front
is_used_in-cons : (y : ℕ) (i : Item) (is : List Item) → is_used_in y is ≡ true → is_used_in y (i ∷ is) ≡ true
is_used_in-cons y i is h = is_used_in-append y (i ∷ []) is h

-- each line that these drop is the group's
abbrev DropsOwn : (ℕ → Bool) → List Item → Type 0
DropsOwn own [] = Unit {0}
DropsOwn own (Use x ∷ is) = DropsOwn own is
DropsOwn own (Dropped x ∷ is) = (own x ≡ true) × DropsOwn own is

-- where all uses are known
DropsOwn-uses : (own : ℕ → Bool) (is : List Item) → ((y : ℕ) → is_used_in y (uses_of is) ≡ true → own y ≡ true) → DropsOwn own is
DropsOwn-uses own [] h = tt
DropsOwn-uses own (Use x ∷ is) h = DropsOwn-uses own is (λ y k. h y (is_used_in-cons y (Use x) (uses_of is) k))
DropsOwn-uses own (Dropped x ∷ is) h =
    (h x (let same : (x == x) ≡ true = eq-eqb x x refl in rw same refl), DropsOwn-uses own is (λ y k. h y (is_used_in-cons y (Use x) (uses_of is) k)))

-- the items of the entries are the items
items-entries : (n mask set : ℕ) (own : ℕ → Bool) (is : List Item) (c : CacheSet Stamps) → set ≡ 0 → DropsOwn own is → items 1 0 set own (entries_of n mask c is) ≡ is
items-entries n mask set own [] c zero_set drops = refl
items-entries n mask set own (Use x ∷ is) c zero_set drops =
    let here : (x % 1 == set) ≡ true = eq-eqb (x % 1) set (mod-one x ∙ sym zero_set) in
    rw here (ap (λ l. Use x ∷ l) (items-entries n mask set own is (after_event lru c (event_of (ways_in n mask) (Use x))) zero_set drops))
items-entries n mask set own (Dropped x ∷ is) c zero_set drops =
    let here : (x % 1 == set) ≡ true = eq-eqb (x % 1) set (mod-one x ∙ sym zero_set) in
    let mine : own x ≡ true = drops.0 in
    rw (mine, here) (ap (λ l. Dropped x ∷ l) (items-entries n mask set own is (after_event lru c (event_of (ways_in n mask) (Dropped x))) zero_set drops.1))

-- the entries of two lists
entries_of-append : (n mask : ℕ) (xs ys : List Item) (c : CacheSet Stamps) → entries_of n mask c (xs ++ ys) ≡ entries_of n mask c xs ++ entries_of n mask (set_after lru c (map (event_of (ways_in n mask)) xs)) ys
entries_of-append n mask [] ys c = refl
entries_of-append n mask (i ∷ is) ys c = ap (λ l. entry 0 0 0 (what_of n mask c i) ∷ l) (entries_of-append n mask is ys (after_event lru c (event_of (ways_in n mask) i)))

-- a list from its first entry to its end
between-whole : (e : SliceEntry) (window : List SliceEntry) → between (e ∷ window) 0 (length (e ∷ window)) ≡ window
between-whole e window =
    let all : length (e ∷ window) - (0 + 1) ≡ length window = omega arith in
    ap (λ k. take k window) all ∙ take-length window

-- the items are isolated as a window
IsIsolated-items : (n mask : ℕ) (s : Stamps) (is : List Item) → n ≤ 64 → mask < 2 ^ n → 0 < length (ways_in n mask) → ((w : ℕ) → s.stamp w < s.clock) → IsIsolated 1 0 (length (ways_of mask)) Flush (entries_of n mask (empty_set s) is)
IsIsolated-items n mask s is narrow small some past =
    let first : MayHappen (shape n) [] 0 Flush = omega arith in
    let floor : floor_of (entry 0 0 0 Flush ∷ []) ≤ 0 = omega arith in
    let legal : IsLegal (shape n) (entry 0 0 0 Flush ∷ entries_of n mask (empty_set s) is) = (first, GoesOn-items n mask is (entry 0 0 0 Flush ∷ []) (empty_set s) some floor (IsSetOf-flushed (shape n) 0 [] 0 0 0 s past)) in
    let whole : between (entry 0 0 0 Flush ∷ entries_of n mask (empty_set s) is) 0 (length (entry 0 0 0 Flush ∷ entries_of n mask (empty_set s) is)) ≡ entries_of n mask (empty_set s) is = between-whole (entry 0 0 0 Flush) (entries_of n mask (empty_set s) is) in
    let respects : All (λ (e : SliceEntry). Respects 0 mask e.what) (between (entry 0 0 0 Flush ∷ entries_of n mask (empty_set s) is) 0 (length (entry 0 0 0 Flush ∷ entries_of n mask (empty_set s) is))) =
    subst (λ w. All (λ (e : SliceEntry). Respects 0 mask e.what) w) (sym whole) (λ k d l. Respects-items n mask is (empty_set s) k d l) in
    subst (λ w. IsIsolated 1 0 (length (ways_of mask)) Flush w) whole
    (IsIsolated-between (shape n) (entry 0 0 0 Flush ∷ entries_of n mask (empty_set s) is) 0 (length (entry 0 0 0 Flush ∷ entries_of n mask (empty_set s) is)) 0 mask (entry 0 0 0 Flush)
    (omega arith) narrow small legal (omega arith) (omega arith) refl tt respects)

-- the hits are the same
pub private_hit-lru : PrivateIsLru
private_hit-lru n mask s earlier x narrow small some past =
    let front : List SliceEntry = entries_of n mask (empty_set s) earlier in
    let e : SliceEntry = entry 0 0 0 (what_of n mask (set_after lru (empty_set s) (map (event_of (ways_in n mask)) earlier)) (Use x)) in
    let rest : List SliceEntry = entries_of n mask (after_event lru (set_after lru (empty_set s) (map (event_of (ways_in n mask)) earlier)) (event_of (ways_in n mask) (Use x))) (uses_of earlier) in
    let whole : entries_of n mask (empty_set s) (earlier ++ Use x ∷ uses_of earlier) ≡ front ++ e ∷ rest = entries_of-append n mask earlier (Use x ∷ uses_of earlier) (empty_set s) in
    let isolated : IsIsolated 1 0 (length (ways_of mask)) Flush (front ++ e ∷ rest) = subst (λ w. IsIsolated 1 0 (length (ways_of mask)) Flush w) whole (IsIsolated-items n mask s (earlier ++ Use x ∷ uses_of earlier) narrow small some past) in
    let loaded : list_any (λ (i : SliceEntry). is_loaded_use 1 0 Flush i.what) (front ++ e ∷ rest) ≡ false =
    subst (λ w. list_any (λ (i : SliceEntry). is_loaded_use 1 0 Flush i.what) w ≡ false) whole (loaded-items n mask (earlier ++ Use x ∷ uses_of earlier) (empty_set s)) in
    let others : list_any (λ (i : SliceEntry). is_other_use 0 (front ++ e ∷ rest) i.what) front ≡ false = other-items n mask (front ++ e ∷ rest) earlier (empty_set s) in
    let covered : is_covered 1 0 Flush (front ++ e ∷ rest) front ≡ true = rw (loaded, others) refl in
    let uses : (y : ℕ) → is_used_in y (uses_of earlier) ≡ true → uses_line 0 (front ++ e ∷ rest) y ≡ true = λ y h.
    subst (λ w. uses_line 0 w y ≡ true) whole (uses_line-items n mask y (earlier ++ Use x ∷ uses_of earlier) (empty_set s) ∙ is_used_in-append y earlier (Use x ∷ uses_of earlier) (is_used_in-cons y (Use x) (uses_of earlier) h)) in
    let seen : items 1 0 (x % 1) (uses_line 0 (front ++ e ∷ rest)) front ≡ earlier = items-entries n mask (x % 1) (uses_line 0 (front ++ e ∷ rest)) earlier (empty_set s) (mod-one x) (DropsOwn-uses (uses_line 0 (front ++ e ∷ rest)) earlier uses) in
    let inside : length front < length (front ++ e ∷ rest) = omega (arith, length-append front (e ∷ rest)) in
    let at_front : take (length front) (front ++ e ∷ rest) ≡ front = take-append_seam front (e ∷ rest) in
    let at_entry : get_or (front ++ e ∷ rest) (length front) e ≡ e = get_or-append_seam front e rest e in
    let hit : HitsAsPrivate 1 0 (uses_line 0 (front ++ e ∷ rest)) (length (ways_of mask)) front e.what =
    subst (λ (i : SliceEntry). HitsAsPrivate 1 0 (uses_line 0 (front ++ e ∷ rest)) (length (ways_of mask)) front i.what) at_entry
    (subst (λ l. HitsAsPrivate 1 0 (uses_line 0 (front ++ e ∷ rest)) (length (ways_of mask)) l (get_or (front ++ e ∷ rest) (length front) e).what) at_front
    (isolated (length front) e inside (subst (λ l. is_covered 1 0 Flush (front ++ e ∷ rest) l ≡ true) (sym at_front) covered))) in
    sym (hit refl ∙ ap (λ l. private_hit (length (ways_of mask)) l x) seen)
