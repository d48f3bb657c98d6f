-- A change of the bindings that pass a test.
use Rattle.std.proofs.Common.{◌≡◌, ℕ, suc, ◌+◌, ◌<◌, Bool, true, false, if◌then◌else◌, List, [], ◌∷◌, ◌++◌, length, map, filter, take, drop, set, get_or, slice_get, is_some, refl, sym, ap, ◌∙◌, subst, arith, drop-cons, length-set, inl, inr}
use Rattle.std.specs.List.{HoldsAt}
use Rattle.std.proofs.lemmas.Bool.{cases_Bool}
use Rattle.std.proofs.lemmas.List.{take_more, take_more_set, drop-set-lt}
use Rattle.task_binding.specs.declared.binding.Binding.{Binding}
use Rattle.task_binding.specs.Bindings.{changed}

-- the changes of two parts
changed-append : (which : Binding → Bool) (how : Binding → Binding) (xs ys : List Binding) → changed which how (xs ++ ys) ≡ changed which how xs ++ changed which how ys
changed-append which how [] ys = refl
changed-append which how (x ∷ xs) ys = rw (changed-append which how xs ys) refl

-- the first n bindings are changed
pub record ChangedTo (which : Binding → Bool) (how : Binding → Binding) (before after : List Binding) (n : ℕ) : Type 0 where
  pub front : take n after ≡ changed which how (take n before)
  pub back : drop n after ≡ drop n before
  pub long : length after ≡ length before

-- at the start nothing has changed
pub ChangedTo-start : (which : Binding → Bool) (how : Binding → Binding) (before : List Binding) → ChangedTo which how before before 0
ChangedTo-start which how before = record { front = refl; back = refl; long = refl }

-- what is not reached yet is as before
get_or-drop_same : (before after : List Binding) (n : ℕ) (d : Binding) → n < length after → n < length before → drop n after ≡ drop n before → get_or before n d ≡ get_or after n d
get_or-drop_same before after n d h i same =
    sym (ap (λ l. get_or l 0 d) (drop-cons before n d i)) ∙ ap (λ l. get_or l 0 d) (sym same) ∙ ap (λ l. get_or l 0 d) (drop-cons after n d h)

-- so is what comes after it
drop-suc_same : (before after : List Binding) (n : ℕ) (d : Binding) → n < length after → n < length before → drop n after ≡ drop n before → drop (n + 1) after ≡ drop (n + 1) before
drop-suc_same before after n d h i same =
    let e : n + 1 ≡ suc n = omega arith in
    rw e (sym (ap (λ l. drop 1 l) (drop-cons after n d h)) ∙ ap (λ l. drop 1 l) same ∙ ap (λ l. drop 1 l) (drop-cons before n d i))

-- the next binding passes the test, or does not
pub ChangedTo-set : (which : Binding → Bool) (how : Binding → Binding) (before after : List Binding) (n : ℕ) (d : Binding) → n < length after → which (get_or after n d) ≡ true
    → ChangedTo which how before after n → ChangedTo which how before (set after n (how (get_or after n d))) (n + 1)
ChangedTo-set which how before after n d h is c =
    let i : n < length before = let e = c.long in omega arith in
    let here = get_or-drop_same before after n d h i c.back in
    record {
      front = take_more_set after n (how (get_or after n d)) h ∙ rw (take_more before n d i, changed-append which how (take n before) (get_or before n d ∷ []), here, is, c.front) refl;
      back = drop-set-lt (n + 1) after n (how (get_or after n d)) (omega arith) ∙ drop-suc_same before after n d h i c.back;
      long = length-set after n (how (get_or after n d)) ∙ c.long;
    }

-- one that does not is left
pub ChangedTo-skip : (which : Binding → Bool) (how : Binding → Binding) (before after : List Binding) (n : ℕ) (d : Binding) → n < length after → which (get_or after n d) ≡ false
    → ChangedTo which how before after n → ChangedTo which how before after (n + 1)
ChangedTo-skip which how before after n d h is c =
    let i : n < length before = let e = c.long in omega arith in
    let here = get_or-drop_same before after n d h i c.back in
    record {
      front = take_more after n d h ∙ rw (take_more before n d i, changed-append which how (take n before) (get_or before n d ∷ []), here, is, c.front) refl;
      back = drop-suc_same before after n d h i c.back;
      long = c.long;
    }

-- the binding at the next place is changed where it passes the test
pub ChangedTo-step : (which : Binding → Bool) (how : Binding → Binding) (before after now : List Binding) (n : ℕ) (d : Binding) → n < length after
    → HoldsAt (λ b. now ≡ (if which b then set after n (how b) else after)) after n → ChangedTo which how before after n → ChangedTo which how before now (n + 1)
ChangedTo-step which how before after now n d h step c = elim (cases_Bool (which (get_or after n d))) [
  | inl is ↦ (let changes : now ≡ set after n (how (get_or after n d)) = step d ∙ rw is refl in
      subst (λ l. ChangedTo which how before l (n + 1)) (sym changes) (ChangedTo-set which how before after n d h is c))
  | inr other ↦ (let stays : now ≡ after = step d ∙ rw other refl in
      subst (λ l. ChangedTo which how before l (n + 1)) (sym stays) (ChangedTo-skip which how before after n d h other c))
]

-- where none passes the test, nothing changes
pub changed-none : (which : Binding → Bool) (how : Binding → Binding) (xs : List Binding) → filter which xs ≡ [] → changed which how xs ≡ xs
changed-none which how [] none = refl
changed-none which how (x ∷ xs) none = elim (cases_Bool (which x)) [
  | inl is ↦ absurd (let some : x ∷ filter which xs ≡ [] = rw is at none in cc)
  | inr other ↦ (let rest : filter which xs ≡ [] = rw other at none in rw other (ap (λ l. x ∷ l) (changed-none which how xs rest)))
]

-- so it is where the test has no first member
pub changed-no_member : (which : Binding → Bool) (how : Binding → Binding) (xs : List Binding) → is_some (slice_get (map (λ b. b.task) (filter which xs)) 0) ≡ false → changed which how xs ≡ xs
changed-no_member which how xs none = changed-none which how xs (no_first (filter which xs) none)
  where
    no_first : (members : List Binding) → is_some (slice_get (map (λ b. b.task) members) 0) ≡ false → members ≡ []
    no_first [] none = refl
    no_first (m ∷ ms) none = absurd (cc)
