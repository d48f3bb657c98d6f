-- A curve after a run of lines, one after the other, that is used a second time.
use Rattle.std.proofs.Common.{◌≡◌, ℕ, zero, suc, ◌+◌, ◌-◌, ◌*◌, ◌%◌, ◌/◌, ◌<◌, ◌≤◌, Bool, true, ◌==◌, nat_lt, List, [], ◌∷◌, ◌++◌, length, reverse, take, sum, slice_index_or, Option, arith, refl, sym, ◌∙◌, ap, subst}
use Rattle.std.specs.List.{filter, range_with_len}
use Rattle.std.proofs.Math.Nat.{mod-add-div', mod-lt}
use Rattle.std.proofs.lemmas.Bool.{eq-eqb}
use Rattle.std.proofs.lemmas.List.{length-append}
use Rattle.std.proofs.lemmas.List.Elements.{filter-append}
use Rattle.std.proofs.lemmas.List.FromFn.{length-range_with_len}
use Rattle.lists.proofs.Ranges.{range_with_len-suc}
use Rattle.lists.proofs.Sums.{sum_below-same}
use Rattle.lists.specs.Sums.{one_if, sum_below}
use Rattle.private_lru.specs.Private.{alive, private_hit}
use Rattle.way_curve.specs.Curves.{is_set_hit, set_hits_after, set_hits_of, uses_of_set}
use Rattle.way_curve.specs.IsCurve.{IsCurve}
use Rattle.way_curve.specs.Slots.{Serve}
use Rattle.way_curve.proofs.Alive.{AllDiffer, uses}
use Rattle.way_curve.proofs.Repeats.{AllDiffer-filter, AllDiffer-range, alive-twice, private_hit-again}
use Rattle.way_curve.proofs.RunCounts.{length-own_run, sum_below-run}
use Rattle.way_curve.proofs.Serving.{Serve-uses}
use Rattle.way_curve.proofs.SetHits.{set_hits_after-append, set_hits_after-push}

-- the lines of a set
abbrev own_lines : ℕ → ℕ → List ℕ → List ℕ
own_lines sets set lines = filter (λ (y : ℕ). y % sets == set) lines

-- a run in two parts
range_with_len-append : (a n m : ℕ) → range_with_len a (n + m) ≡ range_with_len a n ++ range_with_len (a + n) m
range_with_len-append a zero m =
    let none : zero + m ≡ m = omega arith in
    let here : a ≡ a + zero = omega arith in
    ap (λ (k : ℕ). range_with_len a k) none ∙ ap (λ (k : ℕ). range_with_len k m) here
range_with_len-append a (suc n) m =
    let more : suc n + m ≡ suc (n + m) = omega arith in
    let there : a + 1 + n ≡ a + suc n = omega arith in
    ap (λ (k : ℕ). range_with_len a k) more ∙ ap (λ (l : List ℕ). a ∷ l) (range_with_len-append (a + 1) n m ∙ ap (λ (k : ℕ). range_with_len (a + 1) n ++ range_with_len k m) there)

-- a run with the lines before one of its lines, this line, and those after it
range_with_len-at : (a n k : ℕ) → k < n → range_with_len a n ≡ range_with_len a k ++ (a + k) ∷ range_with_len (a + k + 1) (n - (k + 1))
range_with_len-at a n k lt =
    let parts : n ≡ k + suc (n - (k + 1)) = omega arith in
    ap (λ (m : ℕ). range_with_len a m) parts ∙ range_with_len-append a k (suc (n - (k + 1)))

-- The second use of a line, after the others before it, hits where the ways are more than the other lines of its set.
is_set_hit-again : (sets ways : ℕ) (lines xs ys : List ℕ) (x : ℕ) → AllDiffer (xs ++ x ∷ ys)
    → is_set_hit sets ways ((lines ++ (xs ++ x ∷ ys)) ++ xs) x ≡ nat_lt (length (filter (λ (y : ℕ). y % sets == x % sets) (xs ++ x ∷ ys)) - 1) ways
is_set_hit-again sets ways lines xs ys x d =
    let p : ℕ → Bool = λ (y : ℕ). y % sets == x % sets in
    let self : (x % sets == x % sets) ≡ true = eq-eqb (x % sets) (x % sets) refl in
    let own : filter p (x ∷ ys) ≡ x ∷ filter p ys = rw self refl in
    let run : filter p (xs ++ x ∷ ys) ≡ filter p xs ++ x ∷ filter p ys = filter-append p xs (x ∷ ys) ∙ ap (λ (l : List ℕ). filter p xs ++ l) own in
    let differ : AllDiffer (filter p xs ++ x ∷ filter p ys) = subst AllDiffer run (AllDiffer-filter p (xs ++ x ∷ ys) d) in
    let all : filter p ((lines ++ (xs ++ x ∷ ys)) ++ xs) ≡ (filter p lines ++ (filter p xs ++ x ∷ filter p ys)) ++ filter p xs =
    filter-append p (lines ++ (xs ++ x ∷ ys)) xs ∙ ap (λ (l : List ℕ). l ++ filter p xs) (filter-append p lines (xs ++ x ∷ ys) ∙ ap (λ (l : List ℕ). filter p lines ++ l) run) in
    let others : length (filter p ys ++ filter p xs) ≡ length (filter p (xs ++ x ∷ ys)) - 1 =
    omega (arith, length-append (filter p ys) (filter p xs), ap length run, length-append (filter p xs) (x ∷ filter p ys)) in
    ap (λ (l : List ℕ). private_hit ways (uses l) x) all
    ∙ (private_hit-again ways x (filter p lines) (filter p xs) (filter p ys) differ ∙ ap (λ (n : ℕ). nat_lt n ways) others)

-- how many of the first lines of a run hit, where the run was used just before
set_hits_after-again : (sets ways a n k : ℕ) (lines : List ℕ) → k ≤ n
    → set_hits_after sets ways (lines ++ range_with_len a n) (range_with_len a k)
    ≡ sum_below k (λ i. one_if (nat_lt (length (filter (λ (y : ℕ). y % sets == (a + i) % sets) (range_with_len a n)) - 1) ways))
set_hits_after-again sets ways a n zero lines le = refl
set_hits_after-again sets ways a n (suc k) lines le =
    let run : List ℕ = range_with_len a n in
    let before : List ℕ = range_with_len a k in
    let after : List ℕ = range_with_len (a + k + 1) (n - (k + 1)) in
    let x : ℕ = a + k in
    let next : suc k ≡ k + 1 = omega arith in
    let parts : run ≡ before ++ x ∷ after = range_with_len-at a n k (omega arith) in
    let differ : AllDiffer (before ++ x ∷ after) = subst AllDiffer parts (AllDiffer-range a n) in
    let hit : is_set_hit sets ways ((lines ++ run) ++ before) x ≡ nat_lt (length (filter (λ (y : ℕ). y % sets == x % sets) run) - 1) ways =
    ap (λ (l : List ℕ). is_set_hit sets ways ((lines ++ l) ++ before) x) parts
    ∙ (is_set_hit-again sets ways lines before after x differ ∙ ap (λ (l : List ℕ). nat_lt (length (filter (λ (y : ℕ). y % sets == x % sets) l) - 1) ways) (sym parts)) in
    let ih : set_hits_after sets ways (lines ++ run) before ≡ sum_below k (λ i. one_if (nat_lt (length (filter (λ (y : ℕ). y % sets == (a + i) % sets) run) - 1) ways)) =
    set_hits_after-again sets ways a n k lines (omega arith) in
    ap (λ (l : List ℕ). set_hits_after sets ways (lines ++ run) l) (ap (λ (m : ℕ). range_with_len a m) next ∙ range_with_len-suc a k)
    ∙ (set_hits_after-push sets ways (lines ++ run) before x ∙ omega (arith, ih, ap one_if hit))

-- of so many sets, how many lines of a run of them come at the two distances that there are
module _ (sets ways a n : ℕ) (lines : List ℕ) (some : 0 < sets) where
  -- the hits of the second use of a run
  pub set_hits_of-twice :
      set_hits_of sets ways ((lines ++ range_with_len a n) ++ range_with_len a n)
      ≡ set_hits_of sets ways (lines ++ range_with_len a n) + ((n % sets * (n / sets) + n % sets) * one_if (nat_lt (n / sets) ways) + ((sets - n % sets) * (n / sets)) * one_if (nat_lt (n / sets - 1) ways))
  set_hits_of-twice =
      let q : ℕ = n / sets in
      let r : ℕ = n % sets in
      let below : r < sets = mod-lt n some in
      let whole : n ≡ q * sets + r = sym (mod-add-div' n sets) ∙ omega arith in
      let each : (i : ℕ) → i < n → one_if (nat_lt (length (filter (λ (y : ℕ). y % sets == (a + i) % sets) (range_with_len a n)) - 1) ways) ≡ one_if (nat_lt (q + one_if (nat_lt (i % sets) r) - 1) ways) =
      λ i lt. ap (λ (m : ℕ). one_if (nat_lt (m - 1) ways)) (ap (λ (m : ℕ). length (filter (λ (y : ℕ). y % sets == (a + i) % sets) (range_with_len a m))) whole ∙ length-own_run sets a q r i some (omega arith)) in
      let again : set_hits_after sets ways (lines ++ range_with_len a n) (range_with_len a n) ≡ sum_below n (λ i. one_if (nat_lt (q + one_if (nat_lt (i % sets) r) - 1) ways)) =
      set_hits_after-again sets ways a n n lines (omega arith)
      ∙ sum_below-same n (λ i. one_if (nat_lt (length (filter (λ (y : ℕ). y % sets == (a + i) % sets) (range_with_len a n)) - 1) ways)) (λ i. one_if (nat_lt (q + one_if (nat_lt (i % sets) r) - 1) ways)) each in
      let counted : sum_below n (λ i. one_if (nat_lt (q + one_if (nat_lt (i % sets) r) - 1) ways)) ≡ (r * q + r) * one_if (nat_lt q ways) + ((sets - r) * q) * one_if (nat_lt (q - 1) ways) =
      ap (λ (m : ℕ). sum_below m (λ i. one_if (nat_lt (q + one_if (nat_lt (i % sets) r) - 1) ways))) whole ∙ sum_below-run q r sets ways below in
      set_hits_after-append sets ways [] (lines ++ range_with_len a n) (range_with_len a n)
      ∙ ap (λ (m : ℕ). set_hits_of sets ways (lines ++ range_with_len a n) + m) (again ∙ counted)

-- what is alive in a set after the second use of a run
alive-set_twice : (sets set : ℕ) (lines xs : List ℕ) → alive (uses (reverse (own_lines sets set (lines ++ xs)))) ≡ alive (uses (reverse (own_lines sets set ((lines ++ xs) ++ xs))))
alive-set_twice sets set lines xs =
    let p : ℕ → Bool = λ (y : ℕ). y % sets == set in
    let once : filter p (lines ++ xs) ≡ filter p lines ++ filter p xs = filter-append p lines xs in
    let twice : filter p ((lines ++ xs) ++ xs) ≡ (filter p lines ++ filter p xs) ++ filter p xs = filter-append p (lines ++ xs) xs ∙ ap (λ (l : List ℕ). l ++ filter p xs) once in
    ap (λ (l : List ℕ). alive (uses (reverse l))) once
    ∙ (sym (alive-twice (filter p xs) (filter p lines)) ∙ ap (λ (l : List ℕ). alive (uses (reverse l))) (sym twice))

-- the slots of a set serve as before
Serve-twice : (slots : List (Option ℕ)) (sets set : ℕ) (lines xs : List ℕ) → Serve slots (uses_of_set sets set (lines ++ xs)) → Serve slots (uses_of_set sets set ((lines ++ xs) ++ xs))
Serve-twice slots sets set lines xs serve = Serve-uses slots (own_lines sets set (lines ++ xs)) (own_lines sets set ((lines ++ xs) ++ xs)) (alive-set_twice sets set lines xs) serve

-- a curve of a run that is used a second time
pub IsCurve-twice :
    (sets count : ℕ) (recent : List (List (Option ℕ))) (at new_at : List ℕ) (a n : ℕ) (lines : List ℕ)
    → 0 < sets
    → ((most : ℕ) → most ≤ 32 → sum (take most new_at) ≡ sum (take most at) + ((n % sets * (n / sets) + n % sets) * one_if (nat_lt (n / sets) most) + ((sets - n % sets) * (n / sets)) * one_if (nat_lt (n / sets - 1) most)))
    → IsCurve (record { sets = sets; uses = count; recent = recent; at_distance = at }) (lines ++ range_with_len a n)
    → IsCurve (record { sets = sets; uses = count + n; recent = recent; at_distance = new_at }) ((lines ++ range_with_len a n) ++ range_with_len a n)
IsCurve-twice sets count recent at new_at a n lines some counted curve = record {
  uses = omega (arith, curve.uses, length-append (lines ++ range_with_len a n) (range_with_len a n), length-range_with_len a n);
  recent = λ set lt. Serve-twice (slice_index_or recent set []) sets set lines (range_with_len a n) (curve.recent set lt);
  hits = λ ways le. counted ways le ∙ (ap (λ (m : ℕ). m + ((n % sets * (n / sets) + n % sets) * one_if (nat_lt (n / sets) ways) + ((sets - n % sets) * (n / sets)) * one_if (nat_lt (n / sets - 1) ways))) (curve.hits ways le) ∙ sym (set_hits_of-twice sets ways a n lines some));
}
