-- How many entries follow a command, and which stands where.
use Rattle.std.proofs.Common.{◌≡◌, ℕ, zero, suc, ◌+◌, ◌*◌, ◌<◌, ◌≤◌, inl, inr, List, [], ◌∷◌, ◌++◌, length, map, take, refl, sym, ap, ◌∙◌, subst, arith}
use Rattle.std.specs.Prelude.{sum_by}
use Rattle.std.specs.List.{flat_map, range_with_len}
use Rattle.std.proofs.lemmas.Bool.{cases_lt}
use Rattle.std.proofs.lemmas.List.{length-append}
use Rattle.std.proofs.lemmas.List.FromFn.{length-map-range_with_len, map-range_with_len_more}
use Rattle.std.proofs.lemmas.List.Sums.{sum_by-cons}
use Rattle.machine.specs.Slices.{slice_number}
use Rattle.machine.specs.declared.parameters.Parameters.{Parameters}
use Rattle.run_law.proofs.laws.LookPositions.{length_mapped}
use Rattle.run_law.proofs.laws.JobKinds.{looks_count}
use Rattle.run_law.proofs.laws.Positions.{At-append_front, At-last}
use Rattle.run_law.specs.FoundLooks.{look_pairs, pairs_of}
use Rattle.run_law.specs.Jobs.{Job, at_target, follow_jobs, follows_of, looks_of}
use Rattle.run_law.specs.Journals.{At}
use Rattle.run_law.specs.Owed.{Owed, what_of}
use Rattle.run_law.specs.TreeHistory.{TreeEntryValue, tree_after}
use Rattle.script_ops.specs.Values.{ScriptValue}
use Rattle.script_ops.specs.declared.op.Op.{Op}
use Rattle.run_law.specs.Targets.{slice_for, slice_in, slices_at, slices_for}
use Rattle.tree_law.specs.Steps.{Target, EachSlice, SliceOf, after, goes_to, needs}
use Rattle.tree_law.specs.declared.follow.Follow.{Follow}

-- ---- looks

-- each pair has a look in each slice
length-look_pairs : (m : Parameters) (needs : List (ℕ × ℕ)) → length (look_pairs m needs) ≡ length needs * m.slices
length-look_pairs m [] = let none : 0 * m.slices ≡ 0 = omega arith in sym none
length-look_pairs m (need ∷ needs) =
    let one : length (pairs_of m need) ≡ m.slices = length_mapped (λ x. (slice_number m need.0 x, need.1)) m.slices in
    let product : suc (length needs) * m.slices ≡ m.slices + length needs * m.slices = omega arith in
    length-append (pairs_of m need) (look_pairs m needs) ∙ omega (arith, one, length-look_pairs m needs, product)

pub length-looks : (script : ScriptValue) (tree : List TreeEntryValue) (op : Op) → length (looks_of script tree (length tree) op) ≡ length (needs script.machine (tree_after script tree) op) * script.machine.slices
length-looks script tree op = sym (looks_count script tree op) ∙ length-look_pairs script.machine (needs script.machine (tree_after script tree) op)

-- ---- follow-ups

-- an element of a mapped range
at_range : (f : ℕ → Job) (n x : ℕ) → x < n → At (map f (range_with_len 0 n)) x (f x)
at_range f zero x below = absurd (omega arith)
at_range f (suc n) x below =
    let next : suc n ≡ n + 1 = omega arith in
    let more : map f (range_with_len 0 (suc n)) ≡ map f (range_with_len 0 n) ++ f n ∷ [] = ap (λ k. map f (range_with_len 0 k)) next ∙ map-range_with_len_more f 0 n n (omega arith) in
    subst (λ xs. At xs x (f x)) (sym more)
    (elim (cases_lt x n) [
      | inl before ↦ At-append_front (map f (range_with_len 0 n)) (f n ∷ []) x (f x) (at_range f n x before)
      | inr past ↦
          let last : length (map f (range_with_len 0 n)) ≡ x = length-map-range_with_len f 0 n ∙ omega (arith, below, past) in
          let is : n ≡ x = omega (arith, below, past) in
          subst (λ k. At (map f (range_with_len 0 n) ++ f n ∷ []) k (f x)) last (subst (λ y. At (map f (range_with_len 0 n) ++ f n ∷ []) (length (map f (range_with_len 0 n))) (f y)) is (At-last (map f (range_with_len 0 n)) (f n)))
    ])

-- an element of the second part
pub job_behind : (xs ys : List Job) (k : ℕ) (job : Job) → At ys k job → At (xs ++ ys) (length xs + k) job
job_behind [] ys k job at = let same : 0 + k ≡ k = omega arith in subst (λ r. At ys r job) (sym same) at
job_behind (x ∷ xs) ys k job at = let same : suc (length xs + k) ≡ length (x ∷ xs) + k = omega arith in subst (λ r. At (x ∷ xs ++ ys) r job) same (job_behind xs ys k job at)

module _ (m : Parameters) (epoch : ℕ) where
  -- the job of a follow-up in the x-th of its slices
  abbrev pub follow_job : Follow → ℕ → Job
  follow_job f x = record { slice = slice_for m f x; owed = record { epoch = epoch; what = what_of f } }

  -- the same in the x-th slice there
  abbrev target_job : Target → Owed → ℕ → Job
  target_job t owed x = record { slice = slice_in m t x; owed = owed }

  length-target : (t : Target) (owed : Owed) → length (at_target m t owed) ≡ slices_at m t
  length-target (EachSlice domain) owed = length-map-range_with_len (target_job (EachSlice domain) owed) 0 m.slices
  length-target (SliceOf domain line) owed = refl

  at-target : (t : Target) (owed : Owed) (x : ℕ) → x < slices_at m t → At (at_target m t owed) x (target_job t owed x)
  at-target (EachSlice domain) owed x below = at_range (target_job (EachSlice domain) owed) m.slices x below
  at-target (SliceOf domain line) owed zero below = refl
  at-target (SliceOf domain line) owed (suc x) below = absurd (omega (arith, below))

  length-one : (f : Follow) → length (follow_jobs m epoch f) ≡ slices_for m f
  length-one f = length-target (goes_to f) (record { epoch = epoch; what = what_of f })

  at-one : (f : Follow) (x : ℕ) → x < slices_for m f → At (follow_jobs m epoch f) x (follow_job f x)
  at-one f x below = at-target (goes_to f) (record { epoch = epoch; what = what_of f }) x below

  pub length-follows : (fs : List Follow) → length (flat_map (follow_jobs m epoch) fs) ≡ sum_by (slices_for m) fs
  length-follows [] = refl
  length-follows (f ∷ fs) =
      length-append (follow_jobs m epoch f) (flat_map (follow_jobs m epoch) fs) ∙ omega (arith, length-one f, length-follows fs, sum_by-cons (slices_for m) f fs)

  -- the x-th entry of the q-th follow-up
  pub follow-at : (fs : List Follow) (q x : ℕ) (f : Follow) → At fs q f → x < slices_for m f → At (flat_map (follow_jobs m epoch) fs) (sum_by (slices_for m) (take q fs) + x) (follow_job f x)
  follow-at [] q x f at below = absurd cc
  follow-at (g ∷ fs) zero x f at below =
      let same : g ≡ f = cc in
      let here : x ≡ sum_by (slices_for m) (take zero (g ∷ fs)) + x = omega arith in
      subst (λ r. At (flat_map (follow_jobs m epoch) (g ∷ fs)) r (follow_job f x)) here
      (At-append_front (follow_jobs m epoch g) (flat_map (follow_jobs m epoch) fs) x (follow_job f x) (subst (λ y. At (follow_jobs m epoch y) x (follow_job f x)) (sym same) (at-one f x below)))
  follow-at (g ∷ fs) (suc q) x f at below =
      let here : length (follow_jobs m epoch g) + (sum_by (slices_for m) (take q fs) + x) ≡ sum_by (slices_for m) (take (suc q) (g ∷ fs)) + x = omega (arith, length-one g, sum_by-cons (slices_for m) g (take q fs)) in
      subst (λ r. At (flat_map (follow_jobs m epoch) (g ∷ fs)) r (follow_job f x)) here
      (job_behind (follow_jobs m epoch g) (flat_map (follow_jobs m epoch) fs) (sum_by (slices_for m) (take q fs) + x) (follow_job f x) (follow-at fs q x f at below))

-- those of the first follow-ups and of the next
pub sum-next : (m : Parameters) (fs : List Follow) (q : ℕ) (f : Follow) → At fs q f → sum_by (slices_for m) (take (q + 1) fs) ≡ sum_by (slices_for m) (take q fs) + slices_for m f
sum-next m [] q f at = absurd cc
sum-next m (g ∷ fs) zero f at =
    let same : g ≡ f = cc in
    let one : sum_by (slices_for m) (g ∷ []) ≡ slices_for m g + 0 = sum_by-cons (slices_for m) g [] in
    omega (arith, one, ap (slices_for m) same)
sum-next m (g ∷ fs) (suc q) f at =
    let next : suc q + 1 ≡ suc (q + 1) = omega arith in
    ap (λ k. sum_by (slices_for m) (take k (g ∷ fs))) next ∙ omega (arith, sum-next m fs q f at, sum_by-cons (slices_for m) g (take (q + 1) fs), sum_by-cons (slices_for m) g (take q fs))

-- each of them is some slice
some-target : (m : Parameters) (t : Target) → 0 < m.slices → 0 < slices_at m t
some-target m (EachSlice domain) some = some
some-target m (SliceOf domain line) some = omega arith

-- a follow-up is entered in some slice
pub some-slices : (m : Parameters) (f : Follow) → 0 < m.slices → 0 < slices_for m f
some-slices m f some = some-target m (goes_to f) some

-- the follow-ups of a command
pub follows-are : (script : ScriptValue) (tree : List TreeEntryValue) (k : ℕ) (op : Op) → follows_of script tree k op ≡ flat_map (follow_jobs script.machine (k + 1)) (after script.machine (tree_after script (take k tree)) k op)
unfolding follows_of
follows-are script tree k op = refl

-- where something follows, something is to be made
pub some-follow : (m : Parameters) → 0 < m.slices → (fs : List Follow) → 0 < length fs → 0 < sum_by (slices_for m) fs
some-follow m slices [] some = absurd (omega (arith, some))
some-follow m slices (f ∷ fs) some = omega (arith, sum_by-cons (slices_for m) f fs, some-slices m f slices)

-- and else nothing is
pub none-follow : (m : Parameters) (fs : List Follow) → length fs ≤ 0 → sum_by (slices_for m) fs ≡ 0
none-follow m [] none = refl
none-follow m (f ∷ fs) none = absurd (omega (arith, none))
