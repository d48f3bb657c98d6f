-- What a command makes in one slice.
use Rattle.std.proofs.Common.{◌≡◌, ◌≢◌, ℕ, zero, suc, ◌+◌, ◌*◌, ◌/◌, ◌%◌, ◌<◌, inl, inr, List, [], ◌∷◌, ◌++◌, length, map, take, refl, sym, ap, ◌∙◌, subst, arith}
use Rattle.std.specs.Prelude.{◌==◌, if◌then◌else◌, Contains}
use Rattle.std.specs.List.{flat_map, range_with_len}
use Rattle.std.proofs.lemmas.Bool.{cases_Bool, cases_lt, eq-eqb, eqb-false, eqb-true, ne_eqb}
use Rattle.std.proofs.lemmas.List.{take_more}
use Rattle.std.proofs.lemmas.List.FromFn.{map-range_with_len_more}
use Rattle.cache_core.specs.declared.entry.What.TheVariants as whats
use Rattle.machine.specs.declared.parameters.Parameters.{Parameters}
use Rattle.run_law.specs.Journals.{At}
use Rattle.run_law.specs.Owed.{Owed, follow_in, is_target, look_in, owed_by_command, what_of}
use Rattle.machine.specs.Slices.{domain_in, slice_number}
use Rattle.run_law.specs.TreeHistory.{TreeEntryValue, tree_after}
use Rattle.script_ops.specs.Values.{ScriptValue}
use Rattle.script_ops.specs.declared.op.Op.{Op}
use Rattle.tree_law.specs.Steps.{Target, EachSlice, SliceOf, after, goes_to, needs}
use Rattle.tree_law.specs.declared.follow.Follow.{Follow}
use Rattle.run_law.proofs.laws.SliceDomains.{of_domain}
use Rattle.std.proofs.lemmas.Nat.{div-add-mod', mod_below}
use Rattle.std.proofs.lemmas.Option.{get_or_from_slice_get, slice_get_within}
use Rattle.run_law.specs.Jobs.{Job, at_target, follow_jobs, follows_of, in_domain, in_slice, jobs_of, look_jobs, looks_of}

-- ---- lists of jobs

-- the jobs of two lists
pub in_slice_append : (i : ℕ) (xs ys : List Job) → in_slice i (xs ++ ys) ≡ in_slice i xs ++ in_slice i ys
in_slice_append i [] ys = refl
in_slice_append i (x ∷ xs) ys = elim (cases_Bool (x.slice == i)) [
  | inl here ↦ rw here (ap (λ os. x.owed ∷ os) (in_slice_append i xs ys))
  | inr away ↦ rw away (in_slice_append i xs ys)
]

-- a job is owed to its slice
pub job_owed : (jobs : List Job) (k : ℕ) (job : Job) → At jobs k job → Contains (in_slice job.slice jobs) job.owed
job_owed [] k job at = absurd cc
job_owed (x ∷ jobs) zero job at =
    let same : x ≡ job = cc in
    subst (λ y. Contains (in_slice y.slice (x ∷ jobs)) y.owed) same (rw (eq-eqb x.slice x.slice refl) (0, omega arith, refl))
job_owed (x ∷ jobs) (suc k) job at =
    let rest : Contains (in_slice job.slice jobs) job.owed = job_owed jobs k job at in
    elim (cases_Bool (x.slice == job.slice)) [
      | inl here ↦ rw here (suc rest.0, omega (arith, rest.1), rest.2)
      | inr away ↦ rw away rest
    ]

-- one job more
pub in_slice_more : (i : ℕ) (jobs : List Job) (k : ℕ) (job : Job) → At jobs k job → in_slice i (take (k + 1) jobs) ≡ in_slice i (take k jobs) ++ (if i == job.slice then job.owed ∷ [] else [])
in_slice_more i jobs k job at =
    let within : k < length jobs = slice_get_within jobs k job at in
    let one : in_slice i (job ∷ []) ≡ (if i == job.slice then job.owed ∷ [] else []) = elim (cases_Bool (i == job.slice)) [
      | inl here ↦ rw (here, eq-eqb job.slice i (sym (eqb-true i job.slice here))) refl
      | inr away ↦ rw (away, ne_eqb job.slice i (λ same. eqb-false i job.slice away (sym same))) refl
    ] in
    ap (in_slice i) (take_more jobs k job within ∙ ap (λ x. take k jobs ++ x ∷ []) (get_or_from_slice_get jobs k job job at))
    ∙ (in_slice_append i (take k jobs) (job ∷ []) ∙ ap (λ os. in_slice i (take k jobs) ++ os) one)

-- ---- the same in each slice of a domain

-- this in the first slices of a domain, so many
abbrev pub first_of_domain : Parameters → ℕ → Owed → ℕ → List Job
first_of_domain m domain owed n = map (λ x. record { slice = slice_number m domain x; owed = owed }) (range_with_len 0 n)

-- one slice more
pub one_more_of_domain : (m : Parameters) (domain : ℕ) (owed : Owed) (n : ℕ) → first_of_domain m domain owed (suc n) ≡ first_of_domain m domain owed n ++ record { slice = slice_number m domain n; owed = owed } ∷ []
one_more_of_domain m domain owed n =
    let job : ℕ → Job = λ x. record { slice = slice_number m domain x; owed = owed } in
    let next : suc n ≡ n + 1 = omega arith in
    ap (first_of_domain m domain owed) next ∙ map-range_with_len_more job 0 n n (omega arith)

-- a slice of none of these
pub in_slice-none_of_domain : (m : Parameters) (domain : ℕ) (owed : Owed) (i n : ℕ) → ((x : ℕ) → x < n → slice_number m domain x ≢ i) → in_slice i (first_of_domain m domain owed n) ≡ []
in_slice-none_of_domain m domain owed i zero none = refl
in_slice-none_of_domain m domain owed i (suc n) none =
    let job : Job = record { slice = slice_number m domain n; owed = owed } in
    let last : in_slice i (job ∷ []) ≡ [] = rw (ne_eqb (slice_number m domain n) i (none n (omega arith))) refl in
    ap (in_slice i) (one_more_of_domain m domain owed n)
    ∙ (in_slice_append i (first_of_domain m domain owed n) (job ∷ [])
    ∙ (ap (λ os. os ++ in_slice i (job ∷ [])) (in_slice-none_of_domain m domain owed i n (λ x below. none x (omega (arith, below)))) ∙ last))

-- a slice of one of these
pub in_slice-one_of_domain : (m : Parameters) (domain : ℕ) (owed : Owed) (i r n : ℕ) → r < n → slice_number m domain r ≡ i → in_slice i (first_of_domain m domain owed n) ≡ owed ∷ []
in_slice-one_of_domain m domain owed i r zero below is = absurd (omega arith)
in_slice-one_of_domain m domain owed i r (suc n) below is =
    let job : Job = record { slice = slice_number m domain n; owed = owed } in
    ap (in_slice i) (one_more_of_domain m domain owed n)
    ∙ (in_slice_append i (first_of_domain m domain owed n) (job ∷ [])
    ∙ elim (cases_lt r n) [
      | inl before ↦
          let last : in_slice i (job ∷ []) ≡ [] = rw (ne_eqb (slice_number m domain n) i (λ same. omega (arith, same, is, before))) refl in
          ap (λ os. os ++ in_slice i (job ∷ [])) (in_slice-one_of_domain m domain owed i r n before is) ∙ ap (λ os. owed ∷ os) last
      | inr after ↦
          let here : r ≡ n = omega (arith, below, after) in
          let last : in_slice i (job ∷ []) ≡ owed ∷ [] = rw (eq-eqb (slice_number m domain n) i (ap (slice_number m domain) (sym here) ∙ is)) refl in
          ap (λ os. os ++ in_slice i (job ∷ [])) (in_slice-none_of_domain m domain owed i n (λ x less same. omega (arith, same, is, less, here))) ∙ last
    ])

-- a domain has each of its slices once
pub in_domain_in : (m : Parameters) (domain : ℕ) (owed : Owed) (i : ℕ) → 0 < m.slices → in_slice i (in_domain m domain owed) ≡ (if domain == domain_in m i then owed ∷ [] else [])
in_domain_in m domain owed i some = elim (cases_Bool (domain == domain_in m i)) [
  | inl here ↦
      let is : domain ≡ i / m.slices = eqb-true domain (domain_in m i) here in
      let product : domain * m.slices ≡ i / m.slices * m.slices = ap (λ d. d * m.slices) is in
      rw here (in_slice-one_of_domain m domain owed i (i % m.slices) m.slices (mod_below i m.slices some) (omega (arith, product, div-add-mod' i m.slices)))
  | inr away ↦
      rw away (in_slice-none_of_domain m domain owed i m.slices
      (λ x below same. eqb-false domain (domain_in m i) away (sym (of_domain m domain i some (omega (arith, same)) (omega (arith, same, below))))))
]

-- ---- a command

-- part by part
pub in_slice-flat_map : {A : Type 0} (i : ℕ) (jobs : A → List Job) (owed : A → List Owed) → ((x : A) → in_slice i (jobs x) ≡ owed x) → (xs : List A) → in_slice i (flat_map jobs xs) ≡ flat_map owed xs
in_slice-flat_map i jobs owed each [] = refl
in_slice-flat_map i jobs owed each (x ∷ xs) =
    in_slice_append i (jobs x) (flat_map jobs xs) ∙ (ap (λ os. os ++ in_slice i (flat_map jobs xs)) (each x) ∙ ap (λ os. owed x ++ os) (in_slice-flat_map i jobs owed each xs))

-- the looks for one (domain, RMID)
pub look_in_slice : (m : Parameters) (i epoch : ℕ) (need : ℕ × ℕ) → 0 < m.slices → in_slice i (look_jobs m epoch need) ≡ look_in m i epoch need
look_in_slice m i epoch need some = in_domain_in m need.0 (record { epoch = epoch; what = whats.Look need.1 0 }) i some

-- the same in each slice
target_in_slice : (m : Parameters) (i : ℕ) (owed : Owed) (t : Target) → 0 < m.slices → in_slice i (at_target m t owed) ≡ (if is_target m i t then owed ∷ [] else [])
target_in_slice m i owed (EachSlice domain) some = in_domain_in m domain owed i some
target_in_slice m i owed (SliceOf domain line) some = refl

-- what one follow-up makes
pub follow_in_slice : (m : Parameters) (i epoch : ℕ) (f : Follow) → 0 < m.slices → in_slice i (follow_jobs m epoch f) ≡ follow_in m i epoch f
follow_in_slice m i epoch f some = target_in_slice m i (record { epoch = epoch; what = what_of f }) (goes_to f) some

-- what is owed to a slice is what its jobs there are
pub owed_are : (script : ScriptValue) (tree : List TreeEntryValue) (i k : ℕ) (op : Op) → 0 < script.machine.slices → in_slice i (jobs_of script tree k op) ≡ owed_by_command script tree i k op
unfolding looks_of follows_of owed_by_command
owed_are script tree i k op some =
    let m : Parameters = script.machine in
    let s = tree_after script (take k tree) in
    let looks : in_slice i (flat_map (look_jobs m k) (needs m s op)) ≡ flat_map (look_in m i k) (needs m s op) = in_slice-flat_map i (look_jobs m k) (look_in m i k) (λ need. look_in_slice m i k need some) (needs m s op) in
    let follows : in_slice i (flat_map (follow_jobs m (k + 1)) (after m s k op)) ≡ flat_map (follow_in m i (k + 1)) (after m s k op) =
    in_slice-flat_map i (follow_jobs m (k + 1)) (follow_in m i (k + 1)) (λ f. follow_in_slice m i (k + 1) f some) (after m s k op) in
    in_slice_append i (flat_map (look_jobs m k) (needs m s op)) (flat_map (follow_jobs m (k + 1)) (after m s k op))
    ∙ (ap (λ os. os ++ in_slice i (flat_map (follow_jobs m (k + 1)) (after m s k op))) looks ∙ ap (λ os. flat_map (look_in m i k) (needs m s op) ++ os) follows)
