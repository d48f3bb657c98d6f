-- The epochs of the entries that a command makes, and which of them are looks.
use Rattle.std.proofs.Common.{◌≡◌, ℕ, zero, suc, ◌+◌, ◌-◌, ◌≤◌, inl, inr, List, [], ◌∷◌, ◌++◌, length, map, take, None, refl, sym, ap, ◌∙◌, subst, arith}
use Rattle.std.specs.List.{flat_map, range_with_len}
use Rattle.std.proofs.lemmas.List.{length-map, map-append}
use Rattle.std.proofs.Math.Seq.{take-length}
use Rattle.cache_core.specs.declared.entry.What.TheVariants as whats
use Rattle.machine.specs.declared.parameters.Parameters.{Parameters}
use Rattle.run_law.specs.Journals.{At}
use Rattle.run_law.specs.Owed.{Owed, what_of}
use Rattle.run_law.specs.Looks.{look_number}
use Rattle.machine.specs.Slices.{slice_number, slice_of_line}
use Rattle.run_law.specs.TreeHistory.{TreeEntryValue, tree_after}
use Rattle.script_ops.specs.Values.{ScriptValue}
use Rattle.script_ops.specs.declared.op.Op.{Op}
use Rattle.tree_law.specs.Steps.{Target, EachSlice, SliceOf, after, goes_to, needs}
use Rattle.tree_law.specs.declared.follow.Follow.{Follow}
use Rattle.tree_law.specs.declared.follow.Follow.TheVariants as follows
use Rattle.run_law.proofs.laws.Positions.{At-append}
use Rattle.run_law.specs.FoundLooks.{look_pairs, pairs_of}
use Rattle.run_law.specs.Jobs.{Job, at_target, follow_jobs, follows_of, jobs_of, look_jobs, looks_of}

-- ---- epochs of jobs

-- what holds of each holds of those of a mapped list
pub At-map_each : (P : Job → Type 0) (f : ℕ → Job) → ((x : ℕ) → P (f x)) → (xs : List ℕ) (k : ℕ) (job : Job) → At (map f xs) k job → P job
At-map_each P f each [] k job at = absurd cc
At-map_each P f each (x ∷ xs) zero job at = let same : f x ≡ job = cc in subst P same (each x)
At-map_each P f each (x ∷ xs) (suc k) job at = At-map_each P f each xs k job at

-- what is said of the same in each slice
target_such : (m : Parameters) (owed : Owed) (P : Job → Type 0) (t : Target) → ((s : ℕ) → P (record { slice = s; owed = owed })) → (k : ℕ) (job : Job) → At (at_target m t owed) k job → P job
target_such m owed P (EachSlice domain) each k job at = At-map_each P (λ x. record { slice = slice_number m domain x; owed = owed }) (λ x. each (slice_number m domain x)) (range_with_len 0 m.slices) k job at
target_such m owed P (SliceOf domain line) each k job at = At-map_each P (λ x. record { slice = slice_of_line m domain line; owed = owed }) (λ x. each (slice_of_line m domain line)) (0 ∷ []) k job at

-- what is said of each job of a follow-up, whatever its slice
pub follow_jobs_such : (m : Parameters) (epoch : ℕ) (P : Job → Type 0) (f : Follow) → ((s : ℕ) → P (record { slice = s; owed = record { epoch = epoch; what = what_of f } })) → (k : ℕ) (job : Job) → At (follow_jobs m epoch f) k job → P job
follow_jobs_such m epoch P f each k job at = target_such m (record { epoch = epoch; what = what_of f }) P (goes_to f) each k job at

-- jobs of one epoch
pub same_epoch : (f : ℕ → Job) (epoch : ℕ) → ((x : ℕ) → (f x).owed.epoch ≡ epoch) → (xs : List ℕ) (k : ℕ) (job : Job) → At (map f xs) k job → job.owed.epoch ≡ epoch
same_epoch f epoch each [] k job at = absurd cc
same_epoch f epoch each (x ∷ xs) zero job at = let same : f x ≡ job = cc in ap (λ (y : Job). y.owed.epoch) (sym same) ∙ each x
same_epoch f epoch each (x ∷ xs) (suc k) job at = same_epoch f epoch each xs k job at

-- jobs of one epoch, part by part
pub all_of_epoch : {A : Type 0} (jobs : A → List Job) (epoch : ℕ) → ((x : A) (k : ℕ) (job : Job) → At (jobs x) k job → job.owed.epoch ≡ epoch)
    → (xs : List A) (k : ℕ) (job : Job) → At (flat_map jobs xs) k job → job.owed.epoch ≡ epoch
all_of_epoch jobs epoch each [] k job at = absurd cc
all_of_epoch jobs epoch each (x ∷ xs) k job at = elim (At-append (jobs x) (flat_map jobs xs) k job at) [
  | inl front ↦ each x k job front
  | inr back ↦ all_of_epoch jobs epoch each xs (k - length (jobs x)) job back.1
]

-- a look has the epoch before its command
pub look_epoch : (script : ScriptValue) (tree : List TreeEntryValue) (k : ℕ) (op : Op) (made : ℕ) (job : Job) → At (looks_of script tree k op) made job → job.owed.epoch ≡ k
unfolding looks_of
look_epoch script tree k op made job at =
    all_of_epoch (look_jobs script.machine k) k
    (λ need n x there. same_epoch (λ s. record { slice = slice_number script.machine need.0 s; owed = record { epoch = k; what = whats.Look need.1 0 } }) k (λ s. refl) (range_with_len 0 script.machine.slices) n x there)
    (needs script.machine (tree_after script (take k tree)) op) made job at

-- a follow-up has the epoch after it
pub follow_epoch : (script : ScriptValue) (tree : List TreeEntryValue) (k : ℕ) (op : Op) (made : ℕ) (job : Job) → At (follows_of script tree k op) made job → job.owed.epoch ≡ k + 1
unfolding follows_of
follow_epoch script tree k op made job at =
    all_of_epoch (follow_jobs script.machine (k + 1)) (k + 1)
    (λ f n x there. follow_jobs_such script.machine (k + 1) (λ (y : Job). y.owed.epoch ≡ k + 1) f (λ s. refl) n x there)
    (after script.machine (tree_after script (take k tree)) k op) made job at

-- a job's epoch is the position of its command, or the next
pub job_epoch : (script : ScriptValue) (tree : List TreeEntryValue) (k : ℕ) (op : Op) (made : ℕ) (job : Job) → At (jobs_of script tree k op) made job → job.owed.epoch ≤ k + 1
job_epoch script tree k op made job at = elim (At-append (looks_of script tree k op) (follows_of script tree k op) made job at) [
  | inl front ↦ omega (arith, look_epoch script tree k op made job front)
  | inr back ↦ omega (arith, follow_epoch script tree k op (made - length (looks_of script tree k op)) job back.1)
]

-- ---- what follows is no look

-- what holds of each part holds of all
pub all_such : {A : Type 0} (P : Job → Type 0) (jobs : A → List Job) → ((x : A) (k : ℕ) (job : Job) → At (jobs x) k job → P job) → (xs : List A) (k : ℕ) (job : Job) → At (flat_map jobs xs) k job → P job
all_such P jobs each [] k job at = absurd cc
all_such P jobs each (x ∷ xs) k job at = elim (At-append (jobs x) (flat_map jobs xs) k job at) [
  | inl front ↦ each x k job front
  | inr back ↦ all_such P jobs each xs (k - length (jobs x)) job back.1
]

-- a follow-up is no look
pub no_look : (rmid : ℕ) (f : Follow) → look_number rmid (what_of f) ≡ None
no_look rmid (follows.Raise domain) = refl
no_look rmid (follows.Flush domain) = refl
no_look rmid (follows.Lock domain mask first_line) = refl
no_look rmid (follows.Touch tag line) = refl
no_look rmid (follows.Drop domain line) = refl

-- what follows a command is no look
pub follow_no_look : (script : ScriptValue) (tree : List TreeEntryValue) (k : ℕ) (op : Op) (made : ℕ) (job : Job) → At (follows_of script tree k op) made job → (rmid : ℕ) → look_number rmid job.owed.what ≡ None
unfolding follows_of
follow_no_look script tree k op made job at rmid =
    all_such (λ (x : Job). look_number rmid x.owed.what ≡ None) (follow_jobs script.machine (k + 1))
    (λ f n x there. follow_jobs_such script.machine (k + 1) (λ (y : Job). look_number rmid y.owed.what ≡ None) f (λ s. no_look rmid f) n x there)
    (after script.machine (tree_after script (take k tree)) k op) made job at

-- ---- the slice and the RMID of a look

-- the look at a (slice, RMID)
abbrev pub look_of : ℕ → ℕ × ℕ → Job
look_of k pair = record { slice = pair.0; owed = record { epoch = k; what = whats.Look pair.1 0 } }

-- a mapped list of parts
pub mapped_all : {A B C : Type 0} (f : B → C) (g : A → List B) (h : A → List C) → ((x : A) → map f (g x) ≡ h x) → (xs : List A) → map f (flat_map g xs) ≡ flat_map h xs
mapped_all f g h each [] = refl
mapped_all f g h each (x ∷ xs) = map-append f (g x) (flat_map g xs) ∙ (ap (λ ys. ys ++ map f (flat_map g xs)) (each x) ∙ ap (λ ys. h x ++ ys) (mapped_all f g h each xs))

-- a list that is mapped twice
pub mapped_twice : {A B C : Type 0} (f : B → C) (g : A → B) (xs : List A) → map f (map g xs) ≡ map (λ x. f (g x)) xs
mapped_twice f g [] = refl
mapped_twice f g (x ∷ xs) = ap (λ ys. f (g x) ∷ ys) (mapped_twice f g xs)

-- the looks of a command are those of its pairs
pub looks_are : (script : ScriptValue) (tree : List TreeEntryValue) (op : Op) → map (look_of (length tree)) (look_pairs script.machine (needs script.machine (tree_after script tree) op)) ≡ looks_of script tree (length tree) op
unfolding looks_of
looks_are script tree op =
    let m : Parameters = script.machine in
    let now : take (length tree) tree ≡ tree = take-length tree in
    mapped_all (look_of (length tree)) (pairs_of m) (look_jobs m (length tree)) (λ need. mapped_twice (look_of (length tree)) (λ x. (slice_number m need.0 x, need.1)) (range_with_len 0 m.slices)) (needs m (tree_after script tree) op)
    ∙ ap (λ hs. flat_map (look_jobs m (length tree)) (needs m (tree_after script hs) op)) (sym now)

-- an element of a mapped list
pub mapped_at : (f : ℕ × ℕ → Job) (xs : List (ℕ × ℕ)) (k : ℕ) (job : Job) → At (map f xs) k job → (x : ℕ × ℕ) × At xs k x × (f x ≡ job)
mapped_at f [] k job at = absurd cc
mapped_at f (x ∷ xs) zero job at = (x, refl, let same : f x ≡ job = cc in same)
mapped_at f (x ∷ xs) (suc k) job at = mapped_at f xs k job at

-- the pair of a look
pub pair_of_look : (script : ScriptValue) (tree : List TreeEntryValue) (op : Op) (k : ℕ) (job : Job) → At (looks_of script tree (length tree) op) k job
    → (pair : ℕ × ℕ) × At (look_pairs script.machine (needs script.machine (tree_after script tree) op)) k pair × (pair.0 ≡ job.slice) × (whats.Look pair.1 0 ≡ job.owed.what)
pair_of_look script tree op k job at =
    let its = mapped_at (look_of (length tree)) (look_pairs script.machine (needs script.machine (tree_after script tree) op)) k job (subst (λ jobs. At jobs k job) (sym (looks_are script tree op)) at) in
    (its.0, its.1, ap (λ (x : Job). x.slice) its.2, ap (λ (x : Job). x.owed.what) its.2)

-- so many looks as pairs
pub looks_count : (script : ScriptValue) (tree : List TreeEntryValue) (op : Op) → length (look_pairs script.machine (needs script.machine (tree_after script tree) op)) ≡ length (looks_of script tree (length tree) op)
looks_count script tree op = sym (length-map (look_pairs script.machine (needs script.machine (tree_after script tree) op)) (look_of (length tree))) ∙ ap length (looks_are script tree op)
