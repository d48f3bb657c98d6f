-- What the arguments of a line keep to.
use Rattle.std.proofs.Common.{◌≡◌, ℕ, ◌+◌, ◌-◌, ◌*◌, ◌^◌, ◌<◌, ◌≤◌, Bool, true, false, cond, ◌&&◌, ◌||◌, eqb, ltb, leb, List, [], ◌∷◌, Contains, Option, Some, None, IfSome, option_and_then, refl, subst, ◌∙◌, arith, leb-true, leb-false}
use Rattle.std.specs.List.{list_any}
use Rattle.std.proofs.lemmas.Bool.{and_parts, or_parts}
use Rattle.std.proofs.lemmas.List.Elements.{Contains-append_left, Contains-append_right}
use Rattle.std.proofs.lemmas.List.FromFn.{get_or-range_with_len, length-range_with_len}
use Rattle.num_text.proofs.laws.Limits.{below-lt}
use Rattle.num_text.specs.Numbers.{dec_of, num_of, below, capped}
use Rattle.machine.specs.declared.parameters.Parameters.{Parameters}
use Rattle.script_lines.specs.declared.arguments.Use.{Use}
use Rattle.script_lines.specs.declared.arguments.Sweep.{Sweep}
use Rattle.script_ops.specs.declared.op.Op.TheVariants as ops
use Rattle.script_lines.specs.declared.tasks.TaskRange.{TaskRange}
use Rattle.script_lines.specs.Arguments.{cpu_of, addr_of, use_of, access_of, flush_of, sweep_of, touch_of, trace_of, drop_line_of}
use Rattle.script_ops.specs.Fits.{Fits}
use Rattle.script_lines.specs.Tasks.{has_task, task_of, size_of, ids_in, ids_of}

-- ---- values that may be missing

module _ {B : Type 0} (P : B → Type 0) where
  -- what follows a value keeps to it
  IfSome-and_then : {A : Type 0} (f : A → Option B) (o : Option A) → ((x : A) → o ≡ Some x → IfSome (f x) P) → IfSome (option_and_then f o) P
  IfSome-and_then f None h = tt
  IfSome-and_then f (Some x) h = h x refl

  -- a value that is there keeps to it
  IfSome-some : (o : Option B) (x : B) → o ≡ Some x → IfSome o P → P x
  IfSome-some o x e h = subst (λ (o : Option B). IfSome o P) e h

-- ---- a task on a CPU

abbrev Used : Parameters → ℕ → Use → Type 0
Used m limit u = (u.cpu < m.cpus) × (u.at < limit)

-- a use is of a CPU of the machine, and below the limit of its place
IfSome-use_of : (m : Parameters) (task cpu : List ℕ) (limit : ℕ) (place : Option ℕ) → IfSome (use_of m task cpu (below limit place)) (Used m limit)
unfolding use_of
IfSome-use_of m task cpu limit place =
    IfSome-and_then (Used m limit) _ (capped (dec_of task)) (λ t e.
    IfSome-and_then (Used m limit) _ (cpu_of m cpu) (λ c h.
    IfSome-and_then (Used m limit) _ (below limit place) (λ at g. (below-lt m.cpus (dec_of cpu) c h, below-lt limit place at g))))

-- an access
IfSome-access_of : (m : Parameters) (words : List (List ℕ)) → IfSome (access_of m words) (Used m (2 ^ 48))
IfSome-access_of m [] = tt
IfSome-access_of m (task ∷ []) = tt
IfSome-access_of m (task ∷ cpu ∷ []) = tt
IfSome-access_of m (task ∷ cpu ∷ addr ∷ []) = IfSome-use_of m task cpu (2 ^ 48) (num_of addr)
IfSome-access_of m (task ∷ cpu ∷ addr ∷ more ∷ rest) = tt

-- an access
pub access_of-fits : (m : Parameters) (words : List (List ℕ)) (u : Use) → access_of m words ≡ Some u → (u.cpu < m.cpus) × (u.at < 2 ^ 48)
access_of-fits m words u e = IfSome-some (Used m (2 ^ 48)) (access_of m words) u e (IfSome-access_of m words)

-- a touch
IfSome-touch_of : (m : Parameters) (words : List (List ℕ)) → IfSome (touch_of m words) (λ t. t.1.cpu < m.cpus)
unfolding touch_of
IfSome-touch_of m [] = tt
IfSome-touch_of m (path ∷ []) = tt
IfSome-touch_of m (path ∷ offset ∷ []) = tt
IfSome-touch_of m (path ∷ offset ∷ task ∷ []) = tt
IfSome-touch_of m (path ∷ offset ∷ task ∷ cpu ∷ []) =
    IfSome-and_then (λ t. t.1.cpu < m.cpus) _ (use_of m task cpu (below (2 ^ 64) (num_of offset))) (λ u e.
    (IfSome-some (Used m (2 ^ 64)) _ u e (IfSome-use_of m task cpu (2 ^ 64) (num_of offset))).0)
IfSome-touch_of m (path ∷ offset ∷ task ∷ cpu ∷ more ∷ rest) = tt

-- a touch
pub touch_of-fits : (m : Parameters) (words : List (List ℕ)) (t : List ℕ × Use) → touch_of m words ≡ Some t → t.1.cpu < m.cpus
touch_of-fits m words t e = IfSome-some (λ t. t.1.cpu < m.cpus) (touch_of m words) t e (IfSome-touch_of m words)

-- ---- an address alone

-- `clflush ADDR`
IfSome-drop_line_of : (words : List (List ℕ)) → IfSome (drop_line_of words) (λ addr. addr < 2 ^ 48)
IfSome-drop_line_of [] = tt
IfSome-drop_line_of (word ∷ []) = at (addr_of word) refl
  where
    at : (o : Option ℕ) → addr_of word ≡ o → IfSome o (λ addr. addr < 2 ^ 48)
    at None e = tt
    at (Some addr) e = below-lt (2 ^ 48) (num_of word) addr e
IfSome-drop_line_of (word ∷ more ∷ rest) = tt

-- its address is below 2^48
pub drop_line_of-fits : (words : List (List ℕ)) (addr : ℕ) → drop_line_of words ≡ Some addr → addr < 2 ^ 48
drop_line_of-fits words addr e = IfSome-some (λ addr. addr < 2 ^ 48) (drop_line_of words) addr e (IfSome-drop_line_of words)

-- ---- a domain

-- a flush
IfSome-flush_of : (m : Parameters) (tasks : List ℕ) (words : List (List ℕ)) → IfSome (flush_of m words) (λ domain. Fits m tasks (ops.Flush domain))
IfSome-flush_of m tasks [] = tt
IfSome-flush_of m tasks (word ∷ []) = IfSome-and_then (λ domain. Fits m tasks (ops.Flush domain)) _ (below m.domains (dec_of word)) (λ d e. below-lt m.domains (dec_of word) d e)
IfSome-flush_of m tasks (word ∷ more ∷ rest) = tt

-- a flush
pub flush_of-fits : (m : Parameters) (tasks : List ℕ) (words : List (List ℕ)) (domain : Option ℕ) → flush_of m words ≡ Some domain → Fits m tasks (ops.Flush domain)
flush_of-fits m tasks words domain e = IfSome-some (λ domain. Fits m tasks (ops.Flush domain)) (flush_of m words) domain e (IfSome-flush_of m tasks words)

-- ---- a sweep

abbrev Swept : Parameters → Sweep → Type 0
Swept m w = (w.first.cpu < m.cpus) × (w.first.at + (w.count - 1) * w.stride < 2 ^ 48)

-- a sweep
IfSome-sweep_of : (m : Parameters) (words : List (List ℕ)) → IfSome (sweep_of m words) (Swept m)
unfolding sweep_of
IfSome-sweep_of m [] = tt
IfSome-sweep_of m (task ∷ []) = tt
IfSome-sweep_of m (task ∷ cpu ∷ []) = tt
IfSome-sweep_of m (task ∷ cpu ∷ addr ∷ []) = tt
IfSome-sweep_of m (task ∷ cpu ∷ addr ∷ count ∷ []) = tt
IfSome-sweep_of m (task ∷ cpu ∷ addr ∷ count ∷ stride ∷ []) =
    IfSome-and_then (Swept m) _ (use_of m task cpu (addr_of addr)) (λ u e.
    IfSome-and_then (Swept m) _ (capped (dec_of count)) (λ n h.
    IfSome-and_then (Swept m) _ (below (2 ^ 64) (num_of stride)) (λ d g.
    at u n d (IfSome-some (Used m (2 ^ 48)) _ u e (IfSome-use_of m task cpu (2 ^ 48) (num_of addr))).0 (eqb n 0 || leb (2 ^ 48) (u.at + (n - 1) * d)) refl)))
  where
    at : (u : Use) (n d : ℕ) → u.cpu < m.cpus → (b : Bool) → (eqb n 0 || leb (2 ^ 48) (u.at + (n - 1) * d)) ≡ b → IfSome (cond b None (Some (record { first = u; count = n; stride = d }))) (Swept m)
    at u n d cpu true e = tt
    at u n d cpu false e = (cpu, leb-false _ _ (or_parts (eqb n 0) _ e).1)
IfSome-sweep_of m (task ∷ cpu ∷ addr ∷ count ∷ stride ∷ more ∷ rest) = tt

-- the parts of a sweep
pub sweep_of-fits : (m : Parameters) (words : List (List ℕ)) (w : Sweep) → sweep_of m words ≡ Some w → (w.first.cpu < m.cpus) × (w.first.at + (w.count - 1) * w.stride < 2 ^ 48)
sweep_of-fits m words w e = IfSome-some (Swept m) (sweep_of m words) w e (IfSome-sweep_of m words)

-- ---- a task on a CPU alone

-- the words TASK CPU
IfSome-trace_of : (m : Parameters) (words : List (List ℕ)) → IfSome (trace_of m words) (λ u. u.cpu < m.cpus)
unfolding use_of
IfSome-trace_of m [] = tt
IfSome-trace_of m (task ∷ []) = tt
IfSome-trace_of m (task ∷ cpu ∷ []) =
    IfSome-and_then (λ (u : Use). u.cpu < m.cpus) _ (capped (dec_of task)) (λ t e.
    IfSome-and_then (λ (u : Use). u.cpu < m.cpus) _ (cpu_of m cpu) (λ c h. below-lt m.cpus (dec_of cpu) c h))
IfSome-trace_of m (task ∷ cpu ∷ more ∷ rest) = tt

-- its CPU is one of the machine's
pub trace_of-fits : (m : Parameters) (words : List (List ℕ)) (u : Use) → trace_of m words ≡ Some u → u.cpu < m.cpus
trace_of-fits m words u e = IfSome-some (λ (u : Use). u.cpu < m.cpus) (trace_of m words) u e (IfSome-trace_of m words)

-- ---- a task

-- a task of a range is one of its ids
Contains-ids_in : (t : TaskRange) (id : ℕ) → has_task id t ≡ true → Contains (ids_in t) id
Contains-ids_in t id h =
    let low : t.first ≤ id = leb-true _ _ (and_parts (leb t.first id) (leb id t.last) h).0 in
    let high : id ≤ t.last = leb-true _ _ (and_parts (leb t.first id) (leb id t.last) h).1 in
    (id - t.first, omega (arith, low, high, length-range_with_len t.first (size_of t)), get_or-range_with_len t.first (size_of t) (id - t.first) id (omega (arith, low, high)) ∙ omega (arith, low))

-- a task of ranges is one of their ids
Contains-ids_of : (all : List TaskRange) (id : ℕ) → list_any (has_task id) all ≡ true → Contains (ids_of all) id
Contains-ids_of [] id h = absurd cc
Contains-ids_of (t ∷ ts) id h = at (has_task id t) refl h (Contains-ids_of ts id)
  where
    at : (b : Bool) → has_task id t ≡ b → (b || list_any (has_task id) ts) ≡ true → (list_any (has_task id) ts ≡ true → Contains (ids_of ts) id) → Contains (ids_of (t ∷ ts)) id
    at true e h rest = Contains-append_left (ids_in t) (ids_of ts) id (Contains-ids_in t id e)
    at false e h rest = Contains-append_right (ids_in t) (ids_of ts) id (rest h)

-- a declared task is one of the ids
IfSome-task_of : (all : List TaskRange) (id : ℕ) → IfSome (task_of all id) (Contains (ids_of all))
IfSome-task_of all id = at (ltb id (2 ^ 32) && list_any (has_task id) all) refl
  where
    at : (b : Bool) → (ltb id (2 ^ 32) && list_any (has_task id) all) ≡ b → IfSome (cond b (Some id) None) (Contains (ids_of all))
    at true e = Contains-ids_of all id (and_parts (ltb id (2 ^ 32)) _ e).1
    at false e = tt

-- a task of a line is declared
pub task_of-declared : (all : List TaskRange) (id task : ℕ) → task_of all id ≡ Some task → Contains (ids_of all) task
task_of-declared all id task e = IfSome-some (Contains (ids_of all)) (task_of all id) task e (IfSome-task_of all id)
