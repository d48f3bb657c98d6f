-- What the quotas of a thread's passes are, and that they have room.
use Rattle.std.proofs.Common.{◌≡◌, ℕ, suc, ◌-◌, ◌<◌, ◌≤◌, ◌==◌, inl, inr, List, [], ◌∷◌, ◌++◌, length, map, filter, replicate, get_or, refl, sym, ap, ap₂, ◌∙◌, arith}
use Rattle.std.specs.Prelude.{sum, sum_by}
use Rattle.std.proofs.Math.ListN.{get_or-map}
use Rattle.std.proofs.lemmas.Bool.{cases_Bool, cases_lt}
use Rattle.std.proofs.lemmas.List.{get_or_append_left, get_or-append_right, get_or-replicate, get_or_past, length-map, length-replicate}
use Rattle.std.proofs.lemmas.List.Folds.{sum_by-replicate}
use Rattle.std.proofs.lemmas.List.Sums.{sum-map, sum_by-append}
use Rattle.live_law.specs.Room.{commands_from, entries_by, slice_quota, tree_quota}
use Rattle.live_law.proofs.laws.Prefixes.{filter-no_more}
use Rattle.live_law.specs.SeenJournals.{SeesMore, is_by}
use Rattle.live_run.proofs.Bridges.{seen-slice}
use Rattle.live_run.specs.Cells.{AreOfThreads, IsSeen, made_by, taken_from}
use Rattle.live_run.specs.Names.{SeenValue, pass_at, seen_by}
use Rattle.live_run.specs.Quotas.{HaveQuotas, slice_quotas, tree_quotas}
use Rattle.live_run.specs.Visits.{HasRoomIn, HasRoomInTree}
use Rattle.machine.specs.Slices.{slice_count}
use Rattle.machine.proofs.laws.Slices.{slice_number-lt}
use Rattle.run_law.proofs.laws.LightRooms.{commands-light, room-light}
use Rattle.run_law.specs.Entries.{entry_value}
use Rattle.run_law.specs.Journals.{JournalsValue, slice_at}
use Rattle.run_law.specs.Quotas.{command_count, commands_of, quotas_of, room_of}
use Rattle.script_ops.specs.Values.{IsLawful, ScriptValue, threads_of}
use Rattle.script_ops.specs.declared.limits.TheConstants.{MOST_WEIGHT}
use Rattle.script_ops.specs.declared.op.Op.{Op}
use Rattle.seen_journal.specs.Entries.{entries_of, list_of}
use Rattle.seen_journal.specs.Journals.{JournalName}
use Rattle.seen_journal.specs.Passes.{own_entries, quota_of}

-- ---- a thread's entries

-- a pass's entries are those of its thread
entries_of-filter : {E : Type 0} (thread : E → ℕ) (n : ℕ) (xs : List (ℕ × E)) → AreOfThreads thread xs → entries_of n xs ≡ filter (λ e. thread e == n) (list_of xs)
entries_of-filter thread n [] threads = refl
entries_of-filter thread n (x ∷ xs) threads =
    let rest = entries_of-filter thread n xs (λ k y at. threads (suc k) y at) in
    let same : x.0 ≡ thread x.1 = sym (threads 0 x refl) in
    elim (cases_Bool (thread x.1 == n)) [
      | inl own ↦ rw (same, own) (ap (λ l. x.1 ∷ l) rest)
      | inr other ↦ rw (same, other) rest
    ]

-- a filter of mapped elements
length-filter_mapped : {A B : Type 0} (f : A → B) (thread : B → ℕ) (t : ℕ) (xs : List A) → length (filter (λ y. thread y == t) (map f xs)) ≡ length (filter (λ x. thread (f x) == t) xs)
length-filter_mapped f thread t [] = refl
length-filter_mapped f thread t (x ∷ xs) =
    let rest = length-filter_mapped f thread t xs in
    elim (cases_Bool (thread (f x) == t)) [
      | inl own ↦ rw own (omega (arith, rest))
      | inr other ↦ rw other rest
    ]

-- a thread that has seen more has no more of its own
pub entries_by-more : (v w : JournalsValue) (i t : ℕ) → SeesMore t v w → entries_by w i t ≡ entries_by v i t
entries_by-more v w i t more = filter-no_more (is_by t) (is_by t) (slice_at v i) (slice_at w i) (more.slices i) (λ e other. other)

-- ---- quotas

-- quotas that are the same
get_or-same : (n t q : ℕ) → get_or (replicate n q) t q ≡ q
get_or-same n t q = elim (cases_lt t n) [
  | inl within ↦ get_or-replicate n t q q within
  | inr past ↦ get_or_past (replicate n q) t q (omega (arith, past, length-replicate n q))
]

-- the quota of a thread, before others that are none
pub get_or-quotas : (f : List Op → ℕ) (threads : List (List Op)) (n t : ℕ) → f [] ≡ 0 → get_or (map f threads ++ replicate n 0) t 0 ≡ f (get_or threads t [])
get_or-quotas f threads n t none = elim (cases_lt t (length threads)) [
  | inl within ↦
      get_or_append_left (map f threads) (replicate n 0) 0 t (omega (arith, within, length-map threads f))
      ∙ (ap (get_or (map f threads) t) (sym none) ∙ get_or-map f threads t [])
  | inr past ↦
      get_or-append_right (map f threads) (replicate n 0) (length (map f threads)) t 0 refl (omega (arith, past, length-map threads f))
      ∙ (get_or-same n (t - length (map f threads)) 0 ∙ (sym none ∙ ap f (sym (get_or_past threads t [] past))))
]

-- all commands
sum-tree_own : (script : ScriptValue) → sum (tree_quotas script) ≡ command_count script
unfolding command_count
sum-tree_own script =
    sum_by-append (λ x. x) (map commands_of (threads_of script)) (replicate (slice_count script.machine) 0)
    ∙ omega (arith, sum-map commands_of (threads_of script), sum_by-replicate (λ x. x) (slice_count script.machine) 0)

-- they fit into the tree's journal
pub sum-tree_quotas : (script : ScriptValue) (tree : JournalName) (slices : List JournalName) → HaveQuotas script tree slices → sum tree.quotas ≡ command_count script
sum-tree_quotas script tree slices quotas = ap sum quotas.tree_are ∙ sum-tree_own script

-- no script has more
pub tree_quotas-light : (script : ScriptValue) → IsLawful script → sum (tree_quotas script) ≤ MOST_WEIGHT
tree_quotas-light script lawful = omega (arith, sum-tree_own script, commands-light script lawful)

-- nor more entries in a slice
pub slice_quotas-light : (script : ScriptValue) (i : ℕ) → i < slice_count script.machine → IsLawful script → sum (slice_quotas script i) ≤ MOST_WEIGHT
unfolding room_of
slice_quotas-light script i within lawful =
    let whole : sum (slice_quotas script i) ≡ sum_by (quotas_of script.machine i) (threads_of script) =
    sum_by-append (λ x. x) (map (quotas_of script.machine i) (threads_of script)) (0 ∷ []) ∙ omega (arith, sum-map (quotas_of script.machine i) (threads_of script)) in
    omega (arith, whole, room-light script i within lawful)

-- a machine has some slice
pub some_slice : (script : ScriptValue) → IsLawful script → 0 < slice_count script.machine
some_slice script lawful = omega (arith, slice_number-lt script.machine 0 0 lawful.in_range.some_domain lawful.in_range.some_slice)

module _ (script : ScriptValue) (tree : JournalName) (slices : List JournalName) (s : SeenValue) (seen : IsSeen script tree slices s) where
  -- the quota of its pass of a slice
  pub quota_of-slice : (i : ℕ) → i < slice_count script.machine → quota_of (pass_at s i) ≡ slice_quota script i s.thread
  quota_of-slice i within =
      let there : i < length s.slices = omega (arith, within, seen.count) in
      ap₂ (λ (n : JournalName) k. get_or n.quotas k 0) (seen.names i there) (seen.numbers i there)
      ∙ (ap (λ (qs : List ℕ). get_or qs s.thread 0) (seen.quotas.slices_are i within) ∙ get_or-quotas (quotas_of script.machine i) (threads_of script) 1 s.thread refl)

  -- and of its pass of the tree
  pub quota_of-tree : quota_of s.tree ≡ tree_quota script s.thread
  quota_of-tree =
      ap₂ (λ (n : JournalName) k. get_or n.quotas k 0) seen.tree_name seen.tree_number
      ∙ (ap (λ (qs : List ℕ). get_or qs s.thread 0) seen.quotas.tree_are ∙ get_or-quotas commands_of (threads_of script) (slice_count script.machine) s.thread refl)

  -- its entries in a slice
  pub own_entries-slice : (i : ℕ) → i < slice_count script.machine → own_entries (pass_at s i) ≡ entries_by (seen_by s) i s.thread
  own_entries-slice i within =
      let there : i < length s.slices = omega (arith, within, seen.count) in
      entries_of-filter made_by (pass_at s i).number (pass_at s i).seen (seen.threads i there)
      ∙ (ap (λ n. filter (is_by n) (list_of (pass_at s i).seen)) (seen.numbers i there) ∙ ap (filter (is_by s.thread)) (sym (seen-slice s i)))

  -- and its commands
  pub own_entries-tree : length (own_entries s.tree) ≡ length (commands_from (seen_by s) s.thread)
  own_entries-tree =
      ap length (entries_of-filter taken_from s.tree.number s.tree.seen seen.tree_threads ∙ ap (λ n. filter (λ h. taken_from h == n) (list_of s.tree.seen)) seen.tree_number)
      ∙ sym (length-filter_mapped entry_value (λ h. h.thread) s.thread (list_of s.tree.seen))

  -- so there is room for an entry
  pub room-slice : (i : ℕ) → i < slice_count script.machine → HasRoomIn script i s → length (own_entries (pass_at s i)) < quota_of (pass_at s i)
  room-slice i within room = omega (arith, room, ap length (own_entries-slice i within), quota_of-slice i within)

  -- and for a command
  pub room-tree : HasRoomInTree script s → length (own_entries s.tree) < quota_of s.tree
  room-tree room = omega (arith, room, own_entries-tree, quota_of-tree)
