-- The quotas of a thread's passes have room for each entry that it is to make.
use Rattle.std.proofs.Common.{◌≡◌, ℕ, zero, suc, ◌+◌, ◌<◌, ◌≤◌, List, [], ◌∷◌, length, filter, take, drop, get_or, sum_by, Some, refl, sym, ap, ◌∙◌, arith}
use Rattle.std.proofs.lemmas.Bool.{eq-eqb}
use Rattle.std.proofs.lemmas.List.{length-append, length-map, take-append-drop}
use Rattle.std.proofs.lemmas.List.Sums.{sum_by_more_le}
use Rattle.std.proofs.lemmas.Nat.{mod_below}
use Rattle.std.proofs.lemmas.Option.{get_or_from_slice_get, slice_get_within}
use Rattle.cache_core.specs.declared.entry.SliceEntry.{SliceEntry}
use Rattle.lists.specs.Sums.{one_if}
use Rattle.machine.specs.Maps.{domain_of, line_of, set_of, slice_of}
use Rattle.machine.specs.Slices.{slice_count}
use Rattle.machine.proofs.laws.Domains.{domain_of-lt}
use Rattle.machine.proofs.laws.Slices.{slice_number-lt}
use Rattle.run_law.specs.Jobs.{Job, in_slice, jobs_of}
use Rattle.run_law.specs.Journals.{At, JournalsValue, slice_at}
use Rattle.run_law.specs.Ops.{is_command}
use Rattle.run_law.specs.Owed.{paid_by}
use Rattle.run_law.specs.Quotas.{commands_of, quota, quotas_of}
use Rattle.run_law.specs.TreeHistory.{TreeEntryValue}
use Rattle.run_law.proofs.laws.JobLists.{in_slice_append, job_owed}
use Rattle.run_law.proofs.laws.SoundHistories.{Fits-op_at}
use Rattle.script_ops.specs.Values.{IsLawful, ScriptValue, op_at, ops_of}
use Rattle.script_ops.specs.declared.op.Op.{Op}
use Rattle.script_ops.specs.declared.op.Op.TheVariants.{Access}
use Rattle.live_law.specs.Passes.{PassesKeep, PassesKeepFrom}
use Rattle.live_law.specs.Room.{HasRoom, commands_from, entries_by, slice_quota, tree_quota}
use Rattle.live_law.specs.SeenJournals.{made_in}
use Rattle.live_law.specs.Stages.{HoldsTree, IsLooking, slice_reached}
use Rattle.live_law.proofs.laws.OwnCounts.{is_of_first, length-first_all, length-first_few, length-first_next, length-first_same}

-- the thread of an entry
abbrev entry_thread : SliceEntry → ℕ
entry_thread e = e.thread

-- its op
abbrev entry_op : SliceEntry → ℕ
entry_op e = e.op

-- the thread of a command
abbrev command_thread : TreeEntryValue → ℕ
command_thread h = h.thread

-- its op
abbrev command_op : TreeEntryValue → ℕ
command_op h = h.op

-- a sum over the ops before one, and that one
sum_by-next : (script : ScriptValue) (t n : ℕ) (c : Op) (f : Op → ℕ) → op_at script t n ≡ Some c
    → sum_by f (take n (ops_of script t)) + f c ≤ sum_by f (ops_of script t)
sum_by-next script t n c f is =
    let next : get_or (ops_of script t) n c ≡ c = get_or_from_slice_get (ops_of script t) n c c is in
    omega (arith, sum_by_more_le f (ops_of script t) n c (slice_get_within (ops_of script t) n c is), ap f next)

-- ---- what there is

module _ (script : ScriptValue) (start : JournalsValue) (t n taken made : ℕ) (v : JournalsValue)
    (keeps : PassesKeepFrom script start t n taken made v) where
  -- the entries of the ops that are done
  first-few : (i : ℕ) → i < slice_count script.machine → n ≤ length (ops_of script t)
      → length (filter (is_of_first entry_thread entry_op t n) (slice_at v i)) ≤ quotas_of script.machine i (take n (ops_of script t))
  first-few i within fits =
      length-first_few entry_thread entry_op script t (quota script.machine i) (slice_at v i) n fits
      (λ o c less is. keeps.done.few i o c within less is)

  -- where the thread has no others, these are all its entries
  own-few : (i : ℕ) → made ≤ n → i < slice_count script.machine → n ≤ length (ops_of script t)
      → length (entries_by v i t) ≤ quotas_of script.machine i (take n (ops_of script t))
  own-few i none within fits =
      let below : (p : ℕ) (e : SliceEntry) → At (slice_at v i) p e → e.thread ≡ t → e.op < n =
      λ p e at mine. let less = keeps.below.entries i p e at mine in omega (arith, less, none) in
      omega (arith, first-few i within fits, length-first_all entry_thread entry_op t n (slice_at v i) below)

  -- its commands
  own-commands : taken ≤ n → n ≤ length (ops_of script t) → length (commands_from v t) ≡ commands_of (take n (ops_of script t))
  own-commands none fits =
      length-first_all command_thread command_op t n v.tree
      (λ k h at mine. let less = keeps.below.commands k h at mine in omega (arith, less, none))
      ∙ length-first_same command_thread command_op script t (λ op. one_if (is_command op)) v.tree n fits
      (λ o c less is. keeps.done.commands_once o c less is)

-- ---- between two ops

pub entries_by-few : (script : ScriptValue) (t n i : ℕ) (v : JournalsValue)
    → i < slice_count script.machine → n ≤ length (ops_of script t) → PassesKeep script t n v
    → length (entries_by v i t) ≤ quotas_of script.machine i (take n (ops_of script t))
entries_by-few script t n i v within fits keeps = own-few script keeps.start t n n n v keeps.keeps i (omega arith) within fits

pub commands_from-counted : (script : ScriptValue) (t n : ℕ) (v : JournalsValue) → n ≤ length (ops_of script t) → PassesKeep script t n v
    → length (commands_from v t) ≡ commands_of (take n (ops_of script t))
commands_from-counted script t n v fits keeps = own-commands script keeps.start t n n n v keeps.keeps (omega arith) fits

pub HasRoom-op : (script : ScriptValue) (t n : ℕ) (c : Op) (v : JournalsValue)
    → op_at script t n ≡ Some c → PassesKeep script t n v
    → HasRoom script t c v
HasRoom-op script t n c v is keeps =
    let there = slice_get_within (ops_of script t) n c is in
    let fits : n ≤ length (ops_of script t) = omega (arith, there) in
    record {
      entries = λ i within. omega (
        arith,
        entries_by-few script t n i v within fits keeps,
        sum_by-next script t n c (quota script.machine i) is,
      );
      commands = omega (arith, commands_from-counted script t n v fits keeps, sum_by-next script t n c (λ op. one_if (is_command op)) is);
    }

-- the slice of an access is one of the machine
slice_reached-lt : (script : ScriptValue) (t n task cpu addr : ℕ) → IsLawful script → op_at script t n ≡ Some (Access task cpu addr)
    → slice_reached script.machine cpu addr < slice_count script.machine
slice_reached-lt script t n task cpu addr lawful is =
    let set : ℕ = set_of script.machine (line_of addr) in
    slice_number-lt script.machine (domain_of script.machine cpu) (slice_of script.machine set)
    (domain_of-lt script.machine cpu lawful.in_range (Fits-op_at script t n (Access task cpu addr) lawful is).1)
    (mod_below set script.machine.slices lawful.in_range.some_slice)

pub access-room : (script : ScriptValue) (t n task cpu addr : ℕ) (v : JournalsValue)
    → IsLawful script → op_at script t n ≡ Some (Access task cpu addr) → PassesKeep script t n v
    → length (entries_by v (slice_reached script.machine cpu addr) t) < slice_quota script (slice_reached script.machine cpu addr) t
access-room script t n task cpu addr v lawful is keeps =
    let slice : ℕ = slice_reached script.machine cpu addr in
    let room =
    (HasRoom-op script t n (Access task cpu addr) v is keeps).entries slice (slice_reached-lt script t n task cpu addr lawful is) in
    let one : quota script.machine slice (Access task cpu addr) ≡ 1 = ap one_if (eq-eqb slice slice refl) in
    omega (arith, room, one)

-- ---- inside a command

module _ (script : ScriptValue) (start : JournalsValue) (t n taken k : ℕ) (c : Op) (made : ℕ) (v : JournalsValue)
    (holds : HoldsTree script start t n taken k c made v) where
  -- all that the command makes
  abbrev jobs : List Job
  jobs = jobs_of script v.tree k c

  -- what it has made in a slice, and what it has still to make
  in_slice-parts : (i : ℕ) → length (in_slice i jobs) ≡ length (in_slice i (take made jobs)) + length (in_slice i (drop made jobs))
  in_slice-parts i =
      ap (λ js. length (in_slice i js)) (sym (take-append-drop made jobs))
      ∙ (ap length (in_slice_append i (take made jobs) (drop made jobs))
      ∙ length-append (in_slice i (take made jobs)) (in_slice i (drop made jobs)))

  -- all entries of the thread: those of the ops that are done, and those that the command has made
  own-inside : (i : ℕ) → i < slice_count script.machine
      → length (entries_by v i t) ≤ quotas_of script.machine i (take n (ops_of script t)) + length (in_slice i (take made jobs))
  own-inside i within =
      let there = slice_get_within (ops_of script t) n c holds.is_op in
      let next : n + 1 ≡ suc n = omega arith in
      let below : (p : ℕ) (e : SliceEntry) → At (slice_at v i) p e → e.thread ≡ t → e.op < suc n =
      λ p e at mine. let less = holds.keeps.below.entries i p e at mine in omega (arith, less, next) in
      let mine : length (made_in v i t n) ≡ length (in_slice i (take made jobs)) =
      sym (length-map (made_in v i t n) paid_by) ∙ ap length (holds.has i within) in
      omega (
        arith,
        length-first_all entry_thread entry_op t (suc n) (slice_at v i) below,
        length-first_next entry_thread entry_op t n (slice_at v i),
        mine,
        first-few script start t n taken (n + 1) v holds.keeps i within (omega (arith, there)),
      )

  -- there is room for all that it has still to make
  pub jobs-room : (i : ℕ)
      → i < slice_count script.machine
      → length (entries_by v i t) + length (in_slice i (drop made jobs)) ≤ slice_quota script i t
  jobs-room i within =
      omega (
        arith,
        own-inside i within,
        in_slice-parts i,
        holds.few i within,
        sum_by-next script t n c (quota script.machine i) holds.is_op,
      )

  -- so for the next entry
  pub job-room : (job : Job)
      → job.slice < slice_count script.machine → At jobs made job
      → length (entries_by v job.slice t) < slice_quota script job.slice t
  job-room job within at = omega (arith, jobs-room job.slice within, (job_owed (drop made jobs) 0 job (At-drop jobs made at)).1)
    where
      At-drop : (js : List Job) (q : ℕ) → At js q job → At (drop q js) 0 job
      At-drop [] q at = absurd cc
      At-drop (x ∷ js) zero at = at
      At-drop (x ∷ js) (suc q) at = At-drop js q at

-- until the command is decided there is room for it in the tree's history
pub command-room : (script : ScriptValue) (start : JournalsValue) (t n : ℕ) (c : Op) (found : List ℕ) (v : JournalsValue)
    → IsLooking script start t n c found v
    → length (commands_from v t) < tree_quota script t
command-room script start t n c found v looks =
    let there = slice_get_within (ops_of script t) n c looks.holds.is_op in
    omega (
      arith,
      own-commands script start t n n (n + 1) v looks.holds.keeps (omega arith) (omega (arith, there)),
      sum_by-next script t n c (λ op. one_if (is_command op)) looks.holds.is_op,
      ap one_if looks.holds.command,
    )
