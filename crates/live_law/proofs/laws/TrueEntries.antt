-- When all threads are at their ends, each entry is true to its op, and comes after the commands before its epoch.
use Rattle.std.proofs.Common.{◌≡◌, ℕ, ◌<◌, ◌≤◌, inl, inr, List, [], length, filter, map, take, get_or, Option, Some, None, refl, sym, ap, ◌∙◌, subst, arith}
use Rattle.std.specs.Prelude.{◌==◌, IsTrue, Contains}
use Rattle.std.proofs.lemmas.Bool.{cases_lt}
use Rattle.std.proofs.lemmas.List.{get_or_past, length-map}
use Rattle.std.proofs.lemmas.Option.{get_or_from_slice_get, slice_get_within}
use Rattle.cache_core.specs.declared.entry.SliceEntry.{SliceEntry}
use Rattle.lists.specs.Sums.{one_if}
use Rattle.machine.specs.Slices.{slice_count}
use Rattle.rc_base.proofs.laws.Histories.{EachFollows-at}
use Rattle.run_law.specs.Journals.{At, JournalsValue, slice_at}
use Rattle.run_law.specs.Ops.{ByKind, is_command}
use Rattle.run_law.specs.Order.{Pays}
use Rattle.run_law.specs.Owed.{owed_by_access, owed_by_command, paid_by}
use Rattle.run_law.specs.TreeHistory.{CommandMayFollow, IsCommandThat, IsLegalTree, TreeEntryValue}
use Rattle.run_law.specs.Truth.{IsOwed, is_made_by, is_taken_from}
use Rattle.run_law.proofs.laws.Pairs.{both_eqb-same, both_eqb-true}
use Rattle.run_law.proofs.laws.Positions.{Contains-map}
use Rattle.run_law.proofs.laws.StandingEntries.{less_in_front}
use Rattle.run_law.proofs.laws.Truth.{IsTrueTo}
use Rattle.script_ops.specs.Values.{ScriptValue, op_at, ops_of, threads_of}
use Rattle.script_ops.specs.declared.op.Op.{Op}
use Rattle.script_ops.specs.declared.op.Op.TheVariants.{Access}
use Rattle.live_law.specs.Cells.{MayStand}
use Rattle.live_law.specs.DoneOps.{HasDone}
use Rattle.live_law.specs.Ends.{AllAtEnd}
use Rattle.live_law.specs.SeenJournals.{made_in, taken_in}
use Rattle.live_law.specs.Stages.{slice_reached}
use Rattle.live_law.proofs.laws.EndedThreads.{slice-within, taken_in-once}
use Rattle.live_law.proofs.laws.Filters.{At-filter, At-filter_some}
use Rattle.live_law.proofs.laws.LaterViews.{HasDone-more}
use Rattle.live_law.proofs.laws.SliceCells.{MayStand-at}

-- ---- kinds of ops

-- what holds of a command holds of an op that is one
of_command : (A : ℕ → ℕ → ℕ → Type 0) (C : Type 0) (c : Op) → IsTrue (is_command c) → ByKind A C c → C
of_command A C (Access task cpu addr) command h = absurd cc
of_command A C c command h = h

-- an access by what holds of it, and a command by what holds of one
ByKind-both : (A : ℕ → ℕ → ℕ → Type 0) (C : Type 0) (c : Op) → ByKind A (Unit {0}) c → (IsTrue (is_command c) → C) → ByKind A C c
ByKind-both A C (Access task cpu addr) h f = h
ByKind-both A C c h f = f refl

-- ---- what there is

-- how many ops a thread has
abbrev pub op_count : ScriptValue → ℕ → ℕ
op_count script t = length (ops_of script t)

-- an op is one of its thread's
pub op-within : (script : ScriptValue) (t op : ℕ) (c : Op) → op_at script t op ≡ Some c → op < op_count script t
op-within script t op c is = slice_get_within (ops_of script t) op c is

-- an op is of a thread that there is
pub thread-within : (script : ScriptValue) (t op : ℕ) (c : Op) → op_at script t op ≡ Some c → t < length (threads_of script)
thread-within script t op c is = elim (cases_lt t (length (threads_of script))) [
  | inl within ↦ within
  | inr past ↦
      absurd
      (let none : get_or (threads_of script) t [] ≡ [] = get_or_past (threads_of script) t [] past in
      let wrong : At {A = Op} [] op c = subst (λ os. At os op c) none is in
      cc)
]

-- a command of a legal history is one of the script
command-at : (script : ScriptValue) (tree : List TreeEntryValue) (k : ℕ) (h : TreeEntryValue)
    → IsLegalTree script tree → At tree k h
    → (c : Op) × (op_at script h.thread h.op ≡ Some c) × IsTrue (is_command c)
command-at script tree k h legal at =
    of _ (op_at script h.thread h.op) refl
    (subst (λ (x : TreeEntryValue). CommandMayFollow script (take k tree) x) (get_or_from_slice_get tree k h h at)
    (EachFollows-at (CommandMayFollow script) tree k h legal (slice_get_within tree k h at)))
  where
    of : (P : Op → Type 0) (o : Option Op) → op_at script h.thread h.op ≡ o → IsCommandThat P o
        → (c : Op) × (op_at script h.thread h.op ≡ Some c) × IsTrue (is_command c)
    of P None is may = absurd may
    of P (Some c) is may = (c, is, may.0)

-- ---- when all threads are at their ends

module _ (script : ScriptValue) (j : JournalsValue) (all : AllAtEnd script j) where
  -- each thread has done all its ops
  pub all_done : (t : ℕ) → t < length (threads_of script) → HasDone script j t (op_count script t)
  all_done t there = let (v, keeps, more) = all.passes t there in HasDone-more script v j t (op_count script t) more keeps.keeps.done

  -- an entry is of a slice of the machine
  pub slice-there : (i p : ℕ) (e : SliceEntry) → At (slice_at j i) p e → i < slice_count script.machine
  slice-there i p e at = let within = slice-within j i p e at in omega (arith, within, all.count)

  -- each entry may stand where it does
  pub stands-at : (i p : ℕ) (e : SliceEntry) → At (slice_at j i) p e → MayStand script j.tree i (take p (slice_at j i)) e
  stands-at i p e at = MayStand-at script i j.tree (slice_at j i) p e (all.slices i (slice-there i p e at)) at

  -- a command of the script stands once in the tree's history
  pub command-once : (t op : ℕ) (c : Op) → op_at script t op ≡ Some c → IsTrue (is_command c) → length (taken_in j t op) ≡ 1
  command-once t op c is command =
      taken_in-once script j t (op_count script t) op c (all_done t (thread-within script t op c is)) (op-within script t op c is) is command

  -- it has made what it owes
  pays-command : (i t op : ℕ) (c : Op) → i < slice_count script.machine → op_at script t op ≡ Some c → IsTrue (is_command c)
      → Pays script j i t op c (made_in j i t op)
  pays-command i t op c within is command =
      of_command (λ task cpu addr. length (made_in j i t op) ≡ one_if (i == slice_reached script.machine cpu addr))
      (Pays script j i t op c (made_in j i t op)) c command
      ((all_done t (thread-within script t op c is)).entries_once i op c within (op-within script t op c is) is)

  -- ---- true entries

  -- an entry of a command is one that it owes
  IsOwed-entry : (i p : ℕ) (e : SliceEntry) (c : Op)
      → At (slice_at j i) p e → op_at script e.thread e.op ≡ Some c → IsTrue (is_command c)
      → IsOwed script j.tree i e c
  IsOwed-entry i p e c at is command =
      let t : ℕ = e.thread in
      let one : length (taken_in j t e.op) ≡ 1 = command-once t e.op c is command in
      let (k, h, there, taken) = At-filter_some (is_taken_from t e.op) j.tree (omega (arith, one)) in
      let its = both_eqb-true h.thread t h.op e.op taken in
      let (q, place) = At-filter (is_made_by t e.op) (slice_at j i) p e at (both_eqb-same e.thread t e.op e.op refl refl) in
      let pays : Contains (map paid_by (made_in j i t e.op)) (paid_by e) = Contains-map paid_by (made_in j i t e.op) q e place in
      record {
        position = k;
        command = h;
        there = there;
        same_thread = its.0;
        same_op = its.1;
        owed = subst (λ os. Contains os (paid_by e)) (pays-command i t e.op c (slice-there i p e at) is command k h there taken) pays;
      }

  -- each entry is true to its op
  pub IsTrueTo-entry : (i p : ℕ) (e : SliceEntry) → At (slice_at j i) p e → IsTrueTo script j.tree i e (op_at script e.thread e.op)
  IsTrueTo-entry i p e at = of (op_at script e.thread e.op) refl
    where
      of : (o : Option Op) → op_at script e.thread e.op ≡ o → IsTrueTo script j.tree i e o
      of None is = tt
      of (Some c) is =
          ByKind-both (λ task cpu addr. (e.epoch ≤ length j.tree) × (paid_by e ≡ owed_by_access script j.tree e.epoch task cpu addr))
          (IsOwed script j.tree i e c) c
          ((all_done e.thread (thread-within script e.thread e.op c is)).accesses i p e c at refl is)
          (λ command. IsOwed-entry i p e c at is command)

  -- an entry of an epoch stands after all entries of other commands before that epoch
  pub after-commands : (i p q k : ℕ) (e earlier : SliceEntry) (command : TreeEntryValue)
      → At (slice_at j i) p e → At (slice_at j i) q earlier → At j.tree k command
      → IsTrue (is_made_by command.thread command.op earlier) → k < e.epoch → (IsTrue (is_made_by command.thread command.op e) → ⊥)
      → q < p
  after-commands i p q k e earlier command at there taken made before apart =
      let t : ℕ = command.thread in
      let op : ℕ = command.op in
      let (c, is, kind) = command-at script j.tree k command all.tree.legal taken in
      let owed : ℕ = length (owed_by_command script j.tree i k c) in
      let enough : owed ≤ length (filter (is_made_by t op) (take p (slice_at j i))) =
      (stands-at i p e at).commands k command before taken apart command c taken is in
      let paid : map paid_by (made_in j i t op) ≡ owed_by_command script j.tree i k c =
      pays-command i t op c (slice-there i p e at) is kind k command taken (both_eqb-same t t op op refl refl) in
      let exact : length (made_in j i t op) ≡ owed = sym (length-map (made_in j i t op) paid_by) ∙ ap length paid in
      elim (cases_lt q p) [
        | inl early ↦ early
        | inr late ↦ absurd (omega (arith, less_in_front (is_made_by t op) (slice_at j i) p q earlier there late made, enough, exact))
      ]
