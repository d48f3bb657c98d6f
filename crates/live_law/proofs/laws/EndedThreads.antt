-- What a thread had made when it ended is all that it has made.
use Rattle.std.proofs.Common.{◌≡◌, ℕ, ◌<◌, inl, inr, List, [], length, map, get_or, Some, sym, ap, ◌∙◌, subst, refl, arith}
use Rattle.std.specs.Prelude.{IsTrue}
use Rattle.std.proofs.lemmas.Bool.{cases_lt}
use Rattle.std.proofs.lemmas.List.{get_or_past, length-map}
use Rattle.std.proofs.lemmas.Option.{slice_get_within}
use Rattle.cache_core.specs.declared.entry.SliceEntry.{SliceEntry}
use Rattle.lists.specs.Sums.{one_if}
use Rattle.machine.specs.Slices.{slice_count}
use Rattle.run_law.specs.Journals.{At, JournalsValue, slice_at}
use Rattle.run_law.specs.Ops.{is_command}
use Rattle.run_law.specs.Order.{HasMarks, IsMadeAt, IsTakenAt, Makes}
use Rattle.run_law.specs.Owed.{owed_by_command, paid_by}
use Rattle.run_law.specs.TreeHistory.{TreeEntryValue}
use Rattle.run_law.specs.Truth.{is_made_by, is_taken_from}
use Rattle.run_law.proofs.laws.Pairs.{both_eqb-same, both_eqb-true}
use Rattle.script_ops.specs.Values.{ScriptValue, op_at}
use Rattle.script_ops.specs.declared.op.Op.{Op}
use Rattle.script_ops.specs.declared.op.Op.TheVariants.{Access}
use Rattle.live_law.specs.DoneOps.{HasDone}
use Rattle.live_law.specs.SeenJournals.{HasGrown, made_in, taken_in}
use Rattle.live_law.proofs.laws.Filters.{At-filter_some}
use Rattle.live_law.proofs.laws.LaterViews.{owed_by_command-prefix}
use Rattle.live_law.proofs.laws.Prefixes.{At-prefix, At-prefix_filtered}

-- an entry is of a slice that there is
pub slice-within : (j : JournalsValue) (i p : ℕ) (e : SliceEntry) → At (slice_at j i) p e → i < length j.slices
slice-within j i p e at = elim (cases_lt i (length j.slices)) [
  | inl within ↦ within
  | inr past ↦
      absurd
      (let none : get_or j.slices i [] ≡ [] = get_or_past j.slices i [] past in
      let wrong : At {A = SliceEntry} [] p e = subst (λ es. At es p e) none at in
      cc)
]

-- a command that is done stands once in the tree's history
pub taken_in-once : (script : ScriptValue) (v : JournalsValue) (t n op : ℕ) (c : Op)
    → HasDone script v t n → op < n → op_at script t op ≡ Some c → IsTrue (is_command c)
    → length (taken_in v t op) ≡ 1
taken_in-once script v t n op c done less is command = done.commands_once op c less is ∙ ap one_if command

-- what an op has made by a history is as much as by a longer one
length-made : (script : ScriptValue) (w j : JournalsValue) (i u op : ℕ) (c : Op) (some all : List SliceEntry)
    → HasGrown w j → (IsTrue (is_command c) → length (taken_in w u op) ≡ 1) → Makes script w i u op c some → Makes script j i u op c all
    → length all ≡ length some
length-made script w j i u op (Access task cpu addr) some all grown once first second = second ∙ sym first
length-made script w j i u op c some all grown once first second =
    let one : length (taken_in w u op) ≡ 1 = once refl in
    let (k, h, there, taken) = At-filter_some (is_taken_from u op) w.tree (omega (arith, one)) in
    let within : k < length w.tree = slice_get_within w.tree k h there in
    let now : map paid_by all ≡ owed_by_command script j.tree i k c = second k h (At-prefix w.tree j.tree k h grown.tree there) taken in
    let had : map paid_by some ≡ owed_by_command script w.tree i k c = first k h there taken in
    let same : owed_by_command script w.tree i k c ≡ owed_by_command script j.tree i k c =
    owed_by_command-prefix script w.tree j.tree i k c grown.tree (omega (arith, within)) in
    sym (length-map all paid_by) ∙ (ap length (now ∙ (sym same ∙ sym had)) ∙ length-map some paid_by)

module _ (script : ScriptValue) (w j : JournalsValue) (u n : ℕ) (grown : HasGrown w j) (had : HasDone script w u n)
    (now : HasDone script j u n) where
  -- its entries stood there
  pub At-ended_entry : (i p : ℕ) (e : SliceEntry) (c : Op)
      → i < slice_count script.machine → At (slice_at j i) p e → e.thread ≡ u → op_at script u e.op ≡ Some c → e.op < n
      → At (slice_at w i) p e
  At-ended_entry i p e c within at mine is less =
      let same : length (made_in j i u e.op) ≡ length (made_in w i u e.op) =
      length-made script w j i u e.op c (made_in w i u e.op) (made_in j i u e.op) grown
      (λ command. taken_in-once script w u n e.op c had less is command) (had.entries_once i e.op c within less is)
      (now.entries_once i e.op c within less is) in
      At-prefix_filtered (is_made_by u e.op) (slice_at w i) (slice_at j i) p e (grown.slices i) (omega (arith, same)) at
      (both_eqb-same e.thread u e.op e.op mine refl)

  -- so did its commands
  At-ended_command : (k : ℕ) (h : TreeEntryValue) (op : ℕ) (c : Op)
      → At j.tree k h → IsTrue (is_taken_from u op h) → op_at script u op ≡ Some c → op < n
      → At w.tree k h
  At-ended_command k h op c at mine is less =
      At-prefix_filtered (is_taken_from u op) w.tree j.tree k h grown.tree
      (omega (arith, had.commands_once op c less is, now.commands_once op c less is)) at mine

  -- the marks of an access are what they were
  IsMadeAt-ended : (op start stop task cpu addr : ℕ)
      → length j.slices ≡ slice_count script.machine → op_at script u op ≡ Some (Access task cpu addr) → op < n → IsMadeAt j u op start stop
      → IsMadeAt w u op start stop
  IsMadeAt-ended op start stop task cpu addr count is less made =
      let (i, p, e, there, mine, epoch, same) = made in
      let its = both_eqb-true e.thread u e.op op mine in
      let within = slice-within j i p e there in
      let is_access : op_at script u e.op ≡ Some (Access task cpu addr) =
      subst (λ o. op_at script u o ≡ Some (Access task cpu addr)) (sym its.1) is in
      let old : At (slice_at w i) p e =
      At-ended_entry i p e (Access task cpu addr) (omega (arith, within, count)) there its.0 is_access (omega (arith, less, its.1)) in
      (i, p, e, old, mine, epoch, same)

  -- those of a command too
  IsTakenAt-ended : (op start stop : ℕ) (c : Op)
      → op_at script u op ≡ Some c → op < n → IsTakenAt j u op start stop
      → IsTakenAt w u op start stop
  IsTakenAt-ended op start stop c is less taken =
      let (h, there, mine, same) = taken in (h, At-ended_command start h op c there mine is less, mine, same)

  -- so the marks of each of its ops are
  pub HasMarks-ended : (op start stop : ℕ) (c : Op)
      → length j.slices ≡ slice_count script.machine → op_at script u op ≡ Some c → op < n → HasMarks j u op c start stop
      → HasMarks w u op c start stop
  HasMarks-ended op start stop (Access task cpu addr) count is less marks = IsMadeAt-ended op start stop task cpu addr count is less marks
  HasMarks-ended op start stop c count is less marks = IsTakenAt-ended op start stop c is less marks
