-- A thread whose command was decided: it makes what follows, and lets the tree go.
use Rattle.std.proofs.Common.{◌≡◌, ℕ, ◌+◌, ◌<◌, ◌≤◌, inl, inr, List, length, map, take, Some, sym, ap, ◌∙◌, subst, arith}
use Rattle.std.specs.Prelude.{◌==◌}
use Rattle.std.proofs.Math.Seq.{take-length}
use Rattle.std.proofs.lemmas.Bool.{cases_lt}
use Rattle.std.proofs.lemmas.List.{length-map}
use Rattle.std.proofs.lemmas.Option.{slice_get_within}
use Rattle.cache_core.specs.declared.entry.SliceEntry.{SliceEntry}
use Rattle.lists.specs.Sums.{one_if}
use Rattle.machine.specs.Slices.{slice_count}
use Rattle.run_law.specs.Growth.{PaysJob}
use Rattle.run_law.specs.Jobs.{Job, in_slice, jobs_of}
use Rattle.run_law.specs.Journals.{At, JournalsValue}
use Rattle.run_law.specs.Ops.{is_command}
use Rattle.run_law.specs.Order.{Makes, Pays}
use Rattle.run_law.specs.Owed.{owed_by_command, paid_by}
use Rattle.run_law.specs.Quotas.{quota}
use Rattle.run_law.specs.TreeHistory.{TreeEntryValue, tree_after}
use Rattle.run_law.specs.Truth.{is_taken_from}
use Rattle.run_law.proofs.laws.GrownLists.{Adds, with_slices}
use Rattle.run_law.proofs.laws.JobLists.{owed_are}
use Rattle.run_law.proofs.laws.NotedTruth.{one_op}
use Rattle.run_law.proofs.laws.OpKinds.{of_command}
use Rattle.run_law.proofs.laws.Pairs.{both_eqb-true}
use Rattle.script_ops.specs.Values.{ScriptValue, op_at}
use Rattle.script_ops.specs.declared.op.Op.{Op}
use Rattle.tree_law.specs.Steps.{needs}
use Rattle.live_law.specs.DoneOps.{HasDone}
use Rattle.live_law.specs.Passes.{PassesKeepFrom}
use Rattle.live_law.specs.SeenJournals.{AddsEntry, SeesMore, made_in, taken_in}
use Rattle.live_law.specs.Stages.{HoldsTree, IsFollowing, slice_reached}
use Rattle.live_law.proofs.laws.AddedEntries.{Adds-before, HasGrown-adds, SeesMore-before, before_adding}
use Rattle.live_law.proofs.laws.HeldTrees.{HoldsTree-more, HoldsTree-note}
use Rattle.live_law.proofs.laws.Filters.{At-once}
use Rattle.live_law.proofs.laws.KeptLooks.{WasGiven-grown}
use Rattle.live_law.proofs.laws.SeenJournals.{HasGrown-more}

-- ---- Follow

module _ (script : ScriptValue) (start : JournalsValue) (t n k : ℕ) (c : Op) (h : TreeEntryValue) (made : ℕ) (v : JournalsValue) where
  -- the pairs that its looks were for
  abbrev pairs : List (ℕ × ℕ)
  pairs = needs script.machine (tree_after script (take k v.tree)) c

  -- it stays what it is when its thread has seen more of the slices
  pub IsFollowing-more : (slices : List (List SliceEntry)) → SeesMore t v (with_slices v slices)
      → IsFollowing script start t n k c h made v
      → IsFollowing script start t n k c h made (with_slices v slices)
  IsFollowing-more slices more follows =
      let fits : k < length v.tree = slice_get_within v.tree k h follows.there in
      record {
        holds = HoldsTree-more script start t n (n + 1) k c made v slices more (omega (arith, fits)) follows.holds;
        there = follows.there;
        is = follows.is;
        once = follows.once;
        given = WasGiven-grown script v (with_slices v slices) h pairs (HasGrown-more t v (with_slices v slices) more) follows.given;
      }

  -- it stands after the thread's start
  start-following : IsFollowing script start t n k c h made v → length start.tree ≤ k
  start-following follows = follows.holds.keeps.after.commands k h follows.there (both_eqb-true h.thread t h.op n follows.is).0

  -- it makes the next entry
  pub IsFollowing-follow : (slices : List (List SliceEntry)) (job : Job) (e : SliceEntry)
      → At (jobs_of script v.tree k c) made job → PaysJob t n job e → AddsEntry t job.slice e v (with_slices v slices)
      → IsFollowing script start t n k c h made v
      → IsFollowing script start t n k c h (made + 1) (with_slices v slices)
  IsFollowing-follow slices job e is_job pays adds follows =
      let now : JournalsValue = before_adding t job.slice e v (with_slices v slices) adds in
      let sees : SeesMore t v now = SeesMore-before t job.slice e v (with_slices v slices) adds in
      let add : Adds now slices job.slice e = Adds-before t job.slice e v (with_slices v slices) adds in
      let fits : k < length v.tree = slice_get_within v.tree k h follows.there in
      let holds : HoldsTree script start t n (n + 1) k c made now =
      HoldsTree-more script start t n (n + 1) k c made v now.slices sees (omega (arith, fits)) follows.holds in
      record {
        holds = HoldsTree-note script start t n (n + 1) k c made now slices job e add is_job pays (start-following follows)
            (omega (arith, fits)) holds;
        there = follows.there;
        is = follows.is;
        once = follows.once;
        given = WasGiven-grown script now (with_slices v slices) h pairs (HasGrown-adds now slices job.slice e add)
            (WasGiven-grown script v now h pairs (HasGrown-more t v now sees) follows.given);
      }

-- ---- the letting go

module _ (script : ScriptValue) (start : JournalsValue) (t n k : ℕ) (c : Op) (h : TreeEntryValue) (v : JournalsValue)
    (follows : IsFollowing script start t n k c h (length (jobs_of script v.tree k c)) v) where
  -- it has made all its jobs
  paid-all : (i : ℕ) → i < slice_count script.machine → map paid_by (made_in v i t n) ≡ in_slice i (jobs_of script v.tree k c)
  paid-all i within = follows.holds.has i within ∙ ap (in_slice i) (take-length (jobs_of script v.tree k c))

  -- which is all that it owes
  Makes-all : (i : ℕ) → 0 < script.machine.slices → i < slice_count script.machine → Makes script v i t n c (made_in v i t n)
  Makes-all i some within =
      let all : map paid_by (made_in v i t n) ≡ owed_by_command script v.tree i k c =
      paid-all i within ∙ owed_are script v.tree i k c some in
      of_command (λ task cpu addr. length (made_in v i t n) ≡ one_if (i == slice_reached script.machine cpu addr))
      (Pays script v i t n c (made_in v i t n)) c follows.holds.command
      (λ q x there taken.
      let here : k ≡ q = At-once (is_taken_from t n) v.tree k q h x follows.once follows.there follows.is there taken in
      subst (λ y. map paid_by (made_in v i t n) ≡ owed_by_command script v.tree i y c) here all)

  -- and is within its quota
  made_in-few : (i : ℕ) → i < slice_count script.machine → length (made_in v i t n) ≤ quota script.machine i c
  made_in-few i within =
      omega (arith, follows.holds.few i within, ap length (paid-all i within), length-map (made_in v i t n) paid_by)

  -- the op is this command
  is_command_c : (op : ℕ) (d : Op) → n ≡ op → op_at script t op ≡ Some d → c ≡ d
  is_command_c op d same is = one_op script t n c d follows.holds.is_op (subst (λ o. op_at script t o ≡ Some d) (sym same) is)

  -- so it is done
  HasDone-all : 0 < script.machine.slices → HasDone script v t (n + 1)
  HasDone-all some =
      let done : HasDone script v t n = follows.holds.keeps.done in
      record {
        commands_once = λ op d less is. elim (cases_lt op n) [
          | inl early ↦ done.commands_once op d early is
          | inr late ↦
              let same : n ≡ op = omega (arith, less, late) in
              let one : one_if (is_command d) ≡ 1 =
              ap (λ x. one_if (is_command x)) (sym (is_command_c op d same is)) ∙ ap one_if follows.holds.command in
              subst (λ o. length (taken_in v t o) ≡ one_if (is_command d)) same (follows.once ∙ sym one)
        ];
        entries_once = λ i op d within less is. elim (cases_lt op n) [
          | inl early ↦ done.entries_once i op d within early is
          | inr late ↦
              let same : n ≡ op = omega (arith, less, late) in
              subst (λ o. Makes script v i t o d (made_in v i t o)) same
              (subst (λ y. Makes script v i t n y (made_in v i t n)) (is_command_c op d same is) (Makes-all i some within))
        ];
        few = λ i op d within less is. elim (cases_lt op n) [
          | inl early ↦ done.few i op d within early is
          | inr late ↦
              let same : n ≡ op = omega (arith, less, late) in
              subst (λ o. length (made_in v i t o) ≤ quota script.machine i d) same
              (omega (arith, made_in-few i within, ap (quota script.machine i) (is_command_c op d same is)))
        ];
        accesses = done.accesses;
      }

-- its passes keep what they keep between two ops
pub PassesKeepFrom-let_go : (script : ScriptValue) (start : JournalsValue) (t n k : ℕ) (c : Op) (h : TreeEntryValue) (v : JournalsValue)
    → 0 < script.machine.slices → IsFollowing script start t n k c h (length (jobs_of script v.tree k c)) v
    → PassesKeepFrom script start t (n + 1) (n + 1) (n + 1) v
PassesKeepFrom-let_go script start t n k c h v some follows = record {
  begins = follows.holds.keeps.begins;
  after = follows.holds.keeps.after;
  below = follows.holds.keeps.below;
  done = HasDone-all script start t n k c h v follows some;
  in_turn = follows.holds.keeps.in_turn;
}
