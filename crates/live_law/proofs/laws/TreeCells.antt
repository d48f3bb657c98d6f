-- What the tree's lock keeps, step by step.
use Rattle.std.proofs.Common.{◌≡◌, ℕ, ◌<◌, inl, inr, List, [], ◌∷◌, ◌++◌, length, map, take, Some, sym, ap, ◌∙◌, subst, arith}
use Rattle.std.proofs.Math.Seq.{take-append_seam, take-length}
use Rattle.std.proofs.lemmas.Bool.{cases_lt}
use Rattle.std.proofs.lemmas.List.{length-map, length_push}
use Rattle.cache_core.specs.declared.entry.SliceEntry.{SliceEntry}
use Rattle.machine.specs.Slices.{slice_count}
use Rattle.rc_base.proofs.laws.Histories.{GoesOn-push}
use Rattle.run_law.specs.Jobs.{in_slice, jobs_of}
use Rattle.run_law.specs.Journals.{JournalsValue, slice_at}
use Rattle.run_law.specs.Looks.{needs_of}
use Rattle.run_law.specs.Owed.{owed_by_command, paid_by}
use Rattle.run_law.specs.TreeHistory.{CommandMayFollow, TreeEntryValue, tree_after}
use Rattle.run_law.proofs.laws.GrownLists.{with_slices}
use Rattle.run_law.proofs.laws.JobLists.{owed_are}
use Rattle.run_law.proofs.laws.MatchedLooks.{matched_command}
use Rattle.run_law.proofs.laws.NotedTruth.{one_op}
use Rattle.run_law.proofs.laws.Pairs.{both_eqb-true}
use Rattle.run_law.proofs.laws.TreeHistory.{tree_after-push}
use Rattle.script_ops.specs.Values.{ScriptValue, op_at}
use Rattle.script_ops.specs.declared.op.Op.{Op}
use Rattle.tree_law.specs.State.{State}
use Rattle.tree_law.specs.Steps.{needs, next}
use Rattle.live_law.specs.Cells.{IsMade, TreeKeeps}
use Rattle.live_law.specs.SeenJournals.{HasGrown, made_in}
use Rattle.live_law.specs.Stages.{IsFollowing, WasGiven}
use Rattle.live_law.proofs.laws.DecidedCommands.{with_command}
use Rattle.live_law.proofs.laws.KeptLooks.{AreMatched-grown}
use Rattle.live_law.proofs.laws.MadeEntries.{AreMade-grown}
use Rattle.live_law.proofs.laws.SliceCells.{At-same}

-- the cell has seen more of the slices
pub TreeKeeps-grown : (script : ScriptValue) (s : State) (v : JournalsValue) (slices : List (List SliceEntry))
    → HasGrown v (with_slices v slices) → TreeKeeps script s v
    → TreeKeeps script s (with_slices v slices)
TreeKeeps-grown script s v slices grown keeps = record {
  state_is = keeps.state_is;
  legal = keeps.legal;
  made = AreMade-grown script v (with_slices v slices) (length v.tree) grown (omega arith) keeps.made;
  matched = AreMatched-grown script v slices grown keeps.matched;
}

-- a command that follows to its end has made all that it owes
IsMade-whole : (script : ScriptValue) (start : JournalsValue) (t n k i : ℕ) (c : Op) (h : TreeEntryValue) (v : JournalsValue)
    → IsFollowing script start t n k c h (length (jobs_of script v.tree k c)) v → 0 < script.machine.slices → i < slice_count script.machine
    → IsMade script v.tree i k (slice_at v i)
IsMade-whole script start t n k i c h v follows some within x d at is =
    let same : h ≡ x = At-same v.tree k h x follows.there at in
    let its = both_eqb-true h.thread t h.op n follows.is in
    let thread : t ≡ x.thread = sym its.0 ∙ ap (λ (y : TreeEntryValue). y.thread) same in
    let number : n ≡ x.op = sym its.1 ∙ ap (λ (y : TreeEntryValue). y.op) same in
    let is_op : op_at script t n ≡ Some d =
    subst (λ u. op_at script u n ≡ Some d) (sym thread) (subst (λ o. op_at script x.thread o ≡ Some d) (sym number) is) in
    let owed : ℕ = length (owed_by_command script v.tree i k c) in
    let all : map paid_by (made_in v i t n) ≡ owed_by_command script v.tree i k c =
    follows.holds.has i within ∙ (ap (in_slice i) (take-length (jobs_of script v.tree k c)) ∙ owed_are script v.tree i k c some) in
    let count : length (made_in v i t n) ≡ owed = sym (length-map (made_in v i t n) paid_by) ∙ ap length all in
    let mine : length (made_in v i x.thread x.op) ≡ owed =
    subst (λ u. length (made_in v i u x.op) ≡ owed) thread (subst (λ o. length (made_in v i t o) ≡ owed) number count) in
    let same_owed : owed ≡ length (owed_by_command script v.tree i k d) =
    ap (λ y. length (owed_by_command script v.tree i k y)) (one_op script t n c d follows.holds.is_op is_op) in
    omega (arith, mine, same_owed)

-- the letting go: a command was decided and has made all that it owes, and the cell has seen what its thread has seen
pub TreeKeeps-command : (script : ScriptValue) (s : State) (v : JournalsValue) (start : JournalsValue) (t n : ℕ) (c : Op)
    (h : TreeEntryValue)
    (slices : List (List SliceEntry))
    → 0 < script.machine.slices → TreeKeeps script s v → HasGrown v (with_slices v slices) → CommandMayFollow script v.tree h
    → IsFollowing script start t n (length v.tree) c h (length (jobs_of script (v.tree ++ h ∷ []) (length v.tree) c))
    (with_command (with_slices v slices) h)
    → TreeKeeps script (next script.machine s c h.looks).state (with_command (with_slices v slices) h)
TreeKeeps-command script s v start t n c h slices some keeps grown may follows =
    let now : JournalsValue = with_command (with_slices v slices) h in
    let its = both_eqb-true h.thread t h.op n follows.is in
    let is_op : op_at script h.thread h.op ≡ Some c = rw (its.0, its.1) follows.holds.is_op in
    let before : take (length v.tree) (v.tree ++ h ∷ []) ≡ v.tree = take-append_seam v.tree (h ∷ []) in
    let given : WasGiven script (with_slices v slices) h (needs script.machine (tree_after script v.tree) c) =
    subst (λ hs. WasGiven script (with_slices v slices) h (needs script.machine (tree_after script hs) c)) before follows.given in
    record {
      state_is = ap (λ x. (next script.machine x c h.looks).state) keeps.state_is ∙ sym (tree_after-push script v.tree h c is_op);
      legal = GoesOn-push (CommandMayFollow script) [] v.tree h keeps.legal may;
      made = λ i k within less. elim (cases_lt k (length v.tree)) [
        | inl old ↦ follows.holds.others i k within old
        | inr new ↦
            let here : length v.tree ≡ k = omega (arith, new, less, length_push v.tree h) in
            subst (λ q. IsMade script (v.tree ++ h ∷ []) i q (slice_at now i)) here
            (IsMade-whole script start t n (length v.tree) i c h now follows some within)
      ];
      matched = matched_command script (with_slices v slices) h
          (subst (λ o. WasGiven script (with_slices v slices) h (needs_of script.machine (tree_after script v.tree) o)) (sym is_op) given)
          (AreMatched-grown script v slices grown keeps.matched);
    }
