-- The looks of a command, one by one.
use Rattle.std.proofs.Common.{◌≡◌, ℕ, ◌+◌, ◌*◌, ◌^◌, ◌<◌, ◌≤◌, inl, inr, List, [], ◌∷◌, ◌++◌, length, map, Some, refl, sym, ap, ap₂, ◌∙◌, subst, arith}
use Rattle.std.proofs.lemmas.Bool.{cases_lt}
use Rattle.std.proofs.lemmas.List.{length_push}
use Rattle.std.proofs.lemmas.List.Elements.{All-append, All-cons, All-nil}
use Rattle.std.proofs.lemmas.Nat.{mul-le}
use Rattle.atomic_table.specs.Seated.{TableId}
use Rattle.cache_core.specs.Stands.{entry}
use Rattle.cache_core.specs.declared.entry.SliceEntry.{SliceEntry}
use Rattle.cache_core.specs.declared.entry.What.TheVariants as whats
use Rattle.live_law.specs.Cells.{AreMade}
use Rattle.live_law.proofs.laws.CommandStages.{IsLooking-look}
use Rattle.live_law.proofs.laws.OwnRoom.{job-room}
use Rattle.live_law.specs.DoneOps.{AreEnded}
use Rattle.live_law.specs.SeenJournals.{AddsEntry}
use Rattle.live_law.specs.Stages.{IsLooking}
use Rattle.live_run.proofs.Bridges.{history_length}
use Rattle.live_run.proofs.Trees.{lists_of}
use Rattle.live_run.specs.Names.{SeenValue, history_of, seen_by}
use Rattle.live_run.specs.Commands.{LooksAt}
use Rattle.live_run.specs.Sharing.{HasStepped, IsNextCount, holding}
use Rattle.live_run.specs.Steps.{HasAdded}
use Rattle.live_run.specs.Visits.{MayLook}
use Rattle.machine.specs.Slices.{slice_count, slice_number}
use Rattle.run_law.proofs.laws.DistinctLooks.{distinct_pairs}
use Rattle.run_law.proofs.laws.LookPositions.{pair_at}
use Rattle.run_law.proofs.laws.FoundSums.{At-map, found_at-last, found_at-push, get-push_front, get-push_last}
use Rattle.run_law.proofs.laws.JobKinds.{look_of, looks_are}
use Rattle.run_law.proofs.laws.Positions.{At-append_front}
use Rattle.run_law.specs.FoundLooks.{AreDistinct, found_at, pairs_for}
use Rattle.run_law.specs.Jobs.{Job, follows_of, jobs_of, looks_of}
use Rattle.run_law.specs.Journals.{At, JournalsValue}
use Rattle.run_law.specs.TreeHistory.{TreeEntryValue, tree_after}
use Rattle.run_law.specs.declared.journals.TreeEntry.{TreeEntry}
use Rattle.schedule_law.specs.LiveParts.{after}
use Rattle.schedule_law.specs.declared.part.Happening.TheVariants as happenings
use Rattle.schedule_law.specs.declared.part.Part.{Part}
use Rattle.script_ops.specs.Values.{ScriptValue}
use Rattle.script_ops.specs.declared.op.Op.{Op}
use Rattle.seen_journal.specs.Journals.{JournalName, JournalValue}
use Rattle.seen_journal.specs.Entries.{list_of}
use Rattle.seen_journal.specs.Passes.{PassValue}
use Rattle.shared_parts.specs.Parts.{parts_after}
use Rattle.shared_parts.specs.Shares.{ShareValue}
use Rattle.step_world.specs.declared.thread_state.ThreadState.TheVariants.{Looking}
use Rattle.tree_law.specs.Steps.{needs}

-- the job of a pair
job_of_pair : (script : ScriptValue) (tree : List TreeEntryValue) (c : Op) (k : ℕ) (pair : ℕ × ℕ) → At (pairs_for script tree c) k pair → At (jobs_of script tree (length tree) c) k (look_of (length tree) pair)
job_of_pair script tree c k pair at =
    let mapped : At (map (look_of (length tree)) (pairs_for script tree c)) k (look_of (length tree) pair) = At-map (look_of (length tree)) (pairs_for script tree c) k pair at in
    At-append_front (looks_of script tree (length tree) c) (follows_of script tree (length tree) c) k (look_of (length tree) pair)
    (subst (λ jobs. At jobs k (look_of (length tree) pair)) (looks_are script tree c) mapped)

module _ (script : ScriptValue) (table : TableId) (tree : JournalName) (n : ℕ) (c : Op) (q x lines : ℕ) (numbers : List ℕ) (s : SeenValue) (worker : ShareValue Part) (at : LooksAt script table n c q x lines numbers s worker) (need : ℕ × ℕ) (is_need : At (needs script.machine (tree_after script (history_of s.tree.seen)) c) q need) (below : x < script.machine.slices) (within : slice_number script.machine need.0 x < slice_count script.machine) where
  abbrev history : List TreeEntryValue
  history = history_of s.tree.seen

  abbrev i : ℕ
  i = slice_number script.machine need.0 x

  abbrev job : Job
  job = look_of (length history) (i, need.1)

  is_pair : At (pairs_for script history c) (length at.found) (i, need.1)
  is_pair = subst (λ r. At (pairs_for script history c) r (i, need.1)) (sym at.made) (pair_at script.machine (needs script.machine (tree_after script history) c) q x need is_need below)

  is_job : At (jobs_of script history (length history) c) (length at.found) job
  is_job = job_of_pair script history c (length at.found) (i, need.1) is_pair

  -- the thread may go there
  pub may_look : (epoch : ℕ) (journal : JournalValue TreeEntry) → journal.name ≡ tree → s.tree.seen ≡ journal.entries → epoch ≡ length journal.entries → need.1 < script.machine.rmids
      → MayLook script tree (slice_number script.machine need.0 x) n epoch need.1 journal s
  may_look epoch journal name whole is_epoch can =
      let now : length history ≡ epoch = omega (arith, is_epoch, ap length whole, history_length s.tree.seen) in
      record {
        name = name;
        whole = whole;
        is_epoch = is_epoch;
        known = rw at.is.holds.is_op refl;
        made = subst (λ k. AreMade script (seen_by s) k) now at.is.holds.others;
        can = can;
        room = job-room script at.start s.thread n n (length history) c (length at.found) (seen_by s) at.is.holds job within is_job;
      }

  -- by the parts at hand too
  pub next_count : (journal : JournalValue TreeEntry) → s.tree.seen ≡ journal.entries → AreDistinct (needs script.machine (tree_after script (history_of s.tree.seen)) c) → IsNextCount script table (slice_number script.machine need.0 x) n need.1 journal s worker
  next_count journal whole distinct =
      subst (λ es. IsNextCount script table i n need.1 (record { name = journal.name; entries = es }) s worker) whole
      (record {
        op = c;
        found = at.found;
        given = at.given;
        share = at.share_is;
        is = at.is.holds.is_op;
        distinct = distinct_pairs script.machine (needs script.machine (tree_after script history) c) distinct;
        next = is_pair;
      })

  -- and has looked
  pub has_looked : (epoch more : ℕ) (new : SeenValue) (worker_now : ShareValue Part) → epoch ≡ length (history_of s.tree.seen) → more ≤ 2097152 → AreDistinct (needs script.machine (tree_after script (history_of s.tree.seen)) c)
      → HasAdded (slice_number script.machine need.0 x) (entry s.thread n epoch (whats.Look need.1 more)) s new → new.tree ≡ s.tree → HasStepped (happenings.Look (entry s.thread n epoch (whats.Look need.1 more))) worker worker_now → LooksAt script table n c q (x + 1) (lines + more) numbers new worker_now
  has_looked epoch more new worker_now is_epoch few distinct added same stepped =
      let e : SliceEntry = entry s.thread n epoch (whats.Look need.1 more) in
      let found : List ℕ = at.found ++ more ∷ [] in
      let seen : seen_by new ≡ (record { tree = history; slices = lists_of new.slices }) = ap (λ (p : PassValue TreeEntry). record { tree = history_of p.seen; slices = lists_of new.slices }) same in
      let is : IsLooking script at.start s.thread n c found (record { tree = history; slices = lists_of new.slices }) =
      IsLooking-look script at.start s.thread n c at.found (seen_by s) (lists_of new.slices) (i, need.1) more e
      (record { next = is_pair; distinct = distinct_pairs script.machine (needs script.machine (tree_after script history) c) distinct; thread = refl; number = refl; epoch = is_epoch; what = refl })
      (subst (λ (v : JournalsValue). AddsEntry s.thread i e (seen_by s) v) seen added.adds) at.is in
      let many : length at.found + 1 ≡ length found = sym (length_push at.found more) in
      record {
        start = at.start;
        ended = subst (λ t. AreEnded script at.start t) (sym added.thread) at.ended;
        found = found;
        given = at.given;
        is = subst (λ (v : JournalsValue). IsLooking script at.start new.thread n c found v) (sym seen)
            (subst (λ t. IsLooking script at.start t n c found (record { tree = history; slices = lists_of new.slices })) (sym added.thread) is);
        made = omega (arith, many, at.made);
        count = at.count;
        each = λ p less.
            let fits : p * script.machine.slices + script.machine.slices ≤ length at.found = whole_before p less in
            at.each p less ∙ ap (λ k. Some k) (sym (found_at-push script.machine.slices at.found more p script.machine.slices fits));
        few = at.few;
        lines_are = ap (λ k. k + more) at.lines_are ∙ sym (found_at-last script.machine.slices at.found more q x at.made);
        bound = omega (arith, at.bound, few);
        share_is = record {
          table_is = stepped.0 ∙ at.share_is.table_is;
          words = at.share_is.words;
          parts_are =
              stepped.1
              ∙ (ap (parts_after after (happenings.Look e)) at.share_is.parts_are
              ∙ (ap (λ m. holding (list_of s.tree.seen) s.thread n (Looking m) found at.given) many
              ∙ ap₂ (λ (p : PassValue TreeEntry) t. holding (list_of p.seen) t n (Looking (length found)) found at.given) (sym same) (sym added.thread)));
        };
      }
    where
      whole_before : (p : ℕ) → p < q → p * script.machine.slices + script.machine.slices ≤ length at.found
      whole_before p less =
          let one : (p + 1) * script.machine.slices ≡ p * script.machine.slices + script.machine.slices = omega arith in
          omega (arith, one, mul-le (p + 1) script.machine.slices q script.machine.slices (omega (arith, less)) (omega arith), at.made)

-- a count is whole
pub has_counted : (script : ScriptValue) (table : TableId) (n : ℕ) (c : Op) (q lines : ℕ) (numbers : List ℕ) (s : SeenValue) (worker : ShareValue Part) → script.machine.slices ≤ 16 → LooksAt script table n c q script.machine.slices lines numbers s worker
    → LooksAt script table n c (q + 1) 0 0 (numbers ++ lines ∷ []) s worker
has_counted script table n c q lines numbers s worker limit at = record {
  start = at.start;
  ended = at.ended;
  found = at.found;
  given = at.given;
  is = at.is;
  made = (let one : (q + 1) * script.machine.slices ≡ q * script.machine.slices + script.machine.slices = omega arith in omega (arith, at.made, one));
  count = omega (arith, length_push numbers lines, at.count);
  each = λ p less. elim (cases_lt p q) [
    | inl before ↦ get-push_front numbers lines p (omega (arith, before, at.count)) ∙ at.each p before
    | inr last ↦
        let is : p ≡ q = omega (arith, less, last) in
        get-push_last numbers lines p (omega (arith, is, at.count)) ∙ ap (λ k. Some k) (at.lines_are ∙ ap (λ r. found_at script.machine.slices at.found r script.machine.slices) (sym is))
  ];
  few = All-append (λ n. n ≤ 2 ^ 32) numbers (lines ∷ []) at.few (All-cons (λ n. n ≤ 2 ^ 32) lines [] (omega (arith, at.bound, mul-le script.machine.slices 2097152 16 2097152 limit (omega arith))) (All-nil (λ n. n ≤ 2 ^ 32)));
  lines_are = refl;
  bound = omega arith;
  share_is = at.share_is;
}
