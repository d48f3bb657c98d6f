-- The decision of a command: what is known then, and the parts of its thread.
use Rattle.std.proofs.Common.{◌≡◌, ℕ, ◌+◌, ◌*◌, ◌<◌, ◌^◌, inl, inr, Bool, List, [], ◌∷◌, ◌++◌, length, map, take, sum_by, Some, sym, ap, ap₂, ◌∙◌, subst, arith}
use Rattle.std.specs.List.{flat_map}
use Rattle.std.specs.Prelude.{◌==◌, IsTrue, nat_lt, not}
use Rattle.std.proofs.Math.Seq.{take-length}
use Rattle.std.proofs.lemmas.Bool.{cases_lt, eq-eqb, le-ltb, lt-ltb, ne_eqb}
use Rattle.std.proofs.lemmas.List.{length-append}
use Rattle.atomic_table.specs.Seated.{TableId}
use Rattle.live_law.proofs.laws.CommandStages.{IsFollowing-decide}
use Rattle.live_law.specs.Stages.{IsFollowing, IsLooking}
use Rattle.live_run.proofs.Trees.{lists_of}
use Rattle.run_law.proofs.laws.FoundLooks.{given}
use Rattle.run_law.specs.FoundLooks.{HasFound, pairs_for}
use Rattle.run_law.specs.Journals.{JournalsValue}
use Rattle.run_law.specs.Looks.{lines_looked}
use Rattle.tree_core.specs.Values.{TreeValue}
use Rattle.live_run.proofs.Bridges.{history_length}
use Rattle.live_run.proofs.HeldTrees.{following-decide}
use Rattle.live_run.proofs.TakenTrees.{history_push, jobs_same}
use Rattle.live_run.specs.Cells.{AreOfThreads, TreeCellValue, TreeIsKept, taken_from}
use Rattle.live_run.specs.Commands.{LooksAt}
use Rattle.live_run.specs.Names.{SeenValue, history_of, seen_by}
use Rattle.live_run.specs.Sharing.{HasStepped, IsShareOf, following, holding}
use Rattle.machine.specs.declared.parameters.Parameters.{Parameters}
use Rattle.run_law.proofs.laws.FollowCounts.{follows-are, length-follows, length-looks, none-follow, some-follow}
use Rattle.run_law.specs.Entries.{entry_value}
use Rattle.run_law.specs.Jobs.{follow_jobs, follows_of, jobs_of, looks_of}
use Rattle.run_law.specs.Ops.{is_command}
use Rattle.run_law.specs.Targets.{slices_for}
use Rattle.run_law.specs.TreeHistory.{CommandMayFollow, IsCommandThat, TreeEntryValue, tree_after}
use Rattle.run_law.specs.declared.journals.TreeEntry.{TreeEntry}
use Rattle.schedule_law.specs.LiveParts.{after}
use Rattle.schedule_law.specs.LiveSteps.{MayDecide}
use Rattle.schedule_law.specs.declared.part.Happening.TheVariants as happenings
use Rattle.schedule_law.specs.declared.part.Part.{Part}
use Rattle.script_ops.specs.Values.{ScriptValue, op_at}
use Rattle.script_ops.specs.declared.op.Op.{Op}
use Rattle.seen_journal.proofs.laws.Entries.{length-list_of, list_of-append}
use Rattle.seen_journal.specs.Entries.{list_of}
use Rattle.seen_journal.specs.Journals.{JournalName, JournalValue}
use Rattle.shared_parts.specs.Parts.{parts_after}
use Rattle.shared_parts.specs.Shares.{ShareValue}
use Rattle.step_world.specs.declared.thread_state.ThreadState.TheVariants.{Looking}
use Rattle.tree_law.specs.State.{State}
use Rattle.tree_law.specs.Steps.{after as after_command, needs, next}
use Rattle.tree_law.specs.declared.follow.Follow.{Follow}

-- nothing follows a command where its looks are all that it makes
pub none_follows : (script : ScriptValue) (tree : List TreeEntryValue) (op : Op) (fs : List Follow) (made : ℕ) (last : Bool) → 0 < script.machine.slices → fs ≡ after_command script.machine (tree_after script tree) (length tree) op
    → made ≡ length (needs script.machine (tree_after script tree) op) * script.machine.slices → last ≡ (length fs == 0) → last ≡ not (nat_lt made (length (jobs_of script tree (length tree) op)))
none_follows script tree op fs made last some follows made_is is =
    let m : Parameters = script.machine in
    let k : ℕ = length tree in
    let front : after_command m (tree_after script (take k tree)) k op ≡ fs = ap (λ hs. after_command m (tree_after script hs) k op) (take-length tree) ∙ sym follows in
    let many : length (follows_of script tree k op) ≡ sum_by (slices_for m) fs = ap length (follows-are script tree k op ∙ ap (flat_map (follow_jobs m (k + 1))) front) ∙ length-follows m (k + 1) fs in
    let looks : length (looks_of script tree k op) ≡ made = length-looks script tree op ∙ sym made_is in
    let all : length (jobs_of script tree k op) ≡ made + sum_by (slices_for m) fs = omega (arith, many, looks, length-append (looks_of script tree k op) (follows_of script tree k op)) in
    let by : (length fs == 0) ≡ not (nat_lt made (length (jobs_of script tree k op))) =
    elim (cases_lt 0 (length fs)) [
      | inl more ↦ ne_eqb (length fs) 0 (λ none. omega (arith, none, more)) ∙ ap not (sym (lt-ltb made (length (jobs_of script tree k op)) (omega (arith, all, some-follow m some fs more))))
      | inr none ↦ eq-eqb (length fs) 0 (omega (arith, none)) ∙ ap not (sym (le-ltb made (length (jobs_of script tree k op)) (omega (arith, all, none-follow m fs none))))
    ] in
    is ∙ by

-- What is known when a thread's command is to be decided: when it had looked for all that it needs, the thread had seen this.
pub record IsToDecide (script : ScriptValue) (table : TableId) (c : TreeCellValue) (s looked : SeenValue) (n : ℕ) (op : Op) (entry : TreeEntry) (worker : ShareValue Part) : Type 0 where
  pub same_thread : looked.thread ≡ s.thread
  pub whole : looked.tree.seen ≡ c.journal.entries
  pub at : LooksAt script table n op (length (needs script.machine (tree_after script (history_of c.journal.entries)) op)) 0 0 entry.looks.numbers looked worker
  pub thread : entry.thread ≡ s.thread
  pub number : entry.op ≡ n
  pub reply : entry.reply ≡ (next c.tree.machine c.tree.state op entry.looks.numbers).reply

-- What is known when a thread's command is decided.
pub record IsDecided (script : ScriptValue) (table : TableId) (c : TreeCellValue) (s looked new : SeenValue) (n : ℕ) (op : Op) (tree : TreeValue) (journal : JournalValue TreeEntry) (entry : TreeEntry) (worker worker_now : ShareValue Part) : Type 0 where
  pub looks : IsToDecide script table c s looked n op entry worker
  pub last : Bool
  pub made : ℕ
  pub made_is : made ≡ length (needs script.machine (tree_after script (history_of c.journal.entries)) op) * script.machine.slices
  pub ends : last ≡ not (nat_lt made (length (jobs_of script (history_of c.journal.entries) (length (history_of c.journal.entries)) op)))
  pub stepped : HasStepped (happenings.Decide entry last made) worker worker_now
  pub machine : tree.machine ≡ c.tree.machine
  pub state : tree.state ≡ (next c.tree.machine c.tree.state op entry.looks.numbers).state
  pub epoch : tree.epoch ≡ c.tree.epoch + 1
  pub name : journal.name ≡ c.journal.name
  pub list : journal.entries ≡ c.journal.entries ++ (looked.thread, entry) ∷ []
  pub threads : AreOfThreads taken_from journal.entries
  pub new_thread : new.thread ≡ looked.thread
  pub seen : new.tree.seen ≡ journal.entries
  pub slices : new.slices ≡ looked.slices

module _ (script : ScriptValue) (table : TableId) (tree : JournalName) (slices : List JournalName) (c : TreeCellValue) (kept : TreeIsKept script table tree slices c) (s looked : SeenValue) (n : ℕ) (op : Op) (entry : TreeEntry) (worker : ShareValue Part) (is : op_at script s.thread n ≡ Some op) (command : IsTrue (is_command op)) (looks : IsToDecide script table c s looked n op entry worker) where
  abbrev history : List TreeEntryValue
  history = history_of c.journal.entries

  abbrev h : TreeEntryValue
  h = entry_value entry

  -- what the tree's law says of it
  pub state_is : next c.tree.machine c.tree.state op (entry_value entry).looks ≡ next script.machine (tree_after script (history_of c.journal.entries)) op (entry_value entry).looks
  state_is = ap (λ (m : Parameters). next m c.tree.state op h.looks) kept.machine ∙ ap (λ (x : State). next script.machine x op h.looks) kept.keeps.state_is

  op_is : op_at script h.thread h.op ≡ Some op
  op_is = rw (looks.thread, looks.number) is

  -- its entry may follow
  pub entry_follows : CommandMayFollow script (history_of c.journal.entries) (entry_value entry)
  entry_follows =
      subst
      (IsCommandThat (λ d. (length h.looks ≡ length (needs script.machine (tree_after script history) d)) × (h.reply ≡ (next script.machine (tree_after script history) d h.looks).reply)))
      (sym op_is)
      (command, (looks.at.count, looks.reply ∙ ap (λ o. o.reply) state_is))

  -- it has looked in each slice for each count
  pub looks_found : length looks.at.found ≡ length (needs script.machine (tree_after script (history_of c.journal.entries)) op) * script.machine.slices
  looks_found = omega (arith, looks.at.made)

  -- what the thread has seen
  abbrev front : JournalsValue
  front = record { tree = history; slices = lists_of looked.slices }

  looked_now : IsLooking script looks.at.start s.thread n op looks.at.found front
  looked_now =
      let was : seen_by looked ≡ front = ap (λ (hs : List TreeEntryValue). record { tree = hs; slices = lists_of looked.slices }) (ap history_of looks.whole) in
      subst (λ u. IsLooking script looks.at.start u n op looks.at.found front) looks.same_thread (subst (λ (v : JournalsValue). IsLooking script looks.at.start looked.thread n op looks.at.found v) was looks.at.is)

  -- it was given what its looks counted
  given_now : map (λ x. Some x) h.looks ≡ map (lines_looked script front h) (needs script.machine (tree_after script history) op)
  given_now =
      given script front h (needs script.machine (tree_after script history) op) looks.at.found h.looks
      (subst (λ u. HasFound front u h.op (pairs_for script history op) looks.at.found) (sym looks.thread)
      (subst (λ o. HasFound front s.thread o (pairs_for script history op) looks.at.found) (sym looks.number) looked_now.found_are)) looks_found looks.at.count looks.at.each

  -- with its entry the thread follows it
  pub follows_decided : IsFollowing script looks.at.start s.thread n (length (history_of c.journal.entries)) op (entry_value entry) (length looks.at.found) (record { tree = history_of c.journal.entries ++ entry_value entry ∷ []; slices = lists_of looked.slices })
  follows_decided = IsFollowing-decide script looks.at.start s.thread n op looks.at.found front h looks.thread looks.number given_now looked_now

  module _ (last : Bool) (made : ℕ) (made_is : made ≡ length (needs script.machine (tree_after script (history_of c.journal.entries)) op) * script.machine.slices) (ends : last ≡ not (nat_lt made (length (jobs_of script (history_of c.journal.entries) (length (history_of c.journal.entries)) op)))) where
    all_found : made ≡ length looks.at.found
    all_found = omega (arith, made_is, looks.at.made)

    -- the parts of the thread
    parts_are : (t : ℕ) → looked.thread ≡ t → worker.parts ≡ holding (list_of c.journal.entries) t n (Looking made) looks.at.found looks.at.given
    parts_are t same =
        looks.at.share_is.parts_are
        ∙ (ap₂ (λ (es : List (ℕ × TreeEntry)) u. holding (list_of es) u n (Looking (length looks.at.found)) looks.at.found looks.at.given) looks.whole same
        ∙ ap (λ m. holding (list_of c.journal.entries) t n (Looking m) looks.at.found looks.at.given) (sym all_found))

    -- by the parts at hand it may be decided
    pub may_decide : (epoch : ℕ) → epoch ≡ length c.journal.entries → epoch + 1 < 2 ^ 62 → MayDecide script worker.parts entry last made epoch
    may_decide epoch is_epoch few = record {
      epoch_is = is_epoch ∙ sym (length-list_of c.journal.entries);
      few = few;
      some = kept.lawful.in_range.some_slice;
      op = op;
      history = list_of c.journal.entries;
      found = looks.at.found;
      given = looks.at.given;
      worker_is = parts_are entry.thread (looks.same_thread ∙ sym looks.thread) ∙ ap (λ k. holding (list_of c.journal.entries) entry.thread k (Looking made) looks.at.found looks.at.given) (sym looks.number);
      is = op_is;
      may = entry_follows;
      made_is = all_found;
      all = made_is;
      count = looks.at.count;
      each = looks.at.each;
      ends = subst (λ k. last ≡ not (nat_lt made (length (jobs_of script history k op)))) (history_length c.journal.entries ∙ sym (length-list_of c.journal.entries)) ends;
    }

    -- after it the thread follows, or has let the tree go
    pub decided_share : (new : SeenValue) (worker_now : ShareValue Part) → new.thread ≡ looked.thread → new.tree.seen ≡ c.journal.entries ++ (looked.thread, entry) ∷ [] → HasStepped (happenings.Decide entry last made) worker worker_now
        → IsShareOf table (following (list_of new.tree.seen) new.thread n (length looks.at.found) (length (jobs_of script (history_of new.tree.seen) (length (history_of c.journal.entries)) op)) looks.at.found looks.at.given) worker_now
    decided_share new worker_now same seen stepped =
        let k : ℕ = length history in
        let all : ℕ = length (jobs_of script history k op) in
        let list : list_of c.journal.entries ++ entry ∷ [] ≡ list_of new.tree.seen = sym (ap list_of seen ∙ list_of-append c.journal.entries ((looked.thread, entry) ∷ [])) in
        let longer : history ++ h ∷ [] ≡ history_of new.tree.seen = sym (ap history_of seen ∙ history_push c.journal.entries looked.thread entry) in
        let many : all ≡ length (jobs_of script (history_of new.tree.seen) k op) = ap length (sym (jobs_same script history h op)) ∙ ap (λ hs. length (jobs_of script hs k op)) longer in
        record {
          table_is = stepped.0 ∙ looks.at.share_is.table_is;
          words = looks.at.share_is.words;
          parts_are =
              stepped.1
              ∙ (ap (parts_after after (happenings.Decide entry last made)) (parts_are new.thread (sym same))
              ∙ (following-decide (list_of c.journal.entries) entry new.thread n made all looks.at.found looks.at.given last ends
              ∙ (ap₂ (λ es m. following es new.thread n m all looks.at.found looks.at.given) list all_found
              ∙ ap (λ a. following (list_of new.tree.seen) new.thread n (length looks.at.found) a looks.at.found looks.at.given) many)));
        }
