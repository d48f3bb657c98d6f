-- What the tree's cell and a thread keep with a command more.
use Rattle.std.proofs.Common.{◌≡◌, ℕ, ◌+◌, ◌≤◌, true, Bool, List, [], ◌∷◌, ◌++◌, length, take, get_or, None, Some, refl, sym, ap, ap₂, ◌∙◌, subst, arith}
use Rattle.std.specs.Prelude.{IsTrue}
use Rattle.std.proofs.Math.Seq.{take-append_seam}
use Rattle.std.proofs.lemmas.List.{length_push}
use Rattle.atomic_table.specs.Seated.{TableId}
use Rattle.cache_core.specs.declared.entry.SliceEntry.{SliceEntry}
use Rattle.live_law.specs.Cells.{TreeKeeps}
use Rattle.live_law.proofs.laws.FollowStages.{IsFollowing-more, PassesKeepFrom-let_go}
use Rattle.seen_journal.proofs.laws.Prefixes.{IsPrefix-self}
use Rattle.live_law.proofs.laws.SliceCells.{At-same}
use Rattle.live_law.proofs.laws.TreeCells.{TreeKeeps-command}
use Rattle.live_law.specs.DoneOps.{AreEnded}
use Rattle.live_law.specs.Passes.{PassesKeepFrom}
use Rattle.live_law.specs.SeenJournals.{HasGrown, SeesMore}
use Rattle.live_law.specs.Stages.{IsFollowing, IsReady}
use Rattle.seen_journal.specs.Prefixes.{IsPrefix}
use Rattle.live_run.proofs.Bridges.{history_length}
use Rattle.live_run.proofs.Decisions.{IsDecided, decided_share, entry_follows, follows_decided, looks_found, state_is}
use Rattle.seen_journal.proofs.laws.Entries.{IsPrefix-list_of}
use Rattle.live_run.proofs.Trees.{lists_at, lists_of, lists_same, tree_meets}
use Rattle.live_run.specs.Cells.{ArePasses, TreeCellValue, TreeIsKept, pass_in}
use Rattle.live_run.specs.Names.{SeenValue, history_of, seen_by}
use Rattle.live_run.specs.Commands.{FollowsAt, HasReplied, shown_where}
use Rattle.live_run.specs.Sharing.{IsShareOf}
use Rattle.live_run.specs.Steps.{HasTaken, HaveGrown, HaveSeenSame}
use Rattle.machine.specs.declared.parameters.Parameters.{Parameters}
use Rattle.run_law.specs.Entries.{entry_value}
use Rattle.run_law.specs.Jobs.{jobs_of, looks_of}
use Rattle.run_law.specs.Journals.{At, JournalsValue}
use Rattle.run_law.proofs.laws.Positions.{At-last}
use Rattle.run_law.proofs.laws.FollowCounts.{length-looks}
use Rattle.run_law.specs.Ops.{is_command}
use Rattle.run_law.specs.TreeHistory.{CommandMayFollow, TreeEntryValue, tree_after}
use Rattle.run_law.specs.declared.journals.TreeEntry.{TreeEntry}
use Rattle.schedule_law.specs.LiveParts.{live_tree}
use Rattle.schedule_law.specs.declared.part.Part.{Part}
use Rattle.script_ops.specs.Values.{ScriptValue, op_at}
use Rattle.script_ops.specs.declared.op.Op.{Op}
use Rattle.seen_journal.specs.Entries.{list_of}
use Rattle.seen_journal.specs.Journals.{JournalName, JournalValue}
use Rattle.seen_journal.specs.Passes.{PassValue}
use Rattle.shared_parts.specs.Shares.{ShareValue}
use Rattle.tree_core.specs.Values.{TreeValue}
use Rattle.tree_law.specs.State.{State}
use Rattle.tree_law.specs.Steps.{after, next}
use Rattle.tree_law.specs.declared.follow.Follow.{Follow}
use Rattle.live_run.proofs.TakenTrees.{history_push, looks_same, named-next, shown_where-next}

module _ (script : ScriptValue) (table : TableId) (tree : JournalName) (slices : List JournalName) (c : TreeCellValue) (kept : TreeIsKept script table tree slices c) (now : List (PassValue SliceEntry)) (passes : ArePasses script slices now) (grown : HaveGrown c.slices now) (s looked new : SeenValue) (n : ℕ) (op : Op) (t : TreeValue) (journal : JournalValue TreeEntry) (entry : TreeEntry) (worker worker_now : ShareValue Part) (is : op_at script s.thread n ≡ Some op) (command : IsTrue (is_command op)) (decided : IsDecided script table c s looked new n op t journal entry worker worker_now) where
  abbrev before : JournalsValue
  before = record { tree = history_of c.journal.entries; slices = lists_of now }

  abbrev h : TreeEntryValue
  h = entry_value entry

  abbrev pub at_k : ℕ
  at_k = length (history_of c.journal.entries)

  abbrev behind : JournalsValue
  behind = record { tree = history_of c.journal.entries ++ h ∷ []; slices = lists_of looked.slices }

  -- the history now
  history_now : history_of new.tree.seen ≡ behind.tree
  history_now = ap history_of (decided.seen ∙ decided.list) ∙ history_push c.journal.entries looked.thread entry

  is_now : seen_by new ≡ behind
  is_now = ap₂ (λ (hs : List TreeEntryValue) (ls : List (List SliceEntry)). record { tree = hs; slices = ls }) history_now (ap lists_of decided.slices)

  kept_now : TreeIsKept script table tree slices (record { tree = c.tree; journal = c.journal; slices = now; share = c.share })
  kept_now = tree_meets script table tree slices c kept now passes grown

  law_is : next c.tree.machine c.tree.state op h.looks ≡ next script.machine (tree_after script before.tree) op h.looks
  law_is = state_is script table tree slices c kept s looked n op entry worker is command decided.looks

  may : CommandMayFollow script before.tree h
  may = entry_follows script table tree slices c kept s looked n op entry worker is command decided.looks

  new_thread : new.thread ≡ s.thread
  new_thread = decided.new_thread ∙ decided.looks.same_thread

  -- it follows from here
  pub command_follows : FollowsAt script table n at_k op (length (looks_of script (history_of new.tree.seen) at_k op)) new worker_now
  command_follows =
      let looks : length decided.looks.at.found ≡ length (looks_of script (history_of new.tree.seen) at_k op) =
      looks_found script table tree slices c kept s looked n op entry worker is command decided.looks ∙ (sym (length-looks script before.tree op) ∙ ap length (sym (looks_same script before.tree h op) ∙ ap (λ hs. looks_of script hs at_k op) (sym history_now))) in
      subst (λ made. FollowsAt script table n at_k op made new worker_now) looks
      (record {
        start = decided.looks.at.start;
        ended = subst (λ u. AreEnded script decided.looks.at.start u) (sym decided.new_thread) decided.looks.at.ended;
        h = h;
        is = subst (λ u. IsFollowing script decided.looks.at.start u n at_k op h (length decided.looks.at.found) (seen_by new)) (sym new_thread)
            (subst (λ (v : JournalsValue). IsFollowing script decided.looks.at.start s.thread n at_k op h (length decided.looks.at.found) v) (sym is_now)
            (follows_decided script table tree slices c kept s looked n op entry worker is command decided.looks));
        found = decided.looks.at.found;
        given = decided.looks.at.given;
        share_is = decided_share script table tree slices c kept s looked n op entry worker is command decided.looks decided.last decided.made decided.made_is decided.ends new worker_now decided.new_thread (decided.seen ∙ decided.list) decided.stepped;
        last = omega (arith, history_length c.journal.entries, ap length (decided.seen ∙ decided.list), length_push c.journal.entries (looked.thread, entry));
      })

  -- what follows it is what the tree's law says
  pub decided_follows : (fs : List Follow) → fs ≡ after c.tree.machine c.tree.state c.tree.epoch op → fs ≡ after script.machine (tree_after script (take at_k (history_of new.tree.seen))) at_k op
  decided_follows fs are =
      let front : take at_k (history_of new.tree.seen) ≡ before.tree = ap (take at_k) history_now ∙ take-append_seam before.tree (h ∷ []) in
      are
      ∙ (ap (λ (m : Parameters). after m c.tree.state c.tree.epoch op) kept.machine
      ∙ (ap (λ (x : State). after script.machine x c.tree.epoch op) (kept.keeps.state_is ∙ ap (tree_after script) (sym front))
      ∙ ap (λ x. after script.machine (tree_after script (take at_k (history_of new.tree.seen))) x op) (kept.epoch ∙ sym (history_length c.journal.entries))))

  -- its reply is what the tree's law says, and its text what the files show
  pub command_replied : (asked : Bool) (old last : SeenValue) (shown now_shown : List ℕ) → old.thread ≡ s.thread → length (history_of old.tree.seen) ≤ at_k → last.tree ≡ new.tree
      → now_shown ≡ shown_where asked script t.state op h.looks entry.reply shown
      → HasReplied script asked op entry.reply (record { seen = old; next = n; shown = shown; begun = true }) (record { seen = last; next = n + 1; shown = now_shown; begun = true })
  command_replied asked old last shown now_shown same_thread late same_tree text =
      let history : history_of last.tree.seen ≡ behind.tree = ap (λ (p : PassValue TreeEntry). history_of p.seen) same_tree ∙ history_now in
      let front_is : take at_k (history_of last.tree.seen) ≡ before.tree = ap (take at_k) history ∙ take-append_seam before.tree (h ∷ []) in
      let reply : entry.reply ≡ (next script.machine (tree_after script before.tree) op h.looks).reply = decided.looks.reply ∙ ap (λ o. o.reply) law_is in
      record {
        k = at_k;
        h = h;
        there = subst (λ hs. At hs at_k h) (sym history) (At-last before.tree h);
        thread = decided.looks.thread ∙ sym same_thread;
        number = decided.looks.number;
        noted = refl;
        late = late;
        reply_is = reply ∙ ap (λ hs. (next script.machine (tree_after script hs) op h.looks).reply) (sym front_is);
        shown_is =
            text
            ∙ (shown_where-next asked script script.machine (tree_after script before.tree) t.state op h.looks entry.reply shown (decided.state ∙ ap (λ o. o.state) law_is)
            ∙ ap (λ hs. shown_where asked script (tree_after script hs) op h.looks entry.reply shown) (sym front_is));
      }

  module _ (later : List (PassValue SliceEntry)) (later_passes : ArePasses script slices later) (later_grown : HaveGrown now later) (followed last : SeenValue) (worker_then : ShareValue Part) (at : FollowsAt script table n at_k op (length (jobs_of script (history_of new.tree.seen) at_k op)) followed worker_then) (tree_same : followed.tree ≡ new.tree) (thread_same : followed.thread ≡ new.thread) (released : HasTaken followed last) (last_tree : last.tree ≡ followed.tree) (same : HaveSeenSame later last.slices) where
    abbrev whole : JournalsValue
    whole = record { tree = history_of c.journal.entries ++ h ∷ []; slices = lists_of later }

    history_then : history_of followed.tree.seen ≡ whole.tree
    history_then = ap (λ (p : PassValue TreeEntry). history_of p.seen) tree_same ∙ history_now

    -- its entry is the last of the history
    same_entry : at.h ≡ h
    same_entry = At-same whole.tree at_k at.h h (subst (λ hs. At hs at_k at.h) history_then at.is.there) (At-last (history_of c.journal.entries) h)

    -- all that it owes is made, as the cell has seen
    all_made : IsFollowing script at.start s.thread n at_k op h (length (jobs_of script whole.tree at_k op)) whole
    all_made =
        let seen : seen_by last ≡ (record { tree = history_of followed.tree.seen; slices = lists_of last.slices }) = ap (λ (p : PassValue TreeEntry). record { tree = history_of p.seen; slices = lists_of last.slices }) last_tree in
        let more : IsFollowing script at.start followed.thread n at_k op at.h (length (jobs_of script (history_of new.tree.seen) at_k op)) (record { tree = history_of followed.tree.seen; slices = lists_of last.slices }) =
        IsFollowing-more script at.start followed.thread n at_k op at.h (length (jobs_of script (history_of new.tree.seen) at_k op)) (seen_by followed) (lists_of last.slices)
        (subst (λ (v : JournalsValue). SeesMore followed.thread (seen_by followed) v) seen released.sees) at.is in
        let cell : IsFollowing script at.start followed.thread n at_k op at.h (length (jobs_of script (history_of new.tree.seen) at_k op)) whole =
        subst (λ hs. IsFollowing script at.start followed.thread n at_k op at.h (length (jobs_of script (history_of new.tree.seen) at_k op)) (record { tree = hs; slices = lists_of later })) history_then
        (subst (λ ls. IsFollowing script at.start followed.thread n at_k op at.h (length (jobs_of script (history_of new.tree.seen) at_k op)) (record { tree = history_of followed.tree.seen; slices = ls })) (sym (lists_same later last.slices same)) more) in
        subst (λ made. IsFollowing script at.start s.thread n at_k op h made whole) (ap (λ hs. length (jobs_of script hs at_k op)) history_now)
        (subst (λ y. IsFollowing script at.start s.thread n at_k op y (length (jobs_of script (history_of new.tree.seen) at_k op)) whole) same_entry
        (subst (λ u. IsFollowing script at.start u n at_k op at.h (length (jobs_of script (history_of new.tree.seen) at_k op)) whole) (thread_same ∙ new_thread) cell))

    -- the thread is ready for its next op
    pub command_ready : IsReady script s.thread (n + 1) (seen_by last)
    command_ready =
        let seen : seen_by last ≡ whole =
        ap₂ (λ (hs : List TreeEntryValue) (ls : List (List SliceEntry)). record { tree = hs; slices = ls }) (ap (λ (p : PassValue TreeEntry). history_of p.seen) last_tree ∙ history_then) (sym (lists_same later last.slices same)) in
        record {
          start = at.start;
          ended = subst (λ u. AreEnded script at.start u) (thread_same ∙ new_thread) at.ended;
          keeps = subst (λ (v : JournalsValue). PassesKeepFrom script at.start s.thread (n + 1) (n + 1) (n + 1) v) (sym seen)
              (PassesKeepFrom-let_go script at.start s.thread n at_k op h whole kept.lawful.in_range.some_slice all_made);
        }

    -- and the cell keeps what it keeps
    pub command_kept : (share : ShareValue Part) → IsShareOf table (live_tree (list_of journal.entries) None ∷ []) share → TreeIsKept script table tree slices (record { tree = t; journal = journal; slices = later; share = share })
    command_kept share share_is =
        let seen : HasGrown before (record { tree = before.tree; slices = lists_of later }) = record {
          tree = IsPrefix-self before.tree;
          slices = λ i. subst (λ xs. IsPrefix xs (get_or (lists_of later) i [])) (sym (lists_at now i)) (subst (λ xs. IsPrefix (list_of (pass_in now i).seen) xs) (sym (lists_at later i)) (IsPrefix-list_of (pass_in now i).seen (pass_in later i).seen (later_grown i)));
        } in
        let keeps : TreeKeeps script (next script.machine c.tree.state op h.looks).state whole =
        TreeKeeps-command script c.tree.state before at.start s.thread n op h (lists_of later) kept.lawful.in_range.some_slice kept_now.keeps seen may all_made in
        let state : t.state ≡ (next script.machine c.tree.state op h.looks).state =
        decided.state ∙ ap (λ (m : Parameters). (next m c.tree.state op h.looks).state) kept.machine in
        let history : history_of journal.entries ≡ whole.tree = ap history_of decided.list ∙ history_push c.journal.entries looked.thread entry in
        record {
          lawful = kept.lawful;
          journal_is = decided.name ∙ kept.journal_is;
          machine = decided.machine ∙ kept.machine;
          epoch = omega (arith, decided.epoch, kept.epoch, ap length decided.list, length_push c.journal.entries (looked.thread, entry));
          passes = later_passes;
          threads = decided.threads;
          share_is = share_is;
          named = named-next script c.tree.machine c.tree.state t.state s.thread n op h.looks kept.lawful is decided.state kept.named;
          keeps = subst (λ (x : State). TreeKeeps script x (record { tree = history_of journal.entries; slices = lists_of later })) (sym state)
              (subst (λ hs. TreeKeeps script (next script.machine c.tree.state op h.looks).state (record { tree = hs; slices = lists_of later })) (sym history) keeps);
        }
