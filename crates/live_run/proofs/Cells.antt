-- What a slice's cell keeps, step by step.
use Rattle.std.proofs.Common.{◌≡◌, ℕ, ◌<◌, ◌≤◌, ◌^◌, List, [], ◌∷◌, ◌++◌, length, refl, sym, ap, ◌∙◌, subst, arith}
use Rattle.std.specs.Prelude.{IsSome, IsTrue}
use Rattle.atomic_table.specs.Seated.{TableId}
use Rattle.cache_core.specs.History.{IsLegal, Shape}
use Rattle.cache_core.specs.Places.{CacheValue}
use Rattle.cache_core.specs.Stands.{Adds, StandsFor, entry}
use Rattle.cache_core.specs.declared.entry.SliceEntry.{SliceEntry}
use Rattle.cache_core.specs.declared.entry.What.{What}
use Rattle.live_law.specs.Cells.{AreMade, MayStand, SliceKeeps}
use Rattle.seen_journal.specs.Prefixes.{IsPrefix}
use Rattle.live_law.proofs.laws.MadeEntries.{AreMade-grown}
use Rattle.seen_journal.proofs.laws.Prefixes.{IsPrefix-self, length-prefix}
use Rattle.live_law.proofs.laws.SeenJournals.{HasGrown-more}
use Rattle.live_law.proofs.laws.SliceCells.{MayStand-made, SliceKeeps-longer, SliceKeeps-push, floor_of-past}
use Rattle.live_law.specs.SeenJournals.{HasGrown}
use Rattle.live_run.specs.Steps.{HasSeenTree}
use Rattle.run_law.proofs.laws.Pairs.{both_eqb-same}
use Rattle.live_run.specs.Cells.{AreOfThreads, SliceCellValue, SliceIsKept, made_by, taken_from}
use Rattle.live_run.specs.Names.{SeenValue, history_of, pass_at, seen_by}
use Rattle.live_run.specs.Sharing.{IsShareOf}
use Rattle.live_run.proofs.Bridges.{history_length, history_prefix, seen-slice, threads_push}
use Rattle.seen_journal.proofs.laws.Entries.{IsPrefix-list_of, length-list_of, list_of-append}
use Rattle.run_law.specs.Journals.{At}
use Rattle.run_law.specs.Slices.{shape_in}
use Rattle.run_law.specs.TreeHistory.{TreeEntryValue}
use Rattle.run_law.specs.Truth.{is_made_by}
use Rattle.run_law.specs.declared.journals.TreeEntry.{TreeEntry}
use Rattle.schedule_law.specs.LiveParts.{live_slice}
use Rattle.schedule_law.specs.declared.part.Part.{Part}
use Rattle.script_ops.specs.Values.{ScriptValue, op_at}
use Rattle.seen_journal.specs.Entries.{list_of}
use Rattle.seen_journal.specs.Journals.{JournalName, JournalValue}
use Rattle.seen_journal.specs.Passes.{HasSeen, PassValue}
use Rattle.shared_parts.specs.Shares.{ShareValue}

module _ (script : ScriptValue) (table : TableId) (tree slice : JournalName) (i : ℕ) where
  -- it has seen more of the tree's history
  pub cell_sees : (c : SliceCellValue) (now : PassValue TreeEntry) (seen : List (ℕ × TreeEntry)) → HasSeen c.tree now seen → AreOfThreads taken_from now.seen → SliceIsKept script table tree slice i c
      → SliceIsKept script table tree slice i (record { cache = c.cache; journal = c.journal; tree = now; share = c.share })
  cell_sees c now seen sees threads kept = record {
    lawful = kept.lawful;
    within = kept.within;
    journal_is = kept.journal_is;
    pass_is = sees.name ∙ kept.pass_is;
    shape = kept.shape;
    rmids = kept.rmids;
    stands = kept.stands;
    keeps = SliceKeeps-longer script i (history_of c.tree.seen) (history_of now.seen) (list_of c.journal.entries) (history_prefix c.tree.seen now.seen sees.prefix) kept.keeps;
    threads = kept.threads;
    few = kept.few;
    tree_threads = threads;
    share_is = kept.share_is;
  }

  -- it has one entry more
  pub cell_adds : (c : SliceCellValue) (cache : CacheValue) (journal : JournalValue SliceEntry) (share : ShareValue Part) (n op epoch : ℕ) (what : What) → cache.shape ≡ c.cache.shape → cache.rmids ≡ c.cache.rmids → Adds c.cache cache epoch what
      → journal.name ≡ c.journal.name → journal.entries ≡ c.journal.entries ++ (n, entry n op epoch what) ∷ [] → length journal.entries < 2 ^ 32 → MayStand script (history_of c.tree.seen) i (list_of c.journal.entries) (entry n op epoch what)
      → IsShareOf table (live_slice i (list_of c.journal.entries ++ entry n op epoch what ∷ []) ∷ []) share → SliceIsKept script table tree slice i c → SliceIsKept script table tree slice i (record { cache = cache; journal = journal; tree = c.tree; share = share })
  cell_adds c cache journal share n op epoch what shape rmids adds name list few stands stepped kept =
      let e : SliceEntry = entry n op epoch what in
      let now : list_of journal.entries ≡ list_of c.journal.entries ++ e ∷ [] = ap list_of list ∙ list_of-append c.journal.entries ((n, e) ∷ []) in
      let standing : StandsFor cache (list_of c.journal.entries ++ e ∷ []) = adds n op (list_of c.journal.entries) kept.stands in
      let legal : IsLegal (shape_in script.machine i) (list_of c.journal.entries ++ e ∷ []) = subst (λ (m : Shape). IsLegal m (list_of c.journal.entries ++ e ∷ [])) (shape ∙ kept.shape) standing.legal in
      record {
        lawful = kept.lawful;
        within = kept.within;
        journal_is = name ∙ kept.journal_is;
        pass_is = kept.pass_is;
        shape = shape ∙ kept.shape;
        rmids = rmids ∙ kept.rmids;
        stands = subst (λ es. StandsFor cache es) (sym now) standing;
        keeps = subst (λ es. SliceKeeps script i (history_of c.tree.seen) es) (sym now) (SliceKeeps-push script i (history_of c.tree.seen) (list_of c.journal.entries) e legal stands kept.keeps);
        threads = subst (λ xs. AreOfThreads made_by xs) (sym list) (threads_push made_by c.journal.entries n e refl kept.threads);
        few = few;
        tree_threads = kept.tree_threads;
        share_is = subst (λ es. IsShareOf table (live_slice i es ∷ []) share) (sym now) stepped;
      }

  -- where all commands before an epoch have made what they owe, as its thread has seen, and each other before it is the entry's own
  pub cell_stands : (c : SliceCellValue) (s : SeenValue) (upto : ℕ) (e : SliceEntry) → SliceIsKept script table tree slice i c → AreMade script (seen_by s) upto → upto ≤ length s.tree.seen → IsPrefix s.tree.seen c.tree.seen
      → IsPrefix (pass_at s i).seen c.journal.entries → IsSome (op_at script e.thread e.op) → e.epoch ≤ length c.tree.seen
      → ((k : ℕ) (h : TreeEntryValue) → upto ≤ k → k < e.epoch → At (history_of c.tree.seen) k h → IsTrue (is_made_by h.thread h.op e))
      → MayStand script (history_of c.tree.seen) i (list_of c.journal.entries) e
  cell_stands c s upto e kept made fits history prefix known epoch own =
      MayStand-made script (seen_by s) (history_of c.tree.seen) i upto (list_of c.journal.entries) e made (omega (arith, fits, history_length s.tree.seen)) (history_prefix s.tree.seen c.tree.seen history)
      (subst (λ xs. IsPrefix xs (list_of c.journal.entries)) (sym (seen-slice s i)) (IsPrefix-list_of (pass_at s i).seen c.journal.entries prefix))
      kept.within known (omega (arith, epoch, history_length c.tree.seen)) own

  -- its cache may have one entry more
  pub cell_clock : (c : SliceCellValue) → SliceIsKept script table tree slice i c → c.cache.clock < 2 ^ 32
  cell_clock c kept = omega (arith, kept.stands.clock, length-list_of c.journal.entries, kept.few)

  -- its floor is none that the tree has not had
  pub cell_floor : (c : SliceCellValue) → SliceIsKept script table tree slice i c → c.cache.floor ≤ length c.tree.seen
  cell_floor c kept = omega (arith, kept.stands.floor, floor_of-past script i (history_of c.tree.seen) (list_of c.journal.entries) kept.keeps, history_length c.tree.seen)

  -- What a cell does for the command that holds the tree: it is shown the tree's history, and makes an entry of its last epoch, which
  -- is behind all that the commands before `upto` have made; those from there on are the entry's own.
  pub cell_notes : (c : SliceCellValue) (now : PassValue TreeEntry) (s : SeenValue) (cache : CacheValue) (journal : JournalValue SliceEntry) (share : ShareValue Part) (op epoch upto : ℕ) (what : What) (e : SliceEntry)
      → SliceIsKept script table tree slice i c → HasSeen c.tree now s.tree.seen → AreOfThreads taken_from s.tree.seen → epoch ≡ length s.tree.seen → upto ≤ epoch → IsSome (op_at script s.thread op) → AreMade script (seen_by s) upto
      → ((k : ℕ) (h : TreeEntryValue) → upto ≤ k → k < epoch → At (history_of s.tree.seen) k h → (h.thread ≡ s.thread) × (h.op ≡ op))
      → cache.shape ≡ c.cache.shape → cache.rmids ≡ c.cache.rmids → Adds c.cache cache epoch what → e ≡ entry s.thread op epoch what
      → journal.name ≡ c.journal.name → journal.entries ≡ c.journal.entries ++ (s.thread, e) ∷ [] → length journal.entries < 2 ^ 32 → IsPrefix (pass_at s i).seen c.journal.entries
      → IsShareOf table (live_slice i (list_of c.journal.entries ++ e ∷ []) ∷ []) share → SliceIsKept script table tree slice i (record { cache = cache; journal = journal; tree = now; share = share })
  cell_notes c now s cache journal share op epoch upto what e kept sees threads is_epoch fits known made own shape rmids adds is name list few prefix stepped =
      let mid : SliceCellValue = record { cache = c.cache; journal = c.journal; tree = now; share = c.share } in
      let same : s.tree.seen ≡ now.seen = sym sees.seen_are in
      let had : SliceIsKept script table tree slice i mid = cell_sees c now s.tree.seen sees (subst (λ xs. AreOfThreads taken_from xs) same threads) kept in
      let stands : MayStand script (history_of now.seen) i (list_of c.journal.entries) (entry s.thread op epoch what) =
      cell_stands mid s upto (entry s.thread op epoch what) had made (omega (arith, fits, is_epoch)) (subst (λ xs. IsPrefix s.tree.seen xs) same (IsPrefix-self s.tree.seen)) prefix known (omega (arith, is_epoch, ap length same))
      (λ k h from less at.
      let its = own k h from less (subst (λ xs. At (history_of xs) k h) (sym same) at) in
      both_eqb-same s.thread h.thread op h.op (sym its.0) (sym its.1)) in
      cell_adds mid cache journal share s.thread op epoch what shape rmids adds name (list ∙ ap (λ x. c.journal.entries ++ (s.thread, x) ∷ []) is) few stands
      (subst (λ x. IsShareOf table (live_slice i (list_of c.journal.entries ++ x ∷ []) ∷ []) share) is stepped) had

  -- What a cell does for an access: it has seen at least the history of the thread, and makes an entry of the tag's epoch.
  pub cell_touches : (c : SliceCellValue) (now : PassValue TreeEntry) (seen : List (ℕ × TreeEntry)) (s met : SeenValue) (cache : CacheValue) (journal : JournalValue SliceEntry) (share : ShareValue Part) (op epoch : ℕ) (what : What) (e : SliceEntry)
      → SliceIsKept script table tree slice i c → HasSeen c.tree now seen → AreOfThreads taken_from now.seen → HasSeenTree s met → met.tree.seen ≡ now.seen → epoch ≤ length s.tree.seen → IsSome (op_at script s.thread op) → AreMade script (seen_by s) epoch
      → cache.shape ≡ c.cache.shape → cache.rmids ≡ c.cache.rmids → Adds c.cache cache epoch what → e ≡ entry met.thread op epoch what
      → journal.name ≡ c.journal.name → journal.entries ≡ c.journal.entries ++ (met.thread, e) ∷ [] → length journal.entries < 2 ^ 32 → IsPrefix (pass_at met i).seen c.journal.entries
      → IsShareOf table (live_slice i (list_of c.journal.entries ++ e ∷ []) ∷ []) share → SliceIsKept script table tree slice i (record { cache = cache; journal = journal; tree = now; share = share })
  cell_touches c now seen s met cache journal share op epoch what e kept sees threads meets same within known made shape rmids adds is name list few prefix stepped =
      let mid : SliceCellValue = record { cache = c.cache; journal = c.journal; tree = now; share = c.share } in
      let had : SliceIsKept script table tree slice i mid = cell_sees c now seen sees threads kept in
      let grown : HasGrown (seen_by s) (seen_by met) = HasGrown-more s.thread (seen_by s) (seen_by met) meets.sees in
      let fits : epoch ≤ length (history_of s.tree.seen) = omega (arith, within, history_length s.tree.seen) in
      let longer = length-prefix (history_of s.tree.seen) (history_of met.tree.seen) grown.tree in
      let still : AreMade script (seen_by met) epoch = AreMade-grown script (seen_by s) (seen_by met) epoch grown fits made in
      let reach : epoch ≤ length met.tree.seen = omega (arith, fits, longer, history_length met.tree.seen) in
      let stands : MayStand script (history_of now.seen) i (list_of c.journal.entries) (entry met.thread op epoch what) =
      cell_stands mid met epoch (entry met.thread op epoch what) had still reach (subst (λ xs. IsPrefix met.tree.seen xs) same (IsPrefix-self met.tree.seen)) prefix
      (subst (λ t. IsSome (op_at script t op)) (sym meets.thread) known) (omega (arith, reach, ap length same))
      (λ k h from less at. absurd (omega (arith, from, less))) in
      cell_adds mid cache journal share met.thread op epoch what shape rmids adds name (list ∙ ap (λ x. c.journal.entries ++ (met.thread, x) ∷ []) is) few stands
      (subst (λ x. IsShareOf table (live_slice i (list_of c.journal.entries ++ x ∷ []) ∷ []) share) is stepped) had
