-- What the tree's cell keeps, step by step.
use Rattle.std.proofs.Common.{◌≡◌, ℕ, zero, suc, List, [], ◌∷◌, length, map, get_or, refl, sym, ap, ◌∙◌, subst, arith}
use Rattle.atomic_table.specs.Seated.{TableId}
use Rattle.cache_core.specs.declared.entry.SliceEntry.{SliceEntry}
use Rattle.live_law.specs.Cells.{AreMade}
use Rattle.seen_journal.specs.Prefixes.{IsPrefix}
use Rattle.seen_journal.proofs.laws.Prefixes.{IsPrefix-self}
use Rattle.live_law.proofs.laws.TreeCells.{TreeKeeps-grown}
use Rattle.seen_journal.proofs.laws.Entries.{IsPrefix-list_of}
use Rattle.live_run.specs.Cells.{ArePasses, TreeCellValue, TreeIsKept, pass_in, seen_in}
use Rattle.live_run.specs.Names.{SeenValue, history_of, seen_by}
use Rattle.live_run.specs.Steps.{HaveGrown, HaveSeenSame}
use Rattle.run_law.proofs.laws.Tasks.{tasks_of-tree_after}
use Rattle.schedule_law.specs.declared.part.Part.{Part}
use Rattle.script_ops.specs.Values.{ScriptValue}
use Rattle.seen_journal.specs.Entries.{list_of}
use Rattle.seen_journal.specs.Journals.{JournalName}
use Rattle.seen_journal.specs.Passes.{PassValue}
use Rattle.shared_parts.specs.Shares.{ShareValue}
use Rattle.tree_law.specs.State.{tasks_of}

-- the lists that passes have seen
abbrev pub lists_of : List (PassValue SliceEntry) → List (List SliceEntry)
lists_of passes = map (λ (p : PassValue SliceEntry). list_of p.seen) passes

pub lists_at : (ps : List (PassValue SliceEntry)) (i : ℕ) → get_or (lists_of ps) i [] ≡ list_of (pass_in ps i).seen
lists_at [] i = refl
lists_at (p ∷ ps) zero = refl
lists_at (p ∷ ps) (suc i) = lists_at ps i

pub lists_same : (ps qs : List (PassValue SliceEntry)) → HaveSeenSame ps qs → lists_of ps ≡ lists_of qs
lists_same ps qs same = of ps qs same.count same.same
  where
    of : (ps qs : List (PassValue SliceEntry)) → length ps ≡ length qs → ((i : ℕ) → (pass_in ps i).seen ≡ (pass_in qs i).seen) → lists_of ps ≡ lists_of qs
    of [] [] count same = refl
    of [] (q ∷ qs) count same = absurd (omega (arith, count))
    of (p ∷ ps) [] count same = absurd (omega (arith, count))
    of (p ∷ ps) (q ∷ qs) count same = rw (same 0) (ap (λ (ls : List (List SliceEntry)). list_of q.seen ∷ ls) (of ps qs (omega (arith, count)) (λ i. same (suc i))))

module _ (script : ScriptValue) (table : TableId) (tree : JournalName) (slices : List JournalName) (c : TreeCellValue) (kept : TreeIsKept script table tree slices c) where
  -- the tasks of the tree are the script's
  pub tree_tasks : tasks_of c.tree.state ≡ script.tasks
  tree_tasks = ap tasks_of kept.keeps.state_is ∙ tasks_of-tree_after script (history_of c.journal.entries)

  -- whatever share has the history
  pub tree_shares : (share : ShareValue Part) → share.table ≡ c.share.table → share.parts ≡ c.share.parts → TreeIsKept script table tree slices (record { tree = c.tree; journal = c.journal; slices = c.slices; share = share })
  tree_shares share same parts = record {
    lawful = kept.lawful;
    journal_is = kept.journal_is;
    machine = kept.machine;
    epoch = kept.epoch;
    passes = kept.passes;
    threads = kept.threads;
    keeps = kept.keeps;
    named = kept.named;
    share_is = record { table_is = same ∙ kept.share_is.table_is; words = kept.share_is.words; parts_are = parts ∙ kept.share_is.parts_are };
  }

  module _ (now : List (PassValue SliceEntry)) (passes : ArePasses script slices now) (grown : HaveGrown c.slices now) where
    -- its passes have met those of a thread
    pub tree_meets : TreeIsKept script table tree slices (record { tree = c.tree; journal = c.journal; slices = now; share = c.share })
    tree_meets = record {
      lawful = kept.lawful;
      journal_is = kept.journal_is;
      machine = kept.machine;
      epoch = kept.epoch;
      passes = passes;
      threads = kept.threads;
      keeps = TreeKeeps-grown script c.tree.state (seen_in c) (lists_of now)
          (record {
            tree = IsPrefix-self (history_of c.journal.entries);
            slices = λ i. subst (λ xs. IsPrefix xs (get_or (lists_of now) i [])) (sym (lists_at c.slices i)) (subst (λ xs. IsPrefix (list_of (pass_in c.slices i).seen) xs) (sym (lists_at now i)) (IsPrefix-list_of (pass_in c.slices i).seen (pass_in now i).seen (grown i)));
          })
          kept.keeps;
      named = kept.named;
      share_is = kept.share_is;
    }

    -- who has seen the same has seen what all commands have made
    pub tree_shows : (s : SeenValue) → s.tree.seen ≡ c.journal.entries → HaveSeenSame now s.slices → AreMade script (seen_by s) (length (history_of s.tree.seen))
    tree_shows s seen same =
        let had : AreMade script (record { tree = history_of c.journal.entries; slices = lists_of now }) (length (history_of c.journal.entries)) = tree_meets.keeps.made in
        subst (λ ls. AreMade script (record { tree = history_of s.tree.seen; slices = ls }) (length (history_of s.tree.seen))) (lists_same now s.slices same)
        (subst (λ xs. AreMade script (record { tree = history_of xs; slices = lists_of now }) (length (history_of xs))) (sym seen) had)
