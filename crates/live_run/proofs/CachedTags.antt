-- What a thread knows of the tag that it was given last.
use Rattle.std.proofs.Common.{◌≡◌, ℕ, ◌<◌, ◌≤◌, ◌^◌, false, refl, List, Option, None, Some, length, take, ap, sym, ◌∙◌, subst}
use Rattle.std.specs.Prelude.{IfSome, IsSomeAnd, is_some}
use Rattle.std.proofs.Math.Seq.{take-length}
use Rattle.atomic_table.specs.Seated.{TableId}
use Rattle.cache_core.specs.declared.entry.SliceEntry.{SliceEntry}
use Rattle.live_law.proofs.laws.AccessStages.{HoldsTag-grown, HoldsTag-tag}
use Rattle.live_law.specs.Cells.{AreMade}
use Rattle.live_law.specs.SeenJournals.{HasGrown}
use Rattle.live_law.specs.Stages.{HoldsTag}
use Rattle.live_run.proofs.Bridges.{history_length}
use Rattle.live_run.proofs.Growth.{HasGrown-taken}
use Rattle.live_run.proofs.Trees.{tree_shows}
use Rattle.live_run.specs.Cells.{ArePasses, TreeCellValue, TreeIsKept}
use Rattle.live_run.specs.CachedTags.{HoldsCached, IsCached, IsGiven, IsNoted, IsRecalled}
use Rattle.live_run.specs.Names.{SeenValue, history_of, seen_by}
use Rattle.live_run.specs.Sharing.{given_in}
use Rattle.schedule_law.specs.declared.part.Part.{Part}
use Rattle.shared_parts.specs.Shares.{ShareValue}
use Rattle.live_run.specs.Steps.{HasTaken, HaveGrown, HaveSeenSame}
use Rattle.schedule_law.specs.declared.part.GivenTag.{GivenTag}
use Rattle.machine.specs.declared.parameters.Parameters.{Parameters}
use Rattle.rc_base.specs.declared.names.Tag.{Tag}
use Rattle.run_law.specs.Growth.{tag_of}
use Rattle.run_law.specs.Quotas.{command_count}
use Rattle.run_law.specs.TreeHistory.{TreeEntryValue, tree_after}
use Rattle.script_ops.specs.Values.{ScriptValue}
use Rattle.seen_journal.proofs.laws.Entries.{length-list_of}
use Rattle.seen_journal.specs.Entries.{list_of}
use Rattle.seen_journal.specs.Journals.{JournalName}
use Rattle.seen_journal.specs.Passes.{PassValue}
use Rattle.tree_core.specs.Values.{TreeValue}
use Rattle.tree_law.specs.State.{State}

-- ---- one tag

-- a known tag of this task and CPU is the one that the tree gives
pub given_cached : (t : TreeValue) (o : Option GivenTag) (task cpu : ℕ) (tag : Tag) → IfSome o (λ k. IsGiven t k.task k.cpu k.tag) → IsSomeAnd o (λ k. (k.task ≡ task) × (k.cpu ≡ cpu) × (k.tag ≡ tag)) → IsGiven t task cpu tag
given_cached t None task cpu tag given is = absurd is
given_cached t (Some k) task cpu tag given is =
    let (same_task, same_cpu, same_tag) = is in
    subst (λ x. IsGiven t x cpu tag) same_task (subst (λ x. IsGiven t k.task x tag) same_cpu (subst (IsGiven t k.task k.cpu) same_tag given))

-- it stays known when the thread sees more
pub HoldsCached-grown : (script : ScriptValue) (old new : SeenValue) (o : Option GivenTag) → HasGrown (seen_by old) (seen_by new) → HoldsCached script old o → HoldsCached script new o
HoldsCached-grown script old new None grown known = known
HoldsCached-grown script old new (Some k) grown known = record {
  holds = HoldsTag-grown script (seen_by old) (seen_by new) k.task k.cpu k.tag grown known.holds;
  rmid = known.rmid;
  mask = known.mask;
  most = known.most;
}

-- so does the machine of steps, while its part is given no other
pub IsNoted-same : (old new : ShareValue Part) (o : Option GivenTag) → given_in new.parts ≡ given_in old.parts → IsNoted old o → IsNoted new o
IsNoted-same old new None same noted = tt
IsNoted-same old new (Some k) same noted = same ∙ noted

-- what it knows of a tag that it may take again
pub IsRecalled-cached : (script : ScriptValue) (s : SeenValue) (k : GivenTag) (task cpu : ℕ) → k.task ≡ task → k.cpu ≡ cpu → length s.tree.seen ≤ k.tag.epoch → IsCached script s k → IsRecalled script s task cpu k.tag
IsRecalled-cached script s k task cpu same_task same_cpu fresh known = record {
  holds = subst (λ t. HoldsTag script (seen_by s) t cpu k.tag) same_task (subst (λ p. HoldsTag script (seen_by s) k.task p k.tag) same_cpu known.holds);
  fresh = fresh;
  most = known.most;
  known = known.rmid;
  valid = known.mask;
}

-- what is left of it is known
pub HoldsCached-current : (script : ScriptValue) (s : SeenValue) (last still : Option GivenTag) → IfSome still (λ k. last ≡ Some k) → HoldsCached script s last → HoldsCached script s still
HoldsCached-current script s last None is known = tt
HoldsCached-current script s last (Some k) is known = subst (HoldsCached script s) is known

-- ---- in the tree's cell

module _ (script : ScriptValue) (table : TableId) (tree : JournalName) (slices : List JournalName) (c : TreeCellValue) (kept : TreeIsKept script table tree slices c) where
  -- its history
  abbrev pub history : List TreeEntryValue
  history = history_of c.journal.entries

  -- what its tree gives
  pub given_tag : (task cpu : ℕ) (tag : Tag) → IsGiven c.tree task cpu tag → tag ≡ tag_of script.machine (tree_after script history) (length (list_of c.journal.entries)) task cpu
  given_tag task cpu tag given =
      given.is
      ∙ ap (λ (m : Parameters). tag_of m c.tree.state c.tree.epoch task cpu) kept.machine
      ∙ ap (λ (x : State). tag_of script.machine x c.tree.epoch task cpu) kept.keeps.state_is
      ∙ ap (λ n. tag_of script.machine (tree_after script history) n task cpu) (kept.epoch ∙ sym (length-list_of c.journal.entries))

  module _ (old s : SeenValue) (taken : HasTaken old s) (seen : s.tree.seen ≡ c.journal.entries) (o : Option GivenTag) (known : HoldsCached script old o) (epochs : IfSome o (λ k. k.tag.epoch ≡ c.tree.epoch)) where
    still_cached : HoldsCached script s o
    still_cached = HoldsCached-grown script old s o (HasGrown-taken old s taken) known

    whole : (k : GivenTag) → k.tag.epoch ≡ c.tree.epoch → k.tag.epoch ≡ length history
    whole k epoch = epoch ∙ kept.epoch ∙ sym (history_length c.journal.entries)

    -- a tag of its epoch is one that its tree gives
    pub current_given : IfSome o (λ k. IsGiven c.tree k.task k.cpu k.tag)
    current_given = of o still_cached epochs
      where
        of : (o : Option GivenTag) → HoldsCached script s o → IfSome o (λ k. k.tag.epoch ≡ c.tree.epoch) → IfSome o (λ k. IsGiven c.tree k.task k.cpu k.tag)
        of None known epoch = tt
        of (Some k) known epoch =
            let all : take k.tag.epoch (history_of s.tree.seen) ≡ history = ap (λ xs. take k.tag.epoch (history_of xs)) seen ∙ ap (λ n. take n history) (whole k epoch) ∙ take-length history in
            record {
              is = known.holds.is
                  ∙ ap (λ hs. tag_of script.machine (tree_after script hs) k.tag.epoch k.task k.cpu) all
                  ∙ ap (λ n. tag_of script.machine (tree_after script history) n k.task k.cpu) epoch
                  ∙ ap (λ (x : State). tag_of script.machine x c.tree.epoch k.task k.cpu) (sym kept.keeps.state_is)
                  ∙ ap (λ (m : Parameters). tag_of m c.tree.state c.tree.epoch k.task k.cpu) (sym kept.machine);
              rmid = subst (λ (m : Parameters). k.tag.rmid < m.rmids) (sym kept.machine) known.rmid;
              mask = (known.mask.0, subst (λ (m : Parameters). k.tag.mask < 2 ^ m.ways) (sym kept.machine) known.mask.1);
            }

    module _ (now : List (PassValue SliceEntry)) (passes : ArePasses script slices now) (grown : HaveGrown c.slices now) (same : is_some o ≡ false → HaveSeenSame now s.slices) where
      -- the thread has seen what all commands have made
      pub made_now : AreMade script (seen_by s) (length (history_of s.tree.seen))
      made_now = of o still_cached epochs same
        where
          of : (o : Option GivenTag) → HoldsCached script s o → IfSome o (λ k. k.tag.epoch ≡ c.tree.epoch) → (is_some o ≡ false → HaveSeenSame now s.slices) → AreMade script (seen_by s) (length (history_of s.tree.seen))
          of None known epoch same = tree_shows script table tree slices c kept now passes grown s seen (same refl)
          of (Some k) known epoch same = subst (AreMade script (seen_by s)) (whole k epoch ∙ ap (λ xs. length (history_of xs)) (sym seen)) known.holds.others

      -- so it holds the tag that the tree gives
      pub holds_given : (task cpu : ℕ) (tag : Tag) → IsGiven c.tree task cpu tag → HoldsTag script (seen_by s) task cpu tag
      holds_given task cpu tag given =
          let is : tag ≡ tag_of script.machine (tree_after script (history_of s.tree.seen)) (length (history_of s.tree.seen)) task cpu =
          given_tag task cpu tag given
          ∙ ap (λ n. tag_of script.machine (tree_after script history) n task cpu) (length-list_of c.journal.entries ∙ sym (history_length c.journal.entries))
          ∙ ap (λ xs. tag_of script.machine (tree_after script (history_of xs)) (length (history_of xs)) task cpu) (sym seen) in
          subst (HoldsTag script (seen_by s) task cpu) (sym is) (HoldsTag-tag script (seen_by s) task cpu made_now)

      -- and knows it
      pub caches_given : (task cpu : ℕ) (tag : Tag) → IsGiven c.tree task cpu tag → tag.epoch ≤ command_count script → IsCached script s (record { task = task; cpu = cpu; tag = tag })
      caches_given task cpu tag given most = record {
        most = most;
        holds = holds_given task cpu tag given;
        rmid = subst (λ (m : Parameters). tag.rmid < m.rmids) kept.machine given.rmid;
        mask = (given.mask.0, subst (λ (m : Parameters). tag.mask < 2 ^ m.ways) kept.machine given.mask.1);
      }
