-- A command, step by step.
-- (For functions and proofs: no promise of the program stands on it.)
use Rattle.std.specs.Prelude.{◌≡◌, ℕ, ◌+◌, ◌*◌, ◌<◌, ◌≤◌, ◌^◌, All, slice_get, Bool, if◌then◌else◌, List, length, take, Some, Option}
use Rattle.atomic_table.specs.Seated.{TableId}
use Rattle.file_view.specs.Texts.{is_reading, text_of}
use Rattle.live_law.specs.DoneOps.{AreEnded}
use Rattle.live_law.specs.Stages.{IsFollowing, IsLooking}
use Rattle.live_run.specs.Names.{PassesValue, SeenValue, history_of, seen_by}
use Rattle.live_run.specs.Sharing.{IsShareOf, following, holding}
use Rattle.rc_base.specs.declared.replies.Reply.{Reply}
use Rattle.rc_base.specs.declared.replies.Reply.TheVariants as replies
use Rattle.run_law.specs.FoundLooks.{found_at}
use Rattle.run_law.specs.Jobs.{jobs_of}
use Rattle.run_law.specs.Journals.{At, JournalsValue}
use Rattle.run_law.specs.TreeHistory.{TreeEntryValue, tree_after}
use Rattle.schedule_law.specs.declared.part.GivenTag.{GivenTag}
use Rattle.schedule_law.specs.declared.part.Part.{Part}
use Rattle.script_ops.specs.Values.{ScriptValue}
use Rattle.script_ops.specs.declared.op.Op.{Op}
use Rattle.seen_journal.specs.Entries.{list_of}
use Rattle.shared_parts.specs.Shares.{ShareValue}
use Rattle.step_world.specs.declared.thread_state.ThreadState.TheVariants.{Looking}
use Rattle.tree_law.specs.State.{State}
use Rattle.tree_law.specs.Steps.{next}

-- A thread looks for its command c, op n, which is not decided yet: it has q counts whole, and of the next the lines of x slices.
pub record LooksAt (script : ScriptValue) (table : TableId) (n : ℕ) (c : Op) (q x lines : ℕ) (numbers : List ℕ) (s : SeenValue) (worker : ShareValue Part) : Type 0 where
  pub start : JournalsValue
  pub ended : AreEnded script start s.thread
  pub found : List ℕ
  pub given : Option GivenTag
  pub is : IsLooking script start s.thread n c found (seen_by s)
  pub made : length found ≡ q * script.machine.slices + x
  pub count : length numbers ≡ q
  pub each : (p : ℕ) → p < q → slice_get numbers p ≡ Some (found_at script.machine.slices found p script.machine.slices)
  pub few : All (λ n. n ≤ 2 ^ 32) numbers
  pub lines_are : lines ≡ found_at script.machine.slices found q x
  pub bound : lines ≤ x * 2097152
  pub share_is : IsShareOf table (holding (list_of s.tree.seen) s.thread n (Looking (length found)) found given) worker

-- A thread follows its command c, op n, which stands last in the tree's history, at position k: it has made so many entries.
pub record FollowsAt (script : ScriptValue) (table : TableId) (n k : ℕ) (c : Op) (made : ℕ) (s : SeenValue) (worker : ShareValue Part) : Type 0 where
  pub start : JournalsValue
  pub ended : AreEnded script start s.thread
  pub h : TreeEntryValue
  pub is : IsFollowing script start s.thread n k c h made (seen_by s)
  pub last : k + 1 ≡ length s.tree.seen
  pub found : List ℕ
  pub given : Option GivenTag
  pub share_is : IsShareOf table (following (list_of s.tree.seen) s.thread n made (length (jobs_of script (history_of s.tree.seen) k c)) found given) worker

-- the text that is shown after a command with this reply: that of an accepted read or list, in the state before it and by the
-- counts that it was given, and else the one that was shown before
abbrev pub shown_after : ScriptValue → State → Op → List ℕ → Reply → List ℕ → List ℕ
shown_after script state c looks replies.Ok before = if is_reading c then text_of script.machine state script.names c looks else before
shown_after script state c looks reply before = before

-- the same where a text is asked for; where none is, the one that was shown before stays
abbrev pub shown_where : Bool → ScriptValue → State → Op → List ℕ → Reply → List ℕ → List ℕ
shown_where asked script state c looks reply before = if asked then shown_after script state c looks reply before else before

-- A command's answer: its entry stands in the tree's history behind all that its thread had seen, which has now seen it; and after the
-- history in front of it the tree's law gives this reply, and the files show this text where one is asked for.
pub record HasReplied (script : ScriptValue) (asked : Bool) (c : Op) (reply : Reply) (old new : PassesValue) : Type 0 where
  pub k : ℕ
  pub h : TreeEntryValue
  pub there : At (history_of new.seen.tree.seen) k h
  pub thread : h.thread ≡ old.seen.thread
  pub number : h.op ≡ old.next
  pub noted : h.reply ≡ reply
  pub late : length (history_of old.seen.tree.seen) ≤ k
  pub reply_is : reply ≡ (next script.machine (tree_after script (take k (history_of new.seen.tree.seen))) c h.looks).reply
  pub shown_is : new.shown ≡ shown_where asked script (tree_after script (take k (history_of new.seen.tree.seen))) c h.looks reply old.shown
