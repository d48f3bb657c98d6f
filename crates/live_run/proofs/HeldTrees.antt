-- The parts of a thread whose command holds the tree, step by step.
use Rattle.std.proofs.Common.{◌≡◌, ℕ, ◌+◌, ◌<◌, true, false, Bool, None, List, [], ◌∷◌, ◌++◌, length, refl, ap, ◌∙◌, arith, Option}
use Rattle.std.specs.Prelude.{if◌then◌else◌, nat_lt, not}
use Rattle.std.proofs.lemmas.Bool.{cond-false, cond-true, le-ltb}
use Rattle.atomic_table.specs.Seated.{TableId}
use Rattle.cache_core.specs.declared.entry.SliceEntry.{SliceEntry}
use Rattle.live_run.specs.Commands.{FollowsAt}
use Rattle.live_run.specs.Names.{SeenValue, history_of}
use Rattle.live_run.specs.Sharing.{IsShareOf, following, holding}
use Rattle.run_law.specs.Jobs.{jobs_of}
use Rattle.run_law.specs.declared.journals.TreeEntry.{TreeEntry}
use Rattle.schedule_law.specs.declared.part.GivenTag.{GivenTag}
use Rattle.schedule_law.specs.LiveParts.{after, live_tree, resting_thread}
use Rattle.schedule_law.specs.declared.part.Happening.TheVariants as happenings
use Rattle.schedule_law.specs.declared.part.Part.{Part}
use Rattle.script_ops.specs.Values.{ScriptValue}
use Rattle.script_ops.specs.declared.op.Op.{Op}
use Rattle.seen_journal.specs.Entries.{list_of}
use Rattle.shared_parts.specs.Parts.{parts_after}
use Rattle.shared_parts.specs.Shares.{ShareValue}
use Rattle.shared_parts.specs.Words.{word_of}
use Rattle.step_world.specs.declared.thread_state.ThreadState.TheVariants.{Following, Looking}

-- it is decided, and follows, or has let the tree go
pub following-decide : (history : List TreeEntry) (h : TreeEntry) (t n made all : ℕ) (found : List ℕ) (given : Option GivenTag) (last : Bool) → last ≡ not (nat_lt made all)
    → parts_after after (happenings.Decide h last made) (holding history t n (Looking made) found given) ≡ following (history ++ h ∷ []) t n made all found given
following-decide history h t n made all found given last is =
    ap (λ b. parts_after after (happenings.Decide h b made) (holding history t n (Looking made) found given)) is ∙ by (nat_lt made all)
  where
    by : (b : Bool) → parts_after after (happenings.Decide h (not b) made) (holding history t n (Looking made) found given)
        ≡ (if b then holding (history ++ h ∷ []) t n (Following made) found given else live_tree (history ++ h ∷ []) None ∷ resting_thread t (n + 1) true found given ∷ [])
    by true = refl
    by false = refl

-- it has followed once more
pub following-follow : (history : List TreeEntry) (e : SliceEntry) (t n made all : ℕ) (found : List ℕ) (given : Option GivenTag) (last : Bool) → last ≡ not (nat_lt (made + 1) all)
    → parts_after after (happenings.Follow e last) (holding history t n (Following made) found given) ≡ following history t n (made + 1) all found given
following-follow history e t n made all found given last is =
    ap (λ b. parts_after after (happenings.Follow e b) (holding history t n (Following made) found given)) is ∙ by (nat_lt (made + 1) all)
  where
    by : (b : Bool) → parts_after after (happenings.Follow e (not b)) (holding history t n (Following made) found given)
        ≡ (if b then holding history t n (Following (made + 1)) found given else live_tree history None ∷ resting_thread t (n + 1) true found given ∷ [])
    by true = refl
    by false = refl

-- as long as it owes an entry it holds the tree
pub following-more : (history : List TreeEntry) (t n made all : ℕ) (found : List ℕ) (given : Option GivenTag) → nat_lt made all ≡ true → following history t n made all found given ≡ holding history t n (Following made) found given
following-more history t n made all found given more = cond-true (nat_lt made all) (holding history t n (Following made) found given) (live_tree history None ∷ resting_thread t (n + 1) true found given ∷ []) more

-- after the last it has let it go
pub following-all : (history : List TreeEntry) (t n made all : ℕ) (found : List ℕ) (given : Option GivenTag) → nat_lt made all ≡ false → following history t n made all found given ≡ live_tree history None ∷ resting_thread t (n + 1) true found given ∷ []
following-all history t n made all found given none = cond-false (nat_lt made all) (holding history t n (Following made) found given) (live_tree history None ∷ resting_thread t (n + 1) true found given ∷ []) none

-- where all that it owes is made, it has let the tree go
pub let_go : (script : ScriptValue) (table : TableId) (n k : ℕ) (c : Op) (s : SeenValue) (worker : ShareValue Part) → (at : FollowsAt script table n k c (length (jobs_of script (history_of s.tree.seen) k c)) s worker)
    → IsShareOf table (live_tree (list_of s.tree.seen) None ∷ resting_thread s.thread (n + 1) true at.found at.given ∷ []) worker
let_go script table n k c s worker at =
    let all : ℕ = length (jobs_of script (history_of s.tree.seen) k c) in
    record {
      table_is = at.share_is.table_is;
      words = at.share_is.words;
      parts_are = at.share_is.parts_are ∙ following-all (list_of s.tree.seen) s.thread n all all at.found at.given (le-ltb all all (omega arith));
    }

-- the tree's lock has a word of the table
pub tree_lock_there : (table : TableId) (own : List (ℕ × Part)) (share : ShareValue Part) → IsShareOf table own share → word_of 32 < share.table.words
tree_lock_there table own share is = omega (arith, is.words, ap (λ (t : TableId). t.words) is.table_is)
