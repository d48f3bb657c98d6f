-- What was done by a thread, and what its passes keep, when it has seen more of others.
use Rattle.std.proofs.Common.{◌≡◌, ℕ, ◌<◌, ◌≤◌, List, length, sym, ap, ◌∙◌, subst, arith}
use Rattle.std.specs.Prelude.{◌==◌}
use Rattle.std.proofs.lemmas.Option.{slice_get_within}
use Rattle.cache_core.specs.declared.entry.SliceEntry.{SliceEntry}
use Rattle.lists.specs.Sums.{one_if}
use Rattle.run_law.specs.Journals.{At, JournalsValue}
use Rattle.run_law.specs.Order.{Makes, Pays}
use Rattle.run_law.specs.Owed.{owed_by_access, owed_by_command, paid_by}
use Rattle.run_law.specs.TreeHistory.{TreeEntryValue}
use Rattle.run_law.proofs.laws.LongerHistories.{owed_access_front, owed_command_front}
use Rattle.run_law.proofs.laws.OpKinds.{by_kind}
use Rattle.run_law.proofs.laws.Pairs.{both_eqb-true}
use Rattle.script_ops.specs.Values.{ScriptValue}
use Rattle.script_ops.specs.declared.op.Op.{Op}
use Rattle.seen_journal.specs.Prefixes.{IsPrefix}
use Rattle.live_law.specs.DoneOps.{AreEnded, HasDone, IsTrueIfAccess}
use Rattle.live_law.specs.Passes.{PassesKeepFrom}
use Rattle.live_law.specs.SeenJournals.{HasGrown, SeesMore, made_in}
use Rattle.live_law.specs.Stages.{slice_reached}
use Rattle.live_law.proofs.laws.SeenJournals.{At-own_command, At-own_entry, HasGrown-more, HasGrown-through, HasMarks-more, made_in-more, taken_in-more}
use Rattle.seen_journal.proofs.laws.Prefixes.{length-prefix}

-- ---- a longer history of the tree

-- what a command owes
pub owed_by_command-prefix : (script : ScriptValue) (tree longer : List TreeEntryValue) (i k : ℕ) (c : Op)
    → IsPrefix tree longer → k ≤ length tree
    → owed_by_command script tree i k c ≡ owed_by_command script longer i k c
owed_by_command-prefix script tree longer i k c prefix fits =
    owed_command_front script tree prefix.0 i k c fits ∙ ap (λ hs. owed_by_command script hs i k c) prefix.1

-- an entry of an access stays true
pub IsTrueIfAccess-prefix : (script : ScriptValue) (tree longer : List TreeEntryValue) (e : SliceEntry) (c : Op)
    → IsPrefix tree longer → IsTrueIfAccess script tree e c
    → IsTrueIfAccess script longer e c
IsTrueIfAccess-prefix script tree longer e c prefix is =
    by_kind (λ task cpu addr. (e.epoch ≤ length tree) × (paid_by e ≡ owed_by_access script tree e.epoch task cpu addr))
    (λ task cpu addr. (e.epoch ≤ length longer) × (paid_by e ≡ owed_by_access script longer e.epoch task cpu addr)) (Unit {0}) (Unit {0}) c
    (λ task cpu addr both. (
      omega (arith, both.0, length-prefix tree longer prefix),
      both.1
          ∙ (owed_access_front script tree prefix.0 e.epoch task cpu addr both.0
          ∙ ap (λ hs. owed_by_access script hs e.epoch task cpu addr) prefix.1),
    ))
    (λ u. u) is

-- ---- what the thread has done

-- an op makes what it made
pub Makes-more : (script : ScriptValue) (v w : JournalsValue) (i t op : ℕ) (c : Op) (made : List SliceEntry)
    → SeesMore t v w → Makes script v i t op c made
    → Makes script w i t op c made
Makes-more script v w i t op c made more makes =
    let One : ℕ → ℕ → ℕ → Type 0 = λ task cpu addr. length made ≡ one_if (i == slice_reached script.machine cpu addr) in
    by_kind One One (Pays script v i t op c made) (Pays script w i t op c made) c
    (λ task cpu addr one. one)
    (λ pays k h there taken.
    let is = both_eqb-true h.thread t h.op op taken in
    let old : At v.tree k h = At-own_command t v w k h more there is.0 in
    let within : k < length v.tree = slice_get_within v.tree k h old in
    pays k h old taken ∙ owed_by_command-prefix script v.tree w.tree i k c (more.tree.rest, more.tree.is) (omega (arith, within)))
    makes

-- what is done stays done
pub HasDone-more : (script : ScriptValue) (v w : JournalsValue) (t n : ℕ) → SeesMore t v w → HasDone script v t n → HasDone script w t n
HasDone-more script v w t n more done = record {
  commands_once = λ op c less is. ap length (taken_in-more t op v w more) ∙ done.commands_once op c less is;
  entries_once = λ i op c within less is.
      subst (λ made. Makes script w i t op c made) (sym (made_in-more t op v w i more))
      (Makes-more script v w i t op c (made_in v i t op) more (done.entries_once i op c within less is));
  few = λ i op c within less is. omega (arith, done.few i op c within less is, ap length (made_in-more t op v w i more));
  accesses = λ i p e c at mine is.
      IsTrueIfAccess-prefix script v.tree w.tree e c (more.tree.rest, more.tree.is)
      (done.accesses i p e c (At-own_entry t v w i p e more at mine) mine is);
}

-- threads that had ended have ended
pub AreEnded-grown : (script : ScriptValue) (v w : JournalsValue) (t : ℕ) → HasGrown v w → AreEnded script v t → AreEnded script w t
AreEnded-grown script v w t grown ended u earlier = let (x, began, done) = ended u earlier in (x, HasGrown-through x v w began grown, done)

-- ---- what its passes keep

pub PassesKeepFrom-more : (script : ScriptValue) (start : JournalsValue) (t n taken made : ℕ) (v w : JournalsValue)
    → SeesMore t v w → PassesKeepFrom script start t n taken made v
    → PassesKeepFrom script start t n taken made w
PassesKeepFrom-more script start t n taken made v w more keeps = record {
  begins = HasGrown-through start v w keeps.begins (HasGrown-more t v w more);
  after = record {
    commands = λ k h at mine. keeps.after.commands k h (At-own_command t v w k h more at mine) mine;
    entries = λ i p e at mine. keeps.after.entries i p e (At-own_entry t v w i p e more at mine) mine;
    epochs = λ i p e at mine. keeps.after.epochs i p e (At-own_entry t v w i p e more at mine) mine;
  };
  below = record {
    commands = λ k h at mine. keeps.below.commands k h (At-own_command t v w k h more at mine) mine;
    entries = λ i p e at mine. keeps.below.entries i p e (At-own_entry t v w i p e more at mine) mine;
  };
  done = HasDone-more script v w t n more keeps.done;
  in_turn = record {
    marks = λ op later_op start stop later_start later_stop c later is_c is_later less first second.
        keeps.in_turn.marks op later_op start stop later_start later_stop c later is_c is_later less
        (HasMarks-more t op start stop c v w more first) (HasMarks-more t later_op later_start later_stop later v w more second);
    entries = λ i p q e later at there mine also less.
        keeps.in_turn.entries i p q e later (At-own_entry t v w i p e more at mine) (At-own_entry t v w i q later more there also)
        mine also less;
  };
}
