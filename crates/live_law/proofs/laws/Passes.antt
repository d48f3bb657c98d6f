-- What a thread's passes keep from op to op: before the first, at the beginning and the end of each, and after the last.
use Rattle.std.proofs.Common.{◌≡◌, ℕ, zero, suc, ◌+◌, [], length, subst, arith}
use Rattle.cache_core.specs.declared.entry.SliceEntry.{SliceEntry}
use Rattle.run_law.specs.Journals.{At, JournalsValue, slice_at}
use Rattle.run_law.specs.Order.{HasMarks, IsMadeAt, IsTakenAt}
use Rattle.run_law.specs.TreeHistory.{TreeEntryValue}
use Rattle.run_law.proofs.laws.OpKinds.{from_kind}
use Rattle.script_ops.specs.Values.{ScriptValue, ops_of}
use Rattle.script_ops.specs.declared.op.Op.{Op}
use Rattle.live_law.specs.DoneOps.{AreEnded, HasEnded}
use Rattle.live_law.specs.Passes.{PassesKeep, PassesKeepFrom}
use Rattle.live_law.specs.SeenJournals.{SeesMore}
use Rattle.live_law.specs.Stages.{IsReady}
use Rattle.live_law.proofs.laws.LaterViews.{PassesKeepFrom-more}
use Rattle.live_law.proofs.laws.SeenJournals.{HasGrown-self}

-- ---- before the first op

module _ (script : ScriptValue) (t : ℕ) (v : JournalsValue) (no_command : (k : ℕ) (h : TreeEntryValue) → At v.tree k h → ⊥)
    (no_entry : (i p : ℕ) (e : SliceEntry) → At (slice_at v i) p e → ⊥) where
  -- where nothing stands, no op has marks
  no_marks : (op start stop : ℕ) (c : Op) → HasMarks v t op c start stop → ⊥
  no_marks op start stop c marks =
      from_kind (λ task cpu addr. IsMadeAt v t op start stop) (IsTakenAt v t op start stop) ⊥ c
      (λ task cpu addr made. let (i, p, e, there, mine, epoch, same) = made in no_entry i p e there)
      (λ taken. let (h, there, mine, same) = taken in no_command start h there)
      marks

  -- and no op is to be done
  PassesKeepFrom-empty : PassesKeepFrom script v t 0 0 0 v
  PassesKeepFrom-empty = record {
    begins = HasGrown-self v;
    after = record {
      commands = λ k h at mine. absurd (no_command k h at);
      entries = λ i p e at mine. absurd (no_entry i p e at);
      epochs = λ i p e at mine. absurd (no_entry i p e at);
    };
    below = record {
      commands = λ k h at mine. absurd (no_command k h at);
      entries = λ i p e at mine. absurd (no_entry i p e at);
    };
    done = record {
      commands_once = λ op c less is. absurd (omega (arith, less));
      entries_once = λ i op c within less is. absurd (omega (arith, less));
      few = λ i op c within less is. absurd (omega (arith, less));
      accesses = λ i p e c at mine is. absurd (no_entry i p e at);
    };
    in_turn = record {
      marks = λ op later_op start stop later_start later_stop c later is_c is_later less first second.
          absurd (no_marks op start stop c first);
      entries = λ i p q e later at there mine also less. absurd (no_entry i p e at);
    };
  }

-- a thread that has seen nothing
pub PassesKeep-opening : (script : ScriptValue) (t : ℕ) (v : JournalsValue)
    → v.tree ≡ [] → ((i : ℕ) → slice_at v i ≡ [])
    → PassesKeep script t 0 v
PassesKeep-opening script t v none empty = record {
  start = v;
  ended = λ some. absurd (omega (arith, some));
  keeps = PassesKeepFrom-empty script t v
      (λ k h there. (let wrong : At {A = TreeEntryValue} [] k h = subst (λ hs. At hs k h) none there in cc))
      (λ i p e there. (let wrong : At {A = SliceEntry} [] p e = subst (λ es. At es p e) (empty i) there in cc));
}

-- ---- between ops

-- the passes have seen more
pub PassesKeep-more : (script : ScriptValue) (t n : ℕ) (v w : JournalsValue)
    → SeesMore t v w → PassesKeep script t n v
    → PassesKeep script t n w
PassesKeep-more script t n v w more keeps = record {
  start = keeps.start;
  ended = keeps.ended;
  keeps = PassesKeepFrom-more script keeps.start t n n n v w more keeps.keeps;
}

-- a thread without entries may begin with what it has seen
PassesKeepFrom-fresh : (script : ScriptValue) (start : JournalsValue) (t : ℕ) (v : JournalsValue)
    → PassesKeepFrom script start t 0 0 0 v
    → PassesKeepFrom script v t 0 0 0 v
PassesKeepFrom-fresh script start t v keeps = record {
  begins = HasGrown-self v;
  after = record {
    commands = λ k h at mine. absurd (let less = keeps.below.commands k h at mine in omega (arith, less));
    entries = λ i p e at mine. absurd (let less = keeps.below.entries i p e at mine in omega (arith, less));
    epochs = λ i p e at mine. absurd (let less = keeps.below.entries i p e at mine in omega (arith, less));
  };
  below = keeps.below;
  done = keeps.done;
  in_turn = keeps.in_turn;
}

-- an op begins, when all threads of earlier phases have ended
pub IsReady-begin : (script : ScriptValue) (t n : ℕ) (v : JournalsValue)
    → AreEnded script v t → PassesKeep script t n v
    → IsReady script t n v
IsReady-begin script t zero v ended keeps = record {
  start = v;
  ended = ended;
  keeps = PassesKeepFrom-fresh script keeps.start t v keeps.keeps;
}
IsReady-begin script t (suc n) v ended keeps = record { start = keeps.start; ended = keeps.ended (omega arith); keeps = keeps.keeps }

-- an op ends
pub PassesKeep-end : (script : ScriptValue) (start : JournalsValue) (t n : ℕ) (v : JournalsValue)
    → AreEnded script start t → PassesKeepFrom script start t (n + 1) (n + 1) (n + 1) v
    → PassesKeep script t (n + 1) v
PassesKeep-end script start t n v ended keeps = record { start = start; ended = λ some. ended; keeps = keeps }

-- ---- after the last op

-- the thread has ended, in what it has seen
pub HasEnded-passes : (script : ScriptValue) (t : ℕ) (v : JournalsValue)
    → PassesKeep script t (length (ops_of script t)) v
    → HasEnded script v t
HasEnded-passes script t v keeps = (v, HasGrown-self v, keeps.keeps.done)
