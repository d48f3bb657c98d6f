-- What a thread's passes keep from op to op.
-- (For functions and proofs: no promise of the program stands on it.)
use Rattle.std.specs.Prelude.{◌≡◌, ℕ, ◌+◌, [], length}
use Rattle.run_law.specs.Journals.{JournalsValue, slice_at}
use Rattle.script_ops.specs.Values.{ScriptValue, ops_of}
use Rattle.live_law.specs.DoneOps.{AreEnded, HasEnded}
use Rattle.live_law.specs.Passes.{PassesKeep, PassesKeepFrom}
use Rattle.live_law.specs.SeenJournals.{HasGrown, SeesMore}
use Rattle.live_law.specs.Stages.{IsReady}

-- a thread that has seen nothing is before its first op
abbrev pub PassesOpen : Type 0
PassesOpen = (script : ScriptValue) (t : ℕ) (v : JournalsValue) → v.tree ≡ [] → ((i : ℕ) → slice_at v i ≡ []) → PassesKeep script t 0 v

-- passes that see more, and nothing more of their own, keep what they kept
abbrev pub PassesSeeMore : Type 0
PassesSeeMore = (script : ScriptValue) (t n : ℕ) (v w : JournalsValue) → SeesMore t v w → PassesKeep script t n v → PassesKeep script t n w

-- a thread that has done all its ops has ended, in what it has seen
abbrev pub ThreadEnds : Type 0
ThreadEnds = (script : ScriptValue) (t : ℕ) (v : JournalsValue) → PassesKeep script t (length (ops_of script t)) v → HasEnded script v t

-- threads that had ended in what was seen have ended in what is seen later
abbrev pub EndsAreKept : Type 0
EndsAreKept = (script : ScriptValue) (v w : JournalsValue) (t : ℕ) → HasGrown v w → AreEnded script v t → AreEnded script w t

-- a thread is ready for its next op when all threads of earlier phases have ended
abbrev pub OpBegins : Type 0
OpBegins = (script : ScriptValue) (t n : ℕ) (v : JournalsValue) → AreEnded script v t → PassesKeep script t n v → IsReady script t n v

-- when it is done, the passes keep what they keep before the next
abbrev pub OpEnds : Type 0
OpEnds =
    (script : ScriptValue) (start : JournalsValue) (t n : ℕ) (v : JournalsValue) → AreEnded script start t
    → PassesKeepFrom script start t (n + 1) (n + 1) (n + 1) v
    → PassesKeep script t (n + 1) v
