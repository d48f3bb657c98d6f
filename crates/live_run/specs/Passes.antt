-- What a thread's passes keep between two of its ops.
-- (For functions and proofs: no promise of the program stands on it.)
use Rattle.std.specs.Prelude.{◌≡◌, ℕ, ◌+◌, ◌≤◌, true, List, Option, drop, length}
use Rattle.atomic_table.specs.Seated.{TableId}
use Rattle.live_law.specs.DoneOps.{AreEnded}
use Rattle.live_law.specs.Passes.{PassesKeep}
use Rattle.live_run.specs.CachedTags.{HoldsCached, IsNoted}
use Rattle.live_run.specs.Names.{SeenValue, seen_by}
use Rattle.live_run.specs.Sharing.{IsResting, begun_in}
use Rattle.schedule_law.specs.declared.part.GivenTag.{GivenTag}
use Rattle.rc_base.specs.Buffers.{Looks, Roomy}
use Rattle.rc_base.specs.declared.text_buf.TheConstants.{TEXT_MAX}
use Rattle.run_law.specs.LookLists.{AreReady, rooms_of}
use Rattle.schedule_law.specs.declared.part.Part.{Part}
use Rattle.script_ops.specs.Values.{ScriptValue, ops_of}
use Rattle.shared_parts.specs.Shares.{ShareValue}

-- The passes of a thread whose next op is op n: there is a list for the counts of each command to come, room for any text, and the
-- thread is the part of the share. Once its phase has begun it has seen that the threads of earlier phases have ended. It holds the tag
-- that it was given last.
pub record PassesAreKept (script : ScriptValue) (table : TableId) (s : SeenValue) (n : ℕ) (lists : List Looks) (shown : Roomy) (share : ShareValue Part) (cached : Option GivenTag) : Type 0 where
  pub keep : PassesKeep script s.thread n (seen_by s)
  pub lists_are : AreReady (rooms_of script.machine (drop n (ops_of script s.thread))) lists
  pub room : TEXT_MAX ≤ shown.spare + length shown.bytes
  pub share_is : IsResting table s.thread n (begun_in share.parts) share
  pub ended : begun_in share.parts ≡ true → AreEnded script (seen_by s) s.thread
  pub cached_is : HoldsCached script s cached
  pub noted : IsNoted share cached
