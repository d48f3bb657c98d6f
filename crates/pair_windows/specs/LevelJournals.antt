-- The journals of a run with two levels, as lists that are held apart.
-- (For functions and proofs: no promise of the program stands on it.)
use Rattle.std.specs.Prelude.{◌≡◌, ◌^◌, ◌<◌, List, Some, Vec, length, map}
use Rattle.std.specs.declared.alloc.Global.{Global}
use Rattle.cache_core.specs.declared.entry.SliceEntry.{SliceEntry}
use Rattle.machine.specs.declared.parameters.Parameters.{Parameters}
use Rattle.pair_text.specs.Values.{PairScriptValue}
use Rattle.pair_windows.specs.Replays.{IsPlayable}
use Rattle.pair_law.specs.LevelRuns.{IsLevelRun, LevelJournalsValue}
use Rattle.pair_windows.specs.declared.level_journals_ref.LevelJournalsRef.{LevelJournalsRef}
use Rattle.rc_base.specs.declared.replies.Reply.{Reply}
use Rattle.run_law.specs.Entries.{entries_of}

-- these replies, and these lists of entries, one for each domain of each level
abbrev pub level_journals : List Reply → List (Vec SliceEntry Global) → List (Vec SliceEntry Global) → LevelJournalsValue
level_journals replies l2 l3 = record { replies = replies; l2 = map entries_of l2; l3 = map entries_of l3 }

-- the journals that are lent
abbrev pub journals_in : LevelJournalsRef → LevelJournalsValue
journals_in j = level_journals j.replies.now j.l2.now j.l3.now

-- A playable script with two levels, and a run of it, whose places fit 32 bits.
pub record IsPlayedOnLevels (script : PairScriptValue) (j : LevelJournalsValue) : Type 0 where
  pub playable : IsPlayable script
  pub below : Parameters
  pub levels : script.machines.l2 ≡ Some below
  pub run : IsLevelRun script j
  pub few : length script.ops < 2 ^ 32
