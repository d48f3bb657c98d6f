-- The journals of a run, as lists that are held apart.
-- (For functions and proofs: no promise of the program stands on it.)
use Rattle.std.specs.Prelude.{◌≡◌, ℕ, ◌^◌, ◌<◌, List, None, Vec, length, map}
use Rattle.std.specs.declared.alloc.Global.{Global}
use Rattle.cache_core.specs.declared.entry.SliceEntry.{SliceEntry}
use Rattle.pair_text.specs.Values.{PairScriptValue}
use Rattle.pair_windows.specs.Replays.{IsPlayable}
use Rattle.pair_law.specs.CdpRuns.{CdpJournalsValue, IsCdpRun}
use Rattle.pair_law.specs.Entries.{slice_in}
use Rattle.rc_base.specs.declared.replies.Reply.{Reply}
use Rattle.run_law.specs.Entries.{entries_of}

-- these replies, and these lists of entries, one for each domain
abbrev pub cdp_journals : List Reply → List (Vec SliceEntry Global) → CdpJournalsValue
cdp_journals replies slices = record { replies = replies; slices = map entries_of slices }

-- A playable script with code and data prioritization, and a run of it, whose places fit 32 bits.
pub record IsPlayed (script : PairScriptValue) (j : CdpJournalsValue) : Type 0 where
  pub playable : IsPlayable script
  pub prioritized : script.machines.l2 ≡ None
  pub run : IsCdpRun script j
  pub few : (domain : ℕ) → length (slice_in j.slices domain) < 2 ^ 32
