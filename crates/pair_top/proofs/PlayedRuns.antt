-- What the reports ask of the journals of a run.
use Rattle.std.proofs.Common.{◌≡◌, ℕ, ◌≤◌, ◌<◌, ◌^◌, ◌⊎◌, inl, inr, List, [], length, map, Vec, Option, Some, None, IsSome, refl, ap, ◌∙◌, arith}
use Rattle.std.proofs.lemmas.Bool.{cases_lt}
use Rattle.std.proofs.lemmas.List.{get_or_past}
use Rattle.std.specs.declared.alloc.Global.{Global}
use Rattle.cache_core.specs.declared.entry.SliceEntry.{SliceEntry}
use Rattle.machine.specs.declared.parameters.Parameters.{Parameters}
use Rattle.pair_text.specs.Values.{PairScriptValue}
use Rattle.pair_play.specs.SoFar.{IsShort}
use Rattle.pair_windows.specs.Replays.{IsPlayable}
use Rattle.pair_law.specs.CdpRuns.{CdpJournalsValue, IsCdpRun}
use Rattle.pair_law.specs.Entries.{slice_in}
use Rattle.pair_law.specs.LevelRuns.{IsLevelRun, LevelJournalsValue}
use Rattle.pair_text.specs.declared.kind.PairKind.{PairKind}
use Rattle.pair_text.specs.declared.kind.PairKind.TheVariants.{Cdp, Levels}
use Rattle.pair_top.specs.Ready.{IsReady}
use Rattle.pair_windows.proofs.laws.ShortLists.{length-slice_in}
use Rattle.pair_windows.specs.CdpJournals.{IsPlayed, cdp_journals}
use Rattle.pair_windows.specs.LevelJournals.{IsPlayedOnLevels, level_journals}
use Rattle.rc_base.specs.declared.replies.Reply.{Reply}
use Rattle.run_law.specs.Entries.{entries_of}

-- a script that was read can be played
pub IsShort-ready : (kind : PairKind) (script : PairScriptValue) → IsReady kind script → IsShort script
IsShort-ready kind script ready = record { commands = ready.limits.commands; ops = omega (arith, ready.limits.ops) }

pub IsPlayable-ready : (kind : PairKind) (script : PairScriptValue) → IsReady kind script → IsPlayable script
IsPlayable-ready kind script ready = record { lawful = ready.lawful; few = ready.limits.commands }

-- a cache that is not there has no entries
few-outside : (script : PairScriptValue) (j : CdpJournalsValue) → IsCdpRun script j → (domain : ℕ) → script.machines.machine.domains ≤ domain → length (slice_in j.slices domain) ≤ length script.ops
few-outside script j run domain past = let none = ap length (get_or_past j.slices domain [] (omega (arith, run.one_each, past))) in omega (arith, none)

-- the positions of all entries fit 32 bits
pub few-entries : (script : PairScriptValue) (j : CdpJournalsValue) → IsCdpRun script j → length script.ops < 2 ^ 32 → (domain : ℕ) → length (slice_in j.slices domain) < 2 ^ 32
few-entries script j run few domain = at (cases_lt domain script.machines.machine.domains)
  where
    at : (domain < script.machines.machine.domains) ⊎ (script.machines.machine.domains ≤ domain) → length (slice_in j.slices domain) < 2 ^ 32
    at (inl exists) = omega (arith, length-slice_in script domain j run exists, few)
    at (inr past) = omega (arith, few-outside script j run domain past, few)

-- ---- journals, and the lists that they are held as

-- the journals of these lists
abbrev cdp_of : List Reply → List (List SliceEntry) → CdpJournalsValue
cdp_of replies slices = record { replies = replies; slices = slices }

abbrev levels_of : List Reply → List (List SliceEntry) → List (List SliceEntry) → LevelJournalsValue
levels_of replies l2 l3 = record { replies = replies; l2 = l2; l3 = l3 }

pub cdp_journals-same : (j : CdpJournalsValue) (replies : List Reply) (slices : List (Vec SliceEntry Global)) → replies ≡ j.replies → map entries_of slices ≡ j.slices → cdp_journals replies slices ≡ j
cdp_journals-same j replies slices same_replies same_slices = ap (λ (r : List Reply). cdp_of r (map entries_of slices)) same_replies ∙ ap (λ (s : List (List SliceEntry)). cdp_of j.replies s) same_slices

pub level_journals-same : (j : LevelJournalsValue) (replies : List Reply) (l2 l3 : List (Vec SliceEntry Global)) → replies ≡ j.replies → map entries_of l2 ≡ j.l2 → map entries_of l3 ≡ j.l3 → level_journals replies l2 l3 ≡ j
level_journals-same j replies l2 l3 same_replies same_l2 same_l3 =
    ap (λ (r : List Reply). levels_of r (map entries_of l2) (map entries_of l3)) same_replies
    ∙ (ap (λ (s : List (List SliceEntry)). levels_of j.replies s (map entries_of l3)) same_l2 ∙ ap (λ (s : List (List SliceEntry)). levels_of j.replies j.l2 s) same_l3)

-- ---- what the reports ask

-- a run on data and code masks can be reported on
pub IsPlayed-ready : (script : PairScriptValue) (j : CdpJournalsValue) → IsReady Cdp script → IsCdpRun script j → IsPlayed script j
IsPlayed-ready script j ready run = record {
  playable = IsPlayable-ready Cdp script ready;
  prioritized = ready.has_kind;
  run = run;
  few = few-entries script j run (IsShort-ready Cdp script ready).ops;
}

-- and so can a run on two levels
pub IsPlayedOnLevels-ready : (script : PairScriptValue) (j : LevelJournalsValue) → IsReady Levels script → IsLevelRun script j → IsPlayedOnLevels script j
IsPlayedOnLevels-ready script j ready run = at script.machines.l2 refl ready.has_kind
  where
    at : (l2 : Option Parameters) → script.machines.l2 ≡ l2 → IsSome l2 → IsPlayedOnLevels script j
    at None is some = absurd cc
    at (Some below) is some = record { playable = IsPlayable-ready Levels script ready; below = below; levels = is; run = run; few = (IsShort-ready Levels script ready).ops }
