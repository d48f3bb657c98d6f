-- The windows of all L3 domains, as the ops of a script are taken once.
-- (For functions and proofs: no promise of the program stands on it.)
use Rattle.std.specs.Prelude.{◌≡◌, ℕ, ◌+◌, ◌-◌, ◌^◌, ◌<◌, ◌≤◌, List, [], false, true, get_or, length, map}
use Rattle.std.specs.List.{flat_map, range_with_len}
use Rattle.pair_text.specs.Values.{PairScriptValue, epoch_at, op_at}
use Rattle.pair_text.specs.declared.side.Side.TheVariants.{First, Second}
use Rattle.pair_law.specs.JointWindows.{is_flush}
use Rattle.pair_law.specs.LevelRuns.{LevelJournalsValue}
use Rattle.pair_windows.specs.Hits.{AreHits}
use Rattle.pair_windows.specs.Joined.{joined}
use Rattle.pair_windows.specs.JointWindows.{windows_at}
use Rattle.pair_windows.specs.LevelJournals.{IsPlayedOnLevels}
use Rattle.pair_windows.specs.LevelSpans.{held_from, stay_of}
use Rattle.pair_windows.specs.Segments.{IsSegment, hit_l2, hit_l3}
use Rattle.pair_windows.specs.declared.domain_walks.DomainWalk.{DomainWalk}
use Rattle.pair_windows.specs.declared.joint_window.JointWindow.{JointWindow}
use Rattle.pair_windows.specs.declared.segments.Hits.{Hits}
use Rattle.private_lru.specs.Ends.{RiseByGroup}

module _ {X : Type 0} where
  -- what holds of each element of a list, by its position
  abbrev pub Each : (ℕ → X → Type 0) → List X → Type 0
  Each P xs = (i : ℕ) (d : X) → i < length xs → P i (get_or xs i d)

-- the windows of a domain that begin before a place
abbrev pub windows_before : PairScriptValue → ℕ → LevelJournalsValue → ℕ → List JointWindow
windows_before script domain j place = flat_map (λ from. windows_at script domain j from (op_at script from)) (range_with_len 0 place)

-- a domain without windows
abbrev pub IsFresh : ℕ → DomainWalk → Type 0
IsFresh domain w = (w.domain ≡ domain) × (w.windows.items ≡ [])

-- A domain, of which the windows that begin before a place are found.
pub record HasFound (script : PairScriptValue) (hits : Hits) (place domain : ℕ) (w : DomainWalk) : Type 0 where
  pub own : w.domain ≡ domain
  pub windows :
      (j : LevelJournalsValue) → IsPlayedOnLevels script j → AreHits script First j.l2 hits.l2.items → AreHits script Second j.l3 hits.l3.items
      → w.windows.items ≡ windows_before script domain j place

-- A domain, of which the windows that begin before the flush at `from` are found, with what stands after the flush: the groups that are
-- exclusive then, as they are kept up to an epoch, and the uses up to a place.
pub record HasWalked (script : PairScriptValue) (hits : Hits) (from epoch place domain : ℕ) (w : DomainWalk) : Type 0 where
  pub found : HasFound script hits from domain w
  pub held : w.segment.held.items ≡ held_from script domain (epoch_at script (from + 1)) (epoch - epoch_at script (from + 1))
  pub l2 : w.segment.l2.items ≡ joined script domain (hit_l2 hits.l2.items) (from + 1) (place - (from + 1))
  pub l3 : w.segment.l3.items ≡ joined script domain (hit_l3 hits.l2.items hits.l3.items) (from + 1) (place - (from + 1))

-- From a place up to another there is no flush.
pub record IsQuiet (script : PairScriptValue) (first place : ℕ) : Type 0 where
  pub later : first ≤ place
  pub within : place ≤ length script.ops
  pub quiet : (i : ℕ) → first ≤ i → i < place → is_flush (op_at script i) ≡ false

-- a domain that exists
abbrev pub IsSmall : DomainWalk → Type 0
IsSmall w = w.domain < 8

-- What stands after a flush can be counted.
pub record IsCountable (w : DomainWalk) : Type 0 where
  pub rising : RiseByGroup (map stay_of w.segment.held.items)
  pub few_l2 : length w.segment.l2.items < 2 ^ 32
  pub few_l3 : length w.segment.l3.items < 2 ^ 32

-- A flush, and where the ops after it end at the next one.
pub record CanClose (script : PairScriptValue) (from last : ℕ) : Type 0 where
  pub flush : is_flush (op_at script from) ≡ true
  pub segment : IsSegment script (from + 1) last
