-- All windows of a run in which their groups access the cache.
use Rattle.std.specs.Prelude.{◌≡◌, ℕ, ◌<◌, true, All, AllPairs, Contains, IsSomeAnd, List, [], ◌∷◌, ◌++◌, map, nat_lt, slice_get, if◌then◌else◌}
use Rattle.cache_core.specs.Filled.{empties}
use Rattle.cache_core.specs.declared.entry.SliceEntry.{SliceEntry}
use Rattle.machine.specs.Slices.{slice_number}
use Rattle.private_lru.specs.GroupCounts.{accesses_of}
use Rattle.private_lru.specs.Isolation.{between}
use Rattle.rc_base.specs.declared.names.Gid.{Gid}
use Rattle.run_law.specs.Journals.{JournalsValue, slice_at}
use Rattle.run_counts.specs.declared.window.Window.{Window}
use Rattle.run_windows.specs.WindowCounts.{IsCountedWindow}
use Rattle.run_windows.specs.Sites.{Precedes, Site, site_of}
use Rattle.run_windows.specs.Windows.{IsWindow}
use Rattle.script_ops.specs.Values.{ScriptValue}

-- the group of this number
abbrev pub gid_of : ℕ → Gid
gid_of n = record { 0 = n }

-- the window has these counts, and its group has an access in it
pub record IsUsedWindow (script : ScriptValue) (j : JournalsValue) (w : Window) : Type 0 where
  pub opening : SliceEntry
  pub mask : ℕ
  pub last : ℕ
  pub domain_exists : w.domain < script.machine.domains
  pub slice_exists : w.slice < script.machine.slices
  pub counted : IsCountedWindow script j opening mask last w
  pub used : 0 < w.accesses

-- a window begins at this place, and its group has an access in it
pub record IsUsed (script : ScriptValue) (j : JournalsValue) (s : Site) : Type 0 where
  pub opening : SliceEntry
  pub to : ℕ
  pub mask : ℕ
  pub last : ℕ
  pub domain_exists : s.domain < script.machine.domains
  pub slice_exists : s.slice < script.machine.slices
  pub is : IsWindow script j (slice_number script.machine s.domain s.slice) s.from to opening (gid_of s.gid) mask last
  pub used : 0 < accesses_of s.gid (between (slice_at j (slice_number script.machine s.domain s.slice)) s.from to)

-- (For proofs.) a flush or a lock stands at this position of a slice
abbrev pub IsOpening : ScriptValue → JournalsValue → ℕ → ℕ → ℕ → Type 0
IsOpening script j domain slice from = IsSomeAnd (slice_get (slice_at j (slice_number script.machine domain slice)) from) (λ e. empties e.what ≡ true)

-- The windows of a run with at least one access of their group: each with its counts, every one of them, and each once, in order.
pub record AreWindowsOf (script : ScriptValue) (j : JournalsValue) (windows : List Window) : Type 0 where
  pub each : All (IsUsedWindow script j) windows
  pub all : (s : Site) → IsUsed script j s → Contains (map site_of windows) s
  pub ordered : AllPairs Precedes (map site_of windows)

-- (For proofs.) The same for those of the windows that begin before a place.
pub record AreWindowsBefore (script : ScriptValue) (j : JournalsValue) (bound : Site) (windows : List Window) : Type 0 where
  pub each : All (IsUsedWindow script j) windows
  pub before : All (λ (s : Site). Precedes s bound) (map site_of windows)
  pub all : (s : Site) → Precedes s bound → IsUsed script j s → Contains (map site_of windows) s
  pub ordered : AllPairs Precedes (map site_of windows)

-- (For proofs.) a list with one window more, where its group has an access in it
abbrev pub with_used : List Window → Window → List Window
with_used windows w = if nat_lt 0 w.accesses then windows ++ w ∷ [] else windows
