-- Every window of a run is isolated.
use Rattle.std.proofs.Common.{ℕ, ◌-◌, List, length, sym, subst, arith}
use Rattle.std.proofs.lemmas.Option.{get_or_from_slice_get}
use Rattle.cache_core.specs.declared.entry.SliceEntry.{SliceEntry}
use Rattle.cbm.specs.Masks.{ways_of}
use Rattle.private_lru.specs.Isolation.{IsIsolated, Respects}
use Rattle.private_lru.proofs.laws.EntryExtents.{All-between}
use Rattle.private_lru.proofs.laws.SliceWindows.{IsIsolated-between}
use Rattle.private_lru.proofs.laws.CoveredHits.{covered_hits-two_worlds}
use Rattle.rc_base.specs.declared.names.Gid.{Gid}
use Rattle.run_law.specs.Journals.{JournalsValue, slice_at}
use Rattle.run_law.specs.Runs.{IsRun}
use Rattle.run_law.specs.Slices.{shape_in}
use Rattle.script_ops.specs.Values.{IsLawful, ScriptValue}
use Rattle.run_windows.specs.WindowLaws.{IsWindowOf, WindowsAreIsolated, WorldsAgree}
use Rattle.run_windows.proofs.WindowEntries.{IsValid-window, Opens-window, Respects-window}

-- every window of a run
pub IsIsolated-window : WindowsAreIsolated
IsIsolated-window script j i from to opening group mask last lawful run window =
    let limit = lawful.in_range.way_limit in
    IsIsolated-between (shape_in script.machine i) (slice_at j i) from to group.0 mask opening lawful.in_range.some_set (omega (arith, limit)) (IsValid-window script j i from to opening group mask last lawful run window).bounded
    (run.slices_legal i window.slice_exists) window.after_opening window.within
    (sym (get_or_from_slice_get (slice_at j i) from opening opening window.opens))
    (Opens-window script j i from to opening group mask last lawful run window)
    (All-between (λ (e : SliceEntry). Respects group.0 mask e.what) (slice_at j i) from to window.after_opening window.within (Respects-window script j i from to opening group mask last lawful run window))

-- a window by its place
IsIsolated-window_of : (script : ScriptValue) (j : JournalsValue) (i : ℕ) (group : Gid) (ways : ℕ) (opening : SliceEntry) (window : List SliceEntry) → IsLawful script → IsRun script j → IsWindowOf script j i group ways opening window
    → IsIsolated script.machine.sets group.0 ways opening.what window
IsIsolated-window_of script j i group ways opening window lawful run of =
    let is = IsIsolated-window script j i of.from of.to opening group of.mask of.last lawful run of.is in
    subst (λ n. IsIsolated script.machine.sets group.0 n opening.what window) of.wide
    (subst (λ (l : List SliceEntry). IsIsolated script.machine.sets group.0 (length (ways_of of.mask)) opening.what l) (sym of.holds) is)

-- what others do in two runs makes no difference
pub covered_hits-worlds : WorldsAgree
covered_hits-worlds script other j k i x group its_group sets ways set opening its_opening window its_window lawful run its_lawful its_run one two first second same =
    covered_hits-two_worlds sets group.0 its_group.0 ways set opening.what its_opening.what window its_window
    (subst (λ n. IsIsolated n group.0 ways opening.what window) one (IsIsolated-window_of script j i group ways opening window lawful run first))
    (subst (λ n. IsIsolated n its_group.0 ways its_opening.what its_window) two (IsIsolated-window_of other k x its_group ways its_opening its_window its_lawful its_run second)) same
