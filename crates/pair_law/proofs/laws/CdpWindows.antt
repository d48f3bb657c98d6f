-- Every window of a run with code and data prioritization is isolated.
use Rattle.std.proofs.Common.{◌≡◌, ℕ, ◌<◌, true, false, List, None, sym, subst, ap, arith, refl}
use Rattle.std.proofs.lemmas.Bool.{true≢false}
use Rattle.std.proofs.lemmas.Option.{get_or_from_slice_get}
use Rattle.cache_core.specs.Filled.{empties}
use Rattle.cache_core.specs.History.{shape_of, sets_floor}
use Rattle.cache_core.specs.declared.entry.SliceEntry.{SliceEntry}
use Rattle.cache_core.specs.declared.entry.What.{What}
use Rattle.cache_core.specs.declared.entry.What.TheVariants as whats
use Rattle.pair_law.proofs.laws.Epochs.{IsSound-state_at}
use Rattle.pair_law.specs.Epochs.{state_at}
use Rattle.pair_law.specs.Sound.{IsSound}
use Rattle.pair_law.specs.State.{PairState}
use Rattle.pair_text.specs.Values.{PairScriptValue}
use Rattle.pair_text.specs.declared.side.Side.{Side}
use Rattle.pair_law.proofs.Alone.{IsResolved-alone, IsValid-alone}
use Rattle.pair_law.proofs.laws.CdpEntries.{IsCdpRun-given, IsGiven}
use Rattle.private_lru.proofs.laws.EntryExtents.{All-between}
use Rattle.private_lru.proofs.laws.EntryFloors.{epoch-le, is_access}
use Rattle.pair_law.specs.CdpRuns.{owner_on}
use Rattle.pair_law.specs.CdpWindows.{IsAlone}
use Rattle.pair_law.specs.Entries.{slice_in}
use Rattle.pair_law.specs.RunLaws.{CdpWindowsAreIsolated}
use Rattle.private_lru.proofs.laws.SliceWindows.{IsIsolated-between}
use Rattle.private_lru.specs.Isolation.{Opens, Respects}
use Rattle.rc_base.specs.declared.names.Gid.{Gid}

-- an entry of a state in which the side is alone, that is no flush, respects its mask
respects-given : (script : PairScriptValue) (s : PairState) (domain : ℕ) (group : Gid) (side : Side) (mask : ℕ) (what : What) → IsSound script.machines s → script.machines.l2 ≡ None → domain < script.machines.machine.domains
    → (is_access what ≡ true → IsAlone domain group side mask s) → empties what ≡ false → IsGiven s domain what → Respects (owner_on group side).0 mask what
respects-given script s domain group side mask (whats.Access hit way owner rmid its line) sound none lt alone goes_on given = IsResolved-alone script.machines s sound none domain lt group side mask (alone refl) owner its given
respects-given script s domain group side mask whats.Raise sound none lt alone goes_on given = goes_on
respects-given script s domain group side mask whats.Flush sound none lt alone goes_on given = absurd (true≢false goes_on)
respects-given script s domain group side mask (whats.Lock others first_line) sound none lt alone goes_on given = absurd (true≢false goes_on)
respects-given script s domain group side mask (whats.Look rmid lines) sound none lt alone goes_on given = goes_on
respects-given script s domain group side mask (whats.Drop line at) sound none lt alone goes_on given = goes_on

-- every window
pub IsIsolated-cdp_window : CdpWindowsAreIsolated
IsIsolated-cdp_window script j domain from to opening group side mask last lawful none run window =
    let limit = lawful.machines.in_range.way_limit in
    let entries : List SliceEntry = slice_in j.slices domain in
    let first = window.alone.from_first in
    let sets : sets_floor opening.what ≡ true = ap sets_floor window.flush in
    IsIsolated-between (shape_of script.machines.machine 0) entries from to (owner_on group side).0 mask opening lawful.machines.in_range.some_set (omega (arith, limit))
    (IsValid-alone script.machines (state_at script opening.epoch) (IsSound-state_at script opening.epoch lawful) none domain window.domain_exists group side mask (window.alone.always opening.epoch (omega arith) first)).bounded
    (run.legal domain window.domain_exists) window.after_opening window.within
    (sym (get_or_from_slice_get entries from opening opening window.opens))
    (subst (Opens mask) (sym window.flush) tt)
    (All-between (λ (e : SliceEntry). Respects (owner_on group side).0 mask e.what) entries from to window.after_opening window.within
    (λ p e there late early.
    let said = IsCdpRun-given script domain j p e run window.domain_exists there in
    let over = window.goes_over p e there late early in
    respects-given script (state_at script e.epoch) domain group side mask e.what (IsSound-state_at script e.epoch lawful) none window.domain_exists
    (λ access. window.alone.always e.epoch (epoch-le (shape_of script.machines.machine 0) entries from p opening e (run.legal domain window.domain_exists) window.opens there late sets access) over.1)
    over.0 said.given))
