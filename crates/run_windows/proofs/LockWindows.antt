-- A locked region holds its lines.
use Rattle.std.proofs.Common.{◌≡◌, ℕ, ◌%◌, ◌^◌, ◌<◌, false, None, Some, sym, subst, ap, ◌∙◌, arith}
use Rattle.std.proofs.lemmas.Option.{get_or_from_slice_get}
use Rattle.cache_core.specs.Filled.{empties}
use Rattle.cache_core.specs.declared.entry.SliceEntry.{SliceEntry}
use Rattle.cache_core.specs.declared.entry.What.{What}
use Rattle.cache_core.specs.declared.entry.What.TheVariants.{Access, Raise, Flush, Lock, Look, Drop}
use Rattle.cbm.specs.Masks.{overlaps}
use Rattle.machine.specs.Slices.{domain_in}
use Rattle.machine.specs.declared.parameters.Parameters.{Parameters}
use Rattle.private_lru.specs.Isolation.{between}
use Rattle.private_lru.specs.Locked.{HoldsLoaded, Spares}
use Rattle.private_lru.proofs.laws.LoadedWays.{HoldsLoaded-between}
use Rattle.pseudo_lock.specs.declared.region.Region.{Region}
use Rattle.run_law.specs.Journals.{slice_at}
use Rattle.run_law.specs.Slices.{shape_in}
use Rattle.tree_law.proofs.laws.Access.{owner_of-counted}
use Rattle.tree_law.proofs.laws.Lines.{first_line-whole}
use Rattle.tree_law.specs.Resolving.{owner_of}
use Rattle.tree_law.specs.Sound.{IsSound}
use Rattle.tree_law.specs.State.{State}
use Rattle.run_windows.specs.Epochs.{state_at}
use Rattle.run_windows.specs.WindowLaws.{RegionsHold}
use Rattle.run_windows.specs.Regions.{HasRegion}
use Rattle.run_windows.proofs.Entries.{IsRun-given}
use Rattle.run_windows.proofs.GivenCommands.{IsGiven, IsGivenEntry}
use Rattle.run_windows.proofs.Epochs.{IsSound-state_at}
use Rattle.private_lru.proofs.laws.EntryExtents.{All-between}
use Rattle.run_windows.proofs.Owners.{mask_of_group-region}
use Rattle.run_windows.proofs.StepFollows.{IsRegionOf}

-- what an entry says in a state with the region
spares-given : (m : Parameters) (s : State) (domain : ℕ) (r : Region) (what : What) → IsSound m s → HasRegion domain r s → empties what ≡ false → IsGiven m domain s what → Spares r.mask what
spares-given m s domain r (Access hit way owner rmid its line) sound there goes_on given =
    ap (λ k. overlaps k r.mask) given.mask_is ∙ mask_of_group-region m s sound domain r (owner_of s given.task given.cpu) there (owner_of-counted m s sound given.task given.cpu given.exists)
spares-given m s domain r Raise sound there goes_on given = goes_on
spares-given m s domain r Flush sound there goes_on given = goes_on
spares-given m s domain r (Lock others first_line) sound there goes_on given = goes_on
spares-given m s domain r (Look rmid lines) sound there goes_on given = goes_on
spares-given m s domain r (Drop line at) sound there goes_on given = goes_on

-- each access to a line of a region hits while the region is there, unless the line was dropped
pub HoldsLoaded-lock_window : RegionsHold
HoldsLoaded-lock_window script j i from to opening r lawful run window =
    let m : Parameters = script.machine in
    let limit = lawful.in_range.way_limit in
    let said : IsGivenEntry script j i opening = IsRun-given script j i from opening lawful run window.slice_exists window.opens in
    let s : State = state_at script j opening.epoch in
    let sound : IsSound m s = IsSound-state_at script j lawful run opening.epoch said.known in
    let lock : IsRegionOf s (domain_in m i) r.mask r.first_line = subst (IsGiven m (domain_in m i) s) window.locks said.given in
    let bounded = subst (λ k. k < 2 ^ m.ways) lock.mask_is (sound.regions.lawful (domain_in m i) lock.region lock.there).valid.bounded in
    let whole : r.first_line % m.sets ≡ 0 = ap (λ k. k % m.sets) (sym lock.first_line_is) ∙ first_line-whole s.regions s.locks sound.lines m (domain_in m i) lock.region lawful.in_range (get_or_from_slice_get s.regions (domain_in m i) (Some lock.region) None lock.there) in
    let holds = HoldsLoaded-between (shape_in m i) (slice_at j i) from to r.mask r.first_line opening (omega (arith, limit)) bounded whole (run.slices_legal i window.slice_exists) window.after_opening window.within
    (sym (get_or_from_slice_get (slice_at j i) from opening opening window.opens)) window.locks
    (All-between (λ (e : SliceEntry). Spares r.mask e.what) (slice_at j i) from to window.after_opening window.within
    (λ p e there late early.
    let over = window.goes_over p e there late early in
    let its : IsGivenEntry script j i e = IsRun-given script j i p e lawful run window.slice_exists there in
    spares-given m (state_at script j e.epoch) (domain_in m i) r e.what (IsSound-state_at script j lawful run e.epoch its.known) over.1 over.0 its.given)) in
    subst (λ (w : What). HoldsLoaded m.sets w (between (slice_at j i) from to)) (sym window.locks) holds
