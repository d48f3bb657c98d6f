-- A window begins at a flush, or at a lock of other ways, and its entries leave the ways of the mask to the group.
use Rattle.std.proofs.Common.{◌≡◌, ℕ, ◌<◌, true, false, ◌==◌, refl, sym, subst, ap, ◌∙◌, arith}
use Rattle.std.specs.Prelude.{MatchBool}
use Rattle.std.proofs.lemmas.Bool.{false≢true}
use Rattle.cache_core.specs.Filled.{empties}
use Rattle.cache_core.specs.declared.entry.SliceEntry.{SliceEntry}
use Rattle.cache_core.specs.declared.entry.What.{What}
use Rattle.cache_core.specs.declared.entry.What.TheVariants.{Access, Raise, Flush, Lock, Look, Drop}
use Rattle.cbm.specs.Masks.{overlaps}
use Rattle.machine.specs.Slices.{domain_in}
use Rattle.machine.specs.declared.parameters.Parameters.{Parameters}
use Rattle.private_lru.specs.Isolation.{Opens, Respects}
use Rattle.rc_base.specs.declared.names.Gid.{Gid}
use Rattle.run_law.specs.Journals.{At, JournalsValue, slice_at}
use Rattle.run_law.specs.Runs.{IsRun}
use Rattle.run_law.specs.Slices.{shape_in}
use Rattle.script_ops.specs.Values.{IsLawful, ScriptValue}
use Rattle.tree_law.proofs.laws.Access.{owner_of-counted}
use Rattle.tree_law.specs.Masks.{IsValid}
use Rattle.tree_law.specs.Resolving.{owner_of}
use Rattle.tree_law.specs.Sound.{IsSound}
use Rattle.tree_law.specs.State.{State}
use Rattle.run_windows.specs.Epochs.{state_at}
use Rattle.run_windows.specs.Windows.{IsExclusive, IsWindow}
use Rattle.run_windows.proofs.Entries.{IsRun-given}
use Rattle.run_windows.proofs.GivenCommands.{IsGiven, IsGivenEntry, domain_in-lt}
use Rattle.run_windows.proofs.Epochs.{IsSound-state_at}
use Rattle.private_lru.proofs.laws.EntryFloors.{epoch-le, is_access, sets_floor-empties}
use Rattle.run_windows.proofs.Owners.{IsValid-exclusive, mask_of_group-exclusive, overlaps-region}

-- what an entry says in a state in which the group is exclusive
respects-given : (m : Parameters) (s : State) (domain : ℕ) (group : Gid) (mask : ℕ) (what : What) → IsSound m s → domain < m.domains → (is_access what ≡ true → IsExclusive domain group mask s) → empties what ≡ false → IsGiven m domain s what → Respects group.0 mask what
respects-given m s domain group mask (Access hit way owner rmid its line) sound exists exclusive goes_on given =
    let holds = mask_of_group-exclusive m s sound domain group (owner_of s given.task given.cpu) mask exists (exclusive refl) (owner_of-counted m s sound given.task given.cpu given.exists) in
    subst (λ (o : Gid). MatchBool (o.0 == group.0) (its ≡ mask) (overlaps its mask ≡ false)) (sym given.owner_is)
    (subst (λ k. MatchBool ((owner_of s given.task given.cpu).0 == group.0) (k ≡ mask) (overlaps k mask ≡ false)) (sym given.mask_is) holds)
respects-given m s domain group mask Raise sound exists exclusive goes_on given = goes_on
respects-given m s domain group mask Flush sound exists exclusive goes_on given = goes_on
respects-given m s domain group mask (Lock others first_line) sound exists exclusive goes_on given = goes_on
respects-given m s domain group mask (Look rmid lines) sound exists exclusive goes_on given = goes_on
respects-given m s domain group mask (Drop line at) sound exists exclusive goes_on given = goes_on

-- an entry that empties the slice in such a state
opens-given : (m : Parameters) (s : State) (domain : ℕ) (group : Gid) (mask : ℕ) (what : What) → IsSound m s → IsExclusive domain group mask s → empties what ≡ true → IsGiven m domain s what → Opens mask what
opens-given m s domain group mask (Access hit way owner rmid its line) sound exclusive empty given = absurd (false≢true empty)
opens-given m s domain group mask Raise sound exclusive empty given = absurd (false≢true empty)
opens-given m s domain group mask Flush sound exclusive empty given = tt
opens-given m s domain group mask (Lock others first_line) sound exclusive empty given = ap (λ k. overlaps k mask) (sym given.mask_is) ∙ overlaps-region m s sound domain group mask given.region given.there exclusive
opens-given m s domain group mask (Look rmid lines) sound exclusive empty given = absurd (false≢true empty)
opens-given m s domain group mask (Drop line at) sound exclusive empty given = absurd (false≢true empty)

module _ (script : ScriptValue) (j : JournalsValue) (i from to : ℕ) (opening : SliceEntry) (group : Gid) (mask last : ℕ) (lawful : IsLawful script) (run : IsRun script j) (window : IsWindow script j i from to opening group mask last) where
  -- the group is exclusive at the opening
  IsExclusive-opening : IsExclusive (domain_in script.machine i) group mask (state_at script j opening.epoch)
  IsExclusive-opening = let first = window.exclusive.from_first in window.exclusive.always opening.epoch (omega arith) first

  IsSound-opening : IsSound script.machine (state_at script j opening.epoch)
  IsSound-opening = let first = window.exclusive.from_first in let most = window.exclusive.to_last in IsSound-state_at script j lawful run opening.epoch (omega (arith, first, most))

  -- the mask is valid
  pub IsValid-window : IsValid script.machine mask
  IsValid-window = IsValid-exclusive script.machine (state_at script j opening.epoch) IsSound-opening (domain_in script.machine i) group mask (domain_in-lt script.machine i window.slice_exists) IsExclusive-opening

  -- each entry of the window respects the mask
  pub Respects-window : (p : ℕ) (e : SliceEntry) → At (slice_at j i) p e → from < p → p < to → Respects group.0 mask e.what
  Respects-window p e there late early =
      let said : IsGivenEntry script j i e = IsRun-given script j i p e lawful run window.slice_exists there in
      let over = window.goes_over p e there late early in
      respects-given script.machine (state_at script j e.epoch) (domain_in script.machine i) group mask e.what (IsSound-state_at script j lawful run e.epoch said.known) (domain_in-lt script.machine i window.slice_exists)
      (λ access. window.exclusive.always e.epoch (epoch-le (shape_in script.machine i) (slice_at j i) from p opening e (run.slices_legal i window.slice_exists) window.opens there late (sets_floor-empties opening.what window.empty) access) over.1)
      over.0 said.given

  -- the window opens with the mask's ways empty
  pub Opens-window : Opens mask opening.what
  Opens-window =
      let said : IsGivenEntry script j i opening = IsRun-given script j i from opening lawful run window.slice_exists window.opens in
      opens-given script.machine (state_at script j opening.epoch) (domain_in script.machine i) group mask opening.what IsSound-opening IsExclusive-opening window.empty said.given
