-- What follows a command finds what it needs in each slice that it goes to.
use Rattle.std.proofs.Common.{◌≡◌, ℕ, ◌%◌, sym, subst}
use Rattle.cache_core.specs.History.{IsOwn}
use Rattle.step_world.specs.Needs.{CanFollow}
use Rattle.machine.specs.Ranges.{InRange}
use Rattle.machine.specs.declared.parameters.Parameters.{Parameters}
use Rattle.run_law.proofs.laws.OwnLines.{IsOwn-shape_in, mod-some_way}
use Rattle.run_law.specs.Slices.{shape_in}
use Rattle.run_law.specs.Targets.{slice_for}
use Rattle.tree_core.specs.Follows.{IsReady}
use Rattle.tree_law.specs.declared.follow.Follow.{Follow}
use Rattle.tree_law.specs.declared.follow.Follow.TheVariants.{Drop, Flush, Lock, Raise, Touch}

-- a slice that a follow-up goes to can take it
pub CanFollow-ready : (m : Parameters) (f : Follow) (i x : ℕ) → InRange m → i ≡ slice_for m f x → IsReady m f → CanFollow (shape_in m i) m.rmids f
CanFollow-ready m (Raise domain) i x range number ready = tt
CanFollow-ready m (Flush domain) i x range number ready = tt
CanFollow-ready m (Lock domain mask first_line) i x range number ready = ready.2
CanFollow-ready m (Touch tag line) i x range number ready = record {
  own = subst (λ k. IsOwn (shape_in m k) (line % m.sets)) (sym number) (IsOwn-shape_in m tag.domain line range.some_set range.some_slice);
  mask = mod-some_way tag.mask m.ways ready.1 ready.2;
  rmid = ready.0;
}
CanFollow-ready m (Drop domain line) i x range number ready =
    subst (λ k. IsOwn (shape_in m k) (line % m.sets)) (sym number) (IsOwn-shape_in m domain line range.some_set range.some_slice)
