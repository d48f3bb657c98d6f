-- The counts that reads and ticks need.
use Rattle.std.proofs.Common.{◌≡◌, ℕ, false, true, cond, [], map, Option, None, Some, is_some, refl, sym, ap, ◌∙◌}
use Rattle.std.specs.Option.{option_map_or}
use Rattle.machine.specs.declared.parameters.Parameters.{Parameters}
use Rattle.path_names.specs.declared.dirs.DirRef.TheVariants.{MonDomain}
use Rattle.path_names.specs.declared.dirs.Holder.{Holder}
use Rattle.path_names.specs.declared.files.FileKind.TheVariants.{Occupancy}
use Rattle.path_names.specs.declared.path_ref.PathRef.{PathRef}
use Rattle.path_names.specs.declared.path_ref.PathRef.TheVariants.{File}
use Rattle.rc_base.specs.declared.names.Gid.{Gid}
use Rattle.rc_base.specs.declared.replies.Why.TheVariants.{NoSuchPath}
use Rattle.script_ops.specs.declared.op.Op.TheVariants as ops
use Rattle.tree_core.proofs.Outcomes.{needs-accepted, needs-nothing, needs-refused, refusal-read}
use Rattle.tree_core.specs.Places.{is_occupancy}
use Rattle.tree_law.specs.Existing.{holder_gid}
use Rattle.tree_law.specs.Freeing.{counts_of, rmids_with}
use Rattle.tree_law.specs.Refusals.{plain}
use Rattle.tree_law.specs.State.{State}
use Rattle.tree_law.specs.Steps.{needs, needs_accepted, refusal}
use Rattle.tree_law.specs.commands.Reads as reads
use Rattle.tree_law.specs.commands.Tick as tick

-- a read of `llc_occupancy`, where it is accepted
needs_accepted-occupancy : (m : Parameters) (s : State) (holder : Holder) (domain : ℕ) → needs_accepted m s (ops.Read (File (MonDomain holder domain) Occupancy)) ≡ map (λ rmid. (domain, rmid)) (option_map_or (rmids_with s) (holder_gid s holder) [])
unfolding reads.needs
needs_accepted-occupancy m s holder domain = refl

-- a read of `llc_occupancy` needs a count for each RMID of its group, and none where there is no such group
pub needs-occupancy : (m : Parameters) (s : State) (holder : Holder) (domain : ℕ) → needs m s (ops.Read (File (MonDomain holder domain) Occupancy)) ≡ map (λ rmid. (domain, rmid)) (option_map_or (rmids_with s) (holder_gid s holder) [])
needs-occupancy m s holder domain = at (holder_gid s holder) refl
  where
    at : (o : Option Gid) → holder_gid s holder ≡ o → needs m s (ops.Read (File (MonDomain holder domain) Occupancy)) ≡ map (λ rmid. (domain, rmid)) (option_map_or (rmids_with s) (holder_gid s holder) [])
    at None is =
        needs-refused m s (ops.Read (File (MonDomain holder domain) Occupancy)) (plain NoSuchPath) (refusal-read m s (File (MonDomain holder domain) Occupancy) ∙ ap (λ (o : Option Gid). cond (is_some o) None (Some (plain NoSuchPath))) is)
        ∙ ap (λ (o : Option Gid). map (λ rmid. (domain, rmid)) (option_map_or (rmids_with s) o [])) (sym is)
    at (Some gid) is =
        needs-accepted m s (ops.Read (File (MonDomain holder domain) Occupancy)) (refusal-read m s (File (MonDomain holder domain) Occupancy) ∙ ap (λ (o : Option Gid). cond (is_some o) None (Some (plain NoSuchPath))) is)
        ∙ needs_accepted-occupancy m s holder domain

-- no other read needs any, where it is accepted
needs_accepted-read : (m : Parameters) (s : State) (path : PathRef) → is_occupancy path ≡ false → needs_accepted m s (ops.Read path) ≡ []
unfolding reads.needs
needs_accepted-read m s (File (MonDomain holder domain) Occupancy) other = absurd (let f : true ≡ false = other in cc)
needs_accepted-read m s path other = refl

-- nor where it is refused
pub needs-read : (m : Parameters) (s : State) (path : PathRef) → is_occupancy path ≡ false → needs m s (ops.Read path) ≡ []
needs-read m s path other = needs-nothing m s (ops.Read path) (needs_accepted-read m s path other)

-- a tick is never refused
pub refusal-tick : (m : Parameters) (s : State) → refusal m s ops.Tick ≡ None
unfolding refusal
refusal-tick m s = refl

-- it needs the counts of the RMIDs in limbo
pub needs-tick : (m : Parameters) (s : State) → needs m s ops.Tick ≡ counts_of m s.limbo
unfolding tick.needs
needs-tick m s = needs-accepted m s ops.Tick (refusal-tick m s)

-- nor is an access
pub refusal-access : (m : Parameters) (s : State) (task cpu addr : ℕ) → refusal m s (ops.Access task cpu addr) ≡ None
unfolding refusal
refusal-access m s task cpu addr = refl
