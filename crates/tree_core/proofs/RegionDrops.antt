-- What a flush of a line of a region answers, and what follows it.
use Rattle.std.proofs.Common.{◌≡◌, ℕ, ◌+◌, ◌/◌, ◌<◌, ◌≤◌, [], ◌∷◌, Option, None, Some, ap, ◌∙◌, refl}
use Rattle.std.proofs.lemmas.Bool.{le-leb, lt-leb}
use Rattle.cbm.specs.Masks.{ways_of}
use Rattle.machine.specs.Maps.{bytes_of}
use Rattle.machine.specs.declared.parameters.Parameters.{Parameters}
use Rattle.path_names.specs.declared.path_ref.PathRef.{PathRef}
use Rattle.pseudo_lock.specs.declared.region.Region.{Region}
use Rattle.rc_base.specs.declared.replies.Why.TheVariants.{NoSuchPath, PastRegion}
use Rattle.script_ops.specs.declared.op.Op.TheVariants as ops
use Rattle.tree_law.specs.Refusals.{plain}
use Rattle.tree_law.specs.State.{State}
use Rattle.tree_law.specs.Steps.{after, refusal}
use Rattle.tree_law.specs.commands.Drop as clflush
use Rattle.tree_law.specs.commands.Touch.{touched}
use Rattle.tree_law.specs.declared.follow.Follow.TheVariants.{Drop}
use Rattle.tree_core.proofs.Outcomes.{after-accepted}

module _ (m : Parameters) (s : State) (path : PathRef) (offset : ℕ) where
  refusal-region : (o : Option (ℕ × Region)) → touched s path ≡ o → refusal m s (ops.DropRegion path offset) ≡ clflush.against_region m offset o
  unfolding refusal clflush.refusal
  refusal-region o is = ap (clflush.against_region m offset) is

  -- the path is of no region
  pub refusal-nowhere : touched s path ≡ None → refusal m s (ops.DropRegion path offset) ≡ Some (plain NoSuchPath)
  refusal-nowhere none = refusal-region None none

  module _ (r : Region) (is : touched s path ≡ Some (r.domain, r)) where
    -- the offset is past the region
    pub refusal-past : bytes_of m (ways_of r.mask) ≤ offset → refusal m s (ops.DropRegion path offset) ≡ Some (plain PastRegion)
    refusal-past past = refusal-region (Some (r.domain, r)) is ∙ rw (le-leb (bytes_of m (ways_of r.mask)) offset past) refl

    module _ (within : offset < bytes_of m (ways_of r.mask)) where
      -- nothing is against it
      pub refusal-none : refusal m s (ops.DropRegion path offset) ≡ None
      refusal-none = refusal-region (Some (r.domain, r)) is ∙ rw (lt-leb (bytes_of m (ways_of r.mask)) offset within) refl

      -- one drop follows
      pub after-drop : (k : ℕ) → after m s k (ops.DropRegion path offset) ≡ Drop r.domain (r.first_line + offset / 64) ∷ []
      unfolding clflush.after_region
      after-drop k = after-accepted m s k (ops.DropRegion path offset) refusal-none ∙ ap (clflush.follow offset) is
