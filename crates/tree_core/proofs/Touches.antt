-- What a touch answers, and what follows it.
use Rattle.std.proofs.Common.{◌≡◌, ◌≢◌, ℕ, ◌+◌, ◌/◌, ◌<◌, ◌≤◌, Bool, true, false, cond, ltb, [], ◌∷◌, Option, None, Some, refl, ap, ◌∙◌}
use Rattle.std.proofs.lemmas.Bool.{eq-eqb, ltb-true, ne_eqb, le-leb, lt-leb}
use Rattle.cbm.specs.Masks.{ways_of}
use Rattle.machine.specs.Maps.{bytes_of, domain_of}
use Rattle.machine.specs.declared.parameters.Parameters.{Parameters}
use Rattle.path_names.specs.declared.path_ref.PathRef.{PathRef}
use Rattle.pseudo_lock.specs.Lines as lines
use Rattle.pseudo_lock.specs.declared.region.Region.{Region}
use Rattle.rc_base.specs.declared.names.Gid.{Gid}
use Rattle.rc_base.specs.declared.names.Tag.{Tag}
use Rattle.rc_base.specs.declared.replies.Why.TheVariants.{NoSuchPath, PastRegion, WrongCpu}
use Rattle.script_ops.specs.declared.op.Op.TheVariants as ops
use Rattle.tree_law.specs.Refusals.{plain}
use Rattle.tree_law.specs.Resolving.{Owned, resolve}
use Rattle.tree_law.specs.State.{State}
use Rattle.tree_law.specs.Steps.{after, refusal}
use Rattle.tree_law.specs.commands.Touch as touch
use Rattle.tree_law.specs.declared.follow.Follow.TheVariants.{Touch}
use Rattle.tree_core.proofs.Outcomes.{after-accepted}

module _ (m : Parameters) (s : State) (path : PathRef) (offset task cpu : ℕ) where
  refusal-region : (o : Option (ℕ × Region)) → touch.touched s path ≡ o → refusal m s (ops.Touch cpu path task offset) ≡ touch.against_region m offset cpu o
  unfolding refusal touch.refusal
  refusal-region o is = ap (touch.against_region m offset cpu) is

  -- no region is touched
  pub refusal-nowhere : touch.touched s path ≡ None → refusal m s (ops.Touch cpu path task offset) ≡ Some (plain NoSuchPath)
  refusal-nowhere none = refusal-region None none

  module _ (r : Region) (is : touch.touched s path ≡ Some (r.domain, r)) where
    -- the offset is past the region
    pub refusal-past : bytes_of m (ways_of r.mask) ≤ offset → refusal m s (ops.Touch cpu path task offset) ≡ Some (plain PastRegion)
    refusal-past past = refusal-region (Some (r.domain, r)) is ∙ rw (le-leb (bytes_of m (ways_of r.mask)) offset past) refl

    module _ (within : offset < bytes_of m (ways_of r.mask)) where
      -- the CPU is at another domain
      pub refusal-cpu : domain_of m cpu ≢ r.domain → refusal m s (ops.Touch cpu path task offset) ≡ Some (plain WrongCpu)
      refusal-cpu other = refusal-region (Some (r.domain, r)) is ∙ rw (lt-leb (bytes_of m (ways_of r.mask)) offset within, ne_eqb (domain_of m cpu) r.domain other) refl

      module _ (here : domain_of m cpu ≡ r.domain) where
        -- nothing is against it
        pub refusal-none : refusal m s (ops.Touch cpu path task offset) ≡ None
        refusal-none = refusal-region (Some (r.domain, r)) is ∙ rw (lt-leb (bytes_of m (ways_of r.mask)) offset within, eq-eqb (domain_of m cpu) r.domain here) refl

        -- one access follows
        pub after-touch : (k : ℕ) → after m s k (ops.Touch cpu path task offset) ≡ Touch (touch.tag_of (resolve m s task cpu) (domain_of m cpu) (k + 1)) (r.first_line + offset / 64) ∷ []
        unfolding touch.after
        after-touch k = after-accepted m s k (ops.Touch cpu path task offset) refusal-none ∙ ap (touch.follow m s k offset task cpu) is

-- a tag, by its parts
tag : ℕ → Gid → ℕ → ℕ → ℕ → ℕ → Tag
tag epoch owner class rmid mask domain = record { epoch = epoch; owner = owner; class = class; rmid = rmid; mask = mask; domain = domain }

-- the tag of an access, by what it has
pub tag_of-parts : (x : Tag) (o : Owned) (domain epoch : ℕ) → x.epoch ≡ epoch → x.owner ≡ o.owner → x.class ≡ o.class → x.rmid ≡ o.rmid → x.mask ≡ o.mask → x.domain ≡ domain → x ≡ touch.tag_of o domain epoch
unfolding tag
tag_of-parts x o domain epoch a b c d e f =
    ap (λ (n : ℕ). tag n x.owner x.class x.rmid x.mask x.domain) a ∙ ap (λ (g : Gid). tag epoch g x.class x.rmid x.mask x.domain) b ∙ ap (λ (n : ℕ). tag epoch o.owner n x.rmid x.mask x.domain) c
    ∙ ap (λ (n : ℕ). tag epoch o.owner o.class n x.mask x.domain) d ∙ ap (λ (n : ℕ). tag epoch o.owner o.class o.rmid n x.domain) e ∙ ap (λ (n : ℕ). tag epoch o.owner o.class o.rmid o.mask n) f

-- a line that is found is that of an offset within the region
pub line_at-some : (m : Parameters) (r : Region) (offset line : ℕ) → Some line ≡ lines.line_at m r offset → (offset < bytes_of m (ways_of r.mask)) × (line ≡ r.first_line + offset / 64)
line_at-some m r offset line is = at (ltb offset (bytes_of m (ways_of r.mask))) refl is
  where
    at : (b : Bool) → ltb offset (bytes_of m (ways_of r.mask)) ≡ b → Some line ≡ cond b (Some (r.first_line + offset / 64)) None → (offset < bytes_of m (ways_of r.mask)) × (line ≡ r.first_line + offset / 64)
    at true less e = (ltb-true offset (bytes_of m (ways_of r.mask)) less, let some : Some line ≡ Some (r.first_line + offset / 64) = e in cc)
    at false less e = absurd (let f : ◌≡◌ {A = Option ℕ} (Some line) None = e in cc)
