-- The tag that the state of an op gives to a use on a side.
use Rattle.std.proofs.Common.{◌≡◌, ℕ, ◌%◌, ◌^◌, ◌<◌, List, IfSome, Option, None, Some, unwrap_or, refl, sym, ap, ap₂, ◌∙◌, subst, arith}
use Rattle.cache_core.specs.declared.entry.SliceEntry.{SliceEntry}
use Rattle.machine.proofs.laws.Domains.{domain_of-lt}
use Rattle.machine.specs.Maps.{domain_of}
use Rattle.machine.specs.declared.parameters.Parameters.{Parameters}
use Rattle.pair_law.proofs.laws.Machines.{side_machine-range}
use Rattle.pair_law.specs.Registers.{mask_of_group}
use Rattle.pair_law.specs.State.{PairState, owner_of}
use Rattle.pair_text.specs.Values.{IsLawful, LiesBelow, Machines, PairScriptValue, epoch_at, side_machine}
use Rattle.pair_text.specs.declared.side.Side.{Side}
use Rattle.pair_text.specs.declared.side.Side.TheVariants.{First, Second}
use Rattle.pair_play.proofs.laws.LevelsSoFar.{CanAccess-IsLevelSoFar}
use Rattle.pair_play.proofs.laws.Users.{some_way-owner}
use Rattle.pair_play.specs.Histories.{CanAccess, LevelValue}
use Rattle.pair_play.specs.SideTags.{state_now, tag_in, tag_now, tag_on}
use Rattle.pair_play.specs.SoFar.{AreCommandsSoFar, CommandsValue, IsLevelSoFar}
use Rattle.pair_tree.specs.Tags.{tag_of}
use Rattle.rc_base.specs.declared.names.Gid.{Gid}
use Rattle.rc_base.specs.declared.names.Tag.{Tag}

module _ (script : PairScriptValue) (i : ℕ) where
  -- on a side: the domain is the CPU's there
  pub domain-tag_now : (task cpu : ℕ) (side : Side) (owner : Gid) → (tag_on (tag_now script i task cpu) side owner).domain ≡ domain_of (side_machine script.machines side) cpu
  domain-tag_now task cpu First owner = refl
  domain-tag_now task cpu Second owner = refl

  -- the mask is the group's there
  pub mask-tag_now : (task cpu : ℕ) (side : Side) (owner : Gid) → (tag_on (tag_now script i task cpu) side owner).mask ≡ mask_of_group (state_now script i) side (domain_of (side_machine script.machines side) cpu) (owner_of (state_now script i) task)
  mask-tag_now task cpu First owner = refl
  mask-tag_now task cpu Second owner = refl

  -- a CPU of the machine has a domain on each side
  pub domain_of-side : IsLawful script → (cpu : ℕ) (side : Side) → cpu < script.machines.machine.cpus → domain_of (side_machine script.machines side) cpu < (side_machine script.machines side).domains
  domain_of-side lawful cpu side exists = domain_of-lt (side_machine script.machines side) cpu (side_machine-range script.machines lawful.machines side) (omega (arith, cpus side))
    where
      below : (o : Option Parameters) → IfSome o (LiesBelow script.machines.machine) → (unwrap_or o script.machines.machine).cpus ≡ script.machines.machine.cpus
      below None lies = refl
      below (Some l2) lies = lies.same_cpus

      cpus : (side : Side) → (side_machine script.machines side).cpus ≡ script.machines.machine.cpus
      cpus First = below script.machines.l2 lawful.machines.below
      cpus Second = refl

  -- the caches of the side can make its access
  pub CanAccess-tag_now : (asked : ℕ → ℕ → List SliceEntry) (level : LevelValue) (side : Side) → IsLawful script → IsLevelSoFar asked (side_machine script.machines side) i (epoch_at script i) level → i < 2 ^ 32
      → (task cpu : ℕ) (owner : Gid) → cpu < script.machines.machine.cpus → CanAccess level (tag_on (tag_now script i task cpu) side owner)
  CanAccess-tag_now asked level side lawful so_far few task cpu owner exists =
      let tag : Tag = tag_on (tag_now script i task cpu) side owner in
      let domain : ℕ = domain_of (side_machine script.machines side) cpu in
      let there = domain_of-side lawful cpu side exists in
      CanAccess-IsLevelSoFar asked (side_machine script.machines side) i (epoch_at script i) level so_far few tag (omega (arith, there, domain-tag_now task cpu side owner))
      (subst (λ (mask : ℕ). 0 < mask % 2 ^ (side_machine script.machines side).ways) (sym (mask-tag_now task cpu side owner)) (some_way-owner script (epoch_at script i) task side domain lawful there)) refl (omega arith)

  module _ (c : CommandsValue) (so_far : AreCommandsSoFar script i c) where
    -- it is the one that the tree gives
    pub tag_in-tag_now : (task cpu : ℕ) → tag_in c task cpu ≡ tag_now script i task cpu
    tag_in-tag_now task cpu =
        ap₂ (λ (m : Machines) (s : PairState). tag_of m s c.tree.epoch task cpu) so_far.machines so_far.state
        ∙ ap (λ (n : ℕ). tag_of script.machines (state_now script i) n task cpu) so_far.epoch
