-- One op more of a script on data and code masks.
use Rattle.std.proofs.Common.{◌≡◌, ℕ, ◌+◌, ◌*◌, ◌<◌, ◌^◌, ◌==◌, Bool, true, false, [], ◌∷◌, Option, None, unwrap_or, refl, sym, ap, ◌∙◌, subst, arith}
use Rattle.std.proofs.lemmas.Bool.{eq-eqb, ne_eqb}
use Rattle.cache_core.specs.declared.entry.What.TheVariants.{Access}
use Rattle.cdp_masks.specs.SoFar.{IsCdpSoFar, use_tag}
use Rattle.machine.specs.Maps.{domain_of}
use Rattle.machine.specs.declared.parameters.Parameters.{Parameters}
use Rattle.pair_law.proofs.laws.Epochs.{IsSound-state_at}
use Rattle.pair_law.proofs.laws.Owners.{IsGroup-owner}
use Rattle.pair_law.proofs.laws.Registers.{register-mask_of_group}
use Rattle.pair_law.specs.Registers.{mask_of_group}
use Rattle.pair_law.specs.State.{owner_of}
use Rattle.pair_text.specs.Values.{Machines, PairScriptValue, epoch_at, side_machine}
use Rattle.pair_text.specs.declared.op.PairOp.TheVariants as ops
use Rattle.pair_text.specs.declared.side.Side.{Side}
use Rattle.pair_text.specs.declared.side.Side.TheVariants.{First, Second}
use Rattle.pair_play.proofs.laws.NextOps.{CanAccess-use, CanFlush-next, IsLevelSoFar-flushed, IsLevelSoFar-used}
use Rattle.pair_play.proofs.laws.Users.{gid-owner}
use Rattle.pair_play.specs.Histories.{AddsAccessIn, CanAccess, CanFlush, LevelValue, all_with_flush}
use Rattle.pair_play.specs.Playing.{IsFlushAt, IsUseAt}
use Rattle.pair_play.specs.SideTags.{state_now}
use Rattle.pair_play.specs.SoFar.{IsLevelSoFar}
use Rattle.pair_law.specs.CdpRuns.{asked_at, asked_of_op, owner_on, register_mask, side_of}
use Rattle.pair_law.specs.Entries.{entry}
use Rattle.pair_tree.specs.declared.tag.PairTag.{PairTag}
use Rattle.rc_base.specs.declared.names.Gid.{Gid}

-- both sides have the caches of the machine
side_machine-cdp : (m : Machines) (side : Side) → m.l2 ≡ None → side_machine m side ≡ m.machine
side_machine-cdp m First none = ap (λ (o : Option Parameters). unwrap_or o m.machine) none
side_machine-cdp m Second none = refl

module _ (script : PairScriptValue) (i : ℕ) (l : LevelValue) (so_far : IsCdpSoFar script i l) where
  -- the caches of a side
  level_on : (side : Side) → IsLevelSoFar (asked_at script) (side_machine script.machines side) i (epoch_at script i) l
  level_on side = subst (λ (p : Parameters). IsLevelSoFar (asked_at script) p i (epoch_at script i) l) (sym (side_machine-cdp script.machines side so_far.code_masks)) so_far.level

  module _ (epoch : ℕ) (flush_at : IsFlushAt script i epoch) where
    -- what a flush needs
    pub CanFlush-cdp : CanFlush l epoch
    CanFlush-cdp = CanFlush-next script i (asked_at script) script.machines.machine l so_far.level epoch flush_at

    -- a flush
    pub IsCdpSoFar-flush : (new : LevelValue) → new.parameters ≡ l.parameters → new.histories ≡ all_with_flush i epoch l.histories → IsCdpSoFar script (i + 1) new
    IsCdpSoFar-flush new same flushed = record {
      code_masks = so_far.code_masks;
      level = IsLevelSoFar-flushed script i (asked_at script) script.machines.machine l so_far.level epoch flush_at new same flushed (λ d. ap (asked_of_op script d i) flush_at.flush_is);
    }

  module _ (tag : PairTag) (line : ℕ) (code : Bool) (use_at : IsUseAt script i tag line code) where
    -- the owner, and the machine that the domains of its side are of
    abbrev user : Gid
    user = owner_of (state_now script i) use_at.task

    same_domain : domain_of (side_machine script.machines (side_of code)) use_at.cpu ≡ domain_of script.machines.machine use_at.cpu
    same_domain = ap (λ (p : Parameters). domain_of p use_at.cpu) (side_machine-cdp script.machines (side_of code) so_far.code_masks)

    -- what a use needs
    pub CanAccess-cdp : CanAccess l (use_tag tag code)
    CanAccess-cdp = CanAccess-use script i tag line code use_at (side_of code) (asked_at script) l (owner_on tag.owner (side_of code)) (level_on (side_of code))

    pub owner-small : 2 * tag.owner.0 + 1 < 2 ^ 32
    owner-small = omega (arith, ap (λ (t : PairTag). t.owner.0) use_at.tag_is, gid-owner script (epoch_at script i) use_at.task use_at.lawful, use_at.short.commands)

    -- the mask of the group's register there
    mask-register : (d : ℕ) → register_mask (state_now script i) (side_of code) d user ≡ mask_of_group (state_now script i) (side_of code) d user
    mask-register d =
        let sound = IsSound-state_at script (epoch_at script i) use_at.lawful in
        ap (λ (o : Option ℕ). unwrap_or o 0) (register-mask_of_group script.machines (state_now script i) user d (side_of code) sound (IsGroup-owner script.machines (state_now script i) sound use_at.task))

    -- a use
    pub IsCdpSoFar-use : (new : LevelValue) (hit : Bool) → new.parameters ≡ l.parameters → AddsAccessIn i (use_tag tag code) line hit l.histories new.histories → IsCdpSoFar script (i + 1) new
    IsCdpSoFar-use new hit same adds = record {
      code_masks = so_far.code_masks;
      level =
          subst (λ (p : Parameters). IsLevelSoFar (asked_at script) p (i + 1) (epoch_at script (i + 1)) new) (side_machine-cdp script.machines (side_of code) so_far.code_masks)
          (IsLevelSoFar-used script i tag line code use_at (side_of code) (asked_at script) l new (λ (gid : Gid). owner_on gid (side_of code)) hit (level_on (side_of code)) same adds here
          (λ d other. let test : (domain_of script.machines.machine use_at.cpu == d) ≡ false = ne_eqb (domain_of script.machines.machine use_at.cpu) d (λ e. other (sym e ∙ sym same_domain)) in
          ap (asked_of_op script d i) use_at.use_is ∙ rw test refl));
    }
      where
        here : (d : ℕ) → d ≡ domain_of (side_machine script.machines (side_of code)) use_at.cpu
            → asked_at script d i ≡ entry i (epoch_at script i) (Access false 0 (owner_on user (side_of code)) 0 (mask_of_group (state_now script i) (side_of code) d user) line) ∷ []
        here d at =
            let test : (domain_of script.machines.machine use_at.cpu == d) ≡ true = eq-eqb (domain_of script.machines.machine use_at.cpu) d (sym (at ∙ same_domain)) in
            ap (asked_of_op script d i) use_at.use_is
            ∙ rw test (ap (λ (mask : ℕ). entry i (epoch_at script i) (Access false 0 (owner_on user (side_of code)) 0 mask line) ∷ []) (mask-register d))
