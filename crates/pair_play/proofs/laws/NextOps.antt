-- The next op of a script: in the histories of a level, and for the caches of either kind.
use Rattle.std.proofs.Common.{◌≡◌, ◌≢◌, ℕ, ◌+◌, ◌<◌, Bool, true, false, List, [], ◌∷◌, length, Some, refl, sym, ap, ◌∙◌, subst, arith}
use Rattle.std.proofs.lemmas.Option.{get_or_from_slice_get, slice_get_within}
use Rattle.cache_core.specs.declared.entry.SliceEntry.{SliceEntry}
use Rattle.cache_core.specs.declared.entry.What.TheVariants.{Access, Flush}
use Rattle.machine.specs.Maps.{domain_of}
use Rattle.machine.specs.declared.parameters.Parameters.{Parameters}
use Rattle.pair_law.specs.Registers.{mask_of_group}
use Rattle.pair_law.specs.State.{PairState, owner_of}
use Rattle.pair_text.specs.Values.{Fits, IsLawful, PairScriptValue, epoch_at, is_command, op_at, side_machine}
use Rattle.pair_text.specs.declared.op.PairOp.{PairOp}
use Rattle.pair_text.specs.declared.op.PairOp.TheVariants as ops
use Rattle.pair_text.specs.declared.side.Side.{Side}
use Rattle.pair_play.proofs.laws.CommandsSoFar.{AreCommandsSoFar-command}
use Rattle.pair_play.proofs.laws.LevelsSoFar.{CanFlush-IsLevelSoFar, IsLevelSoFar-access, IsLevelSoFar-flush, IsLevelSoFar-idle}
use Rattle.pair_play.proofs.laws.OpKinds.{is_command-other}
use Rattle.pair_play.proofs.laws.SideTags.{CanAccess-tag_now, domain-tag_now, domain_of-side, mask-tag_now, tag_in-tag_now}
use Rattle.pair_play.specs.Histories.{AddsAccessIn, CanAccess, CanFlush, LevelValue, all_with_flush}
use Rattle.pair_play.specs.Playing.{IsFlushAt, IsOther, IsPlayedSoFar, IsUseAt}
use Rattle.pair_play.specs.SideTags.{state_now, tag_in, tag_now, tag_on}
use Rattle.pair_play.specs.SoFar.{AreCommandsSoFar, CommandsValue, IsLevelSoFar, IsShort, taken}
use Rattle.pair_law.proofs.laws.Playing.{epoch_at-command, epoch_at-use}
use Rattle.pair_law.specs.Entries.{entry}
use Rattle.pair_tree.specs.declared.tag.PairTag.{PairTag}
use Rattle.rc_base.specs.declared.names.Gid.{Gid}
use Rattle.rc_base.specs.declared.names.Tag.{Tag}

-- ---- commands

module _ (script : PairScriptValue) (i : ℕ) (asked : ℕ → ℕ → List SliceEntry) (p : Parameters) (l : LevelValue) (so_far : IsLevelSoFar asked p i (epoch_at script i) l) where
  -- a command that is no flush
  pub IsLevelSoFar-other : (op : PairOp) → op_at script i ≡ Some op → IsOther op → ((d : ℕ) → asked d i ≡ []) → IsLevelSoFar asked p (i + 1) (epoch_at script (i + 1)) l
  IsLevelSoFar-other op is other nothing =
      subst (λ (n : ℕ). IsLevelSoFar asked p (i + 1) n l) (sym (epoch_at-command script i op is (is_command-other op other)))
      (IsLevelSoFar-idle asked p i (epoch_at script i) l so_far (epoch_at script i + 1) (omega arith) (λ d lt. nothing d))

  module _ (epoch : ℕ) (flush_at : IsFlushAt script i epoch) where
    -- what a flush needs
    pub CanFlush-next : CanFlush l epoch
    CanFlush-next =
        let within : i < length script.ops = slice_get_within script.ops i ops.Flush flush_at.flush_is in
        CanFlush-IsLevelSoFar asked p i (epoch_at script i) l so_far (omega (arith, within, flush_at.short.ops)) epoch (omega (arith, flush_at.epoch_is))

    -- a flush
    pub IsLevelSoFar-flushed : (new : LevelValue) → new.parameters ≡ l.parameters → new.histories ≡ all_with_flush i epoch l.histories → ((d : ℕ) → asked d i ≡ entry i (epoch_at script i + 1) Flush ∷ [])
        → IsLevelSoFar asked p (i + 1) (epoch_at script (i + 1)) new
    IsLevelSoFar-flushed new same flushed asks =
        subst (λ (n : ℕ). IsLevelSoFar asked p (i + 1) n new) (flush_at.epoch_is ∙ sym (epoch_at-command script i ops.Flush flush_at.flush_is refl))
        (IsLevelSoFar-flush asked p i (epoch_at script i) l so_far new epoch same flushed (omega (arith, flush_at.epoch_is)) (λ d lt. asks d ∙ ap (λ (n : ℕ). entry i n Flush ∷ []) (sym flush_at.epoch_is)))

-- ---- uses

module _ (script : PairScriptValue) (i : ℕ) (tag : PairTag) (line : ℕ) (code : Bool) (use_at : IsUseAt script i tag line code) where
  -- the op
  abbrev next_use : PairOp
  next_use = ops.Use use_at.task use_at.cpu line code

  within-use : i < length script.ops
  within-use = slice_get_within script.ops i next_use use_at.use_is

  -- its task is declared, and its CPU exists
  Fits-use : Fits script next_use
  Fits-use = subst (Fits script) (get_or_from_slice_get script.ops i next_use next_use use_at.use_is) (use_at.lawful.fit i next_use within-use)

  -- the epoch stays
  epoch_at-next : epoch_at script i ≡ epoch_at script (i + 1)
  epoch_at-next = sym (epoch_at-use script i next_use use_at.use_is refl)

  -- a level that is not asked
  pub IsLevelSoFar-unasked : (asked : ℕ → ℕ → List SliceEntry) (p : Parameters) (l : LevelValue) → IsLevelSoFar asked p i (epoch_at script i) l → ((d : ℕ) → asked d i ≡ []) → IsLevelSoFar asked p (i + 1) (epoch_at script (i + 1)) l
  IsLevelSoFar-unasked asked p l so_far nothing =
      subst (λ (n : ℕ). IsLevelSoFar asked p (i + 1) n l) epoch_at-next (IsLevelSoFar-idle asked p i (epoch_at script i) l so_far (epoch_at script i) (omega arith) (λ d lt. nothing d))

  module _ (side : Side) where
    -- the domain of its CPU there
    pub domain-use : (owner : Gid) → (tag_on tag side owner).domain ≡ domain_of (side_machine script.machines side) use_at.cpu
    domain-use owner = ap (λ (t : PairTag). (tag_on t side owner).domain) use_at.tag_is ∙ domain-tag_now script i use_at.task use_at.cpu side owner

    pub domain-exists : (owner : Gid) → (tag_on tag side owner).domain < (side_machine script.machines side).domains
    domain-exists owner = omega (arith, domain-use owner, domain_of-side script i use_at.lawful use_at.cpu side Fits-use.1)

    -- what the access needs
    pub CanAccess-use : (asked : ℕ → ℕ → List SliceEntry) (l : LevelValue) (owner : Gid) → IsLevelSoFar asked (side_machine script.machines side) i (epoch_at script i) l → CanAccess l (tag_on tag side owner)
    CanAccess-use asked l owner so_far =
        subst (λ (t : PairTag). CanAccess l (tag_on t side owner)) (sym use_at.tag_is)
        (CanAccess-tag_now script i asked l side use_at.lawful so_far (omega (arith, within-use, use_at.short.ops)) use_at.task use_at.cpu owner Fits-use.1)

    -- a level that is asked, for the owner that stands there for the group
    pub IsLevelSoFar-used : (asked : ℕ → ℕ → List SliceEntry) (l new : LevelValue) (stand_in : Gid → Gid) (hit : Bool) → IsLevelSoFar asked (side_machine script.machines side) i (epoch_at script i) l
        → new.parameters ≡ l.parameters → AddsAccessIn i (tag_on tag side (stand_in tag.owner)) line hit l.histories new.histories
        → ((d : ℕ) → d ≡ domain_of (side_machine script.machines side) use_at.cpu
        → asked d i ≡ entry i (epoch_at script i) (Access false 0 (stand_in (owner_of (state_now script i) use_at.task)) 0 (mask_of_group (state_now script i) side d (owner_of (state_now script i) use_at.task)) line) ∷ [])
        → ((d : ℕ) → d ≢ domain_of (side_machine script.machines side) use_at.cpu → asked d i ≡ []) → IsLevelSoFar asked (side_machine script.machines side) (i + 1) (epoch_at script (i + 1)) new
    IsLevelSoFar-used asked l new stand_in hit so_far same adds here elsewhere =
        let machine : Parameters = side_machine script.machines side in
        let s : PairState = state_now script i in
        let user : Gid = owner_of s use_at.task in
        let given : Tag = tag_on (tag_now script i use_at.task use_at.cpu) side (stand_in user) in
        let at : given.domain ≡ domain_of machine use_at.cpu = domain-tag_now script i use_at.task use_at.cpu side (stand_in user) in
        let there : given.domain < machine.domains = omega (arith, at, domain_of-side script i use_at.lawful use_at.cpu side Fits-use.1) in
        let mask : mask_of_group s side given.domain user ≡ given.mask = ap (λ (d : ℕ). mask_of_group s side d user) at ∙ sym (mask-tag_now script i use_at.task use_at.cpu side (stand_in user)) in
        subst (λ (n : ℕ). IsLevelSoFar asked machine (i + 1) n new) epoch_at-next
        (IsLevelSoFar-access asked machine i (epoch_at script i) l so_far new given line hit same
        (subst (λ (t : PairTag). AddsAccessIn i (tag_on t side (stand_in t.owner)) line hit l.histories new.histories) use_at.tag_is adds) there (omega arith)
        (here given.domain at ∙ ap (λ (m : ℕ). entry i (epoch_at script i) (Access false 0 (stand_in user) 0 m line) ∷ []) mask) (λ d lt other. elsewhere d (λ e. other (e ∙ sym at))))

-- ---- both

module _ (script : PairScriptValue) (short : IsShort script) (i : ℕ) (c : CommandsValue) (so_far : AreCommandsSoFar script i c) where
  -- the use that is next, with the tag that the groups give it
  pub IsUseAt-resolved : (tag : PairTag) (task cpu line : ℕ) (code : Bool) → IsLawful script → op_at script i ≡ Some (ops.Use task cpu line code) → tag ≡ tag_in c task cpu → IsUseAt script i tag line code
  IsUseAt-resolved tag task cpu line code lawful is resolved = record {
    lawful = lawful;
    short = short;
    task = task;
    cpu = cpu;
    use_is = is;
    tag_is = resolved ∙ tag_in-tag_now script i c so_far task cpu;
  }

  -- the flush that is next, where the epoch after it is this
  pub IsFlushAt-taken : (epoch : ℕ) → op_at script i ≡ Some ops.Flush → epoch ≡ c.tree.epoch + 1 → IsFlushAt script i epoch
  IsFlushAt-taken epoch is after = record { short = short; flush_is = is; epoch_is = omega (arith, after, so_far.epoch) }

  module _ {S : Type 0} (after : PairScriptValue → ℕ → S → Type 0) (all : S) (op : PairOp) (is : op_at script i ≡ Some op) where
    -- a command
    pub IsPlayedSoFar-command : (new : CommandsValue) → is_command op ≡ true → new ≡ taken c op → after script (i + 1) all → IsPlayedSoFar after script (i + 1) new all
    IsPlayedSoFar-command new command takes caches = record {
      commands = subst (AreCommandsSoFar script (i + 1)) (sym takes) (AreCommandsSoFar-command script i c so_far op is command);
      caches = caches;
    }
