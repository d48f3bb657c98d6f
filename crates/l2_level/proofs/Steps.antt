-- One op more of a script on two levels.
use Rattle.std.proofs.Common.{◌≡◌, ◌≢◌, ℕ, ◌+◌, ◌<◌, ◌==◌, Bool, true, false, not, ◌&&◌, List, [], ◌∷◌, ◌++◌, length, refl, sym, ap, ◌∙◌, arith}
use Rattle.std.proofs.lemmas.Bool.{eq-eqb, ne_eqb}
use Rattle.std.proofs.lemmas.List.{get_or-set_same}
use Rattle.cache_core.specs.declared.entry.SliceEntry.{SliceEntry}
use Rattle.cache_core.specs.declared.entry.What.TheVariants.{Access}
use Rattle.l2_level.proofs.Earlier.{KeepsEarlier, KeepsEarlier-access, KeepsEarlier-flush, asked_at-earlier, has_at-last}
use Rattle.l2_level.specs.SoFar.{IsLevelsSoFar, journals_of, level_tag}
use Rattle.pair_law.specs.Registers.{mask_of_group}
use Rattle.pair_text.specs.Values.{PairScriptValue, epoch_at, side_machine}
use Rattle.pair_text.specs.declared.side.Side.{Side}
use Rattle.pair_text.specs.declared.side.Side.TheVariants.{First, Second}
use Rattle.pair_play.proofs.laws.LevelsSoFar.{IsLevelSoFar-same}
use Rattle.pair_play.proofs.laws.NextOps.{CanAccess-use, CanFlush-next, IsLevelSoFar-flushed, IsLevelSoFar-unasked, IsLevelSoFar-used, domain-exists, domain-use}
use Rattle.pair_play.specs.Histories.{AddsAccessIn, CanAccess, CanFlush, LevelValue, access_entry, all_with_flush}
use Rattle.pair_play.specs.Playing.{IsFlushAt, IsUseAt}
use Rattle.pair_play.specs.SideTags.{state_now}
use Rattle.pair_play.specs.SoFar.{IsLevelSoFar}
use Rattle.pair_law.specs.Entries.{entry, slice_in}
use Rattle.pair_law.specs.LevelRuns.{LevelJournalsValue, asked_at, asked_of_op, domain_on, has_at, is_miss, reaches, user_at}
use Rattle.pair_tree.specs.declared.tag.PairTag.{PairTag}
use Rattle.rc_base.specs.declared.names.Gid.{Gid}

and-false : (b : Bool) → (b && false) ≡ false
and-false true = refl
and-false false = refl

module _ (script : PairScriptValue) (i : ℕ) (first second : LevelValue) (so_far : IsLevelsSoFar script i first second) where
  -- the journals before the op
  abbrev before : LevelJournalsValue
  before = journals_of first second

  -- what the levels were asked so far, by later journals
  l2_by : (j : LevelJournalsValue) → KeepsEarlier i first.histories j.l2 → IsLevelSoFar (asked_at script j First) (side_machine script.machines First) i (epoch_at script i) first
  l2_by j keeps = IsLevelSoFar-same (asked_at script before First) (asked_at script j First) (side_machine script.machines First) i (epoch_at script i) first so_far.l2 (λ d k lt below. asked_at-earlier script i before j keeps First d k below)

  l3_by : (j : LevelJournalsValue) → KeepsEarlier i first.histories j.l2 → IsLevelSoFar (asked_at script j Second) (side_machine script.machines Second) i (epoch_at script i) second
  l3_by j keeps = IsLevelSoFar-same (asked_at script before Second) (asked_at script j Second) (side_machine script.machines Second) i (epoch_at script i) second so_far.l3 (λ d k lt below. asked_at-earlier script i before j keeps Second d k below)

  module _ (epoch : ℕ) (flush_at : IsFlushAt script i epoch) where
    -- what a flush needs of each level
    pub CanFlush-l2 : CanFlush first epoch
    CanFlush-l2 = CanFlush-next script i (asked_at script before First) (side_machine script.machines First) first so_far.l2 epoch flush_at

    pub CanFlush-l3 : CanFlush second epoch
    CanFlush-l3 = CanFlush-next script i (asked_at script before Second) (side_machine script.machines Second) second so_far.l3 epoch flush_at

    -- a flush
    pub IsLevelsSoFar-flush : (new_first new_second : LevelValue) → new_first.parameters ≡ first.parameters → new_first.histories ≡ all_with_flush i epoch first.histories
        → new_second.parameters ≡ second.parameters → new_second.histories ≡ all_with_flush i epoch second.histories → IsLevelsSoFar script (i + 1) new_first new_second
    IsLevelsSoFar-flush new_first new_second same_l2 l2 same_l3 l3 =
        let j : LevelJournalsValue = journals_of new_first new_second in
        let keeps : KeepsEarlier i first.histories new_first.histories = KeepsEarlier-flush i epoch first.histories new_first.histories l2 in
        record {
          l2 = IsLevelSoFar-flushed script i (asked_at script j First) (side_machine script.machines First) first (l2_by j keeps) epoch flush_at new_first same_l2 l2 (λ d. ap (asked_of_op script j First d i) flush_at.flush_is);
          l3 = IsLevelSoFar-flushed script i (asked_at script j Second) (side_machine script.machines Second) second (l3_by j keeps) epoch flush_at new_second same_l3 l3 (λ d. ap (asked_of_op script j Second d i) flush_at.flush_is);
        }

  module _ (tag : PairTag) (line : ℕ) (code : Bool) (use_at : IsUseAt script i tag line code) where
    -- what a use needs of each level
    pub CanAccess-l2 : CanAccess first (level_tag tag First)
    CanAccess-l2 = CanAccess-use script i tag line code use_at First (asked_at script before First) first tag.owner so_far.l2

    pub CanAccess-l3 : CanAccess second (level_tag tag Second)
    CanAccess-l3 = CanAccess-use script i tag line code use_at Second (asked_at script before Second) second tag.owner so_far.l3

    -- a level that is asked
    here : (j : LevelJournalsValue) (side : Side) → reaches script j side i use_at.cpu ≡ true → (d : ℕ) → d ≡ domain_on script side use_at.cpu
        → asked_at script j side d i ≡ entry i (epoch_at script i) (Access false 0 (user_at script i use_at.task) 0 (mask_of_group (state_now script i) side d (user_at script i use_at.task)) line) ∷ []
    here j side asks d at =
        let test : (domain_on script side use_at.cpu == d) ≡ true = eq-eqb (domain_on script side use_at.cpu) d (sym at) in
        ap (asked_of_op script j side d i) use_at.use_is ∙ rw (test, asks) refl

    elsewhere : (j : LevelJournalsValue) (side : Side) (d : ℕ) → d ≢ domain_on script side use_at.cpu → asked_at script j side d i ≡ []
    elsewhere j side d other =
        let test : (domain_on script side use_at.cpu == d) ≡ false = ne_eqb (domain_on script side use_at.cpu) d (λ e. other (sym e)) in
        ap (asked_of_op script j side d i) use_at.use_is ∙ rw test refl

    -- a level that is not
    nowhere : (j : LevelJournalsValue) (side : Side) (d : ℕ) → reaches script j side i use_at.cpu ≡ false → asked_at script j side d i ≡ []
    nowhere j side d asks =
        let test : ((domain_on script side use_at.cpu == d) && reaches script j side i use_at.cpu) ≡ false =
        ap (λ (b : Bool). (domain_on script side use_at.cpu == d) && b) asks ∙ and-false (domain_on script side use_at.cpu == d) in
        ap (asked_of_op script j side d i) use_at.use_is ∙ rw test refl

    -- the access of a level that is asked
    used : (j : LevelJournalsValue) (side : Side) (l new : LevelValue) (hit : Bool) → reaches script j side i use_at.cpu ≡ true → IsLevelSoFar (asked_at script j side) (side_machine script.machines side) i (epoch_at script i) l
        → new.parameters ≡ l.parameters → AddsAccessIn i (level_tag tag side) line hit l.histories new.histories → IsLevelSoFar (asked_at script j side) (side_machine script.machines side) (i + 1) (epoch_at script (i + 1)) new
    used j side l new hit asks level same adds = IsLevelSoFar-used script i tag line code use_at side (asked_at script j side) l new (λ (gid : Gid). gid) hit level same adds (here j side asks) (elsewhere j side)

    module _ (new_first : LevelValue) (hit : Bool) (same : new_first.parameters ≡ first.parameters) (adds : AddsAccessIn i (level_tag tag First) line hit first.histories new_first.histories) where
      within : (level_tag tag First).domain < length first.histories
      within = omega (arith, domain-exists script i tag line code use_at First tag.owner, so_far.l2.one_each)

      -- earlier ops ask what they asked
      keeps : KeepsEarlier i first.histories new_first.histories
      keeps = KeepsEarlier-access i (level_tag tag First) line hit first.histories new_first.histories adds within

      -- the L3 is asked where the L2 missed
      missed : (l3 : LevelValue) → reaches script (journals_of new_first l3) Second i use_at.cpu ≡ not hit
      missed l3 =
          let d : ℕ = (level_tag tag First).domain in
          let e : SliceEntry = access_entry i (level_tag tag First) line hit adds.0 in
          let h : List SliceEntry = slice_in first.histories d in
          let now : slice_in new_first.histories d ≡ h ++ e ∷ [] = ap (λ (hs : List (List SliceEntry)). slice_in hs d) adds.1 ∙ get_or-set_same first.histories d (h ++ e ∷ []) [] within in
          ap (λ (k : ℕ). has_at (slice_in new_first.histories k) i is_miss) (sym (domain-use script i tag line code use_at First tag.owner))
          ∙ (ap (λ (l : List SliceEntry). has_at l i is_miss) now ∙ has_at-last h e i (so_far.l2.each d (domain-exists script i tag line code use_at First tag.owner)).ops refl)

      -- a use that hits in the L2
      pub IsLevelsSoFar-hit : hit ≡ true → IsLevelsSoFar script (i + 1) new_first second
      IsLevelsSoFar-hit hits =
          let j : LevelJournalsValue = journals_of new_first second in
          record {
            l2 = used j First first new_first hit refl (l2_by j keeps) same adds;
            l3 = IsLevelSoFar-unasked script i tag line code use_at (asked_at script j Second) (side_machine script.machines Second) second (l3_by j keeps) (λ d. nowhere j Second d (missed second ∙ ap not hits));
          }

      -- a use that misses there
      pub IsLevelsSoFar-miss : hit ≡ false → (new_second : LevelValue) (far_hit : Bool) → new_second.parameters ≡ second.parameters → AddsAccessIn i (level_tag tag Second) line far_hit second.histories new_second.histories
          → IsLevelsSoFar script (i + 1) new_first new_second
      IsLevelsSoFar-miss misses new_second far_hit far_same far_adds =
          let j : LevelJournalsValue = journals_of new_first new_second in
          record {
            l2 = used j First first new_first hit refl (l2_by j keeps) same adds;
            l3 = used j Second second new_second far_hit (missed new_second ∙ ap not misses) (l3_by j keeps) far_same far_adds;
          }
