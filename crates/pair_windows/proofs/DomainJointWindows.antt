-- The windows that are listed in a domain are those in which their groups use lines.
use Rattle.std.proofs.Common.{◌≡◌, ℕ, ◌+◌, ◌<◌, true, List, [], length, map, Option, Some, None, inl, inr, refl, sym, ◌∙◌, arith}
use Rattle.std.specs.List.{All, AllPairs, range_with_len}
use Rattle.std.proofs.lemmas.Bool.{ltb-true}
use Rattle.std.proofs.lemmas.List.Elements.{All-map, All-nil, All-weaker}
use Rattle.std.proofs.lemmas.List.Kept.{AllPairs-filter}
use Rattle.pair_windows.proofs.HeldLevels.{HasLevels-exclusive, HasOwn}
use Rattle.pair_windows.proofs.JointListedWindows.{IsJointWindow-listed}
use Rattle.pair_windows.specs.AllJointWindows.{IsUsedJointWindow, PrecedesOnLevels}
use Rattle.pair_windows.specs.JointCounted.{is_used}
use Rattle.pair_windows.specs.LevelSpans.{exclusive_in, is_exclusive}
use Rattle.pair_windows.specs.JointWindows.{last_epoch, window_end, window_from, windows_at, windows_from, windows_in}
use Rattle.pair_windows.specs.declared.joint_window.JointWindow.{JointWindow}
use Rattle.lists.proofs.Pairs.{All-flat_map, AllPairs-map}
use Rattle.lists.proofs.Tests.{All-kept}
use Rattle.pair_law.specs.Epochs.{state_at}
use Rattle.pair_law.specs.State.{PairState, mask_in}
use Rattle.pair_text.specs.Values.{PairScriptValue, epoch_at, op_at}
use Rattle.pair_text.specs.declared.group.PairGroup.{PairGroup}
use Rattle.pair_text.specs.declared.op.PairOp.{PairOp}
use Rattle.pair_text.specs.declared.op.PairOp.TheVariants as ops
use Rattle.pair_text.specs.declared.side.Side.TheVariants.{First, Second}
use Rattle.pair_law.proofs.laws.Playing.{epoch_at-command}
use Rattle.pair_law.specs.LevelRuns.{LevelJournalsValue}
use Rattle.pair_windows.proofs.laws.Listings.{All-numbers, AllPairs-numbers}
use Rattle.pair_windows.proofs.laws.RisingEpochs.{epoch_at-rises}
use Rattle.pair_windows.proofs.laws.RisingGroups.{RiseByGid-state_at}

module _ (script : PairScriptValue) (j : LevelJournalsValue) where
  module _ (domain : ℕ) where
    -- those of a flush, or none
    at-either : (Q : List JointWindow → Type 0) → Q [] → (from : ℕ) → (op_at script from ≡ Some ops.Flush → Q (windows_from script domain j from)) → Q (windows_at script domain j from (op_at script from))
    at-either Q none from some = of (op_at script from) refl
      where
        of : (o : Option PairOp) → op_at script from ≡ o → Q (windows_at script domain j from o)
        of (Some ops.Flush) is = some is
        of (Some (ops.Use task cpu line code)) is = none
        of (Some (ops.Mkdir name)) is = none
        of (Some (ops.Rmdir name)) is = none
        of (Some (ops.Write file text)) is = none
        of (Some (ops.Read file)) is = none
        of None is = none

    -- where a window stands: in this domain, and after this flush of the script
    abbrev StandsAfter : ℕ → JointWindow → Type 0
    StandsAfter from w = (w.domain ≡ domain) × (w.from ≡ epoch_at script from) × (op_at script from ≡ Some ops.Flush)

    module _ (from : ℕ) (opens : op_at script from ≡ Some ops.Flush) where
      -- the state in which the windows begin
      abbrev s : PairState
      s = state_at script (epoch_at script from + 1)

      -- the window of a group
      abbrev listed : PairGroup → JointWindow
      listed g = window_from script domain j from g

      -- in order
      ordered-from : AllPairs PrecedesOnLevels (windows_from script domain j from)
      ordered-from =
          AllPairs-filter PrecedesOnLevels is_used (map listed (exclusive_in s))
          (AllPairs-map PrecedesOnLevels listed (exclusive_in s)
          (λ i k d lt within. inr (refl, inr (refl, AllPairs-filter (λ (a b : PairGroup). a.gid.0 < b.gid.0) is_exclusive s.groups (RiseByGid-state_at script (epoch_at script from + 1)).rising i k d lt within))))

      -- with their place
      place-from : All (StandsAfter from) (windows_from script domain j from)
      place-from =
          All-kept (StandsAfter from) is_used (map listed (exclusive_in s))
          (λ k d within is. All-map (StandsAfter from) listed (exclusive_in s) (λ i e lt. (refl, refl, opens)) k d within)

      module _ (exists : domain < script.machines.machine.domains) where
        pub IsUsed-listed : (g : PairGroup) → HasOwn script.machines domain g s → is_used (listed g) ≡ true → IsUsedJointWindow script j (listed g)
        IsUsed-listed g has used =
            let last : ℕ = last_epoch script domain (epoch_at script from + 1) g in
            record {
              from = from;
              to = window_end script domain from last;
              mask = mask_in Second domain g;
              masks = λ x. mask_in First x g;
              last = last;
              begins = refl;
              is = IsJointWindow-listed script domain from exists opens g has;
              counts = record {
                uses_is = refl;
                covered_is = refl;
                l2_hits_is = refl;
                l2_private_is = refl;
                l3_accesses_is = refl;
                l3_hits_is = refl;
                l3_private_is = refl;
              };
              used = ltb-true 0 (listed g).uses used;
            }

        -- each that is listed is one
        each-from : All (IsUsedJointWindow script j) (windows_from script domain j from)
        each-from =
            let all : All (λ (w : JointWindow). is_used w ≡ true → IsUsedJointWindow script j w) (map listed (exclusive_in s)) =
            All-map (λ (w : JointWindow). is_used w ≡ true → IsUsedJointWindow script j w) listed (exclusive_in s)
            (All-weaker (λ (g : PairGroup). HasOwn script.machines domain g s) (λ (g : PairGroup). is_used (listed g) ≡ true → IsUsedJointWindow script j (listed g)) (λ g has. IsUsed-listed g has) (exclusive_in s)
            (HasLevels-exclusive script.machines domain script (epoch_at script from + 1))) in
            All-kept (IsUsedJointWindow script j) is_used (map listed (exclusive_in s)) (λ k d within is. all k d within is)

    -- the windows that begin at an op
    abbrev f : ℕ → List JointWindow
    f from = windows_at script domain j from (op_at script from)

    place-at : (from : ℕ) → All (StandsAfter from) (f from)
    place-at from = at-either (All (StandsAfter from)) (All-nil (StandsAfter from)) from (λ opens. place-from from opens)

    pub ordered-in : AllPairs PrecedesOnLevels (windows_in script domain j)
    ordered-in = AllPairs-numbers f (length script.ops) PrecedesOnLevels StandsAfter
        (λ from lt. place-at from)
        (λ from lt. at-either (AllPairs PrecedesOnLevels) (λ i k d less within. absurd (omega (arith, within))) from (λ opens. ordered-from from opens))
        (λ i k x y lt one two.
        let next = epoch_at-command script i ops.Flush one.2 refl in
        let rise = epoch_at-rises script (i + 1) k (omega (arith, lt)) in
        let a = one.1 in
        let b = two.1 in
        inr (one.0 ∙ sym two.0, inl (omega (arith, next, rise, a, b))))

    pub domain-in : All (λ (w : JointWindow). w.domain ≡ domain) (windows_in script domain j)
    domain-in = All-flat_map (λ (w : JointWindow). w.domain ≡ domain) f (range_with_len 0 (length script.ops))
        (All-numbers (length script.ops) (λ from. All (λ (w : JointWindow). w.domain ≡ domain) (f from)) (λ from lt k d within. (place-at from k d within).0))

    pub each-in : domain < script.machines.machine.domains → All (IsUsedJointWindow script j) (windows_in script domain j)
    each-in exists = All-flat_map (IsUsedJointWindow script j) f (range_with_len 0 (length script.ops))
        (All-numbers (length script.ops) (λ from. All (IsUsedJointWindow script j) (f from))
        (λ from lt. at-either (All (IsUsedJointWindow script j)) (All-nil (IsUsedJointWindow script j)) from (λ opens. each-from from opens exists)))
