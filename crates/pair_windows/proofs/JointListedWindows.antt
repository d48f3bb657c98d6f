-- The windows that are listed are windows of the run.
use Rattle.std.proofs.Common.{◌≡◌, ℕ, ◌+◌, ◌-◌, ◌<◌, ◌≤◌, true, false, List, length, get_or, Some, inl, inr, refl, sym, ap, ◌∙◌, arith}
use Rattle.std.specs.Prelude.{nat_lt}
use Rattle.std.specs.List.{position_or_len, range_with_len}
use Rattle.std.proofs.lemmas.Bool.{cases_Bool, ltb-false, ltb-true, or_parts}
use Rattle.std.proofs.lemmas.List.FromFn.{get_or-range_with_len, length-range_with_len}
use Rattle.std.proofs.lemmas.List.Sums.{fails_before_first, passes_at_first}
use Rattle.std.proofs.lemmas.Option.{slice_get_within}
use Rattle.pair_windows.proofs.HeldLevels.{HasLevels-keeps, HasOwn, keeps_masks-has}
use Rattle.pair_windows.specs.JointWindows.{ends_window, keeps_at, last_epoch, window_end}
use Rattle.pair_law.specs.Epochs.{state_at}
use Rattle.pair_law.specs.State.{mask_in}
use Rattle.pair_text.specs.Values.{PairScriptValue, commands_of, epoch_at, op_at}
use Rattle.pair_text.specs.declared.group.PairGroup.{PairGroup}
use Rattle.pair_text.specs.declared.op.PairOp.TheVariants as ops
use Rattle.pair_text.specs.declared.side.Side.TheVariants.{First, Second}
use Rattle.pair_law.proofs.laws.Commands.{epoch_at-lt}
use Rattle.pair_law.specs.JointWindows.{IsJointWindow, StaysJoint, is_flush}
use Rattle.private_lru.proofs.laws.FirstPlaces.{position_or_len-le}
use Rattle.private_lru.proofs.laws.LastEpochs.{IsSpan-as, IsSpan-last_within}

-- ---- how long

-- it keeps its masks up to the last epoch
StaysJoint-last : (script : PairScriptValue) (domain first : ℕ) (g : PairGroup) → first ≤ length (commands_of script) → HasOwn script.machines domain g (state_at script first)
    → StaysJoint script domain g.gid (mask_in Second domain g) (λ x. mask_in First x g) first (last_epoch script domain first g)
StaysJoint-last script domain first g known has =
    IsSpan-as (λ epoch. keeps_at script domain g epoch ≡ true) (λ epoch. HasOwn script.machines domain g (state_at script epoch)) first (length (commands_of script)) (last_epoch script domain first g)
    (λ epoch is. HasLevels-keeps script.machines domain g (state_at script epoch) is) (λ epoch own. keeps_masks-has script.machines domain g (state_at script epoch) own)
    (IsSpan-last_within (keeps_at script domain g) first (length (commands_of script)) known (keeps_masks-has script.machines domain g (state_at script first) has))

-- ---- windows

module _ (script : PairScriptValue) (domain from : ℕ) (exists : domain < script.machines.machine.domains) (opens : op_at script from ≡ Some ops.Flush) (g : PairGroup)
    (has : HasOwn script.machines domain g (state_at script (epoch_at script from + 1))) where
  abbrev last : ℕ
  last = last_epoch script domain (epoch_at script from + 1) g

  -- the ops after the flush
  abbrev rest : List ℕ
  rest = range_with_len (from + 1) (length script.ops - (from + 1))

  abbrev ended : ℕ
  ended = position_or_len (ends_window script domain last) rest

  pub IsJointWindow-listed : IsJointWindow script domain from (window_end script domain from last) g.gid (mask_in Second domain g) (λ x. mask_in First x g) last
  IsJointWindow-listed =
      let inside : from < length script.ops = slice_get_within script.ops from ops.Flush opens in
      let le = position_or_len-le (ends_window script domain last) rest in
      let len : length rest ≡ length script.ops - (from + 1) = length-range_with_len (from + 1) (length script.ops - (from + 1)) in
      record {
        domain_exists = exists;
        opens = opens;
        joint = StaysJoint-last script domain (epoch_at script from + 1) g (epoch_at-lt script from ops.Flush opens refl) has;
        after_opening = omega arith;
        within = omega (arith, inside, le, len);
        goes_over = λ i late early.
            let at : get_or rest (i - (from + 1)) 0 ≡ from + 1 + (i - (from + 1)) = get_or-range_with_len (from + 1) (length script.ops - (from + 1)) (i - (from + 1)) 0 (omega (arith, late, early, le, len)) in
            let same : get_or rest (i - (from + 1)) 0 ≡ i = omega (arith, at, late) in
            let goes = fails_before_first (ends_window script domain last) rest (i - (from + 1)) 0 (omega (arith, late, early)) in
            let here : ends_window script domain last i ≡ false = ap (ends_window script domain last) (sym same) ∙ goes in
            let parts = or_parts (is_flush (op_at script i)) (nat_lt last (epoch_at script i)) here in
            (parts.0, ltb-false last (epoch_at script i) parts.1);
        ends = λ less.
            let at : get_or rest ended 0 ≡ from + 1 + ended = get_or-range_with_len (from + 1) (length script.ops - (from + 1)) ended 0 (omega (arith, less, len)) in
            let passes = passes_at_first (ends_window script domain last) rest 0 (omega (arith, less, len)) in
            let here : ends_window script domain last (from + 1 + ended) ≡ true = ap (ends_window script domain last) (sym at) ∙ passes in
            elim (cases_Bool (is_flush (op_at script (from + 1 + ended)))) [
              | inl flush ↦ inl flush
              | inr calm ↦ inr (ltb-true last (epoch_at script (from + 1 + ended)) (rw calm at here))
            ];
      }
