-- The next op of a script, taken.
use Rattle.std.proofs.Common.{◌≡◌, ℕ, ◌+◌, true, false, Some, sym, ap, ◌∙◌}
use Rattle.pair_law.specs.Epochs.{state_at}
use Rattle.pair_law.specs.Steps.{next}
use Rattle.pair_text.specs.Values.{PairScriptValue, epoch_at, is_command, op_at}
use Rattle.pair_text.specs.declared.op.PairOp.{PairOp}
use Rattle.pair_windows.specs.Replays.{HasTaken}
use Rattle.pair_law.proofs.laws.Playing.{epoch_at-command, epoch_at-use, state_at-command}
use Rattle.pair_tree.specs.Values.{PairTreeValue}

module _ (script : PairScriptValue) (i : ℕ) (op : PairOp) (at : op_at script i ≡ Some op) where
  -- a command
  pub HasTaken-command : (t new : PairTreeValue) → HasTaken script (record { tree = t; place = i }) → is_command op ≡ true
      → new ≡ record t { state = (next t.machines t.state op).state; epoch = t.epoch + 1 } → HasTaken script (record { tree = new; place = i + 1 })
  HasTaken-command t new taken command is =
      let epoch : new.epoch ≡ epoch_at script (i + 1) = ap (λ (x : PairTreeValue). x.epoch) is ∙ (ap (λ n. n + 1) taken.epoch ∙ sym (epoch_at-command script i op at command)) in
      record {
        machines = ap (λ (x : PairTreeValue). x.machines) is ∙ taken.machines;
        state =
            ap (λ (x : PairTreeValue). x.state) is ∙ (ap (λ m. (next m t.state op).state) taken.machines ∙ (ap (λ s. (next script.machines s op).state) (taken.state ∙ ap (state_at script) taken.epoch)
            ∙ (sym (state_at-command script i op at command) ∙ ap (state_at script) (sym epoch))));
        epoch = epoch;
      }

  -- a use
  pub HasTaken-use : (t : PairTreeValue) → HasTaken script (record { tree = t; place = i }) → is_command op ≡ false → HasTaken script (record { tree = t; place = i + 1 })
  HasTaken-use t taken use_of = record { machines = taken.machines; state = taken.state; epoch = taken.epoch ∙ sym (epoch_at-use script i op at use_of) }
