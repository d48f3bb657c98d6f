-- One command more, or a use, among the commands so far.
use Rattle.std.proofs.Common.{◌≡◌, ℕ, ◌+◌, ◌<◌, ◌≤◌, true, false, List, [], ◌∷◌, ◌++◌, length, filter, take, Some, sym, ap, ap₂, ◌∙◌, arith}
use Rattle.std.proofs.lemmas.List.{take_all}
use Rattle.pair_law.specs.Epochs.{replies_to, state_at}
use Rattle.pair_law.specs.State.{PairState, opening}
use Rattle.pair_law.specs.Steps.{next}
use Rattle.pair_text.specs.Values.{Machines, PairScriptValue, commands_of, epoch_at, is_command, op_at}
use Rattle.pair_text.specs.declared.op.PairOp.{PairOp}
use Rattle.pair_play.specs.SoFar.{AreCommandsSoFar, CommandsValue, IsShort, taken}
use Rattle.pair_law.proofs.laws.Commands.{epoch_at-lt}
use Rattle.pair_law.proofs.laws.Playing.{epoch_at-command, epoch_at-use, filter-take_command, filter-take_use, replies_to-push, state_at-command, state_at-epoch}
use Rattle.pair_text.specs.declared.limits.TheConstants.{MOST_COMMANDS}
use Rattle.rc_base.specs.declared.replies.Reply.{Reply}

module _ (script : PairScriptValue) where
  -- the commands among the first ops
  abbrev first_commands : ℕ → List PairOp
  first_commands i = filter is_command (take i script.ops)

  -- their replies
  abbrev first_replies : List PairOp → List Reply
  first_replies commands = replies_to script.machines (opening script.machines script.tasks) commands

  module _ (i : ℕ) (c : CommandsValue) (so_far : AreCommandsSoFar script i c) where
    -- there is a command left to take
    pub epoch-AreCommandsSoFar : (op : PairOp) → IsShort script → op_at script i ≡ Some op → is_command op ≡ true → c.tree.epoch < MOST_COMMANDS
    epoch-AreCommandsSoFar op short is command = omega (arith, so_far.epoch, epoch_at-lt script i op is command, short.commands)

    -- a command
    pub AreCommandsSoFar-command : (op : PairOp) → op_at script i ≡ Some op → is_command op ≡ true → AreCommandsSoFar script (i + 1) (taken c op)
    AreCommandsSoFar-command op is command =
        let s = state_at script (epoch_at script i) in
        let same : next c.tree.machines c.tree.state op ≡ next script.machines s op = ap₂ (λ (m : Machines) (t : PairState). next m t op) so_far.machines so_far.state in
        record {
          machines = so_far.machines;
          state = ap (λ o. o.state) same ∙ sym (state_at-command script i op is command);
          epoch = ap (λ n. n + 1) so_far.epoch ∙ sym (epoch_at-command script i op is command);
          replies =
              ap₂ (λ (rs : List Reply) (r : Reply). rs ++ r ∷ []) so_far.replies (ap (λ o. o.reply) same ∙ ap (λ (t : PairState). (next script.machines t op).reply) (state_at-epoch script i))
              ∙ (sym (replies_to-push script.machines (opening script.machines script.tasks) (first_commands i) op)
              ∙ ap first_replies (sym (filter-take_command script i op is command)));
        }

    -- a use
    pub AreCommandsSoFar-use : (op : PairOp) → op_at script i ≡ Some op → is_command op ≡ false → AreCommandsSoFar script (i + 1) c
    AreCommandsSoFar-use op is use_of = record {
      machines = so_far.machines;
      state = so_far.state ∙ ap (state_at script) (sym (epoch_at-use script i op is use_of));
      epoch = so_far.epoch ∙ sym (epoch_at-use script i op is use_of);
      replies = so_far.replies ∙ ap first_replies (sym (filter-take_use script i op is use_of));
    }

    -- all of them
    pub replies-AreCommandsSoFar : length script.ops ≤ i → c.replies ≡ first_replies (commands_of script)
    replies-AreCommandsSoFar all = so_far.replies ∙ ap (λ (ops : List PairOp). first_replies (filter is_command ops)) (take_all i script.ops all)
