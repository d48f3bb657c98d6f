-- The lines of commands, one command after the other.
use Rattle.std.proofs.Common.{◌≡◌, ℕ, suc, ◌+◌, true, false, List, [], ◌∷◌, ◌++◌, length, None, Some, sym, ap, ◌∙◌, append_assoc, arith}
use Rattle.std.proofs.lemmas.List.{append-nil}
use Rattle.std.specs.List.{slice_get}
use Rattle.pair_law.specs.Epochs.{state_after, state_at}
use Rattle.pair_law.specs.State.{PairState, opening}
use Rattle.pair_law.specs.Steps.{next}
use Rattle.pair_text.specs.Values.{Machines, PairScriptValue, epoch_at, is_command, op_at}
use Rattle.pair_text.specs.declared.op.PairOp.{PairOp}
use Rattle.pair_report.specs.LinesBefore.{commands_before, lines_before}
use Rattle.pair_report.specs.PairCommands.{command_line, command_lines}
use Rattle.pair_law.proofs.laws.Playing.{filter-take_command, filter-take_use, state_at-epoch}
use Rattle.rc_base.specs.declared.replies.Reply.{Reply}

-- one command more
command_lines-push : (m : Machines) (s : PairState) (k : ℕ) (ops : List PairOp) (op : PairOp) (replies : List Reply) (reply : Reply) → slice_get replies (length ops) ≡ Some reply
    → command_lines m s k (ops ++ op ∷ []) replies ≡ command_lines m s k ops replies ++ command_line m (state_after m s ops) (k + length ops) op reply
command_lines-push m s k [] op [] reply at = absurd (let none : None ≡ Some reply = at in cc)
command_lines-push m s k [] op (r ∷ rs) reply at =
    let same : r ≡ reply = (let some : Some r ≡ Some reply = at in cc) in
    let zeroth : k ≡ k + 0 = omega arith in
    append-nil (command_line m s k op r) ∙ (ap (λ x. command_line m s k op x) same ∙ ap (λ n. command_line m s n op reply) zeroth)
command_lines-push m s k (o ∷ ops) op [] reply at = absurd (let none : None ≡ Some reply = at in cc)
command_lines-push m s k (o ∷ ops) op (r ∷ rs) reply at =
    let next_k : k + 1 + length ops ≡ k + suc (length ops) = omega arith in
    let here : List ℕ = command_line m s k o r in
    let rest = command_lines-push m (next m s o).state (k + 1) ops op rs reply at in
    ap (λ (l : List ℕ). here ++ l) rest
    ∙ (sym (append_assoc here (command_lines m (next m s o).state (k + 1) ops rs) (command_line m (state_after m (next m s o).state ops) (k + 1 + length ops) op reply))
    ∙ ap (λ n. (here ++ command_lines m (next m s o).state (k + 1) ops rs) ++ command_line m (state_after m (next m s o).state ops) n op reply) next_k)

module _ (script : PairScriptValue) (replies : List Reply) (i : ℕ) (op : PairOp) (at : op_at script i ≡ Some op) where
  -- the next op is a command
  pub lines_before-command : (reply : Reply) → is_command op ≡ true → slice_get replies (epoch_at script i) ≡ Some reply
      → lines_before script replies (i + 1) ≡ lines_before script replies i ++ command_line script.machines (state_at script (epoch_at script i)) (epoch_at script i) op reply
  lines_before-command reply command told =
      let m = script.machines in
      let s = opening m script.tasks in
      let before : List PairOp = commands_before script i in
      let zeroth : 0 + length before ≡ epoch_at script i = omega arith in
      ap (λ (l : List PairOp). command_lines m s 0 l replies) (filter-take_command script i op at command)
      ∙ (command_lines-push m s 0 before op replies reply told
      ∙ (ap (λ x. lines_before script replies i ++ command_line m x (0 + length before) op reply) (sym (state_at-epoch script i))
      ∙ ap (λ n. lines_before script replies i ++ command_line m (state_at script (epoch_at script i)) n op reply) zeroth))

  -- it is a use
  pub lines_before-use : is_command op ≡ false → lines_before script replies (i + 1) ≡ lines_before script replies i
  lines_before-use use_of = ap (λ (l : List PairOp). command_lines script.machines (opening script.machines script.tasks) 0 l replies) (filter-take_use script i op at use_of)

-- ---- as they are added

module _ (script : PairScriptValue) (replies : List Reply) (i : ℕ) (op : PairOp) (at : op_at script i ≡ Some op) (before old new : List ℕ) (so_far : old ≡ before ++ lines_before script replies i) where
  -- a text with the line of the next command
  pub lines-command : (k : ℕ) (reply : Reply) → k ≡ epoch_at script i → is_command op ≡ true → slice_get replies k ≡ Some reply
      → new ≡ old ++ command_line script.machines (state_at script (epoch_at script i)) k op reply → new ≡ before ++ lines_before script replies (i + 1)
  lines-command k reply epoch command told line =
      let there : slice_get replies (epoch_at script i) ≡ Some reply = ap (slice_get replies) (sym epoch) ∙ told in
      let here : List ℕ = command_line script.machines (state_at script (epoch_at script i)) (epoch_at script i) op reply in
      line
      ∙ (ap (λ n. old ++ command_line script.machines (state_at script (epoch_at script i)) n op reply) epoch
      ∙ (ap (λ (l : List ℕ). l ++ here) so_far
      ∙ (append_assoc before (lines_before script replies i) here ∙ ap (λ (l : List ℕ). before ++ l) (sym (lines_before-command script replies i op at reply command there)))))

  -- and without one, for a use
  pub lines-use : is_command op ≡ false → old ≡ before ++ lines_before script replies (i + 1)
  lines-use use_of = so_far ∙ ap (λ (l : List ℕ). before ++ l) (sym (lines_before-use script replies i op at use_of))
