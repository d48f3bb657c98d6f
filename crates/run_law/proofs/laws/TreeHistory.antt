-- One more command in the tree's history.
use Rattle.std.proofs.Common.{◌≡◌, List, [], ◌∷◌, ◌++◌, Some, refl, ap, ◌∙◌}
use Rattle.run_law.specs.TreeHistory.{TreeEntryValue, state_after, tree_after, tree_from}
use Rattle.script_ops.specs.Values.{ScriptValue, op_at}
use Rattle.script_ops.specs.declared.op.Op.{Op}
use Rattle.tree_law.specs.State.{State, opening}
use Rattle.tree_law.specs.Steps.{next}

-- from a state on
pub tree_from-push : (script : ScriptValue) (s : State) (es : List TreeEntryValue) (e : TreeEntryValue) → tree_from script s (es ++ e ∷ []) ≡ state_after script.machine (tree_from script s es) e.looks (op_at script e.thread e.op)
tree_from-push script s [] e = refl
tree_from-push script s (x ∷ es) e = tree_from-push script (state_after script.machine s x.looks (op_at script x.thread x.op)) es e

-- from the opening state on, by a command of the script
pub tree_after-push : (script : ScriptValue) (es : List TreeEntryValue) (e : TreeEntryValue) (op : Op) → op_at script e.thread e.op ≡ Some op
    → tree_after script (es ++ e ∷ []) ≡ (next script.machine (tree_after script es) op e.looks).state
unfolding tree_after
tree_after-push script es e op is = tree_from-push script (opening script.machine script.tasks) es e ∙ ap (λ o. state_after script.machine (tree_from script (opening script.machine script.tasks) es) e.looks o) is
