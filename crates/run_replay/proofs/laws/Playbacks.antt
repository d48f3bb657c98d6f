-- The commands of a run by their positions, while a tree is taken through them.
use Rattle.std.proofs.Common.{◌≡◌, ℕ, ◌+◌, ◌<◌, List, length, map, take, get_or, Some, sym, ap, ◌∙◌, subst, arith}
use Rattle.std.proofs.lemmas.List.{length-map, take-map}
use Rattle.std.proofs.lemmas.Option.{slice_get-get_or}
use Rattle.std.proofs.Math.ListN.{get_or-map}
use Rattle.run_replay.specs.Playbacks.{HasTakenBefore, state_before}
use Rattle.run_law.specs.Entries.{entry_value}
use Rattle.run_law.specs.Journals.{At}
use Rattle.run_law.specs.TreeHistory.{TreeEntryValue, tree_from}
use Rattle.run_law.specs.declared.journals.TreeEntry.{TreeEntry}
use Rattle.script_ops.specs.Values.{ScriptValue}
use Rattle.tree_core.specs.Values.{TreeValue}
use Rattle.tree_law.specs.State.{opening}

-- the commands of a list of entries
module _ (es : List TreeEntry) (tree : List TreeEntryValue) (is : map entry_value es ≡ tree) where
  -- the history is as long as the list
  pub length-entries : length es ≡ length tree
  length-entries = omega (arith, ap (λ (t : List TreeEntryValue). length t) is, length-map es entry_value)

  -- the first commands are those of the first entries
  pub entries-taken : (n : ℕ) → map entry_value (take n es) ≡ take n tree
  entries-taken n = sym (take-map entry_value n es) ∙ ap (take n) is

  -- the state before a command is that after the entries before it
  pub state_before-entries : (script : ScriptValue) (k : ℕ) → state_before script tree k ≡ tree_from script (opening script.machine script.tasks) (map entry_value (take k es))
  state_before-entries script k = ap (tree_from script (opening script.machine script.tasks)) (sym (entries-taken k))

  -- the entry at a position of the list is that of the history
  pub At-entries : (k : ℕ) (e : TreeEntry) → k < length es → e ≡ get_or es k e → At tree k (entry_value e)
  At-entries k e within at =
      let len = length-map es entry_value in
      subst (λ (t : List TreeEntryValue). At t k (entry_value e)) is
      (slice_get-get_or (map entry_value es) k (entry_value e) (omega (arith, within, len)) ∙ ap (λ (x : TreeEntryValue). Some x) (get_or-map entry_value es k e ∙ ap entry_value (sym at)))

-- a tree before a command is also before the next
pub HasTakenBefore-suc : (script : ScriptValue) (tree : List TreeEntryValue) (k : ℕ) (t : TreeValue) → HasTakenBefore script tree k t → HasTakenBefore script tree (k + 1) t
HasTakenBefore-suc script tree k t taken = record { taken = taken.taken; before = let had = taken.before in omega (arith, had) }
