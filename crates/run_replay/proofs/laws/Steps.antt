-- One command more.
use Rattle.std.proofs.Common.{◌≡◌, ℕ, ◌+◌, ◌<◌, List, [], ◌∷◌, ◌++◌, length, map, take, get_or, sym, ap, ◌∙◌}
use Rattle.std.proofs.lemmas.Option.{same_Some, slice_get-get_or, slice_get_within}
use Rattle.std.proofs.lemmas.List.{append_assoc, append-nil, map-append, take_more}
use Rattle.run_law.specs.Entries.{entry_value}
use Rattle.run_law.specs.Journals.{At}
use Rattle.run_replay.specs.Playbacks.{state_before}
use Rattle.run_replay.specs.Made.{made_by, made_from}
use Rattle.run_replay.specs.declared.made_group.MadeGroup.{MadeGroup}
use Rattle.run_law.proofs.laws.TreeHistory.{tree_from-push}
use Rattle.run_law.specs.TreeHistory.{TreeEntryValue, state_after, tree_from}
use Rattle.run_law.specs.declared.journals.TreeEntry.{TreeEntry}
use Rattle.script_ops.specs.Values.{ScriptValue, op_at}
use Rattle.tree_law.specs.State.{State, opening}

-- the entries up to one, and that one
pub map-take_suc : (es : List TreeEntry) (k : ℕ) (e : TreeEntry) → k < length es → e ≡ get_or es k e → map entry_value (take (k + 1) es) ≡ map entry_value (take k es) ++ entry_value e ∷ []
map-take_suc es k e within is =
    ap (map entry_value) (take_more es k e within) ∙ (map-append entry_value (take k es) (get_or es k e ∷ []) ∙ ap (λ x. map entry_value (take k es) ++ entry_value x ∷ []) (sym is))

-- the state before the next command
pub state_before-suc : (script : ScriptValue) (tree : List TreeEntryValue) (k : ℕ) (h : TreeEntryValue) → At tree k h
    → state_before script tree (k + 1) ≡ state_after script.machine (state_before script tree k) h.looks (op_at script h.thread h.op)
state_before-suc script tree k h there =
    let start : State = opening script.machine script.tasks in
    let within = slice_get_within tree k h there in
    let own : get_or tree k h ≡ h = same_Some (get_or tree k h) h (sym (slice_get-get_or tree k h within) ∙ there) in
    ap (tree_from script start) (take_more tree k h within ∙ ap (λ (x : TreeEntryValue). take k tree ++ x ∷ []) own) ∙ tree_from-push script start (take k tree) h

-- ---- groups that were made

-- one more command
pub made_from-push : (script : ScriptValue) (s : State) (hs : List TreeEntryValue) (h : TreeEntryValue)
    → made_from script s (hs ++ h ∷ []) ≡ made_from script s hs ++ made_by (tree_from script s hs) (op_at script h.thread h.op) h.reply
made_from-push script s [] h = append-nil (made_by s (op_at script h.thread h.op) h.reply)
made_from-push script s (x ∷ hs) h =
    let then : State = state_after script.machine s x.looks (op_at script x.thread x.op) in
    let own : List MadeGroup = made_by s (op_at script x.thread x.op) x.reply in
    ap (λ rest. own ++ rest) (made_from-push script then hs h)
    ∙ sym (append_assoc own (made_from script then hs) (made_by (tree_from script then hs) (op_at script h.thread h.op) h.reply))
