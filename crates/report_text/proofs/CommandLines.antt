-- The lines of commands, one after the other.
use Rattle.std.proofs.Common.{◌≡◌, ℕ, suc, ◌+◌, ◌<◌, List, [], ◌∷◌, ◌++◌, length, map, take, get_or, sym, ap, ◌∙◌, subst, arith}
use Rattle.std.proofs.lemmas.List.{append_assoc, append-nil, length-take, length-map}
use Rattle.report_pieces.specs.Results.{result_of, words_of}
use Rattle.report_text.specs.Commands.{command_line, command_lines, command_place, given_lines}
use Rattle.run_law.specs.Entries.{entry_value}
use Rattle.run_law.specs.Journals.{JournalsValue}
use Rattle.run_law.specs.TreeHistory.{TreeEntryValue, state_after, tree_from}
use Rattle.run_law.specs.declared.journals.TreeEntry.{TreeEntry}
use Rattle.run_replay.proofs.laws.Steps.{map-take_suc}
use Rattle.run_replay.specs.Playbacks.{given}
use Rattle.std.specs.Prelude.{codes}
use Rattle.script_ops.specs.Values.{ScriptValue, op_at}
use Rattle.tree_law.specs.State.{State}

-- one more command
command_lines-push : (script : ScriptValue) (j : JournalsValue) (s : State) (k : ℕ) (hs : List TreeEntryValue) (h : TreeEntryValue)
    → command_lines script j s k (hs ++ h ∷ []) ≡ command_lines script j s k hs ++ command_line script j (tree_from script s hs) (k + length hs) h
command_lines-push script j s k [] h = let e : k + 0 ≡ k = omega arith in rw e (append-nil (command_line script j s k h))
command_lines-push script j s k (x ∷ hs) h =
    let then : State = state_after script.machine s x.looks (op_at script x.thread x.op) in
    let e : (k + 1) + length hs ≡ k + suc (length hs) = omega arith in
    ap (λ rest. command_line script j s k x ++ rest) (command_lines-push script j then (k + 1) hs h ∙ ap (λ n. command_lines script j then (k + 1) hs ++ command_line script j (tree_from script then hs) n h) e)
    ∙ sym (append_assoc (command_line script j s k x) (command_lines script j then (k + 1) hs) (command_line script j (tree_from script then hs) (k + suc (length hs)) h))

-- the lines of one command more
pub command_lines-take_suc : (script : ScriptValue) (j : JournalsValue) (s : State) (es : List TreeEntry) (k : ℕ) (e : TreeEntry) (state : State) (old now then : List ℕ) → k < length es → e ≡ get_or es k e
    → state ≡ tree_from script s (map entry_value (take k es))
    → now ≡ old ++ command_lines script j s 0 (map entry_value (take k es)) → then ≡ now ++ command_line script j state k (entry_value e)
    → then ≡ old ++ command_lines script j s 0 (map entry_value (take (k + 1) es))
command_lines-take_suc script j s es k e state old now then within is at before last =
    let hs : List TreeEntryValue = map entry_value (take k es) in
    let here : State = tree_from script s hs in
    let more : then ≡ now ++ command_line script j here k (entry_value e) = subst (λ t. then ≡ now ++ command_line script j t k (entry_value e)) at last in
    let count : length hs ≡ k = length-map (take k es) entry_value ∙ omega (arith, length-take k es) in
    let z : 0 + length hs ≡ k = omega (arith, count) in
    more
    ∙ (ap (λ t. t ++ command_line script j here k (entry_value e)) before
    ∙ (append_assoc old (command_lines script j s 0 hs) (command_line script j here k (entry_value e))
    ∙ ap (λ t. old ++ t) (sym (ap (command_lines script j s 0) (map-take_suc es k e within is) ∙ (command_lines-push script j s 0 hs (entry_value e) ∙ ap (λ n. command_lines script j s 0 hs ++ command_line script j here n (entry_value e)) z)))))

-- the line of a command by its parts
pub command_line-parts : (script : ScriptValue) (j : JournalsValue) (s : State) (k : ℕ) (h : TreeEntryValue) (old placed worded parted told ended new : List ℕ)
    → placed ≡ old ++ command_place k h
    → worded ≡ placed ++ words_of script h
    → parted ≡ worded ++ codes ": "
    → told ≡ parted ++ result_of script j h
    → ended ≡ told ++ codes "\n"
    → new ≡ ended ++ given_lines (given script s h)
    → new ≡ old ++ command_line script j s k h
unfolding command_line
command_line-parts script j s k h old placed worded parted told ended new place words colon result newline lines =
    let words_too = words ∙ ap (λ t. t ++ words_of script h) place in
    let colon_too = colon ∙ ap (λ t. t ++ codes ": ") words_too in
    let result_too = result ∙ ap (λ t. t ++ result_of script j h) colon_too in
    let newline_too = newline ∙ ap (λ t. t ++ codes "\n") result_too in
    lines ∙ (ap (λ t. t ++ given_lines (given script s h)) newline_too ∙ in_order old (command_place k h) (words_of script h) (codes ": ") (result_of script j h) (codes "\n") (given_lines (given script s h)))
  where
    in_order : (a b c d e f g : List ℕ) → (((((a ++ b) ++ c) ++ d) ++ e) ++ f) ++ g ≡ a ++ (b ++ c ++ d ++ e ++ f ++ g)
    in_order a b c d e f g = simp append_assoc
