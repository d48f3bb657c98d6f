-- Lists of values, one value longer.
use Rattle.std.proofs.Common.{◌≡◌, ℕ, suc, ◌+◌, ◌<◌, List, [], ◌∷◌, ◌++◌, length, map, take, get_or, refl, sym, ap, ◌∙◌, arith}
use Rattle.std.proofs.lemmas.List.{length-map, length-take, map-append, take_more}
use Rattle.json_report.specs.Commands.{command_value, command_values}
use Rattle.run_law.specs.Entries.{entry_value}
use Rattle.run_law.specs.Journals.{JournalsValue}
use Rattle.run_law.specs.TreeHistory.{TreeEntryValue, state_after, tree_from}
use Rattle.run_law.specs.declared.journals.TreeEntry.{TreeEntry}
use Rattle.script_ops.specs.Values.{ScriptValue, op_at}
use Rattle.serde_json.specs.Data.{Data}
use Rattle.tree_law.specs.State.{State}

-- ---- any lists

-- the first elements, and one more
map-take_suc : {A B : Type 0} (f : A → B) (xs : List A) (k : ℕ) (x : A) → k < length xs → x ≡ get_or xs k x → map f (take (k + 1) xs) ≡ map f (take k xs) ++ f x ∷ []
map-take_suc f xs k x within is = ap (map f) (take_more xs k x within) ∙ (map-append f (take k xs) (get_or xs k x ∷ []) ∙ ap (λ y. map f (take k xs) ++ f y ∷ []) (sym is))

-- the same of values of values
pub map-map_take_suc : {A B : Type 0} (f : B → Data) (g : A → B) (xs : List A) (k : ℕ) (x : A) → k < length xs → x ≡ get_or xs k x → map f (map g (take (k + 1) xs)) ≡ map f (map g (take k xs)) ++ f (g x) ∷ []
map-map_take_suc f g xs k x within is = ap (map f) (map-take_suc g xs k x within is) ∙ map-append f (map g (take k xs)) (g x ∷ [])

-- ---- commands

-- one more command
command_values-append : (script : ScriptValue) (j : JournalsValue) (s : State) (p : ℕ) (hs : List TreeEntryValue) (h : TreeEntryValue)
    → command_values script j s p (hs ++ h ∷ []) ≡ command_values script j s p hs ++ command_value script j (tree_from script s hs) (p + length hs) h ∷ []
command_values-append script j s p [] h = let here : p ≡ p + 0 = omega arith in ap (λ (k : ℕ). command_value script j s k h ∷ []) here
command_values-append script j s p (x ∷ hs) h =
    let then : State = state_after script.machine s x.looks (op_at script x.thread x.op) in
    let next : (p + 1) + length hs ≡ p + suc (length hs) = omega arith in
    ap (λ (ds : List Data). command_value script j s p x ∷ ds)
    (command_values-append script j then (p + 1) hs h ∙ ap (λ (k : ℕ). command_values script j then (p + 1) hs ++ command_value script j (tree_from script then hs) k h ∷ []) next)

-- how many they are
length-command_values : (script : ScriptValue) (j : JournalsValue) (s : State) (p : ℕ) (hs : List TreeEntryValue) → length (command_values script j s p hs) ≡ length hs
length-command_values script j s p [] = refl
length-command_values script j s p (h ∷ hs) = ap suc (length-command_values script j (state_after script.machine s h.looks (op_at script h.thread h.op)) (p + 1) hs)

-- how many the first are
pub length-command_values_take : (script : ScriptValue) (j : JournalsValue) (s : State) (es : List TreeEntry) (k : ℕ) → k < length es → length (command_values script j s 0 (map entry_value (take k es))) ≡ k
length-command_values_take script j s es k within = length-command_values script j s 0 (map entry_value (take k es)) ∙ (length-map (take k es) entry_value ∙ omega (arith, length-take k es))

-- the first commands, and one more
pub command_values-take_suc : (script : ScriptValue) (j : JournalsValue) (s now : State) (es : List TreeEntry) (k : ℕ) (e : TreeEntry) → k < length es → e ≡ get_or es k e
    → now ≡ tree_from script s (map entry_value (take k es))
    → command_values script j s 0 (map entry_value (take (k + 1) es)) ≡ command_values script j s 0 (map entry_value (take k es)) ++ command_value script j now k (entry_value e) ∷ []
command_values-take_suc script j s now es k e within is at =
    let hs : List TreeEntryValue = map entry_value (take k es) in
    let count : 0 + length hs ≡ k = omega (arith, length-map (take k es) entry_value, length-take k es) in
    ap (command_values script j s 0) (map-take_suc entry_value es k e within is)
    ∙ (command_values-append script j s 0 hs (entry_value e)
    ∙ (ap (λ (n : ℕ). command_values script j s 0 hs ++ command_value script j (tree_from script s hs) n (entry_value e) ∷ []) count
    ∙ ap (λ (t : State). command_values script j s 0 hs ++ command_value script j t k (entry_value e) ∷ []) (sym at)))
