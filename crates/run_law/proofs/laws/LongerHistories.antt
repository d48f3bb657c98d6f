-- What is said of the tree's history so far is said of a longer one.
use Rattle.std.proofs.Common.{◌≡◌, ℕ, ◌<◌, ◌≤◌, inl, inr, List, [], ◌∷◌, ◌++◌, length, Option, Some, None, refl, ap, ◌∙◌, subst, arith}
use Rattle.std.specs.Prelude.{◌==◌, Contains, IsTrue}
use Rattle.std.proofs.lemmas.List.{length-append, take-append-le}
use Rattle.std.proofs.lemmas.Option.{slice_get_within}
use Rattle.cache_core.specs.declared.entry.SliceEntry.{SliceEntry}
use Rattle.lists.specs.Sums.{one_if}
use Rattle.machine.specs.Maps.{domain_of, line_of}
use Rattle.run_law.specs.Truth.{AreTrue, IsOwed, is_taken_from}
use Rattle.run_law.proofs.laws.Truth.{AreTrue-each, IsTrueTo, IsTrueTo-at}
use Rattle.run_law.specs.Journals.{At, JournalsValue, slice_at}
use Rattle.run_law.specs.Order.{Makes, Pays}
use Rattle.run_law.specs.Owed.{owed_by_access, owed_by_command, paid_by}
use Rattle.machine.specs.Slices.{slice_of_line}
use Rattle.run_law.specs.TreeHistory.{TreeEntryValue}
use Rattle.script_ops.specs.Values.{ScriptValue, op_at}
use Rattle.script_ops.specs.declared.op.Op.{Op}
use Rattle.run_law.proofs.laws.LaterEntries.{behind_command}
use Rattle.run_law.proofs.laws.OpKinds.{by_kind}
use Rattle.run_law.proofs.laws.Positions.{At-append_front}
use Rattle.run_law.proofs.laws.GrownLists.{at_push, with_tree}
use Rattle.run_law.specs.Jobs.{follows_of, jobs_of, looks_of}

-- what an access owes
pub owed_access_front : (script : ScriptValue) (tree more : List TreeEntryValue) (epoch task cpu addr : ℕ) → epoch ≤ length tree
    → owed_by_access script tree epoch task cpu addr ≡ owed_by_access script (tree ++ more) epoch task cpu addr
unfolding owed_by_access
owed_access_front script tree more epoch task cpu addr fits = rw (take-append-le epoch tree more fits) refl

-- what a command owes
pub owed_command_front : (script : ScriptValue) (tree more : List TreeEntryValue) (i k : ℕ) (op : Op) → k ≤ length tree
    → owed_by_command script tree i k op ≡ owed_by_command script (tree ++ more) i k op
unfolding owed_by_command
owed_command_front script tree more i k op fits = rw (take-append-le k tree more fits) refl

-- an entry that a command owes
is_owed_front : (script : ScriptValue) (tree more : List TreeEntryValue) (i : ℕ) (e : SliceEntry) (op : Op) → IsOwed script tree i e op → IsOwed script (tree ++ more) i e op
is_owed_front script tree more i e op owed =
    let within : owed.position < length tree = slice_get_within tree owed.position owed.command owed.there in
    record {
      position = owed.position;
      command = owed.command;
      there = At-append_front tree more owed.position owed.command owed.there;
      same_thread = owed.same_thread;
      same_op = owed.same_op;
      owed = subst (λ all. Contains all (paid_by e)) (owed_command_front script tree more i owed.position op (omega arith)) owed.owed;
    }

-- the looks of a command
pub looks_front : (script : ScriptValue) (tree more : List TreeEntryValue) (k : ℕ) (op : Op) → k ≤ length tree → looks_of script (tree ++ more) k op ≡ looks_of script tree k op
unfolding looks_of
looks_front script tree more k op fits = rw (take-append-le k tree more fits) refl

-- its follow-ups
follows_front : (script : ScriptValue) (tree more : List TreeEntryValue) (k : ℕ) (op : Op) → k ≤ length tree → follows_of script (tree ++ more) k op ≡ follows_of script tree k op
unfolding follows_of
follows_front script tree more k op fits = rw (take-append-le k tree more fits) refl

-- all its entries
pub jobs_front : (script : ScriptValue) (tree more : List TreeEntryValue) (k : ℕ) (op : Op) → k ≤ length tree → jobs_of script (tree ++ more) k op ≡ jobs_of script tree k op
jobs_front script tree more k op fits =
    ap (λ xs. xs ++ follows_of script (tree ++ more) k op) (looks_front script tree more k op fits) ∙ ap (λ ys. looks_of script tree k op ++ ys) (follows_front script tree more k op fits)

-- the entry of an access is true to it
abbrev IsTouch : ScriptValue → List TreeEntryValue → SliceEntry → ℕ → ℕ → ℕ → Type 0
IsTouch script tree e task cpu addr = (e.epoch ≤ length tree) × (paid_by e ≡ owed_by_access script tree e.epoch task cpu addr)

-- an entry that is true
pub true_front : (script : ScriptValue) (tree more : List TreeEntryValue) (i : ℕ) (e : SliceEntry) (op : Option Op) → IsTrueTo script tree i e op → IsTrueTo script (tree ++ more) i e op
true_front script tree more i e None h = h
true_front script tree more i e (Some op) h =
    by_kind (IsTouch script tree e) (IsTouch script (tree ++ more) e) (IsOwed script tree i e op) (IsOwed script (tree ++ more) i e op) op
    (λ task cpu addr is. (omega (arith, is.0, length-append tree more), is.1 ∙ owed_access_front script tree more e.epoch task cpu addr is.0))
    (λ is. is_owed_front script tree more i e op is) h

-- entries stay true when the tree has a command more
pub true_command : (script : ScriptValue) (j : JournalsValue) (h : TreeEntryValue) → ((i p : ℕ) (e : SliceEntry) → At (slice_at j i) p e → e.epoch ≤ length j.tree)
    → AreTrue script j → AreTrue script (with_tree j (j.tree ++ h ∷ []))
true_command script j h epochs are = AreTrue-each script (with_tree j (j.tree ++ h ∷ []))
    (λ i p e there. true_front script j.tree (h ∷ []) i e (op_at script e.thread e.op) (IsTrueTo-at script j are i p e there))
    (behind_command j h epochs are.after_commands)

-- a command of another op pays what it paid
pays_command : (script : ScriptValue) (j : JournalsValue) (h : TreeEntryValue) (i u o : ℕ) (d : Op) (made : List SliceEntry) → (IsTrue (is_taken_from u o h) → ⊥)
    → Pays script j i u o d made → Pays script (with_tree j (j.tree ++ h ∷ [])) i u o d made
pays_command script j h i u o d made other pays k x there taken = elim (at_push j.tree h k x there) [
  | inl old ↦ let within = slice_get_within j.tree k x old in pays k x old taken ∙ owed_command_front script j.tree (h ∷ []) i k d (omega (arith, within))
  | inr new ↦ absurd (other (subst (λ (y : TreeEntryValue). IsTrue (is_taken_from u o y)) new.1 taken))
]

-- another op has made what it had made
pub makes_command : (script : ScriptValue) (j : JournalsValue) (h : TreeEntryValue) (i u o : ℕ) (d : Op) (made : List SliceEntry) → (IsTrue (is_taken_from u o h) → ⊥)
    → Makes script j i u o d made → Makes script (with_tree j (j.tree ++ h ∷ [])) i u o d made
makes_command script j h i u o d made other makes =
    let One : ℕ → ℕ → ℕ → Type 0 = λ task cpu addr. length made ≡ one_if (i == slice_of_line script.machine (domain_of script.machine cpu) (line_of addr)) in
    by_kind One One (Pays script j i u o d made) (Pays script (with_tree j (j.tree ++ h ∷ [])) i u o d made) d
    (λ task cpu addr one. one) (λ pays. pays_command script j h i u o d made other pays) makes
