-- The ops of a lawful script fit, and the states of a legal history of its tree are sound.
use Rattle.std.proofs.Common.{◌≡◌, ℕ, zero, suc, ◌+◌, ◌≤◌, List, [], ◌∷◌, ◌++◌, length, take, get_or, All, Option, None, Some, refl, sym, subst, ap, ◌∙◌, arith}
use Rattle.std.specs.Prelude.{IsTrue}
use Rattle.std.proofs.lemmas.List.{take_more}
use Rattle.std.proofs.lemmas.List.Elements.{All-head, All-nil, All-tail}
use Rattle.std.proofs.lemmas.Option.{get_or_from_slice_get, slice_get_within}
use Rattle.rc_base.proofs.laws.Histories.{EachFollows-at}
use Rattle.rc_base.specs.declared.replies.Reply.TheVariants as replies
use Rattle.run_law.proofs.laws.Tasks.{tasks_of-tree_after}
use Rattle.run_law.proofs.laws.TreeHistory.{tree_after-push}
use Rattle.run_law.specs.Journals.{At}
use Rattle.run_law.specs.Ops.{is_command}
use Rattle.run_law.specs.TreeHistory.{CommandMayFollow, IsCommandThat, IsLegalTree, TreeEntryValue, tree_after}
use Rattle.script_ops.specs.Fits.{Fits}
use Rattle.script_ops.specs.Values.{IsLawful, ScriptValue, op_at, ops_of, threads_of}
use Rattle.script_ops.specs.declared.op.Op.{Op}
use Rattle.tree_law.proofs.laws.Opening.{opening-sound}
use Rattle.tree_law.proofs.laws.Steps.{next-sound}
use Rattle.tree_law.specs.Sound.{IsSound}
use Rattle.tree_law.specs.State.{tasks_of}
use Rattle.tree_law.specs.Steps.{needs, next}

-- ---- ops that fit

-- what holds of all holds of what stands somewhere
pub All-at : {X : Type 0} (P : X → Type 0) (xs : List X) (k : ℕ) (x : X) → All P xs → At xs k x → P x
All-at P xs k x all there = subst P (get_or_from_slice_get xs k x x there) (all k x (slice_get_within xs k x there))

-- what is true of all ops of all threads is true of those of one
All-thread : (P : Op → Type 0) (threads : List (List Op)) (thread : ℕ) → All (λ ops. All P ops) threads → All P (get_or threads thread [])
All-thread P [] thread all = All-nil P
All-thread P (t ∷ ts) zero all = All-head (λ ops. All P ops) t ts all
All-thread P (t ∷ ts) (suc thread) all = All-thread P ts thread (All-tail (λ ops. All P ops) t ts all)

-- an op of a lawful script fits
pub Fits-op_at : (script : ScriptValue) (thread op : ℕ) (c : Op) → IsLawful script → op_at script thread op ≡ Some c → Fits script.machine script.tasks c
Fits-op_at script thread op c lawful is = All-at (Fits script.machine script.tasks) (ops_of script thread) op c (All-thread (Fits script.machine script.tasks) (threads_of script) thread lawful.fit) is

-- and fits the tree after any history
pub Fits-tree_after : (script : ScriptValue) (tree : List TreeEntryValue) (thread op : ℕ) (c : Op) → IsLawful script → op_at script thread op ≡ Some c → Fits script.machine (tasks_of (tree_after script tree)) c
Fits-tree_after script tree thread op c lawful is = subst (λ ts. Fits script.machine ts c) (sym (tasks_of-tree_after script tree)) (Fits-op_at script thread op c lawful is)

-- ---- states

-- a command that may follow is one of the script that was given as many counts as it needs
pub record IsTaken (script : ScriptValue) (before : List TreeEntryValue) (h : TreeEntryValue) : Type 0 where
  pub op : Op
  pub is : op_at script h.thread h.op ≡ Some op
  pub command : IsTrue (is_command op)
  pub looks : length h.looks ≡ length (needs script.machine (tree_after script before) op)

-- by what it may follow
pub IsTaken-follows : (script : ScriptValue) (before : List TreeEntryValue) (h : TreeEntryValue) → CommandMayFollow script before h → IsTaken script before h
IsTaken-follows script before h may = of (op_at script h.thread h.op) refl may
  where
    of : (o : Option Op) → op_at script h.thread h.op ≡ o
        → IsCommandThat (λ op. (length h.looks ≡ length (needs script.machine (tree_after script before) op)) × (h.reply ≡ (next script.machine (tree_after script before) op h.looks).reply)) o → IsTaken script before h
    of None is ok = absurd ok
    of (Some op) is ok = record { op = op; is = is; command = ok.0; looks = ok.1.0 }

-- by its position in a legal history
pub IsTaken-at : (script : ScriptValue) (tree : List TreeEntryValue) (k : ℕ) (h : TreeEntryValue) → IsLegalTree script tree → At tree k h → IsTaken script (take k tree) h
IsTaken-at script tree k h legal there = IsTaken-follows script (take k tree) h may
  where
    may : CommandMayFollow script (take k tree) h
    may = subst (CommandMayFollow script (take k tree)) (get_or_from_slice_get tree k h h there) (EachFollows-at (CommandMayFollow script) tree k h legal (slice_get_within tree k h there))

-- each state of a legal history is sound
pub IsSound-take : (script : ScriptValue) (tree : List TreeEntryValue) → IsLawful script → IsLegalTree script tree → (k : ℕ) → k ≤ length tree → IsSound script.machine (tree_after script (take k tree))
unfolding tree_after
IsSound-take script tree lawful legal zero known = opening-sound script.machine script.tasks lawful.in_range lawful.rising
IsSound-take script tree lawful legal (suc k) known =
    let h : TreeEntryValue = get_or tree k blank in
    let may : CommandMayFollow script (take k tree) h = EachFollows-at (CommandMayFollow script) tree k blank legal (omega arith) in
    let its = IsTaken-follows script (take k tree) h may in
    let before : IsSound script.machine (tree_after script (take k tree)) = IsSound-take script tree lawful legal k (omega arith) in
    let one : suc k ≡ k + 1 = omega arith in
    let first : take (suc k) tree ≡ take k tree ++ h ∷ [] = ap (λ n. take n tree) one ∙ take_more tree k blank (omega arith) in
    subst (IsSound script.machine) (sym (ap (tree_after script) first ∙ tree_after-push script (take k tree) h its.op its.is))
    (next-sound script.machine (tree_after script (take k tree)) its.op h.looks lawful.in_range before (Fits-tree_after script (take k tree) h.thread h.op its.op lawful its.is) its.looks)
  where
    blank : TreeEntryValue
    blank = record { thread = 0; op = 0; reply = replies.Ok; looks = [] }
