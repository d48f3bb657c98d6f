-- What is known when a command takes the tree: nobody holds it, and nothing of its op was there.
use Rattle.std.proofs.Common.{◌≡◌, ℕ, inl, inr, Some, None, sym, ap, subst, arith}
use Rattle.std.specs.Prelude.{IsSome, IsTrue}
use Rattle.cache_core.specs.declared.entry.SliceEntry.{SliceEntry}
use Rattle.rc_base.specs.declared.names.Tag.{Tag}
use Rattle.run_law.specs.Ops.{Precedes, is_command, phase_in}
use Rattle.run_law.specs.Journals.{At, JournalsValue, slice_at}
use Rattle.run_law.specs.Truth.{is_made_by, is_taken_from}
use Rattle.run_law.specs.TreeHistory.{TreeEntryValue}
use Rattle.script_ops.specs.Values.{ScriptValue, op_at}
use Rattle.script_ops.specs.declared.op.Op.{Op}
use Rattle.run_law.proofs.laws.MovedThreads.{where_moved}
use Rattle.run_law.proofs.laws.NotedTruth.{holding, none_tag}
use Rattle.run_law.proofs.laws.OpMarks.{not_some}
use Rattle.run_law.proofs.laws.Pairs.{both_eqb-true}
use Rattle.run_law.specs.Growth.{AreInPhase, AreOfBegun}
use Rattle.run_law.specs.Progress.{HasBegun, Progress, moved}

-- a thread's progress while it has no tag and holds nothing
abbrev pub idle : ℕ → Progress
idle n = record { next = n; made = None; tag = None }

-- the next op of a thread outside the tree has not begun
pub idle_not_begun : (p : Progress) (n : ℕ) → n ≡ p.next → p.made ≡ None → HasBegun p n → ⊥
idle_not_begun p n is none (inl less) = omega (arith, is, less)
idle_not_begun p n is none (inr under) = not_some p.made none under.1

-- a thread with a tag is of the present phase, and after no op that is yet to begin
pub tagged_apart : (script : ScriptValue) (at : ℕ → Progress) (phase t n u : ℕ) (tag : Tag) → AreInPhase script at phase → phase_in script.phases t ≡ phase → n ≡ (at t).next → (at u).tag ≡ Some tag
    → Precedes script t n u (at u).next → ⊥
tagged_apart script at phase t n u tag phases here is has (inl same) = omega (arith, same.1, is, ap (λ v. (at v).next) same.0)
tagged_apart script at phase t n u tag phases here is has (inr later) =
    none_tag (at u).tag tag (ap (λ (x : Progress). x.tag) (phases.later u (omega (arith, later, here)))) has

-- What is known when a command takes the tree.
pub record IsTaken (script : ScriptValue) (at : ℕ → Progress) (phase t n : ℕ) (c : Op) (h : TreeEntryValue) : Type 0 where
  pub here : phase_in script.phases t ≡ phase
  pub place : at t ≡ idle n
  pub is_op : op_at script t n ≡ Some c
  pub command : IsTrue (is_command c)
  pub nobody : (u : ℕ) → IsSome (at u).made → ⊥
  pub thread : h.thread ≡ t
  pub number : h.op ≡ n

-- only this thread holds the tree now
pub only_one : (script : ScriptValue) (at : ℕ → Progress) (phase t n : ℕ) (c : Op) (h : TreeEntryValue) (u : ℕ) → IsTaken script at phase t n c h → IsSome (moved at t (holding n 0) u).made → u ≡ t
only_one script at phase t n c h u taken some = elim (where_moved at t (holding n 0) u) [
  | inl here ↦ here.0
  | inr away ↦ absurd (taken.nobody u (subst (λ (x : Progress). IsSome x.made) away.1 some))
]

-- nothing of its op was there
pub none_taken : (script : ScriptValue) (j : JournalsValue) (at : ℕ → Progress) (phase t n : ℕ) (c : Op) (h : TreeEntryValue) → IsTaken script at phase t n c h → AreOfBegun j at
    → (k : ℕ) (x : TreeEntryValue) → At j.tree k x → IsTrue (is_taken_from t n x) → ⊥
none_taken script j at phase t n c h taken begun k x there mine =
    let is = both_eqb-true x.thread t x.op n mine in
    let its : HasBegun (at t) n = subst (λ v. HasBegun (at v) n) is.0 (subst (λ o. HasBegun (at x.thread) o) is.1 (begun.commands k x there)) in
    idle_not_begun (at t) n (sym (ap (λ (y : Progress). y.next) taken.place)) (ap (λ (y : Progress). y.made) taken.place) its

-- it has no entry
pub none_made : (script : ScriptValue) (j : JournalsValue) (at : ℕ → Progress) (phase t n : ℕ) (c : Op) (h : TreeEntryValue) → IsTaken script at phase t n c h → AreOfBegun j at
    → (i p : ℕ) (x : SliceEntry) → At (slice_at j i) p x → IsTrue (is_made_by t n x) → ⊥
none_made script j at phase t n c h taken begun i p x there mine =
    let is = both_eqb-true x.thread t x.op n mine in
    let its : HasBegun (at t) n = subst (λ v. HasBegun (at v) n) is.0 (subst (λ o. HasBegun (at x.thread) o) is.1 (begun.entries i p x there)) in
    idle_not_begun (at t) n (sym (ap (λ (y : Progress). y.next) taken.place)) (ap (λ (y : Progress). y.made) taken.place) its
