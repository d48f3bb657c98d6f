-- States of the machine, and what the tree's history can be in them.
use Rattle.std.proofs.Common.{◌≡◌, ℕ, ◌+◌, ◌<◌, ◌≤◌, ◌⊎◌, inl, inr, List, [], ◌∷◌, ◌++◌, Option, Some, None, refl, sym, ap, ◌∙◌, subst}
use Rattle.std.specs.Prelude.{◌==◌, IsSome}
use Rattle.std.proofs.Math.Path.{fun_ext}
use Rattle.std.proofs.lemmas.Bool.{cases_Bool, eqb-false, eqb-true, le-ltb, lt-ltb}
use Rattle.cache_core.specs.declared.entry.SliceEntry.{SliceEntry}
use Rattle.run_law.specs.TreeHistory.{TreeEntryValue}
use Rattle.script_ops.specs.Values.{ScriptValue}
use Rattle.run_law.proofs.laws.MovedThreads.{where_moved}
use Rattle.step_world.specs.Machine.{MachineValue, Moves, holder_behind, place_behind, thread_at}
use Rattle.step_world.specs.declared.thread_state.ThreadState.{ThreadState}
use Rattle.step_world.specs.declared.thread_state.ThreadState.TheVariants.{Ready, Looking, Following, Tagged}
use Rattle.step_world.specs.declared.thread_state.Thread.{Thread}
use Rattle.run_law.specs.Progress.{Progress, moved}
use Rattle.step_world.specs.Moments.{CanBe, IsHeldBy, WithClaim, progress_by, progress_in}
use Rattle.run_law.specs.Growth.{IsKept}
use Rattle.lists.proofs.Options.{not_some-none}

-- what is kept is kept of equal things
pub IsKept-same : (script : ScriptValue) (all more : List TreeEntryValue) (slices some : List (List SliceEntry)) (at then_at : ℕ → Progress) (phase now : ℕ)
    → more ≡ all → some ≡ slices → ((u : ℕ) → then_at u ≡ at u) → now ≡ phase
    → IsKept script (record { tree = all; slices = slices }) at phase → IsKept script (record { tree = more; slices = some }) then_at now
IsKept-same script all more slices some at then_at phase now a b c d kept =
    subst (λ x. IsKept script (record { tree = x; slices = some }) then_at now) (sym a)
    (subst (λ x. IsKept script (record { tree = all; slices = x }) then_at now) (sym b)
    (subst (λ x. IsKept script (record { tree = all; slices = slices }) x now) (sym (fun_ext c))
    (subst (λ x. IsKept script (record { tree = all; slices = slices }) at x) (sym d) kept)))

-- a thread's progress after a step
pub progress_moved : (old new : MachineValue) (t : ℕ) (now : Thread) → Moves t now old new → (u : ℕ) → progress_in new u ≡ moved (progress_in old) t (progress_by now.next now.state) u
progress_moved old new t now moves u = elim (where_moved (progress_in old) t (progress_by now.next now.state) u) [
  | inl here ↦ ap (λ v. progress_in new v) here.0 ∙ (ap (λ (v : Thread). progress_by v.next v.state) moves.there ∙ sym here.1)
  | inr away ↦ ap (λ (v : Thread). progress_by v.next v.state) (moves.others u away.0) ∙ sym away.1
]

-- a thread that is where it was, or the one that moved
pub where_now : (old new : MachineValue) (t : ℕ) (now : Thread) → Moves t now old new → (u : ℕ) → ((u ≡ t) × (thread_at new u ≡ now)) ⊎ ((u ≡ t → ⊥) × (thread_at new u ≡ thread_at old u))
where_now old new t now moves u = elim (cases_Bool (u == t)) [
  | inl here ↦ let same = eqb-true u t here in inl (same, ap (thread_at new) same ∙ moves.there)
  | inr away ↦ let apart = eqb-false u t away in inr (apart, moves.others u apart)
]

-- ---- what the history can be

-- while nobody holds the tree, it is what it is
pub can_be_tree : (s : MachineValue) (holder : Option ℕ) (all : List TreeEntryValue) → holder ≡ None → CanBe s holder all → all ≡ s.journals.tree
can_be_tree s None all none can = can
can_be_tree s (Some t) all none can = absurd cc

-- and can be that
pub tree_can_be : (s : MachineValue) (holder : Option ℕ) → holder ≡ None → CanBe s holder s.journals.tree
tree_can_be s holder none = subst (λ o. CanBe s o s.journals.tree) (sym none) refl

-- with a holder at a place
pub can_be_at : (s : MachineValue) (holder : Option ℕ) (t : ℕ) (place : ThreadState) (all : List TreeEntryValue) → holder ≡ Some t → (thread_at s t).state ≡ place → CanBe s holder all
    → WithClaim s.journals.tree t (thread_at s t).next place all
can_be_at s holder t place all is at can = subst (λ p. WithClaim s.journals.tree t (thread_at s t).next p all) at (subst (λ o. CanBe s o all) is can)

-- with a holder at a place, back
pub at_can_be : (s : MachineValue) (holder : Option ℕ) (t : ℕ) (place : ThreadState) (all : List TreeEntryValue) → holder ≡ Some t → (thread_at s t).state ≡ place
    → WithClaim s.journals.tree t (thread_at s t).next place all → CanBe s holder all
at_can_be s holder t place all is at can = subst (λ o. CanBe s o all) (sym is) (subst (λ p. WithClaim s.journals.tree t (thread_at s t).next p all) (sym at) can)

-- where neither the tree nor the holder has moved, it can be what it could be
pub can_be_same : (old new : MachineValue) (all : List TreeEntryValue) (holder : Option ℕ) → new.journals.tree ≡ old.journals.tree → ((u : ℕ) → holder ≡ Some u → thread_at new u ≡ thread_at old u)
    → CanBe new holder all → CanBe old holder all
can_be_same old new all None tree same can = can ∙ tree
can_be_same old new all (Some u) tree same can =
    subst (λ hs. WithClaim hs u (thread_at old u).next (thread_at old u).state all) tree
    (subst (λ (v : Thread). WithClaim new.journals.tree u v.next v.state all) (same u refl) can)

-- it is the history so far, or the history with a claim
claim_is : (tree : List TreeEntryValue) (t next : ℕ) (place : ThreadState) (all : List TreeEntryValue) → WithClaim tree t next place all
    → (all ≡ tree) ⊎ ((h : TreeEntryValue) × (all ≡ tree ++ h ∷ []) × IsSome (progress_by next place).made)
claim_is tree t next Ready all can = inl can
claim_is tree t next (Looking made) all can = inr (can.0, can.3, refl)
claim_is tree t next (Following made) all can = inl can
claim_is tree t next (Tagged tag) all can = inl can

-- whoever holds it
pub can_be_is : (s : MachineValue) (holder : Option ℕ) (all : List TreeEntryValue) → CanBe s holder all
    → (all ≡ s.journals.tree) ⊎ ((h : TreeEntryValue) × (t : ℕ) × (all ≡ s.journals.tree ++ h ∷ []) × IsSome (progress_in s t).made)
can_be_is s None all can = inl can
can_be_is s (Some t) all can = elim (claim_is s.journals.tree t (thread_at s t).next (thread_at s t).state all can) [
  | inl same ↦ inl same
  | inr more ↦ inr (more.0, t, more.1, more.2)
]

-- ---- after the last entry

-- there is more to follow
pub place_behind-following : (next made all : ℕ) → made < all → place_behind next made all ≡ (record { next = next; state = Following made })
place_behind-following next made all less = rw (lt-ltb made all less) refl

-- all has followed
pub place_behind-ready : (next made all : ℕ) → all ≤ made → place_behind next made all ≡ (record { next = next + 1; state = Ready })
place_behind-ready next made all more = rw (le-ltb made all more) refl

-- there is more to follow
pub holder_on : (t made all : ℕ) → made < all → holder_behind t made all ≡ Some t
holder_on t made all less = rw (lt-ltb made all less) refl

-- all has followed
pub holder_off : (t made all : ℕ) → all ≤ made → holder_behind t made all ≡ None
holder_off t made all more = rw (le-ltb made all more) refl

-- ---- who holds the tree

-- nobody holds the tree
pub nobody_holds : (s : MachineValue) → IsHeldBy s s.holder → s.holder ≡ None → (u : ℕ) → IsSome (progress_in s u).made → ⊥
nobody_holds s held none u some = not_some-none s.holder u none ((held u).0 some)
