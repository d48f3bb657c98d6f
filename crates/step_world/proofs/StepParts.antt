-- What the rows of the machine have in common: who holds the tree after a step, and how far each thread has come.
use Rattle.std.proofs.Common.{◌≡◌, ℕ, ◌+◌, ◌≤◌, ◌⊎◌, inl, inr, [], ◌∷◌, ◌++◌, length, Some, None, refl, sym, ap, ◌∙◌, subst}
use Rattle.std.specs.Prelude.{◌==◌, IsSome}
use Rattle.std.proofs.lemmas.Bool.{cases_Bool}
use Rattle.std.proofs.lemmas.Option.{same_Some}
use Rattle.run_law.specs.Journals.{JournalsValue}
use Rattle.run_law.specs.TreeHistory.{TreeEntryValue}
use Rattle.script_ops.specs.Values.{ScriptValue, op_at}
use Rattle.script_ops.specs.declared.op.Op.{Op}
use Rattle.run_law.proofs.laws.MovedThreads.{where_moved}
use Rattle.run_law.proofs.laws.OpMarks.{not_some}
use Rattle.run_law.proofs.laws.GrownLists.{with_slices, with_tree}
use Rattle.run_law.specs.Jobs.{looks_of}
use Rattle.step_world.specs.Machine.{MachineValue, thread_at}
use Rattle.step_world.specs.declared.thread_state.ThreadState.{ThreadState}
use Rattle.step_world.specs.declared.thread_state.ThreadState.TheVariants.{Ready, Looking, Following, Tagged}
use Rattle.step_world.specs.declared.thread_state.Thread.{Thread}
use Rattle.run_law.specs.Progress.{Progress, moved}
use Rattle.step_world.specs.Moments.{FollowsBehind, IsHeldBy, LooksWithin, progress_by, progress_in}
use Rattle.lists.proofs.Options.{not_some-none}

-- ---- who holds the tree after a step

-- a thread's progress by its place
pub place_of : (s : MachineValue) (t : ℕ) (place : ThreadState) → (thread_at s t).state ≡ place → progress_in s t ≡ progress_by (thread_at s t).next place
place_of s t place is = ap (progress_by (thread_at s t).next) is

-- the one that holds the tree goes on holding it, or takes it when nobody did
pub IsHeldBy-held : (old new : MachineValue) (t : ℕ) (p : Progress) → ((u : ℕ) → progress_in new u ≡ moved (progress_in old) t p u) → IsSome p.made
    → ((u : ℕ) → IsSome (progress_in old u).made → u ≡ t) → new.holder ≡ Some t → IsHeldBy new new.holder
IsHeldBy-held old new t p at holds only is u = (
  λ some. elim (where_moved (progress_in old) t p u) [
    | inl here ↦ is ∙ ap (λ v. Some v) (sym here.0)
    | inr away ↦ absurd (away.0 (only u (subst (λ (x : Progress). IsSome x.made) (at u ∙ away.1) some)))
  ],
  λ same.
      let u_is : t ≡ u = same_Some t u (sym is ∙ same) in
      elim (where_moved (progress_in old) t p u) [
        | inl here ↦ subst (λ (x : Progress). IsSome x.made) (sym (at u ∙ here.1)) holds
        | inr away ↦ absurd (away.0 (sym u_is))
      ],
)

-- it lets the tree go
pub IsHeldBy-free : (old new : MachineValue) (t : ℕ) (p : Progress) → ((u : ℕ) → progress_in new u ≡ moved (progress_in old) t p u) → p.made ≡ None
    → ((u : ℕ) → IsSome (progress_in old u).made → u ≡ t) → new.holder ≡ None → IsHeldBy new new.holder
IsHeldBy-free old new t p at lets only is u = (
  λ some. elim (where_moved (progress_in old) t p u) [
    | inl here ↦ absurd (not_some (progress_in new u).made (ap (λ (x : Progress). x.made) (at u ∙ here.1) ∙ lets) some)
    | inr away ↦ absurd (away.0 (only u (subst (λ (x : Progress). IsSome x.made) (at u ∙ away.1) some)))
  ],
  λ same. absurd (not_some-none new.holder u is same),
)

-- a thread that holds nothing moves
pub held_same : (old new : MachineValue) (t : ℕ) (p : Progress) → ((u : ℕ) → progress_in new u ≡ moved (progress_in old) t p u) → p.made ≡ None → (progress_in old t).made ≡ None
    → new.holder ≡ old.holder → IsHeldBy old old.holder → IsHeldBy new new.holder
held_same old new t p at lets not_held is held u =
    let same : (progress_in new u).made ≡ (progress_in old u).made = elim (where_moved (progress_in old) t p u) [
      | inl here ↦ ap (λ (x : Progress). x.made) (at u ∙ here.1) ∙ (lets ∙ (sym not_held ∙ ap (λ v. (progress_in old v).made) (sym here.0)))
      | inr away ↦ ap (λ (x : Progress). x.made) (at u ∙ away.1)
    ] in (
      λ some. is ∙ (held u).0 (subst (λ x. IsSome x) same some),
      λ has. subst (λ x. IsSome x) (sym same) ((held u).1 (sym is ∙ has)),
    )

-- only the holder holds
pub only_holder : (s : MachineValue) (t : ℕ) → IsHeldBy s s.holder → IsSome (progress_in s t).made → (u : ℕ) → IsSome (progress_in s u).made → u ≡ t
only_holder s t held holds u some = same_Some u t (sym ((held u).0 some) ∙ (held t).0 holds)

-- ---- looks of others

-- looks stay within those of their commands
pub looks_same : (script : ScriptValue) (old new : MachineValue) (t : ℕ) (now : Thread) → new.journals.tree ≡ old.journals.tree
    → ((u : ℕ) → ((u ≡ t) × (thread_at new u ≡ now)) ⊎ ((u ≡ t → ⊥) × (thread_at new u ≡ thread_at old u)))
    → ((made : ℕ) (op : Op) → now.state ≡ Looking made → op_at script t now.next ≡ Some op → made ≤ length (looks_of script old.journals.tree (length old.journals.tree) op))
    → LooksWithin script old → LooksWithin script new
looks_same script old new t now tree threads mine within u made op place is =
    subst (λ hs. made ≤ length (looks_of script hs (length hs) op)) (sym tree)
    (elim (threads u) [
      | inl here ↦ mine made op (sym (ap (λ (v : Thread). v.state) here.1) ∙ place) (subst (λ v. op_at script v now.next ≡ Some op) here.0 (subst (λ (v : Thread). op_at script u v.next ≡ Some op) here.1 is))
      | inr away ↦ within u made op (sym (ap (λ (v : Thread). v.state) away.1) ∙ place) (subst (λ (v : Thread). op_at script u v.next ≡ Some op) away.1 is)
    ])

-- follow-ups come after all looks
pub follows_same : (script : ScriptValue) (old new : MachineValue) (t : ℕ) (now : Thread) → new.journals.tree ≡ old.journals.tree
    → ((u : ℕ) → ((u ≡ t) × (thread_at new u ≡ now)) ⊎ ((u ≡ t → ⊥) × (thread_at new u ≡ thread_at old u)))
    → ((made k : ℕ) (op : Op) → now.state ≡ Following made → op_at script t now.next ≡ Some op → k + 1 ≡ length old.journals.tree → length (looks_of script old.journals.tree k op) ≤ made)
    → FollowsBehind script old → FollowsBehind script new
follows_same script old new t now tree threads mine behind u made k op place is last =
    let was : k + 1 ≡ length old.journals.tree = last ∙ ap length tree in
    subst (λ hs. length (looks_of script hs k op) ≤ made) (sym tree)
    (elim (threads u) [
      | inl here ↦ mine made k op (sym (ap (λ (v : Thread). v.state) here.1) ∙ place) (subst (λ v. op_at script v now.next ≡ Some op) here.0 (subst (λ (v : Thread). op_at script u v.next ≡ Some op) here.1 is)) was
      | inr away ↦ behind u made k op (sym (ap (λ (v : Thread). v.state) away.1) ∙ place) (subst (λ (v : Thread). op_at script u v.next ≡ Some op) away.1 is) was
    ])

-- a thread outside the tree does not look
pub not_looking : (place : ThreadState) (made : ℕ) → (progress_by 0 place).made ≡ None → place ≡ Looking made → ⊥
not_looking Ready made none is = absurd cc
not_looking (Looking m) made none is = absurd cc
not_looking (Following m) made none is = absurd cc
not_looking (Tagged tag) made none is = absurd cc

-- and does not follow
pub not_following : (place : ThreadState) (made : ℕ) → (progress_by 0 place).made ≡ None → place ≡ Following made → ⊥
not_following Ready made none is = absurd cc
not_following (Looking m) made none is = absurd cc
not_following (Following m) made none is = absurd cc
not_following (Tagged tag) made none is = absurd cc

-- equal places
pub looking_is : (a b : ℕ) → Looking a ≡ Looking b → a ≡ b
looking_is a b h = cc

-- equal places
pub following_is : (a b : ℕ) → Following a ≡ Following b → a ≡ b
following_is a b h = cc

-- places differ
pub looking_not : (a b : ℕ) → Looking a ≡ Following b → ⊥
looking_not a b h = absurd cc

-- ---- entries

-- these journals have the entry more
pub journals_are : (old new : JournalsValue) → new.tree ≡ old.tree → with_slices old new.slices ≡ new
journals_are old new same = ap (λ hs. (let j : JournalsValue = record { tree = hs; slices = new.slices } in j)) (sym same)

-- the journals with one command more
pub decided_are : (old new : JournalsValue) (h : TreeEntryValue) → new.tree ≡ old.tree ++ h ∷ [] → new.slices ≡ old.slices → with_tree old (old.tree ++ h ∷ []) ≡ new
decided_are old new h tree slices =
    ap (λ hs. (let j : JournalsValue = record { tree = hs; slices = old.slices } in j)) (sym tree) ∙ ap (λ ss. (let j : JournalsValue = record { tree = new.tree; slices = ss } in j)) (sym slices)

-- moving moved-twice is moving once
pub moved-twice : (at : ℕ → Progress) (t : ℕ) (p q : Progress) (u : ℕ) → moved at t q u ≡ moved (moved at t p) t q u
moved-twice at t p q u = elim (cases_Bool (u == t)) [ inl here ↦ rw here refl | inr away ↦ rw away refl ]

-- a thread that is where it was
pub still_there : (at : ℕ → Progress) (t : ℕ) (p : Progress) → at t ≡ p → (u : ℕ) → moved at t p u ≡ at u
still_there at t p is u = elim (where_moved at t p u) [ inl here ↦ here.1 ∙ (sym is ∙ ap at (sym here.0)) | inr away ↦ away.1 ]
