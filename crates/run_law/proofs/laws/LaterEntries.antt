-- An entry of an epoch stands after all entries of other commands before that epoch, also with one entry more.
use Rattle.std.proofs.Common.{◌≡◌, ℕ, ◌+◌, ◌<◌, ◌≤◌, inl, inr, List, [], ◌∷◌, ◌++◌, length, sym, ◌∙◌, ap, subst, arith}
use Rattle.std.specs.Prelude.{IsTrue, IsSome}
use Rattle.std.proofs.lemmas.Option.{slice_get_within}
use Rattle.cache_core.specs.declared.entry.SliceEntry.{SliceEntry}
use Rattle.run_law.specs.Journals.{At, JournalsValue, slice_at}
use Rattle.run_law.specs.Truth.{is_made_by, is_taken_from}
use Rattle.run_law.specs.TreeHistory.{TreeEntryValue}
use Rattle.run_law.proofs.laws.Pairs.{both_eqb-true, both_eqb-same}
use Rattle.run_law.proofs.laws.GrownLists.{Adds, Stood, StoodIn, at_push, stood, with_slices, with_tree}
use Rattle.run_law.specs.Progress.{HasBegun, IsUnderWay, Progress}
use Rattle.run_law.specs.Growth.{AreOfBegun, BehindCommands, IsAlone, IsFree}

-- no entry that stands has an epoch after another command that makes this entry
abbrev pub ComesLate : JournalsValue → SliceEntry → Type 0
ComesLate j e =
    (i p k : ℕ) (x : SliceEntry) (command : TreeEntryValue)
    → At (slice_at j i) p x → At j.tree k command → IsTrue (is_made_by command.thread command.op e) → k < x.epoch
    → (IsTrue (is_made_by command.thread command.op x) → ⊥)
    → ⊥

-- the old entries, or the new one
behind_cases : (j : JournalsValue) (i0 : ℕ) (e0 : SliceEntry) → ComesLate j e0 → BehindCommands j
    → (i p q k : ℕ) (e earlier : SliceEntry) (command : TreeEntryValue) → StoodIn j i0 e0 i p e → StoodIn j i0 e0 i q earlier → At j.tree k command
    → IsTrue (is_made_by command.thread command.op earlier) → k < e.epoch → (IsTrue (is_made_by command.thread command.op e) → ⊥) → q < p
behind_cases j i0 e0 late behind i p q k e earlier command (inl here) (inl there) taken made before apart = behind i p q k e earlier command here there taken made before apart
behind_cases j i0 e0 late behind i p q k e earlier command (inl here) (inr there) taken made before apart =
    absurd (late i p k e command here taken (subst (λ (x : SliceEntry). IsTrue (is_made_by command.thread command.op x)) there.2 made) before apart)
behind_cases j i0 e0 late behind i p q k e earlier command (inr here) (inl there) taken made before apart =
    let within = slice_get_within (slice_at j i) q earlier there in omega (arith, within, here.1)
behind_cases j i0 e0 late behind i p q k e earlier command (inr here) (inr there) taken made before apart =
    absurd (apart (subst (λ (x : SliceEntry). IsTrue (is_made_by command.thread command.op x)) (there.2 ∙ sym here.2) made))

-- an entry more in a slice
pub behind_entry : (j : JournalsValue) (slices : List (List SliceEntry)) (i : ℕ) (e : SliceEntry) → Adds j slices i e → ComesLate j e → BehindCommands j → BehindCommands (with_slices j slices)
behind_entry j slices i0 e0 adds late behind i p q k e earlier command at there taken made before apart =
    behind_cases j i0 e0 late behind i p q k e earlier command (stood j slices i0 e0 adds i p e at) (stood j slices i0 e0 adds i q earlier there) taken made before apart

-- the old commands, or the new one
behind_taken : (j : JournalsValue) (h : TreeEntryValue) → ((i p : ℕ) (e : SliceEntry) → At (slice_at j i) p e → e.epoch ≤ length j.tree) → BehindCommands j
    → (i p q k : ℕ) (e earlier : SliceEntry) (command : TreeEntryValue) → At (slice_at j i) p e → At (slice_at j i) q earlier → Stood j.tree h k command
    → IsTrue (is_made_by command.thread command.op earlier) → k < e.epoch → (IsTrue (is_made_by command.thread command.op e) → ⊥) → q < p
behind_taken j h epochs behind i p q k e earlier command at there (inl old) made before apart = behind i p q k e earlier command at there old made before apart
behind_taken j h epochs behind i p q k e earlier command at there (inr new) made before apart =
    absurd (let early = epochs i p e at in omega (arith, early, new.0, before))

-- a command more in the tree's history
pub behind_command : (j : JournalsValue) (h : TreeEntryValue) → ((i p : ℕ) (e : SliceEntry) → At (slice_at j i) p e → e.epoch ≤ length j.tree)
    → BehindCommands j → BehindCommands (with_tree j (j.tree ++ h ∷ []))
behind_command j h epochs behind i p q k e earlier command at there taken made before apart =
    behind_taken j h epochs behind i p q k e earlier command at there (at_push j.tree h k command taken) made before apart

-- ---- who may make an entry

-- an entry of an op that is under way is of the command that holds the tree
pub of_holder : (j : JournalsValue) (at : ℕ → Progress) (t : ℕ) (x : SliceEntry) → IsAlone j at → IsSome (at t).made → IsUnderWay (at x.thread) x.op → IsTrue (is_made_by t (at t).next x)
of_holder j at t x alone holds is =
    let same : x.thread ≡ t = alone.one x.thread t is.1 holds in
    both_eqb-same x.thread t x.op (at t).next same (is.0 ∙ ap (λ u. (at u).next) same)

-- the command that holds the tree may make one, for every other entry has an epoch before it
pub holder_comes_late : (j : JournalsValue) (at : ℕ → Progress) (t : ℕ) (e : SliceEntry) → IsAlone j at → AreOfBegun j at → IsSome (at t).made
    → e.thread ≡ t → e.op ≡ (at t).next → ComesLate j e
holder_comes_late j at t e alone begun holds thread number i p k x command here taken made before apart =
    let is = both_eqb-true e.thread command.thread e.op command.op made in
    let mine : IsTrue (is_taken_from t (at t).next command) = both_eqb-same command.thread t command.op (at t).next (sym is.0 ∙ thread) (sym is.1 ∙ number) in
    let last : k + 1 ≡ length j.tree = alone.last t k command holds taken mine in
    let free : IsFree at j.tree x.epoch = begun.others i p x here
    (λ under. apart
    (let own = of_holder j at t x alone holds under in
    let its = both_eqb-true x.thread t x.op (at t).next own in
    both_eqb-same x.thread command.thread x.op command.op (its.0 ∙ (sym thread ∙ is.0)) (its.1 ∙ (sym number ∙ is.1)))) in
    let early = free.before t holds in
    omega (arith, last, early, before)

-- an op that has not begun may make one, for it is no command of the tree's history
pub fresh_comes_late : (j : JournalsValue) (at : ℕ → Progress) (e : SliceEntry) → AreOfBegun j at → (HasBegun (at e.thread) e.op → ⊥) → ComesLate j e
fresh_comes_late j at e begun fresh i p k x command here taken made before apart =
    let is = both_eqb-true e.thread command.thread e.op command.op made in
    let its : HasBegun (at command.thread) command.op = begun.commands k command taken in
    fresh (subst (λ t. HasBegun (at t) e.op) (sym is.0) (subst (λ n. HasBegun (at command.thread) n) (sym is.1) its))
