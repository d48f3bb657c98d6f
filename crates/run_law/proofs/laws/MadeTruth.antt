-- An access makes its entry, which is true.
use Rattle.std.proofs.Common.{◌≡◌, ℕ, ◌+◌, true, inl, inr, List, [], ◌++◌, length, filter, get_or, Option, Some, refl, sym, ap, ◌∙◌, subst, arith}
use Rattle.std.specs.Prelude.{◌==◌, IsSome, IsTrue}
use Rattle.std.proofs.lemmas.Bool.{cases_Bool}
use Rattle.cache_core.specs.declared.entry.SliceEntry.{SliceEntry}
use Rattle.lists.specs.Sums.{one_if}
use Rattle.machine.specs.Maps.{domain_of, line_of}
use Rattle.rc_base.specs.declared.names.Tag.{Tag}
use Rattle.run_law.specs.Ops.{phase_in}
use Rattle.run_law.specs.Truth.{AreTrue, is_made_by, is_taken_from}
use Rattle.run_law.proofs.laws.Truth.{AreTrue-each, IsTrueTo, IsTrueTo-at}
use Rattle.run_law.specs.Journals.{At, JournalsValue, slice_at}
use Rattle.run_law.specs.Order.{Makes}
use Rattle.run_law.specs.Owed.{owed_by_access, paid_by}
use Rattle.machine.specs.Slices.{slice_of_line}
use Rattle.run_law.specs.TreeHistory.{TreeEntryValue}
use Rattle.script_ops.specs.Values.{ScriptValue, op_at}
use Rattle.script_ops.specs.declared.op.Op.TheVariants.{Access}
use Rattle.run_law.proofs.laws.LaterEntries.{behind_entry, fresh_comes_late}
use Rattle.run_law.proofs.laws.MovedThreads.{moved-own, moved-holds, where_moved}
use Rattle.run_law.proofs.laws.OpMarks.{not_some}
use Rattle.run_law.proofs.laws.Pairs.{both_eqb-true, both_eqb-same}
use Rattle.run_law.proofs.laws.Positions.{filter-none_at}
use Rattle.run_law.proofs.laws.GrownLists.{Adds, made_one_more, only, stood, with_slices}
use Rattle.run_law.proofs.laws.ReadTags.{outside}
use Rattle.run_law.proofs.laws.TakenCommands.{fails}
use Rattle.run_law.proofs.laws.FreeTrees.{idle, idle_not_begun}
use Rattle.run_law.specs.Growth.{PaysJob, AreOfBegun, IsAlone, IsFree}
use Rattle.run_law.specs.Progress.{HasBegun, IsUnderWay, Progress, moved}

-- What is known when the access of a tag makes its entry.
pub record IsTouched (script : ScriptValue) (j : JournalsValue) (at : ℕ → Progress) (phase t n task cpu addr : ℕ) (tag : Tag) (e : SliceEntry) (slices : List (List SliceEntry)) : Type 0 where
  pub here : phase_in script.phases t ≡ phase
  pub place : at t ≡ outside n (Some tag)
  pub is_op : op_at script t n ≡ Some (Access task cpu addr)
  pub pays : PaysJob t n (record { slice = slice_of_line script.machine (domain_of script.machine cpu) (line_of addr); owed = owed_by_access script j.tree tag.epoch task cpu addr }) e
  pub epoch : e.epoch ≡ tag.epoch
  pub adds : Adds j slices (slice_of_line script.machine (domain_of script.machine cpu) (line_of addr)) e

-- it holds nothing, neither before nor after
pub touch_holds : (at : ℕ → Progress) (t n u : ℕ) → IsSome (moved at t (idle (n + 1)) u).made → ((u ≡ t → ⊥) × IsSome (at u).made)
touch_holds at t n u some = elim (where_moved at t (idle (n + 1)) u) [
  | inl here ↦ absurd (not_some (moved at t (idle (n + 1)) u).made (ap (λ (x : Progress). x.made) here.1) some)
  | inr away ↦ (away.0, subst (λ (x : Progress). IsSome x.made) away.1 some)
]

-- another thread is where it was
pub other_where : (at : ℕ → Progress) (t u : ℕ) (p : Progress) → (u ≡ t → ⊥) → moved at t p u ≡ at u
other_where at t u p apart = elim (where_moved at t p u) [ inl here ↦ absurd (apart here.0) | inr away ↦ away.1 ]

-- the tree is held as before
pub touch_alone : (j : JournalsValue) (at : ℕ → Progress) (slices : List (List SliceEntry)) (t n : ℕ) → IsAlone j at → IsAlone (with_slices j slices) (moved at t (idle (n + 1)))
touch_alone j at slices t n alone =
    let p : Progress = idle (n + 1) in
    let back : (u : ℕ) → IsSome (moved at t p u).made → IsSome (at u).made = λ u some. (touch_holds at t n u some).1 in
    let same : (u : ℕ) → IsSome (moved at t p u).made → moved at t p u ≡ at u = λ u some. other_where at t u p (touch_holds at t n u some).0 in
    record {
      one = λ u v a b. alone.one u v (back u a) (back v b);
      some = λ u a. alone.some u (back u a);
      there = λ u k a last. subst (λ (x : Progress). (h : TreeEntryValue) × At j.tree k h × IsTrue (is_taken_from u x.next h)) (sym (same u a)) (alone.there u k (back u a) last);
      last = λ u k h a there taken. alone.last u k h (back u a) there (subst (λ (x : Progress). IsTrue (is_taken_from u x.next h)) (same u a) taken);
    }

-- what had begun outside the tree has begun
pub outside_begun : (n o : ℕ) (tag : Option Tag) → HasBegun (outside n tag) o → HasBegun (idle (n + 1)) o
outside_begun n o tag (inl less) = inl (omega (arith, less))
outside_begun n o tag (inr under) = absurd (not_some (outside n tag).made refl under.1)

-- nothing outside the tree is under way
pub outside_under : (n o : ℕ) (tag : Option Tag) → IsUnderWay (outside n tag) o → ⊥
outside_under n o tag under = not_some (outside n tag).made refl under.1

-- entries are of ops that have begun
pub touch_begun : (script : ScriptValue) (j : JournalsValue) (at : ℕ → Progress) (phase t n task cpu addr : ℕ) (tag : Tag) (e : SliceEntry) (slices : List (List SliceEntry))
    → IsTouched script j at phase t n task cpu addr tag e slices → IsFree at j.tree tag.epoch → AreOfBegun j at → AreOfBegun (with_slices j slices) (moved at t (idle (n + 1)))
touch_begun script j at phase t n task cpu addr tag e slices touch free begun =
    let p : Progress = idle (n + 1) in
    let slice : ℕ = slice_of_line script.machine (domain_of script.machine cpu) (line_of addr) in
    let keep : (u o : ℕ) → HasBegun (at u) o → HasBegun (moved at t p u) o = λ u o had.
    moved-holds (λ u x. HasBegun x o) at t p (λ h. outside_begun n o (Some tag) (subst (λ x. HasBegun x o) touch.place h)) u had in
    let under : (u o : ℕ) → IsUnderWay (at u) o → IsUnderWay (moved at t p u) o = λ u o had.
    moved-holds (λ u x. IsUnderWay x o) at t p (λ h. absurd (outside_under n o (Some tag) (subst (λ x. IsUnderWay x o) touch.place h))) u had in
    let still_free : (epoch : ℕ) → IsFree at j.tree epoch → IsFree (moved at t p) j.tree epoch = λ epoch f. record { within = f.within; before = λ u some. f.before u (touch_holds at t n u some).1 } in
    let mine : HasBegun (moved at t p e.thread) e.op =
    subst (λ u. HasBegun (moved at t p u) e.op) (sym touch.pays.thread) (subst (λ x. HasBegun x e.op) (sym (moved-own at t p)) (inl (omega (arith, touch.pays.op)))) in
    record {
      commands = λ q h there. keep h.thread h.op (begun.commands q h there);
      entries = λ i q x there. elim (stood j slices slice e touch.adds i q x there) [
        | inl old ↦ keep x.thread x.op (begun.entries i q x old)
        | inr new ↦ subst (λ (y : SliceEntry). HasBegun (moved at t p y.thread) y.op) (sym new.2) mine
      ];
      epochs = λ i q x there. elim (stood j slices slice e touch.adds i q x there) [
        | inl old ↦ begun.epochs i q x old
        | inr new ↦ omega (arith, free.within, touch.epoch, ap (λ (y : SliceEntry). y.epoch) new.2)
      ];
      others = λ i q x there apart. elim (stood j slices slice e touch.adds i q x there) [
        | inl old ↦ still_free x.epoch (begun.others i q x old (λ h. apart (under x.thread x.op h)))
        | inr new ↦ still_free x.epoch (subst (λ epoch. IsFree at j.tree epoch) (sym (ap (λ (y : SliceEntry). y.epoch) new.2 ∙ touch.epoch)) free)
      ];
    }

-- the op had not begun
pub touch_fresh : (script : ScriptValue) (j : JournalsValue) (at : ℕ → Progress) (phase t n task cpu addr : ℕ) (tag : Tag) (e : SliceEntry) (slices : List (List SliceEntry))
    → IsTouched script j at phase t n task cpu addr tag e slices → HasBegun (at t) n → ⊥
touch_fresh script j at phase t n task cpu addr tag e slices touch has =
    idle_not_begun (at t) n (sym (ap (λ (y : Progress). y.next) touch.place)) (ap (λ (y : Progress). y.made) touch.place) has

-- entries stay true
pub touch_true : (script : ScriptValue) (j : JournalsValue) (at : ℕ → Progress) (phase t n task cpu addr : ℕ) (tag : Tag) (e : SliceEntry) (slices : List (List SliceEntry))
    → IsTouched script j at phase t n task cpu addr tag e slices → IsFree at j.tree tag.epoch → AreOfBegun j at → AreTrue script j → AreTrue script (with_slices j slices)
touch_true script j at phase t n task cpu addr tag e slices touch free begun are =
    let slice : ℕ = slice_of_line script.machine (domain_of script.machine cpu) (line_of addr) in
    let is_op : op_at script e.thread e.op ≡ Some (Access task cpu addr) = rw (touch.pays.thread, touch.pays.op) touch.is_op in
    let owed : paid_by e ≡ owed_by_access script j.tree e.epoch task cpu addr = touch.pays.owed ∙ ap (λ epoch. owed_by_access script j.tree epoch task cpu addr) (sym touch.epoch) in
    let its : IsTrueTo script j.tree slice e (Some (Access task cpu addr)) = (omega (arith, free.within, touch.epoch), owed) in
    let own : IsTrueTo script j.tree slice e (op_at script e.thread e.op) = subst (λ o. IsTrueTo script j.tree slice e o) (sym is_op) its in
    AreTrue-each script (with_slices j slices)
    (λ i p x there. elim (stood j slices slice e touch.adds i p x there) [
      | inl old ↦ IsTrueTo-at script j are i p x old
      | inr new ↦ subst (λ (y : SliceEntry). IsTrueTo script j.tree i y (op_at script y.thread y.op)) (sym new.2) (subst (λ q. IsTrueTo script j.tree q e (op_at script e.thread e.op)) (sym new.0) own)
    ])
    (behind_entry j slices slice e touch.adds
    (fresh_comes_late j at e begun
    (λ has. touch_fresh script j at phase t n task cpu addr tag e slices touch
    (subst (λ v. HasBegun (at v) n) touch.pays.thread (subst (λ o. HasBegun (at e.thread) o) touch.pays.op has))))
    are.after_commands)

-- it makes one entry in its slice
pub touch_makes : (script : ScriptValue) (j : JournalsValue) (at : ℕ → Progress) (phase t n task cpu addr : ℕ) (tag : Tag) (e : SliceEntry) (slices : List (List SliceEntry)) (i : ℕ)
    → IsTouched script j at phase t n task cpu addr tag e slices → AreOfBegun j at → Makes script (with_slices j slices) i t n (Access task cpu addr) (filter (is_made_by t n) (get_or slices i []))
touch_makes script j at phase t n task cpu addr tag e slices i touch begun =
    let slice : ℕ = slice_of_line script.machine (domain_of script.machine cpu) (line_of addr) in
    let mine : is_made_by t n e ≡ true = both_eqb-same e.thread t e.op n touch.pays.thread touch.pays.op in
    let none : filter (is_made_by t n) (slice_at j i) ≡ [] = filter-none_at (is_made_by t n) (slice_at j i)
    (λ q x there. fails (is_made_by t n x)
    (λ its.
    let is = both_eqb-true x.thread t x.op n its in
    touch_fresh script j at phase t n task cpu addr tag e slices touch
    (subst (λ v. HasBegun (at v) n) is.0 (subst (λ o. HasBegun (at x.thread) o) is.1 (begun.entries i q x there))))) in
    let one : length (only slice e i) ≡ one_if (i == slice) = elim (cases_Bool (i == slice)) [ inl here ↦ rw here refl | inr away ↦ rw away refl ] in
    ap length (made_one_more j slices slice e touch.adds i t n mine) ∙ (ap (λ es. length (es ++ only slice e i)) none ∙ one)
