-- Each command was given what its looks counted, also with one entry more.
use Rattle.std.proofs.Common.{◌≡◌, ℕ, false, inl, inr, List, [], ◌∷◌, ◌++◌, map, take, get_or, Option, Some, None, refl, sym, ap, ◌∙◌, subst, arith}
use Rattle.std.specs.Prelude.{◌==◌, if◌then◌else◌}
use Rattle.std.specs.List.{range_with_len}
use Rattle.std.proofs.lemmas.Bool.{cases_Bool}
use Rattle.std.proofs.lemmas.List.{append-nil, take-append-le}
use Rattle.std.proofs.lemmas.Option.{slice_get_within}
use Rattle.std.proofs.Math.Seq.{take-append_seam}
use Rattle.cache_core.specs.declared.entry.SliceEntry.{SliceEntry}
use Rattle.cache_core.specs.declared.entry.What.{What}
use Rattle.cache_core.specs.declared.entry.What.TheVariants as whats
use Rattle.machine.specs.declared.parameters.Parameters.{Parameters}
use Rattle.run_law.specs.Looks.{AreMatched, first_look, first_of, lines_looked, look_number, needs_of, sum_of_all}
use Rattle.run_law.specs.Journals.{At, JournalsValue, slice_at}
use Rattle.run_law.specs.Truth.{is_made_by}
use Rattle.run_law.specs.Owed.{undecided}
use Rattle.machine.specs.Slices.{slice_number}
use Rattle.run_law.specs.TreeHistory.{TreeEntryValue, tree_after}
use Rattle.script_ops.specs.Values.{ScriptValue, op_at}
use Rattle.run_law.proofs.laws.GrownLists.{Adds, at_push, with_slices, with_tree}

-- this entry is no look of the op
abbrev pub NoLook : ℕ → ℕ → SliceEntry → Type 0
NoLook t n e = (rmid : ℕ) → (if is_made_by t n e then look_number rmid e.what else None) ≡ None

-- an entry of another op is no look of it
pub not_by : (t n : ℕ) (e : SliceEntry) → is_made_by t n e ≡ false → NoLook t n e
not_by t n e other rmid = rw other refl

-- an entry that is no look
pub not_look : (t n : ℕ) (e : SliceEntry) → ((rmid : ℕ) → look_number rmid e.what ≡ None) → NoLook t n e
not_look t n e none rmid = elim (cases_Bool (is_made_by t n e)) [ inl mine ↦ rw mine (none rmid) | inr other ↦ rw other refl ]

-- an entry is a look where what it pays is one
pub look_by_owed : (rmid : ℕ) (w : What) → look_number rmid (undecided w) ≡ None → look_number rmid w ≡ None
look_by_owed rmid (whats.Access hit way owner r mask line) none = refl
look_by_owed rmid whats.Raise none = refl
look_by_owed rmid whats.Flush none = refl
look_by_owed rmid (whats.Lock mask first_line) none = refl
look_by_owed rmid (whats.Drop line at) none = refl
look_by_owed rmid (whats.Look r lines) none = elim (cases_Bool (r == rmid)) [
  | inl same ↦ absurd (let wrong : Some 0 ≡ None = rw same at none in cc)
  | inr other ↦ rw other refl
]

-- the first look of a longer list
pub first_look_push : (t n rmid : ℕ) (xs : List SliceEntry) (e : SliceEntry) → first_look t n rmid (xs ++ e ∷ []) ≡ first_of (first_look t n rmid xs) (if is_made_by t n e then look_number rmid e.what else None)
first_look_push t n rmid [] e = first_of_none (if is_made_by t n e then look_number rmid e.what else None)
  where
    first_of_none : (o : Option ℕ) → first_of o None ≡ o
    first_of_none None = refl
    first_of_none (Some x) = refl
first_look_push t n rmid (x ∷ xs) e =
    let head : Option ℕ = if is_made_by t n x then look_number rmid x.what else None in
    let tail : Option ℕ = first_look t n rmid xs in
    let last : Option ℕ = if is_made_by t n e then look_number rmid e.what else None in
    ap (first_of head) (first_look_push t n rmid xs e) ∙ first_of_first head tail last
  where
    first_of_first : (a b c : Option ℕ) → first_of a (first_of b c) ≡ first_of (first_of a b) c
    first_of_first None b c = refl
    first_of_first (Some x) b c = refl

-- the first of one
first_of_none : (o : Option ℕ) → first_of o None ≡ o
first_of_none None = refl
first_of_none (Some x) = refl

-- what is no look of the op leaves its first looks
pub first_look_same : (j : JournalsValue) (slices : List (List SliceEntry)) (i : ℕ) (e : SliceEntry) (t n rmid k : ℕ) → Adds j slices i e → NoLook t n e
    → first_look t n rmid (slice_at j k) ≡ first_look t n rmid (get_or slices k [])
first_look_same j slices i e t n rmid k adds none = elim (cases_Bool (k == i)) [
  | inl here ↦
      let now : get_or slices k [] ≡ slice_at j k ++ e ∷ [] = adds k ∙ (rw here refl) in
      sym (ap (first_look t n rmid) now ∙ (first_look_push t n rmid (slice_at j k) e ∙ (ap (first_of (first_look t n rmid (slice_at j k))) (none rmid) ∙ first_of_none (first_look t n rmid (slice_at j k)))))
  | inr away ↦
      let now : get_or slices k [] ≡ slice_at j k = adds k ∙ (rw away (append-nil (slice_at j k))) in
      sym (ap (first_look t n rmid) now)
]

-- functions that agree have the same map
same_map : {A B : Type 0} (f g : A → B) (xs : List A) → ((x : A) → f x ≡ g x) → map f xs ≡ map g xs
same_map f g [] each = refl
same_map f g (x ∷ xs) each = rw (each x) (ap (λ ys. g x ∷ ys) (same_map f g xs each))

-- what the looks of a command counted
pub lines_same : (script : ScriptValue) (j : JournalsValue) (slices : List (List SliceEntry)) (i : ℕ) (e : SliceEntry) (h : TreeEntryValue) (need : ℕ × ℕ) → Adds j slices i e → NoLook h.thread h.op e
    → lines_looked script j h need ≡ lines_looked script (with_slices j slices) h need
lines_same script j slices i e h need adds none =
    let m : Parameters = script.machine in
    ap sum_of_all (same_map (λ x. first_look h.thread h.op need.1 (slice_at j (slice_number m need.0 x))) (λ x. first_look h.thread h.op need.1 (get_or slices (slice_number m need.0 x) [])) (range_with_len 0 m.slices)
    (λ x. first_look_same j slices i e h.thread h.op need.1 (slice_number m need.0 x) adds none))

-- an entry that is no look of a command that was decided
pub matched_entry : (script : ScriptValue) (j : JournalsValue) (slices : List (List SliceEntry)) (i : ℕ) (e : SliceEntry) → Adds j slices i e
    → ((k : ℕ) (h : TreeEntryValue) → At j.tree k h → NoLook h.thread h.op e) → AreMatched script j → AreMatched script (with_slices j slices)
matched_entry script j slices i e adds none matched k h there =
    matched k h there
    ∙ same_map (lines_looked script j h) (lines_looked script (with_slices j slices) h) (needs_of script.machine (tree_after script (take k j.tree)) (op_at script h.thread h.op))
    (λ need. lines_same script j slices i e h need adds (none k h there))

-- a command that is given what its looks counted
pub matched_command : (script : ScriptValue) (j : JournalsValue) (h : TreeEntryValue)
    → map (λ n. Some n) h.looks ≡ map (lines_looked script j h) (needs_of script.machine (tree_after script j.tree) (op_at script h.thread h.op))
    → AreMatched script j → AreMatched script (with_tree j (j.tree ++ h ∷ []))
matched_command script j h given matched k x there = elim (at_push j.tree h k x there) [
  | inl old ↦
      let within = slice_get_within j.tree k x old in
      let same : take k (j.tree ++ h ∷ []) ≡ take k j.tree = take-append-le k j.tree (h ∷ []) (omega (arith, within)) in
      subst (λ hs. map (λ n. Some n) x.looks ≡ map (lines_looked script j x) (needs_of script.machine (tree_after script hs) (op_at script x.thread x.op))) (sym same) (matched k x old)
  | inr new ↦
      let same : take k (j.tree ++ h ∷ []) ≡ j.tree = ap (λ q. take q (j.tree ++ h ∷ [])) new.0 ∙ take-append_seam j.tree (h ∷ []) in
      subst (λ (y : TreeEntryValue). map (λ n. Some n) y.looks ≡ map (lines_looked script j y) (needs_of script.machine (tree_after script (take k (j.tree ++ h ∷ []))) (op_at script y.thread y.op))) (sym new.1)
      (subst (λ hs. map (λ n. Some n) h.looks ≡ map (lines_looked script j h) (needs_of script.machine (tree_after script hs) (op_at script h.thread h.op))) (sym same) given)
]
