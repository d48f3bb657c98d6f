-- Ranges of tasks in any order.
use Rattle.std.proofs.Common.{◌≡◌, ℕ, ◌≤◌, Bool, true, false, cond, ◌++◌, List, [], ◌∷◌, Option, Some, None, IfSome, option_and_then, refl, sym, subst, ◌∙◌, inl, inr, append_assoc}
use Rattle.std.specs.List.{list_any, All, before_first, after_first}
use Rattle.std.proofs.lemmas.Bool.{cases_lt, lt-ltb, le-ltb}
use Rattle.std.proofs.lemmas.List.{append-nil}
use Rattle.std.proofs.lemmas.List.Elements.{All-nil, All-cons}
use Rattle.num_text.specs.Signs.{dash}
use Rattle.script_lines.specs.declared.tasks.TaskRange.{TaskRange}
use Rattle.script_lines.specs.Tasks.{meets, with_range, id_of, tasks_of, range_of, ranges_from, declared_from}

-- a range has a task or more
abbrev pub IsOrdered : TaskRange → Type 0
IsOrdered t = t.first ≤ t.last

-- ---- the words of a line, and their ranges

-- these and more ranges, each in its place, where none meets one before it
unfoldable pub with_all : List TaskRange → List TaskRange → Option (List TaskRange)
with_all all [] = Some all
with_all all (t ∷ ts) = cond (list_any (meets t) all) None (with_all (with_range t all) ts)

-- what words declare, by the ranges that they add to others
abbrev pub Adds : List TaskRange → List (List ℕ) → Option (List TaskRange) → Type 0
Adds raw words None = (all : List TaskRange) → declared_from all words ≡ None
Adds raw words (Some more) = (ts : List TaskRange) × (more ≡ raw ++ ts) × All IsOrdered ts × ((all : List TaskRange) → declared_from all words ≡ with_all all ts)

-- a range from one task to another
IfSome-range_of : (first last : ℕ) → IfSome (range_of first last) IsOrdered
IfSome-range_of first last = elim (cases_lt last first) [
  | inl lt ↦ rw (lt-ltb last first lt) tt
  | inr ge ↦ rw (le-ltb last first ge) ge
]

-- what follows a value
IfSome-and_then : {A : Type 0} (f : A → Option TaskRange) (o : Option A) → ((x : A) → IfSome (f x) IsOrdered) → IfSome (option_and_then f o) IsOrdered
IfSome-and_then f None h = tt
IfSome-and_then f (Some x) h = h x

-- the tasks of a word
IfSome-tasks_of : (word : List ℕ) → IfSome (tasks_of word) IsOrdered
unfolding tasks_of
IfSome-tasks_of word = at (list_any dash word)
  where
    at : (b : Bool) → IfSome (cond b (option_and_then (λ first. option_and_then (λ last. range_of first last) (id_of (after_first dash word))) (id_of (before_first dash word))) (option_and_then (λ id. range_of id id) (id_of word))) IsOrdered
    at true = IfSome-and_then _ (id_of (before_first dash word)) (λ first. IfSome-and_then _ (id_of (after_first dash word)) (λ last. IfSome-range_of first last))
    at false = IfSome-and_then _ (id_of word) (λ id. IfSome-range_of id id)

-- the tasks of a word
pub IsOrdered-tasks_of : (word : List ℕ) (t : TaskRange) → tasks_of word ≡ Some t → IsOrdered t
IsOrdered-tasks_of word t e = subst (λ (o : Option TaskRange). IfSome o IsOrdered) e (IfSome-tasks_of word)

-- what words declare
pub Adds-ranges_from : (raw : List TaskRange) (words : List (List ℕ)) → Adds raw words (ranges_from raw words)
unfolding ranges_from declared_from with_all
Adds-ranges_from raw [] = ([], sym (append-nil raw), All-nil IsOrdered, λ all. refl)
Adds-ranges_from raw (word ∷ words) = at (λ t. Adds-ranges_from (raw ++ t ∷ []) words) (tasks_of word) refl
  where
    either : (b : Bool) (o : Option (List TaskRange)) → o ≡ None → cond b None o ≡ None
    either true o h = refl
    either false o h = h

    step : (t : TaskRange) → tasks_of word ≡ Some t → (o : Option (List TaskRange)) → Adds (raw ++ t ∷ []) words o → Adds raw (word ∷ words) o
    step t e None h = λ all. rw e (either (list_any (meets t) all) (declared_from (with_range t all) words) (h (with_range t all)))
    step t e (Some more) h = (t ∷ h.0, h.1 ∙ append_assoc raw (t ∷ []) h.0, All-cons IsOrdered t h.0 (IsOrdered-tasks_of word t e) h.2, λ all. rw (e, h.3 (with_range t all)) refl)

    at : ((t : TaskRange) → Adds (raw ++ t ∷ []) words (ranges_from (raw ++ t ∷ []) words)) → (o : Option TaskRange) → tasks_of word ≡ o → Adds raw (word ∷ words) (ranges_from raw (word ∷ words))
    at rest None e = rw e (λ all. rw e refl)
    at rest (Some t) e = rw e (step t e (ranges_from (raw ++ t ∷ []) words) (rest t))
