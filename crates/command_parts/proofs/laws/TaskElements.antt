-- The elements of a text of tasks, and the moves that they make.
use Rattle.std.proofs.Common.{◌≡◌, ℕ, ◌^◌, Bool, true, false, cond, List, [], ◌∷◌, length, Option, None, Some, refl, sym, ap, ◌∙◌}
use Rattle.std.specs.List.{after_first, before_first, list_any, onto_first, slice_split}
use Rattle.std.proofs.lemmas.List.{length-map}
use Rattle.cpu_lists.specs.Masks.{comma}
use Rattle.group_tree.specs.declared.group_kind.GroupKind.{GroupKind}
use Rattle.lists.proofs.Cuts.{slice_split-none, slice_split-some}
use Rattle.num_text.specs.Blanks.{trim}
use Rattle.num_text.specs.Numbers.{below, dec_of}
use Rattle.rc_base.specs.declared.names.Gid.{Gid}
use Rattle.task_binding.specs.Bindings.{is_of}
use Rattle.task_binding.specs.declared.binding.Binding.{Binding}
use Rattle.tree_law.specs.Refusals.{Refusal}
use Rattle.tree_law.specs.Steps.{left}
use Rattle.tree_law.specs.commands.Tasks.{against_task, elements, in_group, moved, moves, or_ended, task_in, without_empty_last}

-- ---- the elements of a text

-- the number that an element names
pub task_in-read : (element trimmed : List ℕ) (o : Option ℕ) → trimmed ≡ trim element → o ≡ below (2 ^ 64) (dec_of trimmed) → task_in element ≡ o
unfolding task_in
task_in-read element trimmed o is read = sym (read ∙ ap (λ (text : List ℕ). below (2 ^ 64) (dec_of text)) is)

-- the elements of what is left of a text
abbrev pub pieces : List ℕ → List (List ℕ)
pieces left = without_empty_last (slice_split comma left)

-- at first the whole text is left
pub pieces-elements : (text left : List ℕ) → left ≡ trim text → pieces left ≡ elements text
unfolding elements
pieces-elements text left is = ap pieces is

-- there is a first piece
slice_split-first : (p : ℕ → Bool) (xs : List ℕ) → (y : List ℕ) × (ys : List (List ℕ)) × (slice_split p xs ≡ y ∷ ys)
slice_split-first p [] = ([], [], refl)
slice_split-first p (x ∷ xs) = at (p x) (slice_split-first p xs)
  where
    at : (b : Bool) → ((y : List ℕ) × (ys : List (List ℕ)) × (slice_split p xs ≡ y ∷ ys)) → (y : List ℕ) × (ys : List (List ℕ)) × (cond b ([] ∷ slice_split p xs) (onto_first x (slice_split p xs)) ≡ y ∷ ys)
    at true rest = ([], slice_split p xs, refl)
    at false rest = (x ∷ rest.0, rest.1, ap (onto_first x) rest.2)

-- before a comma stands one piece
pub pieces-more : (left : List ℕ) → list_any comma left ≡ true → pieces left ≡ before_first comma left ∷ pieces (after_first comma left)
pieces-more left some = ap without_empty_last (slice_split-some comma left some) ∙ at (slice_split-first comma (after_first comma left))
  where
    at : ((y : List ℕ) × (ys : List (List ℕ)) × (slice_split comma (after_first comma left) ≡ y ∷ ys)) → without_empty_last (before_first comma left ∷ slice_split comma (after_first comma left)) ≡ before_first comma left ∷ pieces (after_first comma left)
    at rest = rw rest.2 (two (before_first comma left) rest.0 rest.1)
      where
        two : (x y : List ℕ) (more : List (List ℕ)) → without_empty_last (x ∷ y ∷ more) ≡ x ∷ without_empty_last (y ∷ more)
        two [] y more = refl
        two (b ∷ bs) y more = refl

-- without one there is at most the whole
pub pieces-last : (left : List ℕ) → list_any comma left ≡ false → pieces left ≡ without_empty_last (left ∷ [])
pieces-last left none = ap without_empty_last (slice_split-none comma left none)

-- ---- the moves of tasks

module _ (gid : Gid) (kind : GroupKind) (e : List ℕ) (es : List (List ℕ)) (bindings : List Binding) where
  -- what is against the first ends them
  pub moves-ended : (r : Refusal) → against_task kind bindings (task_in e) ≡ Some r → moves gid kind (e ∷ es) bindings ≡ record { tasks = bindings; ended = Some r }
  moves-ended r is = rw is refl

  -- and where nothing is, the first moves
  pub moves-moved : against_task kind bindings (task_in e) ≡ None → moves gid kind (e ∷ es) bindings ≡ moves gid kind es (moved gid kind (task_in e) bindings)
  moves-moved none = rw none refl

-- an element that is not empty stays
pub without_empty_last-one : (e : List ℕ) → (e ≡ [] → ⊥) → without_empty_last (e ∷ []) ≡ e ∷ []
without_empty_last-one [] some = absurd (some refl)
without_empty_last-one (b ∷ bs) some = refl

-- ---- how many tasks there are

-- changes leave as many
pub length-moves : (gid : Gid) (kind : GroupKind) (es : List (List ℕ)) (bindings : List Binding) → length (moves gid kind es bindings).tasks ≡ length bindings
length-moves gid kind [] bindings = refl
length-moves gid kind (e ∷ es) bindings = at (against_task kind bindings (task_in e)) (length-moves gid kind es (moved gid kind (task_in e) bindings) ∙ one (task_in e))
  where
    one : (task : Option ℕ) → length (moved gid kind task bindings) ≡ length bindings
    one None = refl
    one (Some task) = length-map bindings (λ (b : Binding). cond (is_of task b) (in_group gid kind b) b)

    at : (o : Option Refusal) → length (moves gid kind es (moved gid kind (task_in e) bindings)).tasks ≡ length bindings → length (or_ended o bindings (moves gid kind es (moved gid kind (task_in e) bindings))).tasks ≡ length bindings
    at None rest = rest
    at (Some r) rest = refl
