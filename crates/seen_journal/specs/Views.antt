-- The rule of a journal's table: what holds of its word and of the views of all its seats.
use Rattle.std.specs.Prelude.{◌≡◌, ◌⊎◌, ℕ, ◌<◌, ◌≤◌, List, [], ◌∷◌, length, slice_index_or}
use mathlib.Core.Option.{some}
use lib.ListN.{get_elem?}
use Rattle.atomic_table.specs.Table.{State}
use Rattle.seen_journal.specs.Entries.{entries_of}
use Rattle.seen_journal.specs.Prefixes.{IsPrefix, ArePrefixes}
use Rattle.seen_journal.specs.declared.role.Role.TheVariants.{Own, Pass, Note}
use Rattle.seen_journal.specs.declared.view.View.{View}

module _ {E : Type 0} where
  -- some pass of this number has asked for these entries, and maybe for more
  abbrev pub Asks : List (View E) → ℕ → List E → Type 0
  Asks views n asked = (k : ℕ) × (u : View E) × (get_elem? views k ≡ some u) × (u.role ≡ Pass) × (u.number ≡ n) × IsPrefix asked u.asked

  -- what holds of the numbers of a view, where `next` is the number of the next pass
  pub record HasPlace (next : ℕ) (quotas : List ℕ) (v : View E) : Type 0 where
    pub next_is : v.role ≡ Own → v.next ≡ next
    pub number : v.role ≡ Pass → v.number < next
    pub quota : v.role ≡ Pass → length v.asked ≤ slice_index_or quotas v.number 0
    pub quotas_are : (v.role ≡ Note → ⊥) → v.quotas ≡ quotas

  -- what holds of each view, where `all` is the longest list
  pub record FitsList (next : ℕ) (quotas : List ℕ) (all : List (ℕ × E)) (views : List (View E)) (v : View E) : Type 0 where
    pub seen : IsPrefix v.seen all
    pub older : ArePrefixes v.older all
    pub own : v.role ≡ Own → v.seen ≡ all
    pub pass : v.role ≡ Pass → IsPrefix (entries_of v.number all) v.asked
    pub claim : (v.role ≡ Pass → ⊥) → (v.asked ≡ []) ⊎ Asks views v.number v.asked
    pub place : HasPlace next quotas v

  -- The word counts the longest list, and each view fits it. One seat is the journal's own, and no two passes have one number.
  -- No entry is of a number that is not given yet, and no pass has more entries than its quota.
  pub record IsKept (words : List ℕ) (views : List (View E)) : Type 0 where
    pub all : List (ℕ × E)
    pub next : ℕ
    pub quotas : List ℕ
    pub count : words ≡ length all ∷ []
    pub fits : (id : ℕ) (v : View E) → get_elem? views id ≡ some v → FitsList next quotas all views v
    pub one_own : (j k : ℕ) (v w : View E) → get_elem? views j ≡ some v → get_elem? views k ≡ some w → v.role ≡ Own → w.role ≡ Own → j ≡ k
    pub one_pass : (j k : ℕ) (v w : View E) → get_elem? views j ≡ some v → get_elem? views k ≡ some w → v.role ≡ Pass → w.role ≡ Pass → v.number ≡ w.number → j ≡ k
    pub fresh : (n : ℕ) → next ≤ n → entries_of n all ≡ []
    pub bound : (n : ℕ) → length (entries_of n all) ≤ slice_index_or quotas n 0

  -- the rule
  abbrev pub holds : State E (View E) → Type 0
  holds s = IsKept s.words s.views

  -- the view of the journal's own seat at the start
  abbrev pub first_view : List ℕ → View E
  first_view quotas = record { role = Own; number = 0; next = 0; quotas = quotas; asked = []; seen = []; older = [] }
