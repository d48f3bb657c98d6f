-- The views of a journal's own seat and of a pass between two calls, and what a call changes in them.
use Rattle.std.specs.Prelude.{◌≡◌, ℕ, ◌≤◌, List, [], ◌∷◌, ◌++◌, length, slice_index_or}
use Rattle.seen_journal.specs.Entries.{entries_of}
use Rattle.seen_journal.specs.Prefixes.{IsPrefix}
use Rattle.seen_journal.specs.declared.role.Role.TheVariants.{Own, Pass}
use Rattle.seen_journal.specs.declared.view.View.{View}

module _ {E : Type 0} where
  -- the view of the journal's own seat
  pub record IsJournal (v : View E) : Type 0 where
    pub role : v.role ≡ Own
    pub older : v.older ≡ []

  -- the view of a pass, which has seen all that it asked for
  pub record IsPass (v : View E) : Type 0 where
    pub role : v.role ≡ Pass
    pub older : v.older ≡ []
    pub asked : entries_of v.number v.seen ≡ v.asked
    pub quota : length v.asked ≤ slice_index_or v.quotas v.number 0

  -- the journal's seat has added this entry of a pass
  pub record Grows (old new : View E) (number : ℕ) (e : E) : Type 0 where
    pub kept : IsJournal new
    pub quotas : new.quotas ≡ old.quotas
    pub seen : new.seen ≡ old.seen ++ (number, e) ∷ []

  -- the pass has one entry more, this one, and has seen this list
  pub record Gains (old new : View E) (seen : List (ℕ × E)) (e : E) : Type 0 where
    pub kept : IsPass new
    pub quotas : new.quotas ≡ old.quotas
    pub number : new.number ≡ old.number
    pub asked : new.asked ≡ old.asked ++ e ∷ []
    pub seen_are : new.seen ≡ seen

  -- the journal's seat has added nothing, and no pass has more entries than its quota
  pub record Rests (old new : View E) : Type 0 where
    pub kept : IsJournal new
    pub quotas : new.quotas ≡ old.quotas
    pub seen : new.seen ≡ old.seen
    pub bound : (n : ℕ) → length (entries_of n old.seen) ≤ slice_index_or old.quotas n 0

  -- the pass has seen this list, and has added nothing
  pub record Sees (old new : View E) (seen : List (ℕ × E)) : Type 0 where
    pub kept : IsPass new
    pub quotas : new.quotas ≡ old.quotas
    pub number : new.number ≡ old.number
    pub asked : new.asked ≡ old.asked
    pub seen_are : new.seen ≡ seen
    pub prefix : IsPrefix old.seen new.seen
