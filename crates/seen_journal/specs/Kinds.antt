-- The kinds of step that the seats of a journal take: what each does to the view of who takes it.
use Rattle.std.specs.Prelude.{◌≡◌, ℕ, ◌+◌, ◌<◌, ◌≤◌, [], ◌∷◌, ◌++◌, length, slice_index_or}
use mathlib.Core.Option.{some}
use Rattle.atomic_table.specs.Table.{Step, Me}
use Rattle.seen_journal.specs.Entries.{entries_of}
use Rattle.seen_journal.specs.Prefixes.{IsPrefix, longer_of}
use Rattle.seen_journal.specs.declared.role.Role.{Role}
use Rattle.seen_journal.specs.declared.role.Role.TheVariants.{Own, Pass, Note}
use Rattle.seen_journal.specs.declared.view.View.{View}

module _ {E : Type 0} where
  -- ask: the pass asks for one entry more, the one that the step says
  abbrev pub asked_more : Step E → Me E (View E) → ℕ → Me E (View E) → Type 0
  asked_more s me found now = (e : E) × (s.said ≡ some e) × (now ≡ (record me.0 { asked = me.0.asked ++ e ∷ [] }, me.1))

  -- add: the journal's own seat adds the next entry of its claim, the list that it knows a pass to have asked for
  abbrev pub added : Step E → Me E (View E) → ℕ → Me E (View E) → Type 0
  added s me found now = (e : E) × IsPrefix (entries_of me.0.number me.0.seen ++ e ∷ []) me.0.asked × (now ≡ (record me.0 { seen = me.0.seen ++ (me.0.number, e) ∷ [] }, me.1))

  -- What a load tells. Older lists begin what is seen, where they are not longer; those of the journal's own seat always do.
  -- What a pass has seen of its own it has asked for. No pass has more entries than its quota.
  pub record Learns (v : View E) : Type 0 where
    pub older : (k : ℕ) → k < length v.older → length (slice_index_or v.older k []) ≤ length v.seen → IsPrefix (slice_index_or v.older k []) v.seen
    pub own : v.role ≡ Own → (k : ℕ) → k < length v.older → IsPrefix (slice_index_or v.older k []) v.seen
    pub asked : v.role ≡ Pass → IsPrefix (entries_of v.number v.seen) v.asked
    pub bound : v.role ≡ Own → (n : ℕ) → length (entries_of n v.seen) ≤ slice_index_or v.quotas n 0

  -- the view without its older lists
  abbrev pub rested : View E → View E
  rested v = record v { older = [] }

  -- load: a look, which drops the older lists
  abbrev pub looked : Step E → Me E (View E) → ℕ → Me E (View E) → Type 0
  looked s me found now = Learns me.0 × (now ≡ (rested me.0, me.1))

  -- load: a count of the list, which is not shorter than what was seen
  abbrev pub counted : Step E → Me E (View E) → ℕ → Me E (View E) → Type 0
  counted s me found now = (length me.0.seen ≤ found) × (now ≡ me)

  -- enrol: the journal's own view once the next pass has its number, and that pass's view
  abbrev pub enrols : View E → View E
  enrols v = record v { next = v.next + 1 }

  abbrev pub enrolled : View E → View E
  enrolled v = record { role = Pass; number = v.next; next = 0; quotas = v.quotas; asked = []; seen = []; older = [] }

  -- split: what a note of a view says
  abbrev pub note_of : View E → View E
  note_of v = record { role = Note; number = v.number; next = 0; quotas = []; asked = v.asked; seen = v.seen; older = [] }

  -- join: the view once it has taken in a note. The journal's own seat takes over the claim, and a pass the longer list.
  abbrev pub told_as : Role → View E → View E → View E
  told_as Own v w = record v { number = w.number; asked = w.asked; older = w.seen ∷ v.older }
  told_as Pass v w = record v { seen = longer_of v.seen w.seen; older = v.seen ∷ (w.seen ∷ v.older) }
  told_as Note v w = v

  abbrev pub told : View E → View E → View E
  told v w = told_as v.role v w

  -- a note that was taken in
  abbrev pub spent : View E
  spent = record { role = Note; number = 0; next = 0; quotas = []; asked = []; seen = []; older = [] }
