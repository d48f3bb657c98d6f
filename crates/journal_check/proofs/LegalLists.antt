-- Lists of entries that are legal, entry by entry.
use Rattle.std.proofs.Common.{◌≡◌, ℕ, ◌+◌, ◌<◌, false, List, [], ◌∷◌, ◌++◌, length, get_or, take, sym, subst}
use Rattle.std.proofs.lemmas.List.{take_more}
use Rattle.cache_core.proofs.laws.Histories.{IsLegal-push}
use Rattle.cache_core.specs.History.{EntryMayFollow, IsLegal, Shape}
use Rattle.cache_core.specs.declared.entry.SliceEntry.{SliceEntry}
use Rattle.cache_core.specs.declared.entry.What.TheVariants.{Access}
use Rattle.rc_base.proofs.laws.Histories.{EachFollows-at}
use Rattle.journal_check.specs.Replays.{StandsFor}
use Rattle.journal_check.specs.declared.replay.Replay.{Replay}

-- an entry of no list
abbrev pub no_entry : SliceEntry
no_entry = record { thread = 0; op = 0; epoch = 0; what = Access false 0 (record { 0 = 0 }) 0 0 0 }

-- what stands for a shape stands for the shape that it has
pub StandsFor-own : (m : Shape) (es : List SliceEntry) (r : Replay) → StandsFor m es r → StandsFor r.slots.shape es r
StandsFor-own m es r stands = subst (λ k. StandsFor k es r) (sym stands.shape) stands

module _ (m : Shape) (es : List SliceEntry) (k : ℕ) (within : k < length es) where
  -- the first entries and one more
  pub take-next : take k es ++ get_or es k no_entry ∷ [] ≡ take (k + 1) es
  take-next = sym (take_more es k no_entry within)

  -- an entry of a legal list may follow those before it
  pub EntryMayFollow-at : IsLegal m es → EntryMayFollow m (take k es) (get_or es k no_entry)
  EntryMayFollow-at legal = EachFollows-at (EntryMayFollow m) es k no_entry legal within

  -- and where it may, the list that it ends is legal
  pub IsLegal-next : IsLegal m (take k es) → EntryMayFollow m (take k es) (get_or es k no_entry) → IsLegal m (take (k + 1) es)
  IsLegal-next legal may = subst (IsLegal m) take-next (IsLegal-push m (take k es) (get_or es k no_entry) legal may)
