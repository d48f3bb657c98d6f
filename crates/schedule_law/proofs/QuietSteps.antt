-- The happenings that leave what every thread may read of the tree.
use Rattle.std.proofs.Common.{◌≡◌, ℕ, ◌+◌, ◌*◌, List, [], ◌∷◌, length, map, Option, refl}
use Rattle.run_law.specs.Entries.{entry_value}
use Rattle.run_law.specs.declared.journals.TreeEntry.{TreeEntry}
use Rattle.schedule_law.specs.LiveParts.{after, happening_of, live_history_after, shown}
use Rattle.schedule_law.specs.Parts.{held, holder_after}
use Rattle.schedule_law.specs.declared.part.Happening.{Happening}
use Rattle.schedule_law.specs.declared.part.Part.{Part}
use Rattle.schedule_law.specs.declared.part.Part.TheVariants as parts
use Rattle.shared_parts.specs.Parts.{IsQuiet}

module _ (e : Happening) (same_history : (hs : List TreeEntry) → live_history_after e hs ≡ hs) (same_holder : (holder : Option ℕ) → holder_after (happening_of e) holder ≡ holder) where
  same_shown : (k : ℕ) (x : Part) → shown (after e k x) ≡ shown x
  same_shown k (parts.Tree history holder) = λ j. 2 * length (map entry_value (same_history history j)) + held (same_holder holder j)
  same_shown k (parts.Slice list) = refl
  same_shown k (parts.Worker thread begun found given) = refl
  same_shown k (parts.Phase number ended) = refl

  -- one that leaves its history and who holds it
  pub quiet_step : (xs : List (ℕ × Part)) → IsQuiet shown after e xs
  quiet_step [] = tt
  quiet_step (x ∷ xs) = ((λ _. same_shown x.0 x.1), quiet_step xs)
