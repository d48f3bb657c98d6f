-- What is told of the touch of the entry at a position.
use Rattle.std.proofs.Common.{◌≡◌, ℕ, ◌<◌, Bool, List, length, map, get_or, Option, None, sym, subst}
use Rattle.std.specs.Prelude.{slice_index_or}
use Rattle.run_counts.proofs.TouchHits.{At-entry}
use Rattle.run_counts.specs.Touches.{TellTouches, TellsTouch}
use Rattle.run_law.specs.Entries.{entry_value}
use Rattle.run_law.specs.Journals.{At, JournalsValue}
use Rattle.run_law.specs.declared.journals.TreeEntry.{TreeEntry}

-- what the touches of a run tell at the position of an entry is what the journals say of its access
pub TellsTouch-entry : (j : JournalsValue) (es : List TreeEntry) (k : ℕ) (e : TreeEntry) (hits : List (Option Bool)) (hit : Option Bool) → map entry_value es ≡ j.tree → TellTouches j hits → k < length es → e ≡ get_or es k e
    → hit ≡ slice_index_or hits k None → TellsTouch j (entry_value e) hit
TellsTouch-entry j es k e hits hit is told within at same =
    let there : At j.tree k (entry_value e) = subst (λ tree. At tree k (entry_value e)) is (At-entry es k e within at) in
    subst (TellsTouch j (entry_value e)) (sym same) (told k (entry_value e) there)
