-- The journals of a run have a text.
use Rattle.std.proofs.Common.{◌≡◌, ℕ, zero, suc, ◌<◌, List, [], ◌∷◌, length, get_or, refl, subst, arith}
use Rattle.std.specs.List.{All}
use Rattle.std.proofs.lemmas.Option.{get_or_from_slice_get, slice_get_within}
use Rattle.cache_core.specs.declared.entry.SliceEntry.{SliceEntry}
use Rattle.journal_text.specs.Writable.{IsWritableCommand, IsWritableEntry, IsWritableSlice}
use Rattle.run_law.specs.Journals.{At, slice_at}
use Rattle.script_ops.specs.Values.{total_weight}
use Rattle.check_parts.proofs.Commands.{IsWritableCommand-at}
use Rattle.check_parts.proofs.Entries.{IsWritableEntry-at}
use Rattle.check_parts.proofs.Numbers.{length-slice_at}
use Rattle.check_parts.specs.Law.{RunsAreWritable}

-- what is read at a place stands there
At-get_or : {X : Type 0} (xs : List X) (k : ℕ) (d : X) → k < length xs → At xs k (get_or xs k d)
At-get_or [] k d within = absurd (omega (arith, within))
At-get_or (x ∷ xs) zero d within = refl
At-get_or (x ∷ xs) (suc k) d within = At-get_or xs k d (omega (arith, within))

-- what holds of what stands at each place holds of all
All-from_at : {X : Type 0} (P : X → Type 0) (xs : List X) → ((k : ℕ) (x : X) → At xs k x → P x) → All P xs
All-from_at P xs each = λ k d within. each k (get_or xs k d) (At-get_or xs k d within)

-- the journals of a run have a text
pub runs_are_writable : RunsAreWritable
runs_are_writable script j lawful run = record {
  all = run.all_slices;
  tree = All-from_at (IsWritableCommand (total_weight script)) j.tree (IsWritableCommand-at script j lawful run);
  slices = slice;
}
  where
    slice : (i : ℕ) (entries : List SliceEntry) → At j.slices i entries → IsWritableSlice script.machine (total_weight script) i entries
    slice i entries there =
        let within = slice_get_within j.slices i entries there in
        let exists : i < _ = omega (arith, within, run.all_slices) in
        let same : slice_at j i ≡ entries = get_or_from_slice_get j.slices i entries [] there in
        subst (IsWritableSlice script.machine (total_weight script) i) same (record {
          few = length-slice_at script j lawful run i exists;
          each = All-from_at (IsWritableEntry script.machine i) (slice_at j i) (IsWritableEntry-at script j lawful run i exists);
        })
