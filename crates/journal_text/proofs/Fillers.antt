-- What was read of a text can be gone on with: the entries still to come as those of no command, and the slices still to come empty.
use Rattle.std.proofs.Common.{◌≡◌, ℕ, zero, suc, ◌+◌, ◌-◌, List, [], ◌∷◌, ◌++◌, length, map, replicate, sym, ap, subst, ◌∙◌, arith, inl, inr, append_assoc, length-append}
use Rattle.std.specs.List.{All}
use Rattle.std.proofs.lemmas.List.{append-nil, length-replicate, map-append}
use Rattle.std.proofs.lemmas.List.Elements.{All-append, All-nil, All-replicate}
use Rattle.cache_core.specs.declared.entry.SliceEntry.{SliceEntry}
use Rattle.cache_core.specs.declared.entry.What.TheVariants.{Raise}
use Rattle.journal_text.specs.Lines.{entry_line, journal_lines, last_line, lines_from, slice_line}
use Rattle.journal_text.specs.Writable.{IsWritable, IsWritableCommand, IsWritableEntry, IsWritableSlice}
use Rattle.journal_text.proofs.SliceLines.{lines_from-append}
use Rattle.journal_text.specs.Readings.{Begins}
use Rattle.journal_text.specs.States.{Holds, HoldsJournals, HoldsSlices, HoldsTree, IsBefore, PartsRead, journals_in, tree_lines}
use Rattle.journal_text.specs.declared.line_position.LinePosition.{LinePosition}
use Rattle.journal_text.specs.declared.line_position.LinePosition.TheVariants.{Start, InTree, InSlice, Over}
use Rattle.machine.specs.Slices.{slice_count}
use Rattle.machine.specs.declared.parameters.Parameters.{Parameters}
use Rattle.run_law.specs.Journals.{At, JournalsValue}
use Rattle.run_law.specs.TreeHistory.{TreeEntryValue}
use Rattle.run_law.proofs.laws.Positions.{At-append}
use Rattle.script_ops.specs.Values.{ScriptValue, total_weight}

-- an entry that may stand in any slice
any_entry : SliceEntry
any_entry = record { thread = 0; op = 0; epoch = 0; what = Raise }

any_entry-writable : (m : Parameters) (i : ℕ) → IsWritableEntry m i any_entry
unfolding any_entry
any_entry-writable m i = record { thread = omega arith; op = omega arith; epoch = omega arith; what = tt }

-- what stands in a list of one thing is it
At-replicate : {A : Type 0} (n : ℕ) (y x : A) (k : ℕ) → At (replicate n y) k x → x ≡ y
At-replicate zero y x k h = absurd cc
At-replicate (suc n) y x zero h = cc
At-replicate (suc n) y x (suc k) h = At-replicate n y x k h

-- so many slices without entries
no_entries : ℕ → List (List SliceEntry)
no_entries n = replicate n []

-- each of which may stand
no_entries-writable : (m : Parameters) (weight n k i : ℕ) (entries : List SliceEntry) → At (no_entries n) k entries → IsWritableSlice m weight i entries
unfolding no_entries
no_entries-writable m weight n k i entries at =
    let none : entries ≡ [] = At-replicate n [] entries k at in
    let empty : IsWritableSlice m weight i [] = record { few = omega arith; each = All-nil (IsWritableEntry m i) } in
    subst (IsWritableSlice m weight i) (sym none) empty

-- the parts of the lines of journals, in another grouping
regrouped : {A : Type 0} (tree before entries fill after end : List A) (head : A) → (tree ++ (before ++ ((head ∷ (entries ++ fill)) ++ after))) ++ end ≡ ((tree ++ before) ++ head ∷ entries) ++ (fill ++ (after ++ end))
regrouped tree before entries fill after end head = simp append_assoc

module _ (script : ScriptValue) where
  -- commands go on with empty slices
  filled_tree : List TreeEntryValue → JournalsValue
  filled_tree tree = record { tree = tree; slices = no_entries (slice_count script.machine) }

  filled_tree-writable : (tree : List TreeEntryValue) → All (IsWritableCommand (total_weight script)) tree → IsWritable script (filled_tree tree)
  unfolding filled_tree no_entries
  filled_tree-writable tree all = record {
    all = length-replicate (slice_count script.machine) [];
    tree = all;
    slices = λ i entries at. no_entries-writable script.machine (total_weight script) (slice_count script.machine) i i entries at;
  }

  Begins-nothing : (lines : List (List ℕ)) (s : PartsRead) → IsBefore lines s → Begins script lines
  Begins-nothing lines s held = record {
    journals = filled_tree [];
    rest = journal_lines script.machine (filled_tree []);
    writable = filled_tree-writable [] (All-nil (IsWritableCommand (total_weight script)));
    whole = ap (λ (front : List (List ℕ)). front ++ journal_lines script.machine (filled_tree [])) (sym held.same);
  }

  Begins-tree : (lines : List (List ℕ)) (s : PartsRead) → HoldsTree script lines s → Begins script lines
  unfolding journal_lines filled_tree
  Begins-tree lines s held =
      let back = lines_from script.machine 0 (filled_tree s.tree).slices in
      record {
        journals = filled_tree s.tree;
        rest = back ++ last_line ∷ [];
        writable = filled_tree-writable s.tree held.tree;
        whole = append_assoc (tree_lines s.tree) back (last_line ∷ []) ∙ ap (λ (front : List (List ℕ)). front ++ (back ++ last_line ∷ [])) (sym held.same);
      }

  -- the slices go on with entries, and with empty slices
  filled_entries : ℕ → List SliceEntry → List SliceEntry
  filled_entries left entries = entries ++ replicate left any_entry

  filled_slices : ℕ → PartsRead → JournalsValue
  filled_slices left s = record { tree = s.tree; slices = s.slices ++ filled_entries left s.entries ∷ no_entries (slice_count script.machine - length s.slices - 1) }

  length-filled_entries : (left : ℕ) (entries : List SliceEntry) → length (filled_entries left entries) ≡ length entries + left
  unfolding filled_entries
  length-filled_entries left entries = length-append entries (replicate left any_entry) ∙ ap (λ (n : ℕ). length entries + n) (length-replicate left any_entry)

  filled_entries-writable : (slice left : ℕ) (lines : List (List ℕ)) (s : PartsRead) → HoldsSlices script slice left lines s → IsWritableSlice script.machine (total_weight script) slice (filled_entries left s.entries)
  unfolding filled_entries
  filled_entries-writable slice left lines s held = record {
    few = omega (arith, held.few, length-filled_entries left s.entries);
    each = All-append (IsWritableEntry script.machine slice) s.entries (replicate left any_entry) held.entries (All-replicate (IsWritableEntry script.machine slice) left any_entry (any_entry-writable script.machine slice));
  }

  filled_slices-writable : (slice left : ℕ) (lines : List (List ℕ)) (s : PartsRead) → HoldsSlices script slice left lines s → IsWritable script (filled_slices left s)
  unfolding filled_slices no_entries
  filled_slices-writable slice left lines s held =
      let count = slice_count script.machine - length s.slices - 1 in
      let entries = filled_entries left s.entries in
      record {
        all = length-append s.slices (entries ∷ no_entries count) ∙ (let n = length-replicate {A = List SliceEntry} count [] in omega (arith, n, held.there, held.count));
        tree = held.tree;
        slices = λ i es there. elim (At-append s.slices (entries ∷ no_entries count) i es there) [
          | inl front ↦ held.slices i es front
          | inr back ↦ at i (i - length s.slices) es (omega (arith, back.0)) back.1
        ];
      }
    where
      at : (i k : ℕ) (es : List SliceEntry) → length s.slices + k ≡ i → At (filled_entries left s.entries ∷ no_entries (slice_count script.machine - length s.slices - 1)) k es → IsWritableSlice script.machine (total_weight script) i es
      at i zero es position h =
          let same : filled_entries left s.entries ≡ es = cc in
          let number : slice ≡ i = omega (arith, held.count, position) in
          subst (IsWritableSlice script.machine (total_weight script) i) same (subst (λ (n : ℕ). IsWritableSlice script.machine (total_weight script) n (filled_entries left s.entries)) number (filled_entries-writable slice left lines s held))
      at i (suc k) es position h = no_entries-writable script.machine (total_weight script) (slice_count script.machine - length s.slices - 1) k i es h

  Begins-slices : (slice left : ℕ) (lines : List (List ℕ)) (s : PartsRead) → HoldsSlices script slice left lines s → Begins script lines
  unfolding journal_lines lines_from filled_slices filled_entries
  Begins-slices slice left lines s held =
      let m = script.machine in
      let fill = replicate left any_entry in
      let later = no_entries (slice_count m - length s.slices - 1) in
      let whole = filled_entries left s.entries in
      let number : 0 + length s.slices ≡ slice = omega (arith, held.count) in
      let rest = map entry_line fill ++ (lines_from m (slice + 1) later ++ last_line ∷ []) in
      let slices : lines_from m 0 (s.slices ++ whole ∷ later) ≡ lines_from m 0 s.slices ++ ((slice_line m slice (length s.entries + left) ∷ (map entry_line s.entries ++ map entry_line fill)) ++ lines_from m (slice + 1) later) =
      lines_from-append m 0 s.slices (whole ∷ later)
      ∙ ap (λ (i : ℕ). lines_from m 0 s.slices ++ lines_from m i (whole ∷ later)) number
      ∙ ap (λ (n : ℕ). lines_from m 0 s.slices ++ ((slice_line m slice n ∷ map entry_line whole) ++ lines_from m (slice + 1) later)) (length-filled_entries left s.entries)
      ∙ ap (λ (xs : List (List ℕ)). lines_from m 0 s.slices ++ ((slice_line m slice (length s.entries + left) ∷ xs) ++ lines_from m (slice + 1) later)) (map-append entry_line s.entries fill) in
      record {
        journals = filled_slices left s;
        rest = rest;
        writable = filled_slices-writable slice left lines s held;
        whole =
            ap (λ (xs : List (List ℕ)). (tree_lines s.tree ++ xs) ++ last_line ∷ []) slices
            ∙ regrouped (tree_lines s.tree) (lines_from m 0 s.slices) (map entry_line s.entries) (map entry_line fill) (lines_from m (slice + 1) later) (last_line ∷ []) (slice_line m slice (length s.entries + left))
            ∙ ap (λ (front : List (List ℕ)). front ++ rest) (sym held.same);
      }

  Begins-journals : (lines : List (List ℕ)) (s : PartsRead) → HoldsJournals script lines s → Begins script lines
  Begins-journals lines s held = record {
    journals = journals_in s;
    rest = [];
    writable = held.writable;
    whole = sym held.same ∙ sym (append-nil lines);
  }

  -- what was read can be gone on with, whatever the position
  pub Begins-held : (position : LinePosition) (lines : List (List ℕ)) (s : PartsRead) → Holds script position lines s → Begins script lines
  Begins-held Start lines s held = Begins-nothing lines s held
  Begins-held InTree lines s held = Begins-tree lines s held
  Begins-held (InSlice slice left) lines s held = Begins-slices slice left lines s held
  Begins-held Over lines s held = Begins-journals lines s held
