-- The lines of whole journals lead from the first position to the last.
use Rattle.std.proofs.Common.{◌≡◌, ℕ, suc, ◌+◌, ◌<◌, List, [], ◌∷◌, ◌++◌, length, map, refl, sym, ap, subst, arith, inl, inr, append_assoc}
use Rattle.std.specs.List.{All}
use Rattle.std.proofs.lemmas.List.Elements.{All-head, All-tail}
use Rattle.cache_core.specs.declared.entry.SliceEntry.{SliceEntry}
use Rattle.journal_text.specs.Lines.{command_line, entry_line, first_line, journal_lines, last_line, lines_from, slice_line}
use Rattle.journal_text.specs.Writable.{IsWritable, IsWritableCommand, IsWritableEntry, IsWritableSlice}
use Rattle.journal_text.proofs.Order.{LeadOn-append}
use Rattle.journal_text.specs.LinePositions.{LeadOn, Leads, LeadsFromSlices}
use Rattle.journal_text.specs.declared.line_position.LinePosition.{LinePosition}
use Rattle.journal_text.specs.declared.line_position.LinePosition.TheVariants.{Start, InTree, InSlice, Over}
use Rattle.machine.specs.Slices.{slice_count}
use Rattle.run_law.specs.Journals.{At, JournalsValue}
use Rattle.run_law.specs.TreeHistory.{TreeEntryValue}
use Rattle.script_ops.specs.Values.{ScriptValue, total_weight}

module _ (script : ScriptValue) where
  -- the lines of commands
  LeadOn-commands : (tree : List TreeEntryValue) → All (IsWritableCommand (total_weight script)) tree → LeadOn script InTree (map command_line tree) InTree
  LeadOn-commands [] all = refl
  LeadOn-commands (e ∷ tree) all =
      let W = IsWritableCommand (total_weight script) in
      (InTree, inl (refl, record { entry = e; writable = All-head W e tree all; same = refl }), LeadOn-commands tree (All-tail W e tree all))

  -- the lines of the entries of a slice
  LeadOn-entries : (slice : ℕ) (entries : List SliceEntry) → All (IsWritableEntry script.machine slice) entries → LeadOn script (InSlice slice (length entries)) (map entry_line entries) (InSlice slice 0)
  LeadOn-entries slice [] all = refl
  LeadOn-entries slice (e ∷ entries) all =
      let W = IsWritableEntry script.machine slice in
      let one : length (e ∷ entries) ≡ length entries + 1 = omega arith in
      (InSlice slice (length entries), inr (length entries, one, refl, record { entry = e; writable = All-head W e entries all; same = refl }), LeadOn-entries slice entries (All-tail W e entries all))

  -- the lines of slices from this number on, and the last line, from a position that is left by the line of that slice
  LeadOn-slices : (position : LinePosition) (i : ℕ) (slices : List (List SliceEntry))
      → ((line : List ℕ) (next : LinePosition) → LeadsFromSlices script i line next → Leads script position line next)
      → i + length slices ≡ slice_count script.machine
      → ((k : ℕ) (entries : List SliceEntry) → At slices k entries → IsWritableSlice script.machine (total_weight script) (i + k) entries)
      → LeadOn script position (lines_from script.machine i slices ++ last_line ∷ []) Over
  unfolding lines_from
  LeadOn-slices position i [] leaves all writable = let count : i ≡ slice_count script.machine = omega (arith, all) in (Over, leaves last_line Over (record { all = count; same = refl }), refl)
  LeadOn-slices position i (entries ∷ slices) leaves all writable =
      let n = length entries in
      let here = subst (λ (k : ℕ). IsWritableSlice script.machine (total_weight script) k entries) (let e : i + 0 ≡ i = omega arith in e) (writable 0 entries refl) in
      let line = slice_line script.machine i n in
      let there : i < slice_count script.machine = omega (arith, all) in
      let rest = lines_from script.machine (i + 1) slices ++ last_line ∷ [] in
      let later = LeadOn-slices (InSlice i 0) (i + 1) slices (λ l next after. inl (refl, after)) (omega (arith, all)) (λ k es at. subst (λ (j : ℕ). IsWritableSlice script.machine (total_weight script) j es) (let e : i + suc k ≡ i + 1 + k = omega arith in e) (writable (suc k) es at)) in
      let after = LeadOn-append script (InSlice i n) (map entry_line entries) rest (InSlice i 0) Over (LeadOn-entries i entries here.each) later in
      let led : LeadOn script position (line ∷ (map entry_line entries ++ rest)) Over = (InSlice i n, leaves line (InSlice i n) (refl, record { there = there; few = here.few; same = refl }), after) in
      subst (λ (lines : List (List ℕ)). LeadOn script position lines Over) (ap (λ (back : List (List ℕ)). line ∷ back) (sym (append_assoc (map entry_line entries) (lines_from script.machine (i + 1) slices) (last_line ∷ [])))) led

  -- the lines of journals
  pub LeadOn-journals : (j : JournalsValue) → IsWritable script j → LeadOn script Start (journal_lines script.machine j) Over
  unfolding journal_lines
  LeadOn-journals j writable =
      let back = lines_from script.machine 0 j.slices ++ last_line ∷ [] in
      let slices = LeadOn-slices InTree 0 j.slices (λ line next after. inr after) (let e : 0 + length j.slices ≡ slice_count script.machine = omega (arith, writable.all) in e) (λ k es at. subst (λ (i : ℕ). IsWritableSlice script.machine (total_weight script) i es) (let e : k ≡ 0 + k = omega arith in e) (writable.slices k es at)) in
      let after = LeadOn-append script InTree (map command_line j.tree) back InTree Over (LeadOn-commands j.tree writable.tree) slices in
      let led : LeadOn script Start (first_line ∷ (map command_line j.tree ++ back)) Over = (InTree, (refl, refl), after) in
      subst (λ (lines : List (List ℕ)). LeadOn script Start lines Over) (ap (λ (rest : List (List ℕ)). first_line ∷ rest) (sym (append_assoc (map command_line j.tree) (lines_from script.machine 0 j.slices) (last_line ∷ [])))) led
