-- Each line of journals is one line, so their text has just these lines.
use Rattle.std.proofs.Common.{◌≡◌, ℕ, suc, ◌+◌, List, [], ◌∷◌, ◌++◌, length, map, refl, ap, subst, ◌∙◌, arith}
use Rattle.std.specs.List.{All}
use Rattle.std.proofs.lemmas.List.Elements.{All-append, All-cons, All-map, All-nil, All-weaker}
use Rattle.cache_core.specs.declared.entry.SliceEntry.{SliceEntry}
use Rattle.journal_text.specs.Lines.{command_line, entry_line, first_line, journal_lines, last_line, lines_from, slice_line}
use Rattle.journal_text.specs.Writable.{IsWritable, IsWritableCommand, IsWritableEntry, IsWritableSlice}
use Rattle.journal_text.proofs.laws.Newlines.{HasNoNewline, HasNoNewline-first_line, HasNoNewline-last_line}
use Rattle.journal_text.proofs.LineLaws.{command_line-one, entry_line-one, slice_line-one}
use Rattle.journal_text.proofs.TextLines.{whole_lines-text_of}
use Rattle.journal_text.specs.Readings.{IsTextOf, whole_lines}
use Rattle.machine.specs.Slices.{slice_count}
use Rattle.run_law.specs.Journals.{At, JournalsValue}
use Rattle.run_law.specs.TreeHistory.{TreeEntryValue}
use Rattle.script_ops.specs.Values.{IsLawful, ScriptValue, total_weight}

module _ (script : ScriptValue) (lawful : IsLawful script) where
  -- the lines of commands
  AreOneLines-commands : (tree : List TreeEntryValue) → All (IsWritableCommand (total_weight script)) tree → All HasNoNewline (map command_line tree)
  AreOneLines-commands tree all = All-map HasNoNewline command_line tree (All-weaker (IsWritableCommand (total_weight script)) (λ e. HasNoNewline (command_line e)) (λ e writable. command_line-one script lawful e writable) tree all)

  -- the lines of entries
  AreOneLines-entries : (slice : ℕ) (entries : List SliceEntry) → All (IsWritableEntry script.machine slice) entries → All HasNoNewline (map entry_line entries)
  AreOneLines-entries slice entries all = All-map HasNoNewline entry_line entries (All-weaker (IsWritableEntry script.machine slice) (λ e. HasNoNewline (entry_line e)) (λ e writable. entry_line-one script lawful slice e writable) entries all)

  -- the lines of slices
  AreOneLines-slices : (i : ℕ) (slices : List (List SliceEntry)) → i + length slices ≡ slice_count script.machine
      → ((k : ℕ) (entries : List SliceEntry) → At slices k entries → IsWritableSlice script.machine (total_weight script) (i + k) entries)
      → All HasNoNewline (lines_from script.machine i slices)
  unfolding lines_from
  AreOneLines-slices i [] count writable = All-nil HasNoNewline
  AreOneLines-slices i (entries ∷ slices) count writable =
      let m = script.machine in
      let here = subst (λ (k : ℕ). IsWritableSlice m (total_weight script) k entries) (let e : i + 0 ≡ i = omega arith in e) (writable 0 entries refl) in
      let head = slice_line-one script lawful i (length entries) (omega (arith, count)) here.few in
      let rest = AreOneLines-slices (i + 1) slices (omega (arith, count)) (λ k es at. subst (λ (j : ℕ). IsWritableSlice m (total_weight script) j es) (let e : i + suc k ≡ i + 1 + k = omega arith in e) (writable (suc k) es at)) in
      All-append HasNoNewline (slice_line m i (length entries) ∷ map entry_line entries) (lines_from m (i + 1) slices)
      (All-cons HasNoNewline (slice_line m i (length entries)) (map entry_line entries) head (AreOneLines-entries i entries here.each)) rest

  -- the lines of journals
  AreOneLines-journals : (j : JournalsValue) → IsWritable script j → All HasNoNewline (journal_lines script.machine j)
  unfolding journal_lines
  AreOneLines-journals j writable =
      let m = script.machine in
      let slices = AreOneLines-slices 0 j.slices (let e : 0 + length j.slices ≡ slice_count m = omega (arith, writable.all) in e) (λ k es at. subst (λ (i : ℕ). IsWritableSlice m (total_weight script) i es) (let e : k ≡ 0 + k = omega arith in e) (writable.slices k es at)) in
      let front = All-cons HasNoNewline first_line (map command_line j.tree) HasNoNewline-first_line (AreOneLines-commands j.tree writable.tree) in
      let end = All-cons HasNoNewline last_line [] HasNoNewline-last_line (All-nil HasNoNewline) in
      All-append HasNoNewline ((first_line ∷ map command_line j.tree) ++ lines_from m 0 j.slices) (last_line ∷ []) (All-append HasNoNewline (first_line ∷ map command_line j.tree) (lines_from m 0 j.slices) front slices) end

  -- a text of journals has their lines
  pub whole_lines-journals : (text : List ℕ) (j : JournalsValue) → IsTextOf script text j → whole_lines text ≡ journal_lines script.machine j
  whole_lines-journals text j is = ap whole_lines is.same ∙ whole_lines-text_of (journal_lines script.machine j) (AreOneLines-journals j is.writable)
