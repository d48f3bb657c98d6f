-- Journals of one text are one value.
use Rattle.std.proofs.Common.{◌≡◌, ℕ, suc, ◌+◌, ◌<◌, List, [], ◌∷◌, ◌++◌, length, map, refl, sym, ap, subst, ◌∙◌, arith, append_assoc}
use Rattle.std.specs.List.{All}
use Rattle.std.proofs.lemmas.List.{length-map}
use Rattle.std.proofs.lemmas.List.Elements.{All-head, All-tail}
use Rattle.cache_core.specs.declared.entry.SliceEntry.{SliceEntry}
use Rattle.journal_text.specs.Lines.{command_line, entry_line, first_line, journal_lines, last_line, lines_from, slice_line, slice_lines}
use Rattle.journal_text.specs.Writable.{IsWritable, IsWritableCommand, IsWritableEntry, IsWritableSlice}
use Rattle.journal_text.proofs.laws.FirstWords.{command_line-last_line, command_line-slice_line}
use Rattle.journal_text.proofs.ListParts.{append-same, cons-same}
use Rattle.journal_text.proofs.LineLaws.{command_line-injective, entry_line-injective, slice_line-injective}
use Rattle.journal_text.proofs.OneLines.{whole_lines-journals}
use Rattle.journal_text.specs.Readings.{IsTextOf}
use Rattle.machine.specs.Slices.{slice_count}
use Rattle.run_law.specs.Journals.{At, JournalsValue}
use Rattle.run_law.specs.TreeHistory.{TreeEntryValue}
use Rattle.script_ops.specs.Values.{IsLawful, ScriptValue, total_weight}

-- journals are their commands and their slices
JournalsValue-same : (a b : JournalsValue) → a.tree ≡ b.tree → a.slices ≡ b.slices → a ≡ b
JournalsValue-same a b tree slices = ap (λ (t : List TreeEntryValue). let j : JournalsValue = record { tree = t; slices = a.slices } in j) tree ∙ ap (λ (s : List (List SliceEntry)). let j : JournalsValue = record { tree = b.tree; slices = s } in j) slices

module _ (script : ScriptValue) (lawful : IsLawful script) where
  -- the lines of slices and the last line do not begin as a command
  slices-no_command : (i : ℕ) (slices : List (List SliceEntry)) (e : TreeEntryValue) (rest : List (List ℕ)) → command_line e ∷ rest ≡ lines_from script.machine i slices ++ last_line ∷ [] → ⊥
  unfolding lines_from
  slices-no_command i [] e rest same = command_line-last_line e (cons-same (command_line e) last_line rest [] same).0
  slices-no_command i (entries ∷ slices) e rest same =
      let m = script.machine in
      command_line-slice_line e m i (length entries) (cons-same (command_line e) (slice_line m i (length entries)) rest ((map entry_line entries ++ lines_from m (i + 1) slices) ++ last_line ∷ []) same).0

  -- the lines of commands, and of slices after them
  trees-same : (a b : List TreeEntryValue) (i : ℕ) (us vs : List (List SliceEntry))
      → All (IsWritableCommand (total_weight script)) a → All (IsWritableCommand (total_weight script)) b
      → map command_line a ++ (lines_from script.machine i us ++ last_line ∷ []) ≡ map command_line b ++ (lines_from script.machine i vs ++ last_line ∷ [])
      → (a ≡ b) × (lines_from script.machine i us ++ last_line ∷ [] ≡ lines_from script.machine i vs ++ last_line ∷ [])
  trees-same [] [] i us vs all_a all_b same = (refl, same)
  trees-same [] (e ∷ b) i us vs all_a all_b same = absurd (slices-no_command i us e (map command_line b ++ (lines_from script.machine i vs ++ last_line ∷ [])) (sym same))
  trees-same (e ∷ a) [] i us vs all_a all_b same = absurd (slices-no_command i vs e (map command_line a ++ (lines_from script.machine i us ++ last_line ∷ [])) same)
  trees-same (e ∷ a) (f ∷ b) i us vs all_a all_b same =
      let W = IsWritableCommand (total_weight script) in
      let both = cons-same (command_line e) (command_line f) (map command_line a ++ (lines_from script.machine i us ++ last_line ∷ [])) (map command_line b ++ (lines_from script.machine i vs ++ last_line ∷ [])) same in
      let here : e ≡ f = command_line-injective script lawful e f (All-head W e a all_a) (All-head W f b all_b) both.0 in
      let rest = trees-same a b i us vs (All-tail W e a all_a) (All-tail W f b all_b) both.1 in
      (let others = rest.0 in cc, rest.1)

  -- the lines of entries
  entries-same : (slice : ℕ) → slice < slice_count script.machine → (a b : List SliceEntry) → All (IsWritableEntry script.machine slice) a → All (IsWritableEntry script.machine slice) b → map entry_line a ≡ map entry_line b → a ≡ b
  entries-same slice there [] [] all_a all_b same = refl
  entries-same slice there [] (e ∷ b) all_a all_b same = absurd cc
  entries-same slice there (e ∷ a) [] all_a all_b same = absurd cc
  entries-same slice there (e ∷ a) (f ∷ b) all_a all_b same =
      let W = IsWritableEntry script.machine slice in
      let both = cons-same (entry_line e) (entry_line f) (map entry_line a) (map entry_line b) same in
      let here : e ≡ f = entry_line-injective script lawful slice e f (All-head W e a all_a) (All-head W f b all_b) both.0 in
      let rest = entries-same slice there a b (All-tail W e a all_a) (All-tail W f b all_b) both.1 in
      cc

  -- slices from this number on have a text
  AreWritable : ℕ → List (List SliceEntry) → Type 0
  AreWritable i slices = (k : ℕ) (entries : List SliceEntry) → At slices k entries → IsWritableSlice script.machine (total_weight script) (i + k) entries

  AreWritable-head : (i : ℕ) (entries : List SliceEntry) (slices : List (List SliceEntry)) → AreWritable i (entries ∷ slices) → IsWritableSlice script.machine (total_weight script) i entries
  unfolding AreWritable
  AreWritable-head i entries slices writable = subst (λ (k : ℕ). IsWritableSlice script.machine (total_weight script) k entries) (let e : i + 0 ≡ i = omega arith in e) (writable 0 entries refl)

  AreWritable-tail : (i : ℕ) (entries : List SliceEntry) (slices : List (List SliceEntry)) → AreWritable i (entries ∷ slices) → AreWritable (i + 1) slices
  unfolding AreWritable
  AreWritable-tail i entries slices writable = λ k es at. subst (λ (j : ℕ). IsWritableSlice script.machine (total_weight script) j es) (let e : i + suc k ≡ i + 1 + k = omega arith in e) (writable (suc k) es at)

  -- the lines of as many slices
  slices-same : (i : ℕ) (a b : List (List SliceEntry)) → i + length a ≡ slice_count script.machine → i + length b ≡ slice_count script.machine → AreWritable i a → AreWritable i b
      → lines_from script.machine i a ++ last_line ∷ [] ≡ lines_from script.machine i b ++ last_line ∷ [] → a ≡ b
  unfolding lines_from
  slices-same i [] [] count_a count_b writable_a writable_b same = refl
  slices-same i [] (y ∷ b) count_a count_b writable_a writable_b same = absurd (omega (arith, count_a, count_b))
  slices-same i (x ∷ a) [] count_a count_b writable_a writable_b same = absurd (omega (arith, count_a, count_b))
  slices-same i (x ∷ a) (y ∷ b) count_a count_b writable_a writable_b same =
      let m = script.machine in
      let here_a = AreWritable-head i x a writable_a in
      let here_b = AreWritable-head i y b writable_b in
      let there : i < slice_count m = omega (arith, count_a) in
      let rest_a = lines_from m (i + 1) a ++ last_line ∷ [] in
      let rest_b = lines_from m (i + 1) b ++ last_line ∷ [] in
      let grouped : slice_line m i (length x) ∷ (map entry_line x ++ rest_a) ≡ slice_line m i (length y) ∷ (map entry_line y ++ rest_b) =
      sym (append_assoc (slice_lines m i x) (lines_from m (i + 1) a) (last_line ∷ [])) ∙ same ∙ append_assoc (slice_lines m i y) (lines_from m (i + 1) b) (last_line ∷ []) in
      let heads = cons-same (slice_line m i (length x)) (slice_line m i (length y)) (map entry_line x ++ rest_a) (map entry_line y ++ rest_b) grouped in
      let long : length x ≡ length y = slice_line-injective script lawful i (length x) (length y) there here_a.few here_b.few heads.0 in
      let parts = append-same (map entry_line x) (map entry_line y) rest_a rest_b (length-map x entry_line ∙ long ∙ sym (length-map y entry_line)) heads.1 in
      let first : x ≡ y = entries-same i there x y here_a.each here_b.each parts.0 in
      let rest = slices-same (i + 1) a b (omega (arith, count_a)) (omega (arith, count_b)) (AreWritable-tail i x a writable_a) (AreWritable-tail i y b writable_b) parts.1 in
      cc

  -- journals with the same lines
  journal_lines-injective : (a b : JournalsValue) → IsWritable script a → IsWritable script b → journal_lines script.machine a ≡ journal_lines script.machine b → a ≡ b
  unfolding journal_lines AreWritable
  journal_lines-injective a b writable_a writable_b same =
      let m = script.machine in
      let regroup = λ (j : JournalsValue). append_assoc (first_line ∷ map command_line j.tree) (lines_from m 0 j.slices) (last_line ∷ []) in
      let lines = cons-same first_line first_line (map command_line a.tree ++ (lines_from m 0 a.slices ++ last_line ∷ [])) (map command_line b.tree ++ (lines_from m 0 b.slices ++ last_line ∷ [])) (sym (regroup a) ∙ same ∙ regroup b) in
      let trees = trees-same a.tree b.tree 0 a.slices b.slices writable_a.tree writable_b.tree lines.1 in
      let at_zero : (j : JournalsValue) → IsWritable script j → (k : ℕ) (es : List SliceEntry) → At j.slices k es → IsWritableSlice m (total_weight script) (0 + k) es =
      λ j w k es at. subst (λ (i : ℕ). IsWritableSlice m (total_weight script) i es) (let e : k ≡ 0 + k = omega arith in e) (w.slices k es at) in
      let slices = slices-same 0 a.slices b.slices (omega (arith, writable_a.all)) (omega (arith, writable_b.all)) (at_zero a writable_a) (at_zero b writable_b) trees.1 in
      JournalsValue-same a b trees.0 slices

  -- journals of one text
  pub IsTextOf-same : (text : List ℕ) (a b : JournalsValue) → IsTextOf script text a → IsTextOf script text b → a ≡ b
  IsTextOf-same text a b one two = journal_lines-injective a b one.writable two.writable (sym (whole_lines-journals script lawful text a one) ∙ whole_lines-journals script lawful text b two)
