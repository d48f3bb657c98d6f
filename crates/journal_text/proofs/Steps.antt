-- What a reader holds after one more line.
use Rattle.std.proofs.Common.{◌≡◌, ℕ, ◌+◌, ◌-◌, ◌≤◌, true, false, List, [], ◌∷◌, ◌++◌, length, map, refl, sym, ap, subst, ◌∙◌, arith, inl, inr, append_assoc}
use Rattle.std.specs.List.{All}
use Rattle.std.proofs.lemmas.List.{append-nil, length_push, map-append}
use Rattle.std.proofs.lemmas.List.Elements.{All-nil, All-push}
use Rattle.cache_core.specs.declared.entry.SliceEntry.{SliceEntry}
use Rattle.journal_text.specs.Lines.{command_line, entry_line, first_line, journal_lines, lines_from, slice_line}
use Rattle.journal_text.specs.Writable.{IsWritableCommand, IsWritableEntry, IsWritableSlice}
use Rattle.journal_text.proofs.Order.{LeadOn-push}
use Rattle.journal_text.proofs.laws.Texts.{lines_from-push}
use Rattle.journal_text.specs.LinePositions.{LeadOn, Leads, LeadsFromSlices}
use Rattle.journal_text.specs.States.{HasTaken, Holds, HoldsSlices, HoldsTree, IsBefore, PartsRead, ReaderState, TakesLine, state_at, tree_lines, whole_slices}
use Rattle.journal_text.specs.declared.line_position.LinePosition.{LinePosition}
use Rattle.journal_text.specs.declared.line_position.LinePosition.TheVariants.{Start, InTree, InSlice, Over}
use Rattle.run_law.specs.Journals.{At}
use Rattle.run_law.specs.TreeHistory.{TreeEntryValue}
use Rattle.run_law.proofs.laws.Positions.{At-append, At-one}
use Rattle.script_ops.specs.Values.{ScriptValue, total_weight}

-- these are the lines of the commands and of so many whole slices
record HoldsWhole (script : ScriptValue) (count : ℕ) (lines : List (List ℕ)) (s : PartsRead) : Type 0 where
  same : lines ≡ whole_slices script s
  tree : All (IsWritableCommand (total_weight script)) s.tree
  counted : length s.slices ≡ count
  slices : (i : ℕ) (entries : List SliceEntry) → At s.slices i entries → IsWritableSlice script.machine (total_weight script) i entries
  entries : s.entries ≡ []

module _ (script : ScriptValue) where
  -- commands alone, of which no slice was read
  HoldsWhole-tree : (lines : List (List ℕ)) (s : PartsRead) → HoldsTree script lines s → HoldsWhole script 0 lines s
  unfolding lines_from
  HoldsWhole-tree lines s held = record {
    same = held.same ∙ sym (append-nil (tree_lines s.tree)) ∙ ap (λ (slices : List (List SliceEntry)). tree_lines s.tree ++ lines_from script.machine 0 slices) (sym held.slices);
    tree = held.tree;
    counted = ap (λ (slices : List (List SliceEntry)). length slices) held.slices;
    slices = λ i entries at. absurd (let none = subst (λ (slices : List (List SliceEntry)). At slices i entries) held.slices at in cc);
    entries = held.entries;
  }

  -- the slice that was being read is whole
  HoldsWhole-closed : (slice : ℕ) (lines : List (List ℕ)) (s : PartsRead) → HoldsSlices script slice 0 lines s → HoldsWhole script (slice + 1) lines (record s { slices = s.slices ++ s.entries ∷ []; entries = [] })
  HoldsWhole-closed slice lines s held =
      let m = script.machine in
      let number : slice ≡ 0 + length s.slices = omega (arith, held.count) in
      let count : length s.entries + 0 ≡ length s.entries = omega arith in
      record {
        same =
            held.same
            ∙ ap (λ (n : ℕ). whole_slices script s ++ slice_line m slice n ∷ map entry_line s.entries) count
            ∙ ap (λ (i : ℕ). whole_slices script s ++ slice_line m i (length s.entries) ∷ map entry_line s.entries) number
            ∙ append_assoc (tree_lines s.tree) (lines_from m 0 s.slices) (slice_line m (0 + length s.slices) (length s.entries) ∷ map entry_line s.entries)
            ∙ ap (λ (back : List (List ℕ)). tree_lines s.tree ++ back) (sym (lines_from-push m 0 s.slices s.entries));
        tree = held.tree;
        counted = length_push s.slices s.entries ∙ ap (λ (n : ℕ). n + 1) held.count;
        slices = λ i entries at. elim (At-append s.slices (s.entries ∷ []) i entries at) [
          | inl front ↦ held.slices i entries front
          | inr back ↦ (let one = At-one s.entries (i - length s.slices) entries back.1 in
              let here : slice ≡ i = omega (arith, one.0, back.0, held.count) in
              let whole : IsWritableSlice m (total_weight script) slice s.entries = record { few = omega (arith, held.few); each = held.entries } in
              subst (λ (n : ℕ). IsWritableSlice m (total_weight script) n entries) here (subst (λ (es : List SliceEntry). IsWritableSlice m (total_weight script) slice es) (sym one.1) whole))
        ];
        entries = refl;
      }

  -- the line after whole slices
  Holds-after_slices : (count : ℕ) (lines : List (List ℕ)) (line : List ℕ) (next : LinePosition) (s : PartsRead) → HoldsWhole script count lines s → LeadsFromSlices script count line next → Holds script next (lines ++ line ∷ []) s
  unfolding journal_lines
  Holds-after_slices count lines line Start s held led = absurd led
  Holds-after_slices count lines line InTree s held led = absurd led
  Holds-after_slices count lines line (InSlice slice left) s held led =
      let m = script.machine in
      let few : 0 + left ≡ left = omega arith in
      let none : slice_line m slice (length s.entries + left) ∷ map entry_line s.entries ≡ line ∷ [] =
      ap (λ (es : List SliceEntry). slice_line m slice (length es + left) ∷ map entry_line es) held.entries
      ∙ ap (λ (n : ℕ). slice_line m slice n ∷ []) few
      ∙ ap (λ (l : List ℕ). l ∷ []) led.1.same in
      record {
        same = ap (λ (front : List (List ℕ)). front ++ line ∷ []) held.same ∙ ap (λ (back : List (List ℕ)). whole_slices script s ++ back) (sym none);
        tree = held.tree;
        count = held.counted ∙ led.0;
        there = led.1.there;
        slices = held.slices;
        few = subst (λ (es : List SliceEntry). length es + left ≤ total_weight script) (sym held.entries) (omega (arith, led.1.few));
        entries = subst (All (IsWritableEntry m slice)) (sym held.entries) (All-nil (IsWritableEntry m slice));
      }
  Holds-after_slices count lines line Over s held led = record {
    same = ap (λ (front : List (List ℕ)). front ++ line ∷ []) held.same ∙ ap (λ (l : List ℕ). whole_slices script s ++ l ∷ []) (sym led.same);
    writable = record { all = held.counted ∙ led.all; tree = held.tree; slices = held.slices };
  }

  -- one more entry of a slice
  Holds-entry : (slice left more : ℕ) (lines : List (List ℕ)) (e : SliceEntry) (s : PartsRead) → left ≡ more + 1 → IsWritableEntry script.machine slice e → HoldsSlices script slice left lines s → HoldsSlices script slice more (lines ++ entry_line e ∷ []) (record s { entries = s.entries ++ e ∷ [] })
  Holds-entry slice left more lines e s one writable held =
      let m = script.machine in
      let count : length s.entries + left ≡ length (s.entries ++ e ∷ []) + more = omega (arith, length_push s.entries e) in
      record {
        same =
            ap (λ (front : List (List ℕ)). front ++ entry_line e ∷ []) held.same
            ∙ append_assoc (whole_slices script s) (slice_line m slice (length s.entries + left) ∷ map entry_line s.entries) (entry_line e ∷ [])
            ∙ ap (λ (back : List (List ℕ)). whole_slices script s ++ slice_line m slice (length s.entries + left) ∷ back) (sym (map-append entry_line s.entries (e ∷ [])))
            ∙ ap (λ (n : ℕ). whole_slices script s ++ slice_line m slice n ∷ map entry_line (s.entries ++ e ∷ [])) count;
        tree = held.tree;
        count = held.count;
        there = held.there;
        slices = held.slices;
        few = omega (arith, held.few, count);
        entries = All-push (IsWritableEntry m slice) s.entries e held.entries writable;
      }

  -- one more command
  Holds-command : (lines : List (List ℕ)) (e : TreeEntryValue) (s : PartsRead) → IsWritableCommand (total_weight script) e → HoldsTree script lines s → HoldsTree script (lines ++ command_line e ∷ []) (record s { tree = s.tree ++ e ∷ [] })
  Holds-command lines e s writable held = record {
    same = ap (λ (front : List (List ℕ)). front ++ command_line e ∷ []) held.same ∙ ap (λ (back : List (List ℕ)). first_line ∷ back) (sym (map-append command_line s.tree (e ∷ [])));
    tree = All-push (IsWritableCommand (total_weight script)) s.tree e held.tree writable;
    slices = held.slices;
    entries = held.entries;
  }

  -- the first line
  Holds-first : (lines : List (List ℕ)) (s : PartsRead) → IsBefore lines s → HoldsTree script (lines ++ first_line ∷ []) s
  Holds-first lines s held = record {
    same = ap (λ (front : List (List ℕ)). front ++ first_line ∷ []) held.same ∙ ap (λ (tree : List TreeEntryValue). tree_lines tree) (sym held.tree);
    tree = subst (All (IsWritableCommand (total_weight script))) (sym held.tree) (All-nil (IsWritableCommand (total_weight script)));
    slices = held.slices;
    entries = held.entries;
  }

-- ---- what a reader tells of a line

-- a line that leads on was read
HasTaken-led : (script : ScriptValue) (line : List ℕ) (old new : ReaderState) (from to : LinePosition) → old.position ≡ from → new.position ≡ to → Leads script from line to → ((lines : List (List ℕ)) → Holds script from lines old.parts → Holds script to (lines ++ line ∷ []) new.parts) → HasTaken script line old new true
HasTaken-led script line old new from to at_old at_new led step = λ lines read. record {
  led = LeadOn-push script Start lines line from new.position (subst (λ (p : LinePosition). LeadOn script Start lines p) at_old read.led) (subst (λ (p : LinePosition). Leads script from line p) (sym at_new) led);
  held = subst (λ (p : LinePosition). Holds script p (lines ++ line ∷ []) new.parts) (sym at_new) (step lines (subst (λ (p : LinePosition). Holds script p lines old.parts) at_old read.held));
}

-- a line that leads nowhere was not
pub HasTaken-not_led : (script : ScriptValue) (line : List ℕ) (old new : ReaderState) (from : LinePosition) → old.position ≡ from → ((next : LinePosition) → Leads script from line next → ⊥) → HasTaken script line old new false
HasTaken-not_led script line old new from at never = λ next led. never next (subst (λ (p : LinePosition). Leads script p line next) at led)

module _ (script : ScriptValue) (line : List ℕ) (old new : ReaderState) where
  pub HasTaken-first : old.position ≡ Start → first_line ≡ line → new.position ≡ InTree → new.parts ≡ old.parts → HasTaken script line old new true
  HasTaken-first at same position is =
      HasTaken-led script line old new Start InTree at position (refl, same)
      (λ lines held. subst (HoldsTree script (lines ++ line ∷ [])) (sym is) (subst (λ (l : List ℕ). HoldsTree script (lines ++ l ∷ []) old.parts) same (Holds-first script lines old.parts held)))

  pub HasTaken-command : (e : TreeEntryValue) → old.position ≡ InTree → IsWritableCommand (total_weight script) e → command_line e ≡ line → new.position ≡ InTree → new.parts ≡ record old.parts { tree = old.parts.tree ++ e ∷ [] } → HasTaken script line old new true
  HasTaken-command e at writable same position is =
      let after = record old.parts { tree = old.parts.tree ++ e ∷ [] } in
      HasTaken-led script line old new InTree InTree at position (inl (refl, record { entry = e; writable = writable; same = same }))
      (λ lines held. subst (HoldsTree script (lines ++ line ∷ [])) (sym is) (subst (λ (l : List ℕ). HoldsTree script (lines ++ l ∷ []) after) same (Holds-command script lines e old.parts writable held)))

  pub HasTaken-tree_left : old.position ≡ InTree → LeadsFromSlices script 0 line new.position → new.parts ≡ old.parts → HasTaken script line old new true
  HasTaken-tree_left at led is =
      HasTaken-led script line old new InTree new.position at refl (inr led)
      (λ lines held. subst (Holds script new.position (lines ++ line ∷ [])) (sym is) (Holds-after_slices script 0 lines line new.position old.parts (HoldsWhole-tree script lines old.parts held) led))

  pub HasTaken-entry : (slice left more : ℕ) (e : SliceEntry) → old.position ≡ InSlice slice left → left ≡ more + 1 → IsWritableEntry script.machine slice e → entry_line e ≡ line → new.position ≡ InSlice slice more → new.parts ≡ record old.parts { entries = old.parts.entries ++ e ∷ [] } → HasTaken script line old new true
  HasTaken-entry slice left more e at one writable same position is =
      let after = record old.parts { entries = old.parts.entries ++ e ∷ [] } in
      HasTaken-led script line old new (InSlice slice left) (InSlice slice more) at position (inr (more, one, refl, record { entry = e; writable = writable; same = same }))
      (λ lines held. subst (HoldsSlices script slice more (lines ++ line ∷ [])) (sym is) (subst (λ (l : List ℕ). HoldsSlices script slice more (lines ++ l ∷ []) after) same (Holds-entry script slice left more lines e old.parts one writable held)))

  pub HasTaken-slice_left : (slice : ℕ) → old.position ≡ InSlice slice 0 → LeadsFromSlices script (slice + 1) line new.position → new.parts ≡ record old.parts { slices = old.parts.slices ++ old.parts.entries ∷ []; entries = [] } → HasTaken script line old new true
  HasTaken-slice_left slice at led is =
      let closed = record old.parts { slices = old.parts.slices ++ old.parts.entries ∷ []; entries = [] } in
      HasTaken-led script line old new (InSlice slice 0) new.position at refl (inl (refl, led))
      (λ lines held. subst (Holds script new.position (lines ++ line ∷ [])) (sym is) (Holds-after_slices script (slice + 1) lines line new.position closed (HoldsWhole-closed script slice lines old.parts held) led))

-- what is kept of one line more
pub TakesLine-step : (script : ScriptValue) (line : List ℕ) (from : LinePosition) (Old : PartsRead → Type 0) (to : LinePosition) (New : PartsRead → Type 0) (step : PartsRead → PartsRead)
    → ((parts : PartsRead) → Old parts → New (step parts)) → ((parts : PartsRead) → HasTaken script line (state_at from parts) (state_at to (step parts)) true)
    → TakesLine script line from Old to New true
TakesLine-step script line from Old to New step keeps taken = λ lines parts old read. (step parts, keeps parts old, taken parts lines read)
