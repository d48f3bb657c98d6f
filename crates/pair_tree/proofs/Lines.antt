-- The lines of a text of two sides.
use Rattle.std.proofs.Common.{◌≡◌, ℕ, true, false, List, [], ◌∷◌, ◌++◌, Ok, Err, refl, ◌∙◌}
use Rattle.std.specs.List.{after_first, before_first, list_any}
use Rattle.pair_law.specs.Reading.{SideMask, reading_from, side_of_line}
use Rattle.pair_text.specs.Values.{Machines}
use Rattle.pair_text.specs.declared.side.Side.{Side}
use Rattle.pair_text.specs.declared.side.Side.TheVariants.{First}
use Rattle.schemata_text.proofs.laws.Items.{items_of-first_line, items_of-last_line, items_of-more_lines}
use Rattle.schemata_text.specs.Items.{Item, Line, colon, items_of, items_of_rest, newline}
use Rattle.schemata_text.specs.declared.fault.TextFault.{TextFault}

module _ (m : Machines) where
  -- a bad line is the fault of the text
  reading_from-line_fault : (before : List SideMask) (line : List ℕ) (f : TextFault) (items : List Item) → side_of_line m line ≡ Err f → reading_from m First before (Line line ∷ items) ≡ Err f
  unfolding reading_from
  reading_from-line_fault before line f items is = rw is refl

  -- a good line says which side its entries are of
  reading_from-line : (side from : Side) (before : List SideMask) (line : List ℕ) (items : List Item) → side_of_line m line ≡ Ok side → reading_from m from before (Line line ∷ items) ≡ reading_from m side before items
  unfolding reading_from
  reading_from-line side from before line items is = rw is refl

  -- where no item is left, what was read is the answer
  reading_from-nil : (side : Side) (before : List SideMask) → reading_from m side before [] ≡ Ok before
  unfolding reading_from
  reading_from-nil side before = refl

  -- the side before a line does not matter
  reading_from-sides : (side : Side) (before : List SideMask) (line : List ℕ) (items : List Item) → reading_from m side before (Line line ∷ items) ≡ reading_from m First before (Line line ∷ items)
  unfolding reading_from
  reading_from-sides side before line items = refl

  reading_from-lines : (side : Side) (before : List SideMask) (text : List ℕ) → reading_from m side before (items_of text) ≡ reading_from m First before (items_of text)
  reading_from-lines side before text =
      let first = items_of-first_line text in
      rw first.1 (reading_from-sides side before (before_first newline text) (items_of_rest (after_first colon (before_first newline text)) ++ first.0))

  -- a text whose first line is bad
  pub reading-bad_line : (before : List SideMask) (text line : List ℕ) (f : TextFault) → line ≡ before_first newline text → side_of_line m line ≡ Err f → reading_from m First before (items_of text) ≡ Err f
  reading-bad_line before text line f is bad =
      let first = items_of-first_line text in
      rw (first.1, ← is) (reading_from-line_fault before line f (items_of_rest (after_first colon line) ++ first.0) bad)

  module _ (before : List SideMask) (text line rest : List ℕ) (side : Side) (is : line ≡ before_first newline text) (good : side_of_line m line ≡ Ok side) (behind : rest ≡ after_first colon line) where
    -- a text whose first line has a bad entry
    pub reading-bad_entry : (f : TextFault) → ((more : List Item) → reading_from m side before (items_of_rest rest ++ more) ≡ Err f) → reading_from m First before (items_of text) ≡ Err f
    reading-bad_entry f said =
        let first = items_of-first_line text in
        rw (first.1, ← is) (reading_from-line side First before line (items_of_rest (after_first colon line) ++ first.0) good ∙ rw (← behind) (said first.0))

    -- a text of one line
    pub reading-last : (after : List SideMask) → list_any newline text ≡ false → ((more : List Item) → reading_from m side before (items_of_rest rest ++ more) ≡ reading_from m side after more) → reading_from m First before (items_of text) ≡ Ok after
    reading-last after none said =
        rw (items_of-last_line text none, ← is) (reading_from-line side First before line (items_of_rest (after_first colon line) ++ []) good ∙ rw (← behind) (said [] ∙ reading_from-nil side after))

    -- a text with more lines
    pub reading-more : (after : List SideMask) → list_any newline text ≡ true → ((more : List Item) → reading_from m side before (items_of_rest rest ++ more) ≡ reading_from m side after more)
        → reading_from m First before (items_of text) ≡ reading_from m First after (items_of (after_first newline text))
    reading-more after some said =
        rw (items_of-more_lines text some, ← is)
        (reading_from-line side First before line (items_of_rest (after_first colon line) ++ items_of (after_first newline text)) good ∙ rw (← behind) (said (items_of (after_first newline text)) ∙ reading_from-lines side after (after_first newline text)))
