-- The entries of a line, read as entries of its side alone.
use Rattle.std.proofs.Common.{◌≡◌, ℕ, Bool, true, false, List, [], ◌∷◌, ◌++◌, length, drop, map, Result, Ok, Err, refl, sym, subst, ap, ◌∙◌, append_assoc}
use Rattle.pair_law.proofs.laws.Sides.{is_same_side-true}
use Rattle.pair_law.specs.Reading as pairs
use Rattle.pair_law.specs.Reading.{SideMask, is_same_side, on_side, side_mask}
use Rattle.pair_text.specs.Values.{Machines, side_machine}
use Rattle.pair_text.specs.declared.side.Side.{Side}
use Rattle.pair_tree.proofs.SideMasks.{on_side-append, on_side-made, on_side-made_other}
use Rattle.pair_tree.specs.Reading.{AreRead}
use Rattle.schemata_text.proofs.laws.Items.{reading_from-nil}
use Rattle.rc_base.specs.Faults.{◌>>=◌}
use Rattle.schemata_text.specs.Items.{Entry, Item, items_of_rest, semicolon, without_empty_last}
use Rattle.std.specs.List.{slice_split}
use Rattle.schemata_text.specs.Reading as singles
use Rattle.schemata_text.specs.Reading.{AreLawful, entry_of}
use Rattle.schemata_text.specs.declared.assignment.Assignment.{Assignment}
use Rattle.schemata_text.specs.declared.fault.TextFault.{TextFault}
use Rattle.tree_law.specs.Space.{geometry_of}

append_none : {X : Type 0} (xs : List X) → xs ++ [] ≡ xs
append_none [] = refl
append_none (x ∷ xs) = ap (λ ys. x ∷ ys) (append_none xs)

pub drop-added : {X : Type 0} (xs ys : List X) → drop (length xs) (xs ++ ys) ≡ ys
drop-added [] ys = refl
drop-added (x ∷ xs) ys = drop-added xs ys

Ok-same : {A : Type 0} (x y : A) → ◌≡◌ {A = Result A TextFault} (Ok x) (Ok y) → x ≡ y
Ok-same x y e = cc

module _ (m : Machines) (side : Side) where
  -- the entries of a line of the side, after these masks
  abbrev single : List Assignment → List Item → Result (List Assignment) TextFault
  single before items = singles.reading_from (geometry_of (side_machine m side)) (side_machine m side).domains before items

  -- what the entries add to the masks of both sides
  pub record Adds (before : List SideMask) (items : List Item) (after : List Assignment) : Type 0 where
    pub added : List Assignment
    pub own : after ≡ on_side side before ++ added
    pub goes_on : (more : List Item) → pairs.reading_from m side before (items ++ more) ≡ pairs.reading_from m side (before ++ map (side_mask side) added) more

  on_side-push : (before : List SideMask) (a : Assignment) → on_side side (before ++ side_mask side a ∷ []) ≡ on_side side before ++ a ∷ []
  on_side-push before a = on_side-append side before (side_mask side a ∷ []) ∙ ap (λ (l : List Assignment). on_side side before ++ l) (on_side-made side (a ∷ []))

  pub Adds-entries : (before : List SideMask) (es : List (List ℕ)) (after : List Assignment) → single (on_side side before) (map Entry es) ≡ Ok after → Adds before (map Entry es) after
  unfolding singles.reading_from pairs.reading_from
  Adds-entries before [] after is = record {
    added = [];
    own = sym (Ok-same (on_side side before) after is) ∙ sym (append_none (on_side side before));
    goes_on = λ more. ap (λ (b : List SideMask). pairs.reading_from m side b more) (sym (append_none before));
  }
  Adds-entries before (e ∷ es) after is = at (entry_of (geometry_of (side_machine m side)) (side_machine m side).domains (on_side side before) e) refl is (λ a. Adds-entries (before ++ side_mask side a ∷ []) es after)
    where
      at : (r : Result Assignment TextFault) → entry_of (geometry_of (side_machine m side)) (side_machine m side).domains (on_side side before) e ≡ r
          → (r >>= (λ a. single (on_side side before ++ a ∷ []) (map Entry es))) ≡ Ok after
          → ((a : Assignment) → single (on_side side (before ++ side_mask side a ∷ [])) (map Entry es) ≡ Ok after → Adds (before ++ side_mask side a ∷ []) (map Entry es) after)
          → Adds before (Entry e ∷ map Entry es) after
      at (Err f) said is rest = absurd (let g : ◌≡◌ {A = Result (List Assignment) TextFault} (Err f) (Ok after) = is in cc)
      at (Ok a) said is rest =
          let then = rest a (subst (λ (own : List Assignment). single own (map Entry es) ≡ Ok after) (sym (on_side-push before a)) is) in
          record {
            added = a ∷ then.added;
            own = then.own ∙ ap (λ (own : List Assignment). own ++ then.added) (on_side-push before a) ∙ append_assoc (on_side side before) (a ∷ []) then.added;
            goes_on = λ more.
                rw said (then.goes_on more ∙ ap (λ (b : List SideMask). pairs.reading_from m side b more) (append_assoc before (side_mask side a ∷ []) (map (side_mask side) then.added)));
          }

  -- the fault of a bad entry
  pub reading_from-fault : (before : List SideMask) (es : List (List ℕ)) (f : TextFault) → single (on_side side before) (map Entry es) ≡ Err f → (more : List Item) → pairs.reading_from m side before (map Entry es ++ more) ≡ Err f
  unfolding singles.reading_from pairs.reading_from
  reading_from-fault before [] f is more = absurd (let g : ◌≡◌ {A = Result (List Assignment) TextFault} (Ok (on_side side before)) (Err f) = is in cc)
  reading_from-fault before (e ∷ es) f is more = at (entry_of (geometry_of (side_machine m side)) (side_machine m side).domains (on_side side before) e) refl is (λ a is. reading_from-fault (before ++ side_mask side a ∷ []) es f is more)
    where
      at : (r : Result Assignment TextFault) → entry_of (geometry_of (side_machine m side)) (side_machine m side).domains (on_side side before) e ≡ r
          → (r >>= (λ a. single (on_side side before ++ a ∷ []) (map Entry es))) ≡ Err f
          → ((a : Assignment) → single (on_side side (before ++ side_mask side a ∷ [])) (map Entry es) ≡ Err f → pairs.reading_from m side (before ++ side_mask side a ∷ []) (map Entry es ++ more) ≡ Err f)
          → pairs.reading_from m side before (Entry e ∷ (map Entry es ++ more)) ≡ Err f
      at (Err g) said is rest = rw said (let h : ◌≡◌ {A = Result (List Assignment) TextFault} (Err g) (Err f) = is in let same : g ≡ f = cc in ap Err same)
      at (Ok a) said is rest = rw said (rest a (subst (λ (own : List Assignment). single own (map Entry es) ≡ Err f) (sym (on_side-push before a)) is))

  -- what the entries after a line's colon add, as they are read for the side alone
  pub Adds-rest : (before : List SideMask) (rest : List ℕ) (after : List Assignment) (u : Unit {0}) → singles.Continues (geometry_of (side_machine m side)) (side_machine m side).domains (on_side side before) (items_of_rest rest) (Ok u) after → Adds before (items_of_rest rest) after
  Adds-rest before rest after u said =
      Adds-entries before (without_empty_last (slice_split semicolon rest)) after
      (ap (λ (items : List Item). single (on_side side before) items) (sym (append_none (items_of_rest rest))) ∙ said [] ∙ reading_from-nil (geometry_of (side_machine m side)) (side_machine m side).domains after)

  -- their fault
  pub reading_from-rest_fault : (before : List SideMask) (rest : List ℕ) (after : List Assignment) (f : TextFault) → singles.Continues (geometry_of (side_machine m side)) (side_machine m side).domains (on_side side before) (items_of_rest rest) (Err f) after
      → (more : List Item) → pairs.reading_from m side before (items_of_rest rest ++ more) ≡ Err f
  reading_from-rest_fault before rest after f said =
      reading_from-fault before (without_empty_last (slice_split semicolon rest)) f (ap (λ (items : List Item). single (on_side side before) items) (sym (append_none (items_of_rest rest))) ∙ said [])

  -- both sides are good again
  pub AreRead-added : (before : List SideMask) (added : List Assignment) → AreRead m before → AreLawful (geometry_of (side_machine m side)) (side_machine m side).domains (on_side side before ++ added) → AreRead m (before ++ map (side_mask side) added)
  AreRead-added before added read lawful = λ s. at s (is_same_side s side) refl
    where
      own : on_side side (before ++ map (side_mask side) added) ≡ on_side side before ++ added
      own = on_side-append side before (map (side_mask side) added) ∙ ap (λ (l : List Assignment). on_side side before ++ l) (on_side-made side added)

      at : (s : Side) (b : Bool) → is_same_side s side ≡ b → AreLawful (geometry_of (side_machine m s)) (side_machine m s).domains (on_side s (before ++ map (side_mask side) added))
      at s true e = subst (λ (x : Side). AreLawful (geometry_of (side_machine m x)) (side_machine m x).domains (on_side x (before ++ map (side_mask side) added))) (sym (is_same_side-true s side e)) (rw own lawful)
      at s false e = rw (on_side-append s before (map (side_mask side) added), on_side-made_other s side added e, append_none (on_side s before)) (read s)
