-- The journals of the slices are closed, one after the other.
use Rattle.std.proofs.Common.{◌≡◌, ℕ, ◌+◌, ◌<◌, inl, inr, All, List, [], ◌∷◌, ◌++◌, Vec, length, map, refl, sym, ap, ap₂, ◌∙◌, subst, arith}
use Rattle.std.specs.Prelude.{slice_index_or}
use Rattle.std.specs.declared.alloc.Global.{Global}
use Rattle.std.proofs.Math.Seq.{get_or-append_seam}
use Rattle.std.proofs.lemmas.Bool.{cases_lt}
use Rattle.std.proofs.lemmas.List.{get_or_push, length_push, map-append}
use Rattle.cache_core.specs.declared.entry.SliceEntry.{SliceEntry}
use Rattle.live_run.specs.Cells.{SliceCellValue}
use Rattle.live_run.specs.Closings.{HaveAll, MayClose, MayCloseEach}
use Rattle.live_run.specs.Openings.{part_at}
use Rattle.run_law.specs.Entries.{entries_of}
use Rattle.seen_journal.specs.Entries.{list_of}
use Rattle.seen_journal.specs.Journals.{JournalValue}
use Rattle.seen_journal.specs.Passes.{HasAll, PassValue}

-- the list of each slice
abbrev pub lists_in : List SliceCellValue → List (List SliceEntry)
lists_in parts = map (λ (c : SliceCellValue). list_of c.journal.entries) parts

-- one more is closed
pub closed_push : (all : List (Vec SliceEntry Global)) (yielded : List SliceCellValue) (list : Vec SliceEntry Global) (part : SliceCellValue) → list.items ≡ list_of part.journal.entries → map entries_of all ≡ lists_in yielded
    → map entries_of (all ++ list ∷ []) ≡ lists_in (yielded ++ part ∷ [])
closed_push all yielded list part is closed =
    map-append entries_of all (list ∷ [])
    ∙ (ap₂ (λ (xs : List (List SliceEntry)) (x : List SliceEntry). xs ++ x ∷ []) closed is ∙ sym (map-append (λ (c : SliceCellValue). list_of c.journal.entries) yielded (part ∷ [])))

module _ (parts yielded rest : List SliceCellValue) (part : SliceCellValue) (lists left left_now : List (Vec (PassValue SliceEntry) Global)) (list : Vec (PassValue SliceEntry) Global) (split : parts ≡ yielded ++ part ∷ rest) (count : length left + length yielded ≡ length parts)
    (same : (k : ℕ) (d : Vec (PassValue SliceEntry) Global) → k < length left → slice_index_or left k d ≡ slice_index_or lists k d) (taken : left ≡ left_now ++ list ∷ []) where
  one_less : length left ≡ length left_now + 1
  one_less = ap length taken ∙ length_push left_now list

  place : length yielded + length left_now + 1 ≡ length parts
  place = omega (arith, count, one_less)

  part_is : (d : SliceCellValue) → part_at parts (length yielded) d ≡ part
  part_is d = ap (λ ps. part_at ps (length yielded) d) split ∙ get_or-append_seam yielded part rest d

  list_is : (e : Vec (PassValue SliceEntry) Global) → slice_index_or lists (length left_now) e ≡ list
  list_is e =
      sym (same (length left_now) e (omega (arith, one_less)))
      ∙ (ap (λ (ls : List (Vec (PassValue SliceEntry) Global)). slice_index_or ls (length left_now) e) taken ∙ get_or_push left_now list e (length left_now) refl)

  -- the next may be closed
  pub may_next : (journal : JournalValue SliceEntry) → journal ≡ part.journal → MayCloseEach parts lists → MayClose journal list.items
  may_next journal is may =
      subst (λ j. MayClose j list.items) (sym is)
      (subst (λ (c : SliceCellValue). MayClose c.journal list.items) (part_is part)
      (subst (λ (l : Vec (PassValue SliceEntry) Global). MayClose (part_at parts (length yielded) part).journal l.items) (list_is list) (may.each (length left_now) (length yielded) part list place)))

  -- and then its passes have all
  pub have_next : All (HasAll part.journal.entries) list.items → HaveAll (length yielded) parts lists → HaveAll (length (yielded ++ part ∷ [])) parts lists
  have_next last had k i d e within at = elim (cases_lt i (length yielded)) [
    | inl before ↦ had k i d e before at
    | inr after ↦
        let here : length yielded ≡ i = omega (arith, within, after, length_push yielded part) in
        let there : length left_now ≡ k = omega (arith, at, here, place) in
        let of : (c : SliceCellValue) (l : Vec (PassValue SliceEntry) Global) → c ≡ part → l ≡ list → All (HasAll c.journal.entries) l.items = (λ c l part_is list_is.
        subst (λ (c : SliceCellValue). All (HasAll c.journal.entries) l.items) (sym part_is) (subst (λ (l : Vec (PassValue SliceEntry) Global). All (HasAll part.journal.entries) l.items) (sym list_is) last)) in
        of (part_at parts i d) (slice_index_or lists k e) (ap (λ i. part_at parts i d) (sym here) ∙ part_is d) (ap (λ k. slice_index_or lists k e) (sym there) ∙ list_is e)
  ]
