-- The entries since a slice was last emptied.
use Rattle.std.proofs.Common.{◌≡◌, ℕ, ◌+◌, ◌<◌, Bool, true, false, List, [], ◌∷◌, ◌++◌, length, drop, get_or, refl, sym, ap, ◌∙◌, arith}
use Rattle.std.specs.List.{list_any, slice_range}
use Rattle.std.proofs.lemmas.Bool.{or_left, or_right}
use Rattle.std.proofs.lemmas.List.{at_drop_more}
use Rattle.std.proofs.lemmas.List.Folds.{drop_split, list_any-append}
use Rattle.cache_core.specs.Filled.{empties}
use Rattle.cache_core.specs.declared.entry.SliceEntry.{SliceEntry}
use Rattle.way_plans.specs.GroupItems.{since_emptied}

-- whether an entry empties the slice
abbrev pub is_emptying : SliceEntry → Bool
is_emptying e = empties e.what

-- where none does, all are left
pub since_emptied-none : (es : List SliceEntry) → list_any is_emptying es ≡ false → since_emptied es ≡ es
since_emptied-none [] none = refl
since_emptied-none (e ∷ es) none = rw none refl

-- where one does and none behind it, those behind it are left
pub since_emptied-behind : (front : List SliceEntry) (e : SliceEntry) (es : List SliceEntry) → empties e.what ≡ true → list_any is_emptying es ≡ false
    → since_emptied (front ++ e ∷ es) ≡ es
since_emptied-behind [] e es is none = rw is (since_emptied-none es none)
since_emptied-behind (x ∷ front) e es is none =
    let later : list_any is_emptying (front ++ e ∷ es) ≡ true =
    list_any-append is_emptying front (e ∷ es) ∙ or_right (list_any is_emptying front) (list_any is_emptying (e ∷ es)) (or_left (empties e.what) (list_any is_emptying es) is) in
    rw (or_right (empties x.what) (list_any is_emptying (front ++ e ∷ es)) later) (since_emptied-behind front e es is none)

-- the entries behind one that empties the slice, where none of them does
pub since_emptied-at : (entries : List SliceEntry) (i : ℕ) (d : SliceEntry) → i < length entries → empties (get_or entries i d).what ≡ true
    → list_any is_emptying (drop (i + 1) entries) ≡ false → drop (i + 1) entries ≡ since_emptied entries
since_emptied-at entries i d within is none =
    let front : List SliceEntry = slice_range entries 0 i in
    let cut : entries ≡ front ++ get_or entries i d ∷ drop (i + 1) entries =
    drop_split entries 0 i (omega arith) ∙ at_drop_more (λ (l : List SliceEntry). front ++ l) entries i d within in
    sym (ap since_emptied cut ∙ since_emptied-behind front (get_or entries i d) (drop (i + 1) entries) is none)
