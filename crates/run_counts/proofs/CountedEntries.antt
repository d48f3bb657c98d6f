-- Counts of the places that the entries of a slice filled, from the last entry back.
use Rattle.std.proofs.Common.{◌≡◌, ℕ, suc, ◌+◌, ◌*◌, ◌%◌, ◌<◌, ◌≤◌, ◌==◌, Bool, true, false, cond, ◌&&◌, List, [], ◌∷◌, ◌++◌, length, take, drop, get_or, Option, Some, None, refl, sym, ap, ap₂, ◌∙◌, subst, arith, inl, inr}
use Rattle.std.specs.Prelude.{is_some, option_and_then}
use Rattle.std.specs.Option.{option_or}
use Rattle.std.proofs.lemmas.Bool.{cases_lt}
use Rattle.std.proofs.lemmas.List.{get_or_past, take-append-drop}
use Rattle.std.proofs.Math.Seq.{drop-cons, drop-length}
use Rattle.cache_core.proofs.laws.Places.{places_with-le}
use Rattle.cache_core.proofs.laws.Suffixes.{decided-cons, decides-empties, held-append_emptied, held-decided}
use Rattle.cache_core.specs.Filled.{empties, places_with}
use Rattle.cache_core.specs.Fills.{Resident}
use Rattle.cache_core.specs.History.{Shape, decided, decides, held, is_of, is_own, left_by, lines_of, valid_of, ways_below}
use Rattle.cache_core.specs.declared.entry.SliceEntry.{SliceEntry}
use Rattle.cache_core.specs.declared.entry.What.{What}
use Rattle.cache_core.specs.declared.entry.What.TheVariants.{Access, Flush, Lock, Drop}
use Rattle.cbm.specs.Masks.{has_way}
use Rattle.lists.proofs.Sums.{sum_below-zero}
use Rattle.lists.specs.Sums.{one_if}
use Rattle.rc_base.specs.declared.names.Gid.{Gid}
use Rattle.run_counts.proofs.Occupancies.{HasCounted-alike, HasDecided-alike}
use Rattle.run_counts.specs.Occupancies.{AddsPlaces, HasCounted, HasDecided, IsAtMost, OccupancyValue, SkipsPlaces, held_in, is_seen, lines_told, with_left}

-- ---- entries, from the last one back

-- a list of entries, with one that is followed by others
module _ (m : Shape) (base old new : OccupancyValue) (e : SliceEntry) (es : List SliceEntry) where
  -- which places are decided before this one is counted
  abbrev later : ℕ → ℕ → Option (Option Resident)
  later s w = decided m es s w

  -- and once it is counted
  abbrev all : ℕ → ℕ → Option (Option Resident)
  all s w = decided m (e ∷ es) s w

  -- what was decided holds what the entries leave
  pub HasCounted-decided : (now : OccupancyValue) → HasDecided m base all now → HasCounted m base (λ s w. held m (e ∷ es) s w) now
  HasCounted-decided now before = HasCounted-alike m base now (held_in all) (λ s w. held m (e ∷ es) s w) (λ s w own there. sym (held-decided m (e ∷ es) s w)) before.counted

  -- what is there, or else nothing
  option_or-none : (o : Option (Option Resident)) → option_or o None ≡ o
  option_or-none None = refl
  option_or-none (Some r) = refl

  -- an entry that decides nothing
  pub HasDecided-quiet : ((s w : ℕ) → decides m s w e.what ≡ false) → HasDecided m base later old → HasDecided m base all old
  HasDecided-quiet nothing before =
      HasDecided-alike m base old later all (λ s w own there. sym (decided-cons m e es s w ∙ (ap (λ b. option_or (later s w) (cond b (Some (left_by m s w e.what)) None)) (nothing s w) ∙ option_or-none (later s w)))) before

  -- an entry that decides the places that pass a test
  HasDecided-left : (what : What) → e.what ≡ what → (test : ℕ → ℕ → Bool) (left : ℕ → ℕ → Option Resident) → ((s w : ℕ) → decides m s w what ≡ test s w) → ((s w : ℕ) → left_by m s w what ≡ left s w)
      → HasDecided m base (with_left test left later) new → HasDecided m base all new
  HasDecided-left what is test left when then after =
      HasDecided-alike m base new (with_left test left later) all
      (λ s w own there. sym (decided-cons m e es s w ∙ (ap (λ (x : What). option_or (later s w) (cond (decides m s w x) (Some (left_by m s w x)) None)) is ∙ ap₂ (λ b o. option_or (later s w) (cond b (Some o) None)) (when s w) (then s w)))) after

  -- a fill
  pub HasDecided-fill : (owner : Gid) (rmid mask line way : ℕ) → e.what ≡ Access false way owner rmid mask line → AddsPlaces m old new rmid (λ s w. (line % m.sets == s) && (way == w))
      → HasDecided m base later old → HasDecided m base all new
  HasDecided-fill owner rmid mask line way is adds before =
      let lines : ℕ → ℕ → Resident = λ s w. record { line = line; rmid = rmid } in
      HasDecided-left (Access false way owner rmid mask line) is (λ s w. (line % m.sets == s) && (way == w)) (λ s w. Some (lines s w)) (λ s w. refl) (λ s w. refl) (adds base later lines (λ s w. refl) before)

  -- a drop
  pub HasDecided-drop : (line : ℕ) (at : Option ℕ) → e.what ≡ Drop line at → SkipsPlaces m old new (λ s w. decides m s w (Drop line at))
      → HasDecided m base later old → HasDecided m base all new
  HasDecided-drop line at is skips before =
      HasDecided-left (Drop line at) is (λ s w. decides m s w (Drop line at)) (λ s w. None) (λ s w. refl) (λ s w. refl) (skips base later before)

  -- the places that an entry decides besides, of which it leaves some empty
  HasCounted-emptying : (now : OccupancyValue) (test : ℕ → ℕ → Bool) (left : ℕ → ℕ → Option Resident) → empties e.what ≡ true
      → ((s w : ℕ) → left_by m s w e.what ≡ cond (test s w) (left s w) None) → HasDecided m base (with_left test left later) now → HasCounted m base (λ s w. held m (e ∷ es) s w) now
  HasCounted-emptying now test left empty leaves after =
      HasCounted-alike m base now (held_in (with_left test left later)) (λ s w. held m (e ∷ es) s w)
      (λ s w own there. sym (held-decided m (e ∷ es) s w ∙ (ap (option_and_then (λ (o : Option Resident). o)) (decided-cons m e es s w) ∙ go (later s w) (decides m s w e.what) (test s w) (left s w) (left_by m s w e.what) (decides-empties m s w e.what empty) (leaves s w)))) after.counted
    where
      go : (o : Option (Option Resident)) (d b : Bool) (x y : Option Resident) → d ≡ true → y ≡ cond b x None
          → option_and_then (λ (o : Option Resident). o) (option_or o (cond d (Some y) None)) ≡ option_and_then (λ (o : Option Resident). o) (option_or o (cond b (Some x) None))
      go (Some z) d b x y is leaves = refl
      go None d true x y is leaves = rw is leaves
      go None d false x y is leaves = rw is leaves

  -- a flush, before which no place is filled
  pub HasCounted-flush : e.what ≡ Flush → HasDecided m base later old → HasCounted m base (λ s w. held m (e ∷ es) s w) old
  HasCounted-flush is before =
      HasCounted-emptying old (λ s w. false) (λ s w. None) (ap empties is) (λ s w. ap (left_by m s w) is)
      (HasDecided-alike m base old later (with_left (λ s w. false) (λ s w. None) later) (λ s w own there. sym (option_or-none (later s w))) before)

  -- a region
  pub HasCounted-lock : (mask first_line : ℕ) → e.what ≡ Lock mask first_line → AddsPlaces m old new 0 (λ s w. has_way mask w) → HasDecided m base later old → HasCounted m base (λ s w. held m (e ∷ es) s w) new
  HasCounted-lock mask first_line is adds before =
      let lines : ℕ → ℕ → Resident = λ s w. record { line = first_line + s + ways_below mask w * m.sets; rmid = 0 } in
      HasCounted-emptying new (λ s w. has_way mask w) (λ s w. Some (lines s w)) (ap empties is) (λ s w. ap (left_by m s w) is) (adds base later lines (λ s w. refl) before)

-- ---- the whole list

-- no entry
pub HasDecided-none : (m : Shape) (now : OccupancyValue) → length now.seen ≡ m.sets → ((set way : ℕ) → is_seen now set way ≡ false) → HasDecided m now (decided m []) now
HasDecided-none m now sets none = record {
  counted = record {
    sets = sets;
    rmids = refl;
    counts = λ r there. let zero_lines = places_with-none m (is_of r) refl in omega (arith, zero_lines);
    valid = let zero_lines = places_with-none m (λ o. is_some o) refl in omega (arith, zero_lines);
  };
  seen = λ s w own there. none s w;
}
  where
    cond-zero : (b : Bool) (n : ℕ) → n ≡ 0 → cond b n 0 ≡ 0
    cond-zero true n is = is
    cond-zero false n is = refl

    places_with-none : (m : Shape) (p : Option Resident → Bool) → p None ≡ false → places_with m p (λ s w. None) ≡ 0
    places_with-none m p none =
        sum_below-zero m.sets _ (λ s lt. cond-zero (is_own m s) _ (sum_below-zero m.ways (λ w. one_if (p None)) (λ w lw. rw none refl)))

-- the entries from one on
pub drop-at : (es : List SliceEntry) (k : ℕ) (e : SliceEntry) → k < length es → e ≡ get_or es k e → drop k es ≡ e ∷ drop (k + 1) es
drop-at es k e within is = drop-cons es k e within ∙ (ap (λ x. x ∷ drop (suc k) es) (sym is) ∙ ap (λ n. e ∷ drop n es) (let same : suc k ≡ k + 1 = omega arith in same))

-- from an entry that empties every place on, all is counted
pub HasCounted-emptied : (m : Shape) (base now : OccupancyValue) (es : List SliceEntry) (k : ℕ) (e : SliceEntry) → k < length es → e ≡ get_or es k e → empties e.what ≡ true
    → HasCounted m base (λ s w. held m (e ∷ drop (k + 1) es) s w) now → HasCounted m base (λ s w. held m es s w) now
HasCounted-emptied m base now es k e within is last before =
    let cut : take k es ++ (e ∷ drop (k + 1) es) ≡ es = ap (λ t. take k es ++ t) (sym (drop-at es k e within is)) ∙ take-append-drop k es in
    HasCounted-alike m base now (λ s w. held m (e ∷ drop (k + 1) es) s w) (λ s w. held m es s w)
    (λ s w own there. sym (held-append_emptied m (take k es) e (drop (k + 1) es) s w last) ∙ ap (λ (all : List SliceEntry). held m all s w) cut) before

-- counts of one slice more are few
pub IsAtMost-slice : (m : Shape) (base now : OccupancyValue) (holds : ℕ → ℕ → Option Resident) (most : ℕ) → m.sets * m.ways ≤ 2097152 → HasCounted m base holds now → IsAtMost most base → IsAtMost (most + 2097152) now
IsAtMost-slice m base now holds most few counted least = record {
  counts = λ r. elim (cases_lt r (length base.counts)) [
    | inl there ↦ let is = counted.counts r there in let was = least.counts r in omega (arith, is, was, few, places_with-le m (is_of r) holds)
    | inr past ↦ let none : lines_told now r ≡ 0 = get_or_past now.counts r 0 (let same = counted.rmids in omega arith) in omega (arith, none)
  ];
  valid = let is = counted.valid in let was = least.valid in omega (arith, is, was, few, places_with-le m (λ o. is_some o) holds);
}

-- before the last entry
pub HasDecided-begun : (m : Shape) (now : OccupancyValue) (es : List SliceEntry) → length now.seen ≡ m.sets → ((set way : ℕ) → is_seen now set way ≡ false) → HasDecided m now (decided m (drop (length es) es)) now
HasDecided-begun m now es sets none = subst (λ (left : List SliceEntry). HasDecided m now (decided m left) now) (sym (drop-length es)) (HasDecided-none m now sets none)

-- the count with one entry more is that from this entry on
pub HasDecided-more : (m : Shape) (base now : OccupancyValue) (es : List SliceEntry) (k left : ℕ) (e : SliceEntry) → k + 1 ≡ left → k < length es → e ≡ get_or es k e
    → HasDecided m base (decided m (e ∷ drop left es)) now → HasDecided m base (decided m (drop k es)) now
HasDecided-more m base now es k left e next within is counted =
    subst (λ (all : List SliceEntry). HasDecided m base (decided m all) now) (ap (λ n. e ∷ drop n es) (sym next) ∙ sym (drop-at es k e within is)) counted

-- what was decided from an entry on is what is held from there on
pub HasCounted-from : (m : Shape) (base now : OccupancyValue) (es : List SliceEntry) → HasDecided m base (decided m es) now → HasCounted m base (λ s w. held m es s w) now
HasCounted-from m base now es before = HasCounted-alike m base now (held_in (decided m es)) (λ s w. held m es s w) (λ s w own there. sym (held-decided m es s w)) before.counted

-- the count with an entry that empties every place is that of all entries
pub HasCounted-ended : (m : Shape) (base now : OccupancyValue) (es : List SliceEntry) (k left : ℕ) (e : SliceEntry) → k + 1 ≡ left → k < length es → e ≡ get_or es k e → empties e.what ≡ true
    → HasCounted m base (λ s w. held m (e ∷ drop left es) s w) now → HasCounted m base (λ s w. held m es s w) now
HasCounted-ended m base now es k left e next within is last counted =
    HasCounted-emptied m base now es k e within is last (subst (λ n. HasCounted m base (λ s w. held m (e ∷ drop n es) s w) now) (sym next) counted)

-- how many lines of an RMID were counted besides
pub HasCounted-counts : (m : Shape) (old base now : OccupancyValue) (es : List SliceEntry) → base.counts ≡ old.counts → HasCounted m base (λ s w. held m es s w) now
    → (r : ℕ) → r < length old.counts → lines_told now r ≡ lines_told old r + lines_of m es r
HasCounted-counts m old base now es same counted r there =
    counted.counts r (subst (λ (all : List ℕ). r < length all) (sym same) there) ∙ ap (λ (all : List ℕ). get_or all r 0 + lines_of m es r) same

-- how many valid lines were counted besides
pub HasCounted-valid : (m : Shape) (old base now : OccupancyValue) (es : List SliceEntry) → base.valid ≡ old.valid → HasCounted m base (λ s w. held m es s w) now → now.valid ≡ old.valid + valid_of m es
HasCounted-valid m old base now es same counted = counted.valid ∙ ap (λ n. n + valid_of m es) same

-- the counts are the same where a slice begins
pub IsAtMost-begun : (most : ℕ) (old new : OccupancyValue) → new.counts ≡ old.counts → new.valid ≡ old.valid → IsAtMost most old → IsAtMost most new
IsAtMost-begun most old new counts valid few = record {
  counts = λ r. subst (λ (all : List ℕ). get_or all r 0 ≤ most) (sym counts) (few.counts r);
  valid = let was = few.valid in omega (arith, valid, was);
}
