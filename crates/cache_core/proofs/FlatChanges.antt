-- What marking, filling and emptying do to the sets that flat vectors keep.
use Rattle.std.proofs.Common.{◌≡◌, ◌≢◌, ℕ, ◌+◌, ◌*◌, ◌<◌, ◌≤◌, ◌==◌, Bool, true, false, cond, [], length, Some, None, option_map, replicate, slice_set, refl, sym, ◌∙◌, ap, subst, arith, inl, inr}
use Rattle.std.specs.Prelude.{slice_index}
use Rattle.std.specs.Int.{bit_at}
use Rattle.std.proofs.lemmas.Bool.{cases_Bool, cases_lt, eqb-true, eqb-false}
use Rattle.std.proofs.lemmas.List.{get_or-set_same, get_or-set_other, get_or-replicate, ext_get_or, length-replicate, length-set}
use Rattle.std.proofs.Math.ListN.{get_or-eq_default}
use Rattle.std.proofs.lemmas.Nat.Bits.{bit_at-zero}
use Rattle.cbm.specs.Masks.{has_way}
use Rattle.cache_core.specs.declared.cached_line.CachedLine.{CachedLine}
use Rattle.cache_core.specs.Flat.{Flat, IsFlat, flat_place, flat_set, flat_sets}
use Rattle.cache_core.specs.Places.{set_in, place_in}
use Rattle.cache_core.proofs.FlatPlaces.{lt-place, place-apart, length-flat_sets, length-flat_set, set_in-flat_sets, here_in, place_in-flat_set, flat_set-same, flat_sets-changed, flat_sets-replaced}

-- a way that is not valid holds nothing
no_place : (f : Flat) (set way : ℕ) → has_way (slice_index f.valid set) way ≡ false → flat_place f set way ≡ None
no_place f set way lacks = ap (λ b. cond b (Some (here_in f set way)) None) lacks

-- ---- a mark

-- a new stamp of one way
pub flat_sets-marked : (f : Flat) (at way stamp : ℕ) → length f.used ≡ length f.valid * f.ways → at < length f.valid → way < f.ways
    → flat_sets (record { ways = f.ways; valid = f.valid; lines = f.lines; used = slice_set f.used (at * f.ways + way) stamp; rmids = f.rmids })
    ≡ slice_set (flat_sets f) at (slice_set (set_in (flat_sets f) at) way (option_map (λ (p : CachedLine). record p { used = stamp }) (place_in (set_in (flat_sets f) at) way)))
flat_sets-marked f at way stamp count within inside =
    let g : Flat = record { ways = f.ways; valid = f.valid; lines = f.lines; used = slice_set f.used (at * f.ways + way) stamp; rmids = f.rmids } in
    let place : at * f.ways + way < length f.used = subst (λ n. at * f.ways + way < n) (sym count) (lt-place (length f.valid) f.ways at way within inside) in
    let was : place_in (set_in (flat_sets f) at) way ≡ flat_place f at way = ap (λ ps. place_in ps way) (set_in-flat_sets f at within) ∙ place_in-flat_set f at way inside in
    flat_sets-changed f g at way (option_map (λ (p : CachedLine). record p { used = stamp }) (place_in (set_in (flat_sets f) at) way)) refl refl within inside
    (now (has_way (slice_index f.valid at) way) (slice_index f.lines (at * f.ways + way)) (slice_index f.rmids (at * f.ways + way)) (slice_index f.used (at * f.ways + way)) (slice_index (slice_set f.used (at * f.ways + way) stamp) (at * f.ways + way))
    (get_or-set_same f.used (at * f.ways + way) stamp 0 place)
    ∙ ap (option_map (λ (p : CachedLine). record p { used = stamp })) (sym was))
    (λ t v lv apart. ap (λ n. cond (has_way (slice_index f.valid t) v) (Some (record { line = slice_index f.lines (t * f.ways + v); rmid = slice_index f.rmids (t * f.ways + v); used = n })) None)
    (get_or-set_other f.used (at * f.ways + way) (t * f.ways + v) stamp 0 (place-apart f.ways at way t v inside lv apart)))
  where
    now : (b : Bool) (line rmid used read : ℕ) → read ≡ stamp
        → cond b (Some (record { line = line; rmid = rmid; used = read })) None ≡ option_map (λ (p : CachedLine). record p { used = stamp }) (cond b (Some (let p : CachedLine = record { line = line; rmid = rmid; used = used } in p)) None)
    now true line rmid used read is = ap (λ n. Some (record { line = line; rmid = rmid; used = n })) is
    now false line rmid used read is = refl

-- ---- a fill

-- the flat vectors with a line put in one way, and another word of valid ways
abbrev pub put_in : Flat → ℕ → ℕ → CachedLine → ℕ → Flat
put_in f at way place word = record {
  ways = f.ways;
  valid = slice_set f.valid at word;
  lines = slice_set f.lines (at * f.ways + way) place.line;
  used = slice_set f.used (at * f.ways + way) place.used;
  rmids = slice_set f.rmids (at * f.ways + way) place.rmid;
}

-- the place is in that way, and the others are as they were
pub flat_sets-put : (f : Flat) (at way word : ℕ) (place : CachedLine) → IsFlat f → at < length f.valid → way < f.ways
    → has_way word way ≡ true → ((w : ℕ) → w ≢ way → has_way word w ≡ has_way (slice_index f.valid at) w)
    → flat_sets (put_in f at way place word) ≡ slice_set (flat_sets f) at (slice_set (set_in (flat_sets f) at) way (Some place))
flat_sets-put f at way word place flat within inside is others =
    let k : ℕ = at * f.ways + way in
    let lt : k < length f.valid * f.ways = lt-place (length f.valid) f.ways at way within inside in
    let word_at : slice_index (slice_set f.valid at word) at ≡ word = get_or-set_same f.valid at word 0 within in
    let line : slice_index (slice_set f.lines k place.line) k ≡ place.line = get_or-set_same f.lines k place.line 0 (omega (arith, lt, flat.lines)) in
    let used : slice_index (slice_set f.used k place.used) k ≡ place.used = get_or-set_same f.used k place.used 0 (omega (arith, lt, flat.used)) in
    let rmid : slice_index (slice_set f.rmids k place.rmid) k ≡ place.rmid = get_or-set_same f.rmids k place.rmid 0 (omega (arith, lt, flat.rmids)) in
    flat_sets-changed f (put_in f at way place word) at way (Some place) (length-set f.valid at word) refl within inside
    (rw (word_at, is, line, used, rmid) refl)
    (λ t v lv apart.
    let far : t * f.ways + v ≢ k = place-apart f.ways at way t v inside lv apart in
    let lines : slice_index (slice_set f.lines k place.line) (t * f.ways + v) ≡ slice_index f.lines (t * f.ways + v) = get_or-set_other f.lines k (t * f.ways + v) place.line 0 far in
    let useds : slice_index (slice_set f.used k place.used) (t * f.ways + v) ≡ slice_index f.used (t * f.ways + v) = get_or-set_other f.used k (t * f.ways + v) place.used 0 far in
    let rmids : slice_index (slice_set f.rmids k place.rmid) (t * f.ways + v) ≡ slice_index f.rmids (t * f.ways + v) = get_or-set_other f.rmids k (t * f.ways + v) place.rmid 0 far in
    let valid : has_way (slice_index (slice_set f.valid at word) t) v ≡ has_way (slice_index f.valid t) v = elim (cases_Bool (at == t)) [
      | inl e ↦
          let same : at ≡ t = eqb-true at t e in
          ap (λ s. has_way (slice_index (slice_set f.valid at word) s) v) (sym same) ∙ (ap (λ n. has_way n v) word_at ∙ (others v (λ e. apart (sym same, e)) ∙ ap (λ s. has_way (slice_index f.valid s) v) same))
      | inr e ↦ ap (λ n. has_way n v) (get_or-set_other f.valid at t word 0 (λ e'. eqb-false at t e (sym e')))
    ] in
    rw (valid, lines, useds, rmids) refl)

-- ---- a drop

-- the way is empty, and the others are as they were
pub flat_sets-emptied : (f : Flat) (at way word : ℕ) → f.ways ≤ 32 → at < length f.valid → way < f.ways
    → has_way word way ≡ false → ((w : ℕ) → w < 32 → w ≢ way → has_way word w ≡ has_way (slice_index f.valid at) w)
    → flat_sets (record { ways = f.ways; valid = slice_set f.valid at word; lines = f.lines; used = f.used; rmids = f.rmids })
    ≡ slice_set (flat_sets f) at (slice_set (set_in (flat_sets f) at) way None)
flat_sets-emptied f at way word limit within inside is others =
    let g : Flat = record { ways = f.ways; valid = slice_set f.valid at word; lines = f.lines; used = f.used; rmids = f.rmids } in
    let word_at : slice_index (slice_set f.valid at word) at ≡ word = get_or-set_same f.valid at word 0 within in
    flat_sets-changed f g at way None (length-set f.valid at word) refl within inside
    (rw (word_at, is) refl)
    (λ t v lv apart.
    let valid : has_way (slice_index (slice_set f.valid at word) t) v ≡ has_way (slice_index f.valid t) v = elim (cases_Bool (at == t)) [
      | inl e ↦
          let same : at ≡ t = eqb-true at t e in
          ap (λ s. has_way (slice_index (slice_set f.valid at word) s) v) (sym same) ∙ (ap (λ n. has_way n v) word_at ∙ (others v (omega arith) (λ e. apart (sym same, e)) ∙ ap (λ s. has_way (slice_index f.valid s) v) same))
      | inr e ↦ ap (λ n. has_way n v) (get_or-set_other f.valid at t word 0 (λ e'. eqb-false at t e (sym e')))
    ] in
    rw valid refl)

-- ---- a renewal

-- every way of the set is empty
pub flat_sets-cleared : (f : Flat) (at : ℕ) → at < length f.valid
    → flat_sets (record { ways = f.ways; valid = slice_set f.valid at 0; lines = f.lines; used = f.used; rmids = f.rmids }) ≡ slice_set (flat_sets f) at (replicate (length (set_in (flat_sets f) at)) None)
flat_sets-cleared f at within =
    let g : Flat = record { ways = f.ways; valid = slice_set f.valid at 0; lines = f.lines; used = f.used; rmids = f.rmids } in
    let width : length (set_in (flat_sets f) at) ≡ f.ways = ap length (set_in-flat_sets f at within) ∙ length-flat_set f at in
    let word : slice_index (slice_set f.valid at 0) at ≡ 0 = get_or-set_same f.valid at 0 0 within in
    flat_sets-replaced f g at (replicate (length (set_in (flat_sets f) at)) None) (length-set f.valid at 0) within
    (rw width
    (ext_get_or None (flat_set g at) (replicate f.ways None) (length-flat_set g at ∙ sym (length-replicate f.ways None))
    (λ i l.
    let inside : i < f.ways = subst (λ n. i < n) (length-flat_set g at) l in
    place_in-flat_set g at i inside
    ∙ (no_place g at i (ap (λ n. n == 1) (ap (λ n. bit_at n i) word ∙ bit_at-zero i)) ∙ sym (get_or-replicate f.ways i None None inside)))))
    (λ t apart. flat_set-same f g t refl (λ v lv. ap (λ n. cond (has_way n v) (Some (here_in f t v)) None) (get_or-set_other f.valid at t 0 0 apart)))

-- ---- the form

-- a fill keeps the vectors in order
pub IsFlat-put : (f : Flat) (at way word : ℕ) (place : CachedLine) → IsFlat f → IsFlat (put_in f at way place word)
IsFlat-put f at way word place flat =
    let count : length (slice_set f.valid at word) ≡ length f.valid = length-set f.valid at word in
    record {
      limit = flat.limit;
      lines = length-set f.lines (at * f.ways + way) place.line ∙ (flat.lines ∙ ap (λ k. k * f.ways) (sym count));
      used = length-set f.used (at * f.ways + way) place.used ∙ (flat.used ∙ ap (λ k. k * f.ways) (sym count));
      rmids = length-set f.rmids (at * f.ways + way) place.rmid ∙ (flat.rmids ∙ ap (λ k. k * f.ways) (sym count));
    }

-- so does another word of valid ways
pub IsFlat-emptied : (f : Flat) (at word : ℕ) → IsFlat f → IsFlat (record { ways = f.ways; valid = slice_set f.valid at word; lines = f.lines; used = f.used; rmids = f.rmids })
IsFlat-emptied f at word flat =
    let count : length (slice_set f.valid at word) ≡ length f.valid = length-set f.valid at word in
    record {
      limit = flat.limit;
      lines = flat.lines ∙ ap (λ k. k * f.ways) (sym count);
      used = flat.used ∙ ap (λ k. k * f.ways) (sym count);
      rmids = flat.rmids ∙ ap (λ k. k * f.ways) (sym count);
    }

-- ---- the start

-- vectors without a valid way hold nothing
pub place_in-empty : (f : Flat) → ((s : ℕ) → slice_index f.valid s ≡ 0) → (at way : ℕ) → place_in (set_in (flat_sets f) at) way ≡ None
place_in-empty f none at way = elim (cases_lt at (length f.valid)) [
  | inl inside ↦
      ap (λ ps. place_in ps way) (set_in-flat_sets f at inside)
      ∙ (elim (cases_lt way f.ways) [
        | inl less ↦ place_in-flat_set f at way less ∙ no_place f at way (ap (λ k. k == 1) (ap (λ k. bit_at k way) (none at) ∙ bit_at-zero way))
        | inr more ↦ get_or-eq_default (flat_set f at) None (let count : length (flat_set f at) ≡ f.ways = length-flat_set f at in omega arith)
      ])
  | inr past ↦ ap (λ ps. place_in ps way) (get_or-eq_default (flat_sets f) [] (let count : length (flat_sets f) ≡ length f.valid = length-flat_sets f in omega arith))
]
