-- What is kept of a slice after one more entry.
use Rattle.std.proofs.Common.{◌≡◌, ℕ, ◌+◌, ◌*◌, ◌/◌, ◌%◌, ◌<◌, ◌≤◌, ◌==◌, inl, inr, cond, Bool, true, false, List, [], ◌∷◌, ◌++◌, length, Option, Some, None, refl, sym, ap, ◌∙◌, subst, arith}
use Rattle.std.specs.Prelude.{max}
use Rattle.std.proofs.lemmas.Bool.{cases_Bool, cases_eq, eq-eqb, eqb-true}
use Rattle.std.proofs.lemmas.List.{length_push}
use Rattle.cache_core.proofs.laws.Places.{places_with-same}
use Rattle.cache_core.proofs.laws.Histories.{floor_of-push, held-push, used-push}
use Rattle.cache_core.specs.Fills.{Resident}
use Rattle.cache_core.specs.History.{Shape, decides, floor_of, held, is_of, is_own, left_by, lines_of, sets_floor, used, uses, ways_below}
use Rattle.cache_core.specs.RmidCounts.{is_rmid}
use Rattle.cbm.specs.Masks.{has_way}
use Rattle.cache_core.specs.declared.entry.SliceEntry.{SliceEntry}
use Rattle.journal_check.specs.declared.cached_line.CachedLine.{CachedLine}
use Rattle.lists.specs.Sums.{one_if}
use Rattle.journal_check.proofs.ChangedLines.{places_with-foreign, places_with-written}
use Rattle.journal_check.proofs.EmptiedLines.{places_with-left}
use Rattle.journal_check.proofs.WrittenPlaces.{place_at-other, place_at-own}
use Rattle.journal_check.specs.Replays.{Empties, IsPlace, LeavesRegion, StandsFor, Writes}
use Rattle.journal_check.specs.RmidCounts.{count_at}
use Rattle.journal_check.specs.Slots.{left_place, loaded, place_at, resident_of, rmid_of}
use Rattle.journal_check.specs.declared.region.Region.{Region}
use Rattle.journal_check.specs.declared.replay.Replay.{Replay}

-- whether a place has a line of an RMID
is_of-rmid : (r : ℕ) (p : Option CachedLine) → is_of r (resident_of p) ≡ is_rmid (rmid_of p) r
is_of-rmid r None = refl
is_of-rmid r (Some p) = refl

-- the lines of a region have RMID 0
left-rmid : (m : Shape) (region : Region) (s w : ℕ) (p : CachedLine) → left_place m region s w ≡ Some p → p.rmid ≡ 0
left-rmid m region s w p is = of (has_way region.mask w) (region.first_line + s + ways_below region.mask w * m.sets) is
  where
    of : (b : Bool) (line : ℕ) → cond b (loaded line region.stamp) None ≡ Some p → p.rmid ≡ 0
    of true line is = cc
    of false line is = absurd cc

module _ (m : Shape) (es : List SliceEntry) (e : SliceEntry) (old new : Replay) (stands : StandsFor m es old) where
  -- a place that the entry does not decide
  pub held-kept : (s w : ℕ) → decides m s w e.what ≡ false → held m (es ++ e ∷ []) s w ≡ held m es s w
  held-kept s w other = held-push m es e s w ∙ ap (λ b. cond b (left_by m s w e.what) (held m es s w)) other

  used-kept : (s w : ℕ) → uses m s w e.what ≡ false → used m (es ++ e ∷ []) s w ≡ used m es s w
  used-kept s w other = used-push m es e s w ∙ ap (λ b. cond b (length es + 1) (used m es s w)) other

  -- the floor, where the entry does not set it
  pub floor-kept : sets_floor e.what ≡ false → floor_of (es ++ e ∷ []) ≡ floor_of es
  floor-kept other = floor_of-push es e ∙ (ap (λ b. max (floor_of es) (cond b e.epoch 0)) other ∙ (let z : max (floor_of es) 0 ≡ floor_of es = omega arith in z))

  -- one place is written
  pub StandsFor-writes : (set way : ℕ) (place : Option CachedLine) → Writes old new set way place → set < m.sets → way < m.ways
      → ((s w : ℕ) → ((s ≡ set) × (w ≡ way) → ⊥) → decides m s w e.what ≡ false) → ((s w : ℕ) → ((s ≡ set) × (w ≡ way) → ⊥) → uses m s w e.what ≡ false)
      → IsPlace m (es ++ e ∷ []) set way place → sets_floor e.what ≡ false → StandsFor m (es ++ e ∷ []) new
  StandsFor-writes set way place writes inside below decides_other uses_other own floor_kept = record {
    divided = stands.divided;
    shape = writes.slots.shape ∙ stands.shape;
    places = places_now;
    counts = counts_now;
    floor = writes.floor ∙ (stands.floor ∙ sym (floor-kept floor_kept));
    slots_generation = (let g = stands.slots_generation in let h = writes.slots.generation in omega (arith, g, h, length_push es e));
    counts_generation = (let g = stands.counts_generation in let h = writes.generation in omega (arith, g, h, length_push es e));
  }
    where
      next : List SliceEntry
      next = es ++ e ∷ []

      own_now : IsPlace m next set way (place_at new.slots set way)
      own_now = subst (λ (p : Option CachedLine). IsPlace m next set way p) (sym (place_at-own old.slots new.slots set way place writes.slots)) own

      other : (s w : ℕ) → s < m.sets → w < m.ways → ((s ≡ set) × (w ≡ way) → ⊥) → IsPlace m next s w (place_at new.slots s w)
      other s w s_in w_in apart =
          let below_old = subst (λ (k : Shape). way < k.ways) (sym stands.shape) below in
          let w_old = subst (λ (k : Shape). w < k.ways) (sym stands.shape) w_in in
          let same = place_at-other old.slots new.slots set way place writes.slots s w below_old w_old apart in
          let it = stands.places s w s_in w_in in
          record {
            resident = held-kept s w (decides_other s w apart) ∙ (it.resident ∙ ap resident_of (sym same));
            age = λ p is. used-kept s w (uses_other s w apart) ∙ it.age p (sym same ∙ is);
            named = λ p is. it.named p (sym same ∙ is);
          }

      places_now : (s w : ℕ) → s < m.sets → w < m.ways → IsPlace m next s w (place_at new.slots s w)
      places_now s w s_in w_in = elim (cases_eq s set) [
        | inl same ↦ elim (cases_eq w way) [
          | inl one ↦ subst (λ a. IsPlace m next a w (place_at new.slots a w)) (sym same) (subst (λ b. IsPlace m next set b (place_at new.slots set b)) (sym one) own_now)
          | inr apart ↦ other s w s_in w_in (λ both. apart both.1)
        ]
        | inr apart ↦ other s w s_in w_in (λ both. apart both.0)
      ]

      counts_now : (rmid : ℕ) → rmid < 65536 → count_at new.counts rmid ≡ lines_of m next rmid
      counts_now rmid small = elim (cases_Bool (is_own m set)) [
        | inl is ↦
            let own_set : is_own old.slots.shape set ≡ true = ap (λ (k : Shape). is_own k set) stands.shape ∙ is in
            let moved = writes.own own_set rmid small in
            let lines = places_with-written m rmid (held m es) (held m next) set way (λ s w apart. held-kept s w (decides_other s w apart)) (inside, eqb-true (set % m.slices) m.slice is) below in
            let before : one_if (is_of rmid (held m es set way)) ≡ one_if (is_rmid (rmid_of (place_at old.slots set way)) rmid) =
            ap (λ (o : Option Resident). one_if (is_of rmid o)) (stands.places set way inside below).resident ∙ ap one_if (is_of-rmid rmid (place_at old.slots set way)) in
            let after : one_if (is_of rmid (held m next set way)) ≡ one_if (is_rmid (rmid_of place) rmid) = ap (λ (o : Option Resident). one_if (is_of rmid o)) own.resident ∙ ap one_if (is_of-rmid rmid place) in
            let counted : count_at old.counts rmid ≡ lines_of m es rmid = stands.counts rmid small in
            omega (arith, moved, lines, before, after, counted)
        | inr isnt ↦
            let foreign : is_own old.slots.shape set ≡ false = ap (λ (k : Shape). is_own k set) stands.shape ∙ isnt in
            ap (λ c. count_at c rmid) (writes.other foreign)
            ∙ (stands.counts rmid small
            ∙ sym (places_with-foreign m rmid (held m es) (held m next) set way (λ s w apart. held-kept s w (decides_other s w apart)) (λ its. (let wrong : true ≡ false = sym (eq-eqb (set % m.slices) m.slice its.1) ∙ isnt in cc))))
      ]

  -- an entry that decides and uses no place
  pub StandsFor-quiet : ((s w : ℕ) → decides m s w e.what ≡ false) → ((s w : ℕ) → uses m s w e.what ≡ false) → new.slots ≡ old.slots → new.counts ≡ old.counts → new.floor ≡ floor_of (es ++ e ∷ []) → StandsFor m (es ++ e ∷ []) new
  StandsFor-quiet none unused slots counts floor_is = record {
    divided = stands.divided;
    shape = ap (λ v. v.shape) slots ∙ stands.shape;
    places = λ s w s_in w_in.
        let it = stands.places s w s_in w_in in
        let same = ap (λ v. place_at v s w) slots in
        record {
          resident = held-kept s w (none s w) ∙ (it.resident ∙ ap resident_of (sym same));
          age = λ p is. used-kept s w (unused s w) ∙ it.age p (sym same ∙ is);
          named = λ p is. it.named p (sym same ∙ is);
        };
    counts = λ rmid small. ap (λ c. count_at c rmid) counts ∙ (stands.counts rmid small ∙ sym (places_with-same m (is_of rmid) (held m (es ++ e ∷ [])) (held m es) (λ s w own inside. held-kept s w (none s w))));
    floor = floor_is;
    slots_generation = (let g = stands.slots_generation in let h = ap (λ v. v.generation) slots in omega (arith, g, h, length_push es e));
    counts_generation = (let g = stands.counts_generation in let h = ap (λ v. v.generation) counts in omega (arith, g, h, length_push es e));
  }

  -- an entry that empties every place, and leaves a region
  pub StandsFor-empties : (region : Region) → Empties old new e.epoch region → LeavesRegion m es e region → floor_of es ≤ e.epoch → StandsFor m (es ++ e ∷ []) new
  StandsFor-empties region empties leaves low = record {
    divided = stands.divided;
    shape = empties.shape ∙ stands.shape;
    places = λ s w s_in w_in. record {
      resident = held_now s w ∙ ap resident_of (sym (place_now s w));
      age = λ p is.
          let it = leaves.ages s w p (sym (place_now s w) ∙ is) in
          used-push m es e s w ∙ (ap (λ b. cond b (length es + 1) (used m es s w)) it.0 ∙ sym it.1);
      named = λ p is. (let none = left-rmid m region s w p (sym (place_now s w) ∙ is) in omega (arith, none));
    };
    counts = λ rmid small.
        empties.counts rmid
        ∙ (ap (λ (k : Shape). cond (rmid == 0) (k.sets / k.slices * ways_below region.mask k.ways) 0) stands.shape
        ∙ (sym (places_with-left m region rmid stands.divided)
        ∙ sym (places_with-same m (is_of rmid) (held m (es ++ e ∷ [])) (λ s w. resident_of (left_place m region s w)) (λ s w own inside. held_now s w))));
    floor = empties.floor ∙ sym (floor_of-push es e ∙ (ap (λ b. max (floor_of es) (cond b e.epoch 0)) leaves.sets ∙ (let top : max (floor_of es) e.epoch ≡ e.epoch = omega (arith, low) in top)));
    slots_generation = (let g = stands.slots_generation in let h = empties.slots_generation in omega (arith, g, h, length_push es e));
    counts_generation = (let g = stands.counts_generation in let h = empties.counts_generation in omega (arith, g, h, length_push es e));
  }
    where
      held_now : (s w : ℕ) → held m (es ++ e ∷ []) s w ≡ resident_of (left_place m region s w)
      held_now s w = held-push m es e s w ∙ (ap (λ b. cond b (left_by m s w e.what) (held m es s w)) (leaves.decides_all s w) ∙ leaves.leaves s w)

      place_now : (s w : ℕ) → place_at new.slots s w ≡ left_place m region s w
      place_now s w = empties.places s w ∙ ap (λ (k : Shape). left_place k region s w) stands.shape
