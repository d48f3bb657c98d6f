-- What entries of each kind do to the places.
use Rattle.std.proofs.Common.{◌≡◌, ℕ, ◌+◌, ◌*◌, ◌-◌, ◌^◌, ◌%◌, ◌<◌, ◌≤◌, ◌==◌, ◌&&◌, inl, inr, cond, Bool, true, false, List, [], ◌∷◌, ◌++◌, length, Option, Some, None, refl, sym, ap, ◌∙◌, subst, arith}
use Rattle.std.specs.Prelude.{IfSome, option_map}
use Rattle.std.proofs.Math.Nat.{mul-le-mul_right}
use Rattle.std.proofs.lemmas.Bool.{cases_Bool, eq-eqb, eqb-true}
use Rattle.std.proofs.lemmas.Nat.Bits.{bit_at-zero}
use Rattle.cache_core.proofs.laws.Histories.{held-push, used-push}
use Rattle.cache_core.proofs.laws.Places.{places_with-le}
use Rattle.cache_core.specs.Fills.{IsOutcome, Resident}
use Rattle.cache_core.specs.History.{EntryMayFollow, MayHappen, Shape, decides, held, is_of, is_own, left_by, sets_floor, used, uses, ways_below}
use Rattle.cache_core.specs.declared.entry.SliceEntry.{SliceEntry}
use Rattle.cache_core.specs.declared.entry.What.TheVariants.{Access, Drop, Flush, Lock}
use Rattle.journal_check.specs.declared.cached_line.CachedLine.{CachedLine}
use Rattle.cbm.proofs.laws.Ways.{has_way-zero}
use Rattle.cbm.specs.Masks.{has_way}
use Rattle.journal_check.proofs.ChangedLines.{places_with-some}
use Rattle.journal_check.specs.Replays.{IsAccessOf, IsPlace, IsRmidAfter, LeavesRegion, StandsFor}
use Rattle.journal_check.specs.RmidCounts.{count_at}
use Rattle.journal_check.specs.Slots.{left_place, loaded, place_at, resident_of, rmid_of}
use Rattle.journal_check.specs.declared.replay.Replay.{Replay}

-- a place is not another
not-here : (a b s w : ℕ) → ((s ≡ a) × (w ≡ b) → ⊥) → ((a == s) && (b == w)) ≡ false
not-here a b s w apart = elim (cases_Bool (a == s)) [
  | inl one ↦ elim (cases_Bool (b == w)) [
    | inl two ↦ absurd (apart (sym (eqb-true a s one), sym (eqb-true b w two)))
    | inr other ↦ rw (one, other) refl
  ]
  | inr other ↦ rw other refl
]

-- and is itself
is-here : (a b : ℕ) → ((a == a) && (b == b)) ≡ true
is-here a b = rw (eq-eqb a a refl, eq-eqb b b refl) refl

-- a line that hit keeps its RMID
hit-resident : (o : Option Resident) (p : Option CachedLine) (line after : ℕ) → o ≡ resident_of p → option_map (λ (r : Resident). r.line) o ≡ Some line → IfSome (rmid_of p) (λ r. after ≡ r) → o ≡ Some (record { line = line; rmid = after })
hit-resident o None line after is holds kept = absurd (let none : option_map (λ (r : Resident). r.line) o ≡ None = ap (option_map (λ (r : Resident). r.line)) is in let wrong : None ≡ Some line = sym none ∙ holds in cc)
hit-resident o (Some p) line after is holds kept =
    let its : Some p.line ≡ Some line = sym (ap (option_map (λ (r : Resident). r.line)) is) ∙ holds in
    let own : p.line ≡ line = cc in
    is ∙ (ap (λ (l : ℕ). Some (record { line = l; rmid = p.rmid })) own ∙ ap (λ (r : ℕ). Some (record { line = line; rmid = r })) (sym kept))

-- an outcome names a way of the set
outcome-way : (ways mask : ℕ) (a : ℕ → Option Resident) (u : ℕ → ℕ) (line : ℕ) (hit : Bool) (way : ℕ) → IsOutcome ways mask a u line hit way → way < ways
outcome-way ways mask a u line true way it = it.0
outcome-way ways mask a u line false way it = it.1.within

module _ (m : Shape) (es : List SliceEntry) (e : SliceEntry) (old : Replay) (stands : StandsFor m es old) where
  -- where a place of an own set holds a line, its RMID has one
  pub left-some : (set way : ℕ) → set < m.sets → way < m.ways → is_own m set ≡ true → IfSome (rmid_of (place_at old.slots set way)) (λ r. 0 < count_at old.counts r)
  left-some set way inside below own = of (place_at old.slots set way) refl
    where
      of : (p : Option CachedLine) → place_at old.slots set way ≡ p → IfSome (rmid_of p) (λ r. 0 < count_at old.counts r)
      of None is = tt
      of (Some p) is =
          let it = stands.places set way inside below in
          let small = it.named p is in
          let has : is_of p.rmid (held m es set way) ≡ true = ap (is_of p.rmid) (it.resident ∙ ap resident_of is) ∙ eq-eqb p.rmid p.rmid refl in
          let some = places_with-some m p.rmid (held m es) (held m es) set way (λ s w apart. refl) (inside, eqb-true (set % m.slices) m.slice own) below has in
          let counted = stands.counts p.rmid small in
          omega (arith, some, counted)

  -- counts are small
  pub count-small : (rmid : ℕ) → rmid < 65536 → count_at old.counts rmid < 2 ^ 64 - 1
  count-small rmid small =
      let counted = stands.counts rmid small in
      let all = places_with-le m (is_of rmid) (held m es) in
      let sets = stands.divided.few_sets in
      let ways = stands.divided.few_ways in
      let rows : m.sets * m.ways ≤ 65536 * m.ways = mul-le-mul_right m.ways sets in
      omega (arith, counted, all, rows, ways)

  -- ---- accesses

  module _ (may : EntryMayFollow m es e) (hit : Bool) (way rmid line : ℕ) (of : IsAccessOf e hit way rmid line) where
    outcome : IsOutcome m.ways of.mask (held m es (line % m.sets)) (used m es (line % m.sets)) line hit way
    outcome = (subst (MayHappen m es e.epoch) of.is may).1

    pub access-way : way < m.ways
    access-way = outcome-way m.ways of.mask (held m es (line % m.sets)) (used m es (line % m.sets)) line hit way outcome

    pub access-decides : (s w : ℕ) → ((s ≡ line % m.sets) × (w ≡ way) → ⊥) → decides m s w e.what ≡ false
    access-decides s w apart = ap (decides m s w) of.is ∙ by hit
      where
        by : (b : Bool) → decides m s w (Access b way of.owner rmid of.mask line) ≡ false
        by true = refl
        by false = not-here (line % m.sets) way s w apart

    pub access-uses : (s w : ℕ) → ((s ≡ line % m.sets) × (w ≡ way) → ⊥) → uses m s w e.what ≡ false
    access-uses s w apart = ap (uses m s w) of.is ∙ not-here (line % m.sets) way s w apart

    pub access-floor : sets_floor e.what ≡ false
    access-floor = ap sets_floor of.is

    pub access-place : (after : ℕ) → after < 65536 → IsRmidAfter (place_at old.slots (line % m.sets) way) hit rmid after → line % m.sets < m.sets
        → IsPlace m (es ++ e ∷ []) (line % m.sets) way (Some (record { line = line; rmid = after; used = length es + 1 }))
    access-place after small told inside = record {
      resident = by hit refl;
      age = λ p is.
          let its : p.used ≡ length es + 1 = cc in
          used-push m es e (line % m.sets) way ∙ (ap (λ b. cond b (length es + 1) (used m es (line % m.sets) way)) (ap (uses m (line % m.sets) way) of.is ∙ is-here (line % m.sets) way) ∙ sym its);
      named = λ p is. (let its : p.rmid ≡ after = cc in omega (arith, its, small));
    }
      where
        by : (b : Bool) → hit ≡ b → held m (es ++ e ∷ []) (line % m.sets) way ≡ Some (record { line = line; rmid = after })
        by true is =
            let holds = (subst (λ h. IsOutcome m.ways of.mask (held m es (line % m.sets)) (used m es (line % m.sets)) line h way) is outcome).1 in
            let stays : decides m (line % m.sets) way e.what ≡ false = ap (decides m (line % m.sets) way) of.is ∙ ap (λ h. decides m (line % m.sets) way (Access h way of.owner rmid of.mask line)) is in
            held-push m es e (line % m.sets) way
            ∙ (ap (λ b. cond b (left_by m (line % m.sets) way e.what) (held m es (line % m.sets) way)) stays
            ∙ hit-resident (held m es (line % m.sets) way) (place_at old.slots (line % m.sets) way) line after (stands.places (line % m.sets) way inside access-way).resident holds (told.kept is))
        by false is =
            let goes : decides m (line % m.sets) way e.what ≡ true =
            ap (decides m (line % m.sets) way) of.is ∙ (ap (λ h. decides m (line % m.sets) way (Access h way of.owner rmid of.mask line)) is ∙ is-here (line % m.sets) way) in
            held-push m es e (line % m.sets) way
            ∙ (ap (λ b. cond b (left_by m (line % m.sets) way e.what) (held m es (line % m.sets) way)) goes
            ∙ (ap (left_by m (line % m.sets) way) of.is ∙ ap (λ (r : ℕ). Some (record { line = line; rmid = r })) (sym (told.filled is))))

  -- ---- drops

  module _ (may : EntryMayFollow m es e) (line way : ℕ) (of : e.what ≡ Drop line (Some way)) where
    pub drop-way : way < m.ways
    drop-way = (subst (MayHappen m es e.epoch) of may).1.0

    pub drop-decides : (s w : ℕ) → ((s ≡ line % m.sets) × (w ≡ way) → ⊥) → decides m s w e.what ≡ false
    drop-decides s w apart = ap (decides m s w) of ∙ not-here (line % m.sets) way s w apart

    pub drop-uses : (s w : ℕ) → uses m s w e.what ≡ false
    drop-uses s w = ap (uses m s w) of

    pub drop-floor : sets_floor e.what ≡ false
    drop-floor = ap sets_floor of

    pub drop-place : IsPlace m (es ++ e ∷ []) (line % m.sets) way None
    drop-place = record {
      resident =
          held-push m es e (line % m.sets) way
          ∙ (ap (λ b. cond b (left_by m (line % m.sets) way e.what) (held m es (line % m.sets) way)) (ap (decides m (line % m.sets) way) of ∙ is-here (line % m.sets) way)
          ∙ ap (left_by m (line % m.sets) way) of);
      age = λ p is. absurd cc;
      named = λ p is. absurd cc;
    }

  -- ---- emptyings

  -- a flush leaves a region without ways
  pub LeavesRegion-flush : e.what ≡ Flush → LeavesRegion m es e (record { mask = 0; first_line = 0; stamp = 0 })
  LeavesRegion-flush of = record {
    decides_all = λ s w. ap (decides m s w) of;
    leaves = λ s w. ap (left_by m s w) of ∙ ap resident_of (sym (nothing s w));
    ages = λ s w p is. absurd (let wrong : None ≡ Some p = sym (nothing s w) ∙ is in cc);
    sets = ap sets_floor of;
  }
    where
      nothing : (s w : ℕ) → left_place m (record { mask = 0; first_line = 0; stamp = 0 }) s w ≡ None
      nothing s w = ap (λ b. cond b (loaded (0 + s + ways_below 0 w * m.sets) 0) None) (has_way-zero 0 w (bit_at-zero w))

  -- a lock leaves its region
  pub LeavesRegion-lock : (mask first_line : ℕ) → e.what ≡ Lock mask first_line → LeavesRegion m es e (record { mask = mask; first_line = first_line; stamp = length es + 1 })
  LeavesRegion-lock mask first_line of = record {
    decides_all = λ s w. ap (decides m s w) of;
    leaves = λ s w. ap (left_by m s w) of ∙ same s w (has_way mask w);
    ages = λ s w p is. (let it = aged s w (has_way mask w) p is in (ap (uses m s w) of ∙ it.0, it.1));
    sets = ap sets_floor of;
  }
    where
      same : (s w : ℕ) (b : Bool) → cond b (Some (record { line = first_line + s + ways_below mask w * m.sets; rmid = 0 })) None ≡ resident_of (cond b (loaded (first_line + s + ways_below mask w * m.sets) (length es + 1)) None)
      same s w true = refl
      same s w false = refl

      aged : (s w : ℕ) (b : Bool) (p : CachedLine) → cond b (loaded (first_line + s + ways_below mask w * m.sets) (length es + 1)) None ≡ Some p → (b ≡ true) × (p.used ≡ length es + 1)
      aged s w true p is = (refl, cc)
      aged s w false p is = absurd cc
