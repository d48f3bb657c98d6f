-- In a legal history of a slice no line is in two ways of a set.
use Rattle.std.proofs.Common.{◌≡◌, ℕ, zero, suc, ◌+◌, ◌*◌, ◌/◌, ◌<◌, ◌≤◌, Bool, true, false, cond, ◌⊎◌, inl, inr, List, [], ◌∷◌, ◌++◌, length, take, get_or, Option, Some, None, refl, sym, ap, ◌∙◌, subst, arith}
use Rattle.std.specs.Prelude.{◌%◌, ◌==◌, ◌&&◌, option_map}
use Rattle.std.proofs.Math.Nat.{mul-div_cancel}
use Rattle.std.proofs.Math.Seq.{take-length}
use Rattle.std.proofs.lemmas.Bool.{eqb-true, and_parts}
use Rattle.std.proofs.lemmas.List.{take_more}
use Rattle.std.proofs.lemmas.Option.{same_Some}
use Rattle.cache_core.proofs.laws.Histories.{held-push}
use Rattle.cache_core.specs.Fills.{Holds, Resident}
use Rattle.cache_core.specs.History.{EntryMayFollow, IsLegal, MayHappen, Shape, decides, held, left_by, ways_below}
use Rattle.cache_core.specs.declared.entry.SliceEntry.{SliceEntry}
use Rattle.cache_core.specs.declared.entry.What.{What}
use Rattle.cache_core.specs.declared.entry.What.TheVariants as whats
use Rattle.cbm.specs.Masks.{has_way}
use Rattle.rc_base.proofs.laws.Histories.{EachFollows-at}
use Rattle.cache_core.proofs.laws.WaysBelow.{ways_below-same}

-- ---- the lines of a region

-- equal products with one number have equal other numbers
same_factor : (a b n : ℕ) → 0 < n → a * n ≡ b * n → a ≡ b
same_factor a b n some same = sym (mul-div_cancel a some) ∙ (ap (λ x. x / n) same ∙ mul-div_cancel b some)

-- ---- one more entry

-- the line of what a place holds
abbrev line_in : Option Resident → Option ℕ
line_in o = option_map (λ (r : Resident). r.line) o

-- no line is in two ways of a set
pub record HoldsOnce (m : Shape) (es : List SliceEntry) : Type 0 where
  pub once : (set v w line : ℕ) → v < m.ways → w < m.ways → Holds (held m es set) line v → Holds (held m es set) line w → v ≡ w

-- of a choice the line is that of the first or of the second
cases_line : (b : Bool) (x y : Option Resident) (line : ℕ) → line_in (cond b x y) ≡ Some line → ((b ≡ true) × (line_in x ≡ Some line)) ⊎ (line_in y ≡ Some line)
cases_line true x y line is = inl (refl, is)
cases_line false x y line is = inr is

module _ (m : Shape) (es : List SliceEntry) (some : 0 < m.sets) (before : HoldsOnce m es) where
  -- what a place holds after one more entry
  abbrev after : What → ℕ → ℕ → Option Resident
  after what set way = cond (decides m set way what) (left_by m set way what) (held m es set way)

  -- the line that a lock puts into a way of its mask
  abbrev locked : ℕ → ℕ → ℕ → ℕ → ℕ
  locked mask first_line set way = first_line + set + ways_below mask way * m.sets

  -- a lock puts different lines into the ways of a set
  lock-once : (mask first_line set v w line : ℕ) → line_in (left_by m set v (whats.Lock mask first_line)) ≡ Some line → line_in (left_by m set w (whats.Lock mask first_line)) ≡ Some line → v ≡ w
  lock-once mask first_line set v w line there here = at (has_way mask v) (has_way mask w) refl refl there here
    where
      at : (a b : Bool) → has_way mask v ≡ a → has_way mask w ≡ b → line_in (cond a (Some (record { line = locked mask first_line set v; rmid = 0 })) None) ≡ Some line → line_in (cond b (Some (record { line = locked mask first_line set w; rmid = 0 })) None) ≡ Some line → v ≡ w
      at true true is its there here =
          let first : locked mask first_line set v ≡ line = same_Some (locked mask first_line set v) line there in
          let second : locked mask first_line set w ≡ line = same_Some (locked mask first_line set w) line here in
          ways_below-same mask v w is its (same_factor (ways_below mask v) (ways_below mask w) m.sets some (omega (arith, first, second)))
      at false b is its there here = absurd (let wrong : ◌≡◌ {A = Option ℕ} None (Some line) = there in cc)
      at true false is its there here = absurd (let wrong : ◌≡◌ {A = Option ℕ} None (Some line) = here in cc)

  -- a fill puts its line into one way of a set that has it nowhere
  fill-once : (at rmid l set v w line : ℕ) → ((x : ℕ) → x < m.ways → Holds (held m es (l % m.sets)) l x → ⊥) → v < m.ways → w < m.ways
      → line_in (cond ((l % m.sets == set) && (at == v)) (Some (record { line = l; rmid = rmid })) (held m es set v)) ≡ Some line
      → line_in (cond ((l % m.sets == set) && (at == w)) (Some (record { line = l; rmid = rmid })) (held m es set w)) ≡ Some line → v ≡ w
  fill-once at rmid l set v w line nowhere lv lw there here =
      elim (cases_line ((l % m.sets == set) && (at == v)) (Some (record { line = l; rmid = rmid })) (held m es set v) line there) [
        | inl (first, mine) ↦ elim (cases_line ((l % m.sets == set) && (at == w)) (Some (record { line = l; rmid = rmid })) (held m es set w) line here) [
          | inl (second, its) ↦ sym (eqb-true at v (and_parts (l % m.sets == set) (at == v) first).1) ∙ eqb-true at w (and_parts (l % m.sets == set) (at == w) second).1
          | inr old ↦ absurd (held_nowhere w lw (and_parts (l % m.sets == set) (at == v) first).0 (same_Some l line mine) old)
        ]
        | inr kept ↦ elim (cases_line ((l % m.sets == set) && (at == w)) (Some (record { line = l; rmid = rmid })) (held m es set w) line here) [
          | inl (second, its) ↦ absurd (held_nowhere v lv (and_parts (l % m.sets == set) (at == w) second).0 (same_Some l line its) kept)
          | inr old ↦ before.once set v w line lv lw kept old
        ]
      ]
    where
      held_nowhere : (x : ℕ) → x < m.ways → (l % m.sets == set) ≡ true → l ≡ line → line_in (held m es set x) ≡ Some line → ⊥
      held_nowhere x lx own is holds = nowhere x lx (subst (λ s. line_in (held m es s x) ≡ Some l) (sym (eqb-true (l % m.sets) set own)) (holds ∙ ap (λ n. Some n) (sym is)))

  -- a place that is emptied holds no line
  kept_line : (b : Bool) (o : Option Resident) (line : ℕ) → line_in (cond b None o) ≡ Some line → line_in o ≡ Some line
  kept_line true o line is = absurd (let wrong : ◌≡◌ {A = Option ℕ} None (Some line) = is in cc)
  kept_line false o line is = is

  -- after each kind of entry
  after-once : (epoch : ℕ) (what : What) → MayHappen m es epoch what → (set v w line : ℕ) → v < m.ways → w < m.ways → line_in (after what set v) ≡ Some line → line_in (after what set w) ≡ Some line → v ≡ w
  after-once epoch (whats.Access true at owner rmid mask l) may set v w line lv lw there here = before.once set v w line lv lw there here
  after-once epoch (whats.Access false at owner rmid mask l) may set v w line lv lw there here = fill-once at rmid l set v w line may.1.0 lv lw there here
  after-once epoch whats.Raise may set v w line lv lw there here = before.once set v w line lv lw there here
  after-once epoch whats.Flush may set v w line lv lw there here = absurd (let wrong : ◌≡◌ {A = Option ℕ} None (Some line) = there in cc)
  after-once epoch (whats.Lock mask first_line) may set v w line lv lw there here = lock-once mask first_line set v w line there here
  after-once epoch (whats.Look rmid lines) may set v w line lv lw there here = before.once set v w line lv lw there here
  after-once epoch (whats.Drop l None) may set v w line lv lw there here = before.once set v w line lv lw there here
  after-once epoch (whats.Drop l (Some at)) may set v w line lv lw there here =
      before.once set v w line lv lw (kept_line ((l % m.sets == set) && (at == v)) (held m es set v) line there) (kept_line ((l % m.sets == set) && (at == w)) (held m es set w) line here)

  -- so does one more entry that the history allows
  pub HoldsOnce-push : (e : SliceEntry) → EntryMayFollow m es e → HoldsOnce m (es ++ e ∷ [])
  HoldsOnce-push e may = record {
    once = λ set v w line lv lw there here. after-once e.epoch e.what may set v w line lv lw
        (subst (λ o. line_in o ≡ Some line) (held-push m es e set v) there) (subst (λ o. line_in o ≡ Some line) (held-push m es e set w) here);
  }

-- ---- a history

-- so do the first entries of a legal one
HoldsOnce-take : (m : Shape) (es : List SliceEntry) (d : SliceEntry) → 0 < m.sets → IsLegal m es → (k : ℕ) → k ≤ length es → HoldsOnce m (take k es)
HoldsOnce-take m es d some legal zero known = record { once = λ set v w line lv lw there here. absurd (let wrong : ◌≡◌ {A = Option ℕ} None (Some line) = there in cc) }
HoldsOnce-take m es d some legal (suc k) known =
    let next : suc k ≡ k + 1 = omega arith in
    let first : take (suc k) es ≡ take k es ++ get_or es k d ∷ [] = ap (λ n. take n es) next ∙ take_more es k d (omega (arith, known)) in
    subst (HoldsOnce m) (sym first) (HoldsOnce-push m (take k es) some (HoldsOnce-take m es d some legal k (omega (arith, known))) (get_or es k d) (EachFollows-at (EntryMayFollow m) es k d legal (omega (arith, known))))

-- and all of them
pub HoldsOnce-legal : (m : Shape) (es : List SliceEntry) → 0 < m.sets → IsLegal m es → HoldsOnce m es
HoldsOnce-legal m es some legal = subst (HoldsOnce m) (take-length es) (HoldsOnce-take m es (record { thread = 0; op = 0; epoch = 0; what = whats.Raise }) some legal (length es) (omega arith))
