-- Other users of a group's lines, line by line.
use Rattle.std.proofs.Common.{◌≡◌, ℕ, zero, suc, ◌+◌, ◌-◌, ◌*◌, ◌/◌, ◌%◌, ◌^◌, ◌<◌, ◌≤◌, Bool, true, false, not, ◌&&◌, ◌==◌, nat_le, nat_lt, List, length, inl, inr, refl, sym, ap, ◌∙◌, arith}
use Rattle.std.specs.List.{list_any}
use Rattle.std.proofs.lemmas.Bool.{and_parts, cases_Bool, cases_lt, eqb-true, le-leb, leb-true, lt-ltb, ltb-true, true≢false, false≢true}
use Rattle.std.proofs.lemmas.List.Folds.{Any-from_list_any, list_any_at}
use Rattle.cache_core.specs.declared.entry.What.{What}
use Rattle.cache_core.specs.declared.entry.What.TheVariants.{Access, Raise, Flush, Lock, Look, Drop}
use Rattle.cache_core.specs.declared.entry.SliceEntry.{SliceEntry}
use Rattle.cache_core.specs.History.{Shape, ways_below}
use Rattle.cbm.specs.Masks.{has_way, ways_of}
use Rattle.private_lru.specs.Covered.{is_covered, is_loaded_use, is_other_use, is_use, loads, uses_line}
use Rattle.private_lru.proofs.Ways.{ways_below-all, ways_below-le, ways_below-nth}
use Rattle.lists.proofs.Choices.{and-not_true}
use Rattle.cache_core.proofs.laws.WaysBelow.{ways_below-lt}

-- the group accesses the line somewhere in these entries
abbrev pub Uses : ℕ → List SliceEntry → ℕ → Type 0
Uses group entries x = uses_line group entries x ≡ true

-- an access of another owner to this line
abbrev pub is_use_of_other : ℕ → ℕ → What → Bool
is_use_of_other group x (Access hit way owner rmid mask line) = not (owner.0 == group) && (line == x)
is_use_of_other group x what = false

-- a lock puts the line into a place
abbrev pub Loads : Shape → What → ℕ → Type 0
Loads m (Lock mask first_line) x =
    (set : ℕ) × (way : ℕ) × (set < m.sets) × (way < m.ways) × (has_way mask way ≡ true) × (x ≡ first_line + set + ways_below mask way * m.sets)
Loads m what x = ⊥

-- ---- lines of a region

-- a line that is put into a place is one of the region
pub loads-place : (m : Shape) (what : What) (x : ℕ) → m.ways ≤ 64 → Loads m what x → loads m.sets what x ≡ true
loads-place m (Access hit way owner rmid mask line) x narrow l = absurd l
loads-place m Raise x narrow l = absurd l
loads-place m Flush x narrow l = absurd l
loads-place m (Look rmid lines) x narrow l = absurd l
loads-place m (Drop line at) x narrow l = absurd l
loads-place m (Lock mask first_line) x narrow l =
    let k : ℕ = ways_below mask l.1 in
    let less : k < ways_below mask m.ways = ways_below-lt mask l.1 m.ways l.3 l.4 in
    let all : ways_below mask m.ways ≤ length (ways_of mask) = ways_below-le mask m.ways narrow in
    let below : l.0 + k * m.sets < m.sets * length (ways_of mask) = row k l.0 m.sets (length (ways_of mask)) l.2 (omega arith) in
    let is : x ≡ first_line + l.0 + k * m.sets = l.5 in
    rw (le-leb first_line x (omega arith), lt-ltb x (first_line + m.sets * length (ways_of mask)) (omega arith)) refl
  where
    row : (k set sets n : ℕ) → set < sets → k < n → set + k * sets < sets * n
    row k set sets n inside less =
        let more : n ≡ k + 1 + (n - (k + 1)) = omega arith in
        let rest : ℕ = n - (k + 1) in
        let product : sets * n ≡ sets * k + sets + sets * rest = ap (λ i. sets * i) more ∙ grind arith in
        let turned : k * sets ≡ sets * k = grind arith in
        omega arith

-- each line of a region is put into a place
pub place-loads : (m : Shape) (mask first_line x : ℕ) → m.ways ≤ 64 → mask < 2 ^ m.ways → loads m.sets (Lock mask first_line) x ≡ true → Loads m (Lock mask first_line) x
place-loads m mask first_line x narrow small is =
    let parts = and_parts (nat_le first_line x) (nat_lt x (first_line + m.sets * length (ways_of mask))) is in
    let low : first_line ≤ x = leb-true first_line x parts.0 in
    let high : x < first_line + m.sets * length (ways_of mask) = ltb-true x (first_line + m.sets * length (ways_of mask)) parts.1 in
    let y : ℕ = x - first_line in
    let all : ways_below mask m.ways ≡ length (ways_of mask) = ways_below-all mask m.ways small narrow in
    let p = row y m.sets (length (ways_of mask)) (omega arith) in
    let w = ways_below-nth mask p.1 m.ways (omega (arith, p.3)) in
    let turned : ways_below mask w.0 * m.sets ≡ p.1 * m.sets = ap (λ k. k * m.sets) w.3 in
    (p.0, w.0, p.2, w.1, w.2, omega (arith, p.4))
  where
    row : (y sets n : ℕ) → y < sets * n → (set k : ℕ) × (set < sets) × (k < n) × (y ≡ set + k * sets)
    row y zero n less = let none : zero * n ≡ 0 = grind arith in absurd (omega arith)
    row y (suc s) n less =
        let sets : ℕ = suc s in
        let split : y ≡ y % sets + y / sets * sets = grind arith in
        (y % sets, y / sets, omega arith, quotient (y / sets) (y % sets) (omega arith), split)
      where
        quotient : (q r : ℕ) → y ≡ r + q * suc s → q < n
        quotient q r is = elim (cases_lt q n) [
          | inl lt ↦ lt
          | inr le ↦
              let more : q ≡ n + (q - n) = omega arith in
              let rest : ℕ = q - n in
              let product : q * suc s ≡ suc s * n + rest * suc s = ap (λ i. i * suc s) more ∙ grind arith in
              absurd (omega arith)
        ]

-- ---- covered

-- No other user of a line that the group uses in the window stands at its opening or among its earlier entries.
pub record IsCovered (m : Shape) (group : ℕ) (opening : What) (window earlier : List SliceEntry) : Type 0 where
  pub at_opening : (x : ℕ) → Uses group window x → loads m.sets opening x ≡ true → ⊥
  pub before : (x : ℕ) → Uses group window x → list_any (λ (e : SliceEntry). is_use_of_other group x e.what) earlier ≡ false

-- a use of a loaded line
is_loaded_use-loads : (m : Shape) (group x : ℕ) (opening what : What) → is_use group x what ≡ true → loads m.sets opening x ≡ true → is_loaded_use m.sets group opening what ≡ true
is_loaded_use-loads m group x opening (Access hit way owner rmid mask line) used loaded =
    let parts = and_parts (owner.0 == group) (line == x) used in
    let same : line ≡ x = eqb-true line x parts.1 in
    rw (parts.0, ap (loads m.sets opening) same ∙ loaded) refl
is_loaded_use-loads m group x opening Raise used loaded = absurd (false≢true used)
is_loaded_use-loads m group x opening Flush used loaded = absurd (false≢true used)
is_loaded_use-loads m group x opening (Lock mask first_line) used loaded = absurd (false≢true used)
is_loaded_use-loads m group x opening (Look rmid lines) used loaded = absurd (false≢true used)
is_loaded_use-loads m group x opening (Drop line at) used loaded = absurd (false≢true used)

-- a use of another of the group's lines
is_other_use-line : (group x : ℕ) (window : List SliceEntry) (what : What) → is_use_of_other group x what ≡ true → Uses group window x → is_other_use group window what ≡ true
is_other_use-line group x window (Access hit way owner rmid mask line) other uses =
    let parts = and_parts (not (owner.0 == group)) (line == x) other in
    let same : line ≡ x = eqb-true line x parts.1 in
    rw (parts.0, ap (uses_line group window) same ∙ uses) refl
is_other_use-line group x window Raise other uses = absurd (false≢true other)
is_other_use-line group x window Flush other uses = absurd (false≢true other)
is_other_use-line group x window (Lock mask first_line) other uses = absurd (false≢true other)
is_other_use-line group x window (Look rmid lines) other uses = absurd (false≢true other)
is_other_use-line group x window (Drop line at) other uses = absurd (false≢true other)

-- a covered access, line by line
pub IsCovered-is_covered : (m : Shape) (group : ℕ) (opening : What) (window earlier : List SliceEntry) → is_covered m.sets group opening window earlier ≡ true → IsCovered m group opening window earlier
IsCovered-is_covered m group opening window earlier is =
    let at_opening : SliceEntry → Bool = λ e. is_loaded_use m.sets group opening e.what in
    let before : SliceEntry → Bool = λ e. is_other_use group window e.what in
    let none = and-not_true (list_any at_opening window) (list_any before earlier) is in
    record {
      at_opening = λ x uses loaded.
          let u = Any-from_list_any (λ (e : SliceEntry). is_use group x e.what) window uses in
          true≢false (sym (list_any_at at_opening window u.0 u.1 u.2 (ap at_opening u.3 ∙ is_loaded_use-loads m group x opening u.1.what u.4 loaded)) ∙ none.0);
      before = λ x uses. elim (cases_Bool (list_any (λ (e : SliceEntry). is_use_of_other group x e.what) earlier)) [
        | inl some ↦
            let u = Any-from_list_any (λ (e : SliceEntry). is_use_of_other group x e.what) earlier some in
            absurd (true≢false (sym (list_any_at before earlier u.0 u.1 u.2 (ap before u.3 ∙ is_other_use-line group x window u.1.what u.4 uses)) ∙ none.1))
        | inr none_uses ↦ none_uses
      ];
    }
