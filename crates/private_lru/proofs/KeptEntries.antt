-- What the ways of the mask keep after one entry of a window.
use Rattle.std.proofs.Common.{◌≡◌, ℕ, ◌+◌, ◌%◌, ◌≤◌, Bool, true, false, not, ◌&&◌, ◌==◌, List, [], ◌∷◌, ◌++◌, cond, length, reverse, Option, Some, None, arith, refl, sym, ◌∙◌, ap, subst, inl, inr}
use Rattle.std.specs.Prelude.{MatchBool}
use Rattle.std.proofs.Math.Path.{fun_ext}
use Rattle.std.proofs.lemmas.Bool.{cases_Bool, eqb-true, eq-eqb, true≢false, cond-false, and_right, and_left}
use Rattle.std.proofs.lemmas.Option.{none-some, same_Some}
use Rattle.rc_base.specs.declared.names.Gid.{Gid}
use Rattle.cache_core.specs.declared.entry.What.{What}
use Rattle.cache_core.specs.declared.entry.What.TheVariants.{Access, Raise, Flush, Lock, Look, Drop}
use Rattle.cache_core.specs.declared.entry.SliceEntry.{SliceEntry}
use Rattle.cbm.specs.Masks.{overlaps}
use Rattle.cache_core.specs.Filled.{empties}
use Rattle.cache_core.specs.Fills.{Resident, IsOutcome, IsPlaceOf}
use Rattle.cache_core.specs.History.{Shape, ways_below, held, used, decides, uses, MayHappen}
use Rattle.cache_core.specs.Stands.{entry}
use Rattle.cache_core.proofs.laws.Histories.{held-push, used-push, used-le}
use Rattle.private_lru.specs.Private.{among, without}
use Rattle.private_lru.specs.declared.item.Item.{Item}
use Rattle.private_lru.specs.declared.item.Item.TheVariants.{Drop as Dropped}
use Rattle.private_lru.specs.Covered.{item_of}
use Rattle.private_lru.proofs.Recency.{kept, without-absent}
use Rattle.private_lru.proofs.KeptWays.{Keeps, Keeps-passed, Keeps-dropped, among-nowhere, has_way-foreign, has_way-other}
use Rattle.private_lru.proofs.KeptAccesses.{Keeps-used}
use Rattle.private_lru.proofs.WayLines.{line_in}

-- a line that passes a test
abbrev pub Own : (ℕ → Bool) → ℕ → Type 0
Own own x = own x ≡ true

-- an entry of the window before which no other user was seen
abbrev pub Fits : ℕ → ℕ → (ℕ → Bool) → What → Type 0
Fits group mask own (Access hit way owner rmid its line) = MatchBool (owner.0 == group) ((its ≡ mask) × (own line ≡ true)) (overlaps its mask ≡ false × (own line ≡ true → ⊥))
Fits group mask own what = empties what ≡ false

-- the places of a set after a history keep these lines
abbrev pub KeepsAfter : Shape → ℕ → (ℕ → Bool) → ℕ → List SliceEntry → List Item → Type 0
KeepsAfter m mask own set history back = (order : List ℕ) × Keeps m.ways mask (Own own) (held m history set) (used m history set) order (kept (ways_below mask m.ways) back)

-- of three tests the third fails
pub and-third_false : (a b c : Bool) → c ≡ false → (a && b && c) ≡ false
and-third_false true true c h = h
and-third_false true false c h = refl
and-third_false false true c h = refl
and-third_false false false c h = refl

-- of three tests the second fails
and-second_false : (a b c : Bool) → b ≡ false → (a && b && c) ≡ false
and-second_false true true c h = absurd (true≢false h)
and-second_false true false c h = refl
and-second_false false true c h = refl
and-second_false false false c h = refl

-- an entry that touches no place of the set
KeepsAfter-unchanged : (m : Shape) (mask set : ℕ) (own : ℕ → Bool) (history : List SliceEntry) (e : SliceEntry) (back : List Item)
    → ((w : ℕ) → decides m set w e.what ≡ false) → ((w : ℕ) → uses m set w e.what ≡ false)
    → KeepsAfter m mask own set history back → KeepsAfter m mask own set (history ++ e ∷ []) back
KeepsAfter-unchanged m mask set own history e back keep idle keeps =
    let same : held m history set ≡ held m (history ++ e ∷ []) set = fun_ext (λ w. sym (held-push m history e set w ∙ cond-false (decides m set w e.what) _ _ (keep w))) in
    let old : used m history set ≡ used m (history ++ e ∷ []) set = fun_ext (λ w. sym (used-push m history e set w ∙ cond-false (uses m set w e.what) _ _ (idle w))) in
    let lines : List ℕ = kept (ways_below mask m.ways) back in (
      keeps.0,
      subst (λ (a : ℕ → ℕ). Keeps m.ways mask (Own own) (held m (history ++ e ∷ []) set) a keeps.0 lines) old
          (subst (λ (r : ℕ → Option Resident). Keeps m.ways mask (Own own) r (used m history set) keeps.0 lines) same keeps.1),
    )

-- an access uses its way and leaves its line there
held-access : (m : Shape) (history : List SliceEntry) (thread op epoch : ℕ) (owner : Gid) (rmid its line way set : ℕ) (hit : Bool) → (line % m.sets == set) ≡ true
    → IsOutcome m.ways its (held m history set) (used m history set) line hit way
    → line_in (held m (history ++ entry thread op epoch (Access hit way owner rmid its line) ∷ []) set way) ≡ Some line
held-access m history thread op epoch owner rmid its line way set true at outcome =
    ap line_in (held-push m history (entry thread op epoch (Access true way owner rmid its line)) set way) ∙ outcome.1
held-access m history thread op epoch owner rmid its line way set false at outcome =
    let there : (way == way) ≡ true = eq-eqb way way refl in
    ap line_in (held-push m history (entry thread op epoch (Access false way owner rmid its line)) set way) ∙ rw (at, there) refl

-- an access more
KeepsAfter-access : (m : Shape) (narrow : m.ways ≤ 64) (group mask set : ℕ) (own : ℕ → Bool) (history : List SliceEntry) (thread op epoch : ℕ) (owner : Gid) (rmid its line way : ℕ) (hit : Bool) (back : List Item)
    → MayHappen m history epoch (Access hit way owner rmid its line) → Fits group mask own (Access hit way owner rmid its line)
    → KeepsAfter m mask own set history back
    → KeepsAfter m mask own set (history ++ entry thread op epoch (Access hit way owner rmid its line) ∷ []) (reverse (item_of m.sets group set own (Access hit way owner rmid its line)) ++ back)
KeepsAfter-access m narrow group mask set own history thread op epoch owner rmid its line way hit back may fits keeps =
    let e : SliceEntry = entry thread op epoch (Access hit way owner rmid its line) in
    elim (cases_Bool (line % m.sets == set)) [
      | inr c ↦
          let none : ((owner.0 == group) && (line % m.sets == set)) ≡ false = and_right (owner.0 == group) _ c in
          rw none
          (KeepsAfter-unchanged m mask set own history e back (λ w. and-second_false (not hit) (line % m.sets == set) (way == w) c) (λ w. and_left (line % m.sets == set) (way == w) c) keeps)
      | inl c ↦
          let outcome : IsOutcome m.ways its (held m history set) (used m history set) line hit way =
          subst (λ s. IsOutcome m.ways its (held m history s) (used m history s) line hit way) (eqb-true (line % m.sets) set c) may.1 in
          let same : (u : ℕ) → (way == u) ≡ false → held m (history ++ e ∷ []) set u ≡ held m history set u =
          λ u k. held-push m history e set u ∙ cond-false (decides m set u e.what) _ _ (and-third_false (not hit) (line % m.sets == set) (way == u) k) in
          let same_age : (u : ℕ) → (way == u) ≡ false → used m (history ++ e ∷ []) set u ≡ used m history set u =
          λ u k. used-push m history e set u ∙ cond-false (uses m set u e.what) _ _ (and_right (line % m.sets == set) (way == u) k) in
          let now : line_in (held m (history ++ e ∷ []) set way) ≡ Some line = held-access m history thread op epoch owner rmid its line way set hit c outcome in
          let there : (way == way) ≡ true = eq-eqb way way refl in
          elim (cases_Bool (owner.0 == group)) [
            | inl o ↦
                let mine : (its ≡ mask) × (own line ≡ true) = rw o at fits in
                let outcome' : IsOutcome m.ways mask (held m history set) (used m history set) line hit way =
                subst (λ k. IsOutcome m.ways k (held m history set) (used m history set) line hit way) mine.0 outcome in
                let age_now : used m (history ++ e ∷ []) set way ≡ length history + 1 = used-push m history e set way ∙ rw (c, there) refl in
                rw (o, c) (
                  way ∷ without way keeps.0,
                  Keeps-used m.ways mask line way (length history + 1) hit (Own own) (held m history set) (held m (history ++ e ∷ []) set) (used m history set) (used m (history ++ e ∷ []) set) keeps.0 _ mine.1 outcome'
                      same now same_age age_now (λ u. let l : used m history set u ≤ length history = used-le m history set u in omega arith) keeps.1,
                )
            | inr o ↦
                let other : overlaps its mask ≡ false × (own line ≡ true → ⊥) = rw o at fits in
                let none : ((owner.0 == group) && (line % m.sets == set)) ≡ false = and_left (owner.0 == group) _ o in
                rw none (
                  keeps.0,
                  Keeps-passed m.ways mask way (Own own) (held m history set) (held m (history ++ e ∷ []) set) (used m history set) (used m (history ++ e ∷ []) set) keeps.0 _
                      (has_way-other m.ways mask its line way hit (Own own) (held m history set) (used m history set) keeps.0 _ narrow other.0 other.1 outcome keeps.1)
                      same (λ y h f. other.1 (subst (Own own) (same_Some _ _ (sym h ∙ now)) f)) same_age keeps.1,
                )
          ]
    ]

-- a drop in this set
KeepsAfter-drop : (m : Shape) (group mask set : ℕ) (own : ℕ → Bool) (history : List SliceEntry) (thread op epoch line : ℕ) (at : Option ℕ) (back : List Item)
    → (line % m.sets == set) ≡ true → IsPlaceOf m.ways (held m history set) line at → KeepsAfter m mask own set history back
    → KeepsAfter m mask own set (history ++ entry thread op epoch (Drop line at) ∷ []) (cond (own line) (Dropped line ∷ back) back)
KeepsAfter-drop m group mask set own history thread op epoch line None back c place keeps =
    let e : SliceEntry = entry thread op epoch (Drop line None) in
    let lines : List ℕ = kept (ways_below mask m.ways) back in
    let after = KeepsAfter-unchanged m mask set own history e back (λ _. refl) (λ _. refl) keeps in
    let absent : among line lines ≡ false = among-nowhere m.ways mask line (Own own) (held m history set) (used m history set) keeps.0 lines place keeps.1 in
    let less : lines ≡ without line lines = sym (without-absent line lines absent) in
    elim (cases_Bool (own line)) [
      | inl k ↦ rw k (after.0, subst (λ (l : List ℕ). Keeps m.ways mask (Own own) (held m (history ++ e ∷ []) set) (used m (history ++ e ∷ []) set) after.0 l) less after.1)
      | inr k ↦ rw k after
    ]
KeepsAfter-drop m group mask set own history thread op epoch line (Some way) back c place keeps =
    let e : SliceEntry = entry thread op epoch (Drop line (Some way)) in
    let lines : List ℕ = kept (ways_below mask m.ways) back in
    let there : (way == way) ≡ true = eq-eqb way way refl in
    let same : (u : ℕ) → (way == u) ≡ false → held m (history ++ e ∷ []) set u ≡ held m history set u =
    λ u k. held-push m history e set u ∙ cond-false (decides m set u e.what) _ _ (and_right (line % m.sets == set) (way == u) k) in
    let none : held m (history ++ e ∷ []) set way ≡ None = held-push m history e set way ∙ rw (c, there) refl in
    let old : (u : ℕ) → used m (history ++ e ∷ []) set u ≡ used m history set u = λ u. used-push m history e set u in
    elim (cases_Bool (own line)) [
      | inl k ↦
          rw k (
            without way keeps.0,
            subst (λ (a : ℕ → ℕ). Keeps m.ways mask (Own own) (held m (history ++ e ∷ []) set) a (without way keeps.0) (without line lines)) (sym (fun_ext old))
                (Keeps-dropped m.ways mask line way (Own own) (held m history set) (held m (history ++ e ∷ []) set) (used m history set) keeps.0 lines k place.0 place.1 same none keeps.1),
          )
      | inr k ↦
          let foreign : own line ≡ true → ⊥ = λ t. true≢false (sym t ∙ k) in
          rw k (
            keeps.0,
            Keeps-passed m.ways mask way (Own own) (held m history set) (held m (history ++ e ∷ []) set) (used m history set) (used m (history ++ e ∷ []) set) keeps.0 lines
                (has_way-foreign m.ways mask line way (Own own) (held m history set) (used m history set) keeps.0 lines foreign place.0 place.1 keeps.1)
                same (λ y h f. none-some y (sym (ap line_in none) ∙ h)) (λ u _. old u) keeps.1,
          )
    ]

-- the item of a drop in this set
reverse-dropped : (b c : Bool) (line : ℕ) (back : List Item) → c ≡ true → cond b (Dropped line ∷ back) back ≡ reverse (cond (b && c) (Dropped line ∷ []) []) ++ back
reverse-dropped true c line back h = rw h refl
reverse-dropped false c line back h = refl

-- a drop in another set
KeepsAfter-drop_elsewhere : (m : Shape) (mask set : ℕ) (own : ℕ → Bool) (history : List SliceEntry) (thread op epoch line : ℕ) (at : Option ℕ) (back : List Item)
    → (line % m.sets == set) ≡ false → KeepsAfter m mask own set history back → KeepsAfter m mask own set (history ++ entry thread op epoch (Drop line at) ∷ []) back
KeepsAfter-drop_elsewhere m mask set own history thread op epoch line None back c keeps = KeepsAfter-unchanged m mask set own history (entry thread op epoch (Drop line None)) back (λ _. refl) (λ _. refl) keeps
KeepsAfter-drop_elsewhere m mask set own history thread op epoch line (Some way) back c keeps =
    KeepsAfter-unchanged m mask set own history (entry thread op epoch (Drop line (Some way))) back (λ w. and_left (line % m.sets == set) (way == w) c) (λ _. refl) keeps

-- one entry more
pub KeepsAfter-push : (m : Shape) (narrow : m.ways ≤ 64) (group mask set : ℕ) (own : ℕ → Bool) (history : List SliceEntry) (thread op epoch : ℕ) (what : What) (back : List Item)
    → MayHappen m history epoch what → Fits group mask own what
    → KeepsAfter m mask own set history back
    → KeepsAfter m mask own set (history ++ entry thread op epoch what ∷ []) (reverse (item_of m.sets group set own what) ++ back)
KeepsAfter-push m narrow group mask set own history thread op epoch (Access hit way owner rmid its line) back may fits keeps = KeepsAfter-access m narrow group mask set own history thread op epoch owner rmid its line way hit back may fits keeps
KeepsAfter-push m narrow group mask set own history thread op epoch Raise back may fits keeps = KeepsAfter-unchanged m mask set own history (entry thread op epoch Raise) back (λ _. refl) (λ _. refl) keeps
KeepsAfter-push m narrow group mask set own history thread op epoch Flush back may fits keeps = absurd (true≢false fits)
KeepsAfter-push m narrow group mask set own history thread op epoch (Lock others first_line) back may fits keeps = absurd (true≢false fits)
KeepsAfter-push m narrow group mask set own history thread op epoch (Look rmid lines) back may fits keeps = KeepsAfter-unchanged m mask set own history (entry thread op epoch (Look rmid lines)) back (λ _. refl) (λ _. refl) keeps
KeepsAfter-push m narrow group mask set own history thread op epoch (Drop line at) back may fits keeps =
    elim (cases_Bool (line % m.sets == set)) [
      | inl c ↦
          let place : IsPlaceOf m.ways (held m history set) line at = subst (λ s. IsPlaceOf m.ways (held m history s) line at) (eqb-true (line % m.sets) set c) may.1 in
          subst (λ (l : List Item). KeepsAfter m mask own set (history ++ entry thread op epoch (Drop line at) ∷ []) l) (reverse-dropped (own line) (line % m.sets == set) line back c)
          (KeepsAfter-drop m group mask set own history thread op epoch line at back c place keeps)
      | inr c ↦
          let none : (own line && (line % m.sets == set)) ≡ false = and_right (own line) _ c in
          rw none (KeepsAfter-drop_elsewhere m mask set own history thread op epoch line at back c keeps)
    ]
