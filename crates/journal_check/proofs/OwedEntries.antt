-- The entries that a command owes, by what it needed and what followed it.
use Rattle.std.proofs.Common.{◌≡◌, ℕ, zero, suc, ◌+◌, ◌==◌, inl, inr, Bool, true, false, List, [], ◌∷◌, Some, refl, sym, ap, ◌∙◌, subst, arith}
use Rattle.std.specs.List.{flat_map}
use Rattle.std.specs.Prelude.{Contains, IsTrue, slice_get}
use Rattle.std.proofs.lemmas.Bool.{cases_Bool, eq-eqb, eqb-true}
use Rattle.std.proofs.lemmas.List.Elements.{Contains-append_cases, Contains-append_left, Contains-append_right}
use Rattle.std.proofs.lemmas.Option.{slice_get-get_or}
use Rattle.cache_core.specs.declared.entry.What.{What}
use Rattle.cache_core.specs.declared.entry.What.TheVariants as whats
use Rattle.journal_check.specs.Traces.{HasFollow, owed_by_step}
use Rattle.journal_check.specs.declared.trace.Step.{Step}
use Rattle.machine.specs.Slices.{domain_in}
use Rattle.machine.specs.declared.parameters.Parameters.{Parameters}
use Rattle.run_law.specs.Owed.{Owed, follow_in, is_entered_in, look_in, undecided, what_of}
use Rattle.tree_law.specs.declared.follow.Follow.{Follow}
use Rattle.tree_law.specs.declared.follow.Follow.TheVariants as follows

-- ---- lists of ones and nones

module _ {A B : Type 0} (f : A → List B) (P : A → B → Type 0) (to : (a : A) (b : B) → Contains (f a) b → P a b) (back : (a : A) (b : B) → P a b → Contains (f a) b) where
  -- what a flat list contains is of one of its elements
  pub flat_map-contains : (xs : List A) (b : B) → Contains (flat_map f xs) b → (k : ℕ) × (a : A) × (slice_get xs k ≡ Some a) × P a b
  flat_map-contains [] b has = absurd (let within = has.1 in omega arith)
  flat_map-contains (x ∷ xs) b has = elim (Contains-append_cases (f x) (flat_map f xs) b has) [
    | inl front ↦ (0, x, refl, to x b front)
    | inr rest ↦ (let it = flat_map-contains xs b rest in (suc it.0, it.1, it.2, it.3))
  ]

  -- and the other way round
  pub contains-flat_map : (xs : List A) (k : ℕ) (a : A) (b : B) → slice_get xs k ≡ Some a → P a b → Contains (flat_map f xs) b
  contains-flat_map [] k a b at holds = absurd cc
  contains-flat_map (x ∷ xs) zero a b at holds = (let same : a ≡ x = cc in Contains-append_left (f x) (flat_map f xs) b (back x b (subst (λ y. P y b) same holds)))
  contains-flat_map (x ∷ xs) (suc k) a b at holds = Contains-append_right (f x) (flat_map f xs) b (contains-flat_map xs k a b at holds)

-- the only element of a list
Contains-one : {B : Type 0} (x b : B) → Contains (x ∷ []) b → b ≡ x
Contains-one x b (zero, within, same) = sym same
Contains-one x b (suc k, within, same) = absurd (omega arith)

one-Contains : {B : Type 0} (x b : B) → b ≡ x → Contains (x ∷ []) b
one-Contains x b same = (0, omega arith, sym same)

Contains-none : {B : Type 0} (b : B) → Contains [] b → ⊥
Contains-none b has = (let within = has.1 in omega arith)

-- ---- looks

module _ (m : Parameters) (i k : ℕ) where
  -- the look of a need
  abbrev IsLookOf : ℕ × ℕ → Owed → Type 0
  IsLookOf need b = (need.0 ≡ domain_in m i) × (b ≡ (record { epoch = k; what = whats.Look need.1 0 }))

  look_in-to : (need : ℕ × ℕ) (b : Owed) → Contains (look_in m i k need) b → IsLookOf need b
  look_in-to need b has = elim (cases_Bool (need.0 == domain_in m i)) [
    | inl own ↦ (eqb-true need.0 (domain_in m i) own, Contains-one (record { epoch = k; what = whats.Look need.1 0 }) b (rw own at has))
    | inr other ↦ absurd (Contains-none b (rw other at has))
  ]

  look_in-back : (need : ℕ × ℕ) (b : Owed) → IsLookOf need b → Contains (look_in m i k need) b
  look_in-back need b is = rw (eq-eqb need.0 (domain_in m i) is.0) (one-Contains (record { epoch = k; what = whats.Look need.1 0 }) b is.1)

  -- what a follow-up enters
  abbrev IsFollowOf : Follow → Owed → Type 0
  IsFollowOf f b = IsTrue (is_entered_in m i f) × (b ≡ (record { epoch = k; what = what_of f }))

  follow_in-to : (f : Follow) (b : Owed) → Contains (follow_in m i k f) b → IsFollowOf f b
  follow_in-to f b has = elim (cases_Bool (is_entered_in m i f)) [
    | inl own ↦ (own, Contains-one (record { epoch = k; what = what_of f }) b (rw own at has))
    | inr other ↦ absurd (Contains-none b (rw other at has))
  ]

  follow_in-back : (f : Follow) (b : Owed) → IsFollowOf f b → Contains (follow_in m i k f) b
  follow_in-back f b is = rw is.0 (one-Contains (record { epoch = k; what = what_of f }) b is.1)

-- whether this is a look
abbrev pub is_look : What → Bool
is_look (whats.Look rmid lines) = true
is_look w = false

-- no follow-up is
what_of-no_look : (f : Follow) → is_look (what_of f) ≡ false
what_of-no_look (follows.Raise domain) = refl
what_of-no_look (follows.Flush domain) = refl
what_of-no_look (follows.Lock domain mask first_line) = refl
what_of-no_look (follows.Touch tag line) = refl
what_of-no_look (follows.Drop domain line) = refl

module _ (m : Parameters) (i k : ℕ) (step : Step) where
  -- a look is owed where it is needed
  pub look-owed : (epoch rmid : ℕ) → (epoch ≡ k) × Contains step.needs (domain_in m i, rmid) → Contains (owed_by_step m i k step) (record { epoch = epoch; what = whats.Look rmid 0 })
  look-owed epoch rmid is =
      let b : Owed = record { epoch = epoch; what = whats.Look rmid 0 } in
      let has = is.1 in
      let at : slice_get step.needs has.0 ≡ Some (domain_in m i, rmid) = slice_get-get_or step.needs has.0 (domain_in m i, rmid) has.1 ∙ ap (λ (p : ℕ × ℕ). Some p) has.2 in
      let same : b ≡ (record { epoch = k; what = whats.Look rmid 0 }) = ap (λ (n : ℕ). record { epoch = n; what = whats.Look rmid 0 }) is.0 in
      Contains-append_left (flat_map (look_in m i k) step.needs) (flat_map (follow_in m i (k + 1)) step.follows.items) b
      (contains-flat_map (look_in m i k) (IsLookOf m i k) (look_in-to m i k) (look_in-back m i k) step.needs has.0 (domain_in m i, rmid) b at (refl, same))

  -- and only there
  pub owed-look : (epoch rmid : ℕ) → Contains (owed_by_step m i k step) (record { epoch = epoch; what = whats.Look rmid 0 })
      → (epoch ≡ k) × ((n : ℕ) × (need : ℕ × ℕ) × (slice_get step.needs n ≡ Some need) × (need.0 ≡ domain_in m i) × (need.1 ≡ rmid))
  owed-look epoch rmid has = elim (Contains-append_cases (flat_map (look_in m i k) step.needs) (flat_map (follow_in m i (k + 1)) step.follows.items) (record { epoch = epoch; what = whats.Look rmid 0 }) has) [
    | inl look ↦
        let it = flat_map-contains (look_in m i k) (IsLookOf m i k) (look_in-to m i k) (look_in-back m i k) step.needs (record { epoch = epoch; what = whats.Look rmid 0 }) look in
        let same = it.3.1 in
        (ap (λ (o : Owed). o.epoch) same, (it.0, it.1, it.2, it.3.0, (let w : whats.Look rmid 0 ≡ whats.Look it.1.1 0 = ap (λ (o : Owed). o.what) same in let e : rmid ≡ it.1.1 = cc in sym e)))
    | inr follow ↦ absurd (
        let it = flat_map-contains (follow_in m i (k + 1)) (IsFollowOf m i (k + 1)) (follow_in-to m i (k + 1)) (follow_in-back m i (k + 1)) step.follows.items (record { epoch = epoch; what = whats.Look rmid 0 }) follow in
        let w : true ≡ is_look (what_of it.1) = ap (λ (o : Owed). is_look o.what) it.3.1 in
        let wrong : true ≡ false = w ∙ what_of-no_look it.1 in
        cc)
  ]

  -- any other entry is owed where it follows
  pub follow-owed : (epoch : ℕ) (what : What) → (epoch ≡ k + 1) × HasFollow m i step.follows.items what → Contains (owed_by_step m i k step) (record { epoch = epoch; what = what })
  follow-owed epoch what is =
      let b : Owed = record { epoch = epoch; what = what } in
      let has = is.1 in
      let same : b ≡ (record { epoch = k + 1; what = what_of has.1 }) = ap (λ (n : ℕ). record { epoch = n; what = what }) is.0 ∙ ap (λ (w : What). record { epoch = k + 1; what = w }) (sym has.4) in
      Contains-append_right (flat_map (look_in m i k) step.needs) (flat_map (follow_in m i (k + 1)) step.follows.items) b
      (contains-flat_map (follow_in m i (k + 1)) (IsFollowOf m i (k + 1)) (follow_in-to m i (k + 1)) (follow_in-back m i (k + 1)) step.follows.items has.0 has.1 b has.2 (has.3, same))

  -- and only there
  pub owed-follow : (epoch : ℕ) (what : What) → is_look what ≡ false → Contains (owed_by_step m i k step) (record { epoch = epoch; what = what }) → (epoch ≡ k + 1) × HasFollow m i step.follows.items what
  owed-follow epoch what other has = elim (Contains-append_cases (flat_map (look_in m i k) step.needs) (flat_map (follow_in m i (k + 1)) step.follows.items) (record { epoch = epoch; what = what }) has) [
    | inl look ↦ absurd (
        let it = flat_map-contains (look_in m i k) (IsLookOf m i k) (look_in-to m i k) (look_in-back m i k) step.needs (record { epoch = epoch; what = what }) look in
        let w : is_look what ≡ true = ap (λ (o : Owed). is_look o.what) it.3.1 in
        let wrong : true ≡ false = sym w ∙ other in
        cc)
    | inr follow ↦
        let it = flat_map-contains (follow_in m i (k + 1)) (IsFollowOf m i (k + 1)) (follow_in-to m i (k + 1)) (follow_in-back m i (k + 1)) step.follows.items (record { epoch = epoch; what = what }) follow in
        (ap (λ (o : Owed). o.epoch) it.3.1, (it.0, it.1, it.2, it.3.0, sym (ap (λ (o : Owed). o.what) it.3.1)))
  ]

-- what is no look is none undecided
pub undecided-no_look : (w : What) → ((rmid lines : ℕ) → w ≡ whats.Look rmid lines → ⊥) → is_look (undecided w) ≡ false
undecided-no_look (whats.Access hit way owner rmid mask line) other = refl
undecided-no_look whats.Raise other = refl
undecided-no_look whats.Flush other = refl
undecided-no_look (whats.Lock mask first_line) other = refl
undecided-no_look (whats.Look rmid lines) other = absurd (other rmid lines refl)
undecided-no_look (whats.Drop line at) other = refl
