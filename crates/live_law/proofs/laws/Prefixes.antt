-- Lists that begin others, and lists that go on with nothing more of a kind.
use Rattle.std.proofs.Common.{◌≡◌, ℕ, ◌-◌, ◌<◌, ◌≤◌, Bool, true, false, inl, inr, List, [], ◌∷◌, ◌++◌, length, filter, take, refl, sym, ap, ◌∙◌, subst, arith}
use Rattle.std.proofs.Math.Seq.{take-append_seam}
use Rattle.std.proofs.lemmas.Bool.{cases_lt}
use Rattle.std.proofs.lemmas.List.{append-nil, append_assoc, length-append, take-append-le}
use Rattle.std.proofs.lemmas.List.Elements.{filter-append}
use Rattle.run_law.specs.Journals.{At}
use Rattle.run_law.proofs.laws.Positions.{At-append, At-append_front, filter-none_at}
use Rattle.run_law.proofs.laws.StandingEntries.{less_in_front}
use Rattle.seen_journal.specs.Prefixes.{IsPrefix}
use Rattle.live_law.specs.SeenJournals.{NoMore}

module _ {A : Type 0} where
  -- a list begins the one with an element more
  pub IsPrefix-push : (xs : List A) (x : A) → IsPrefix xs (xs ++ x ∷ [])
  IsPrefix-push xs x = (x ∷ [], refl)

  -- what stands in the first stands in the second
  pub At-prefix : (xs ys : List A) (k : ℕ) (x : A) → IsPrefix xs ys → At xs k x → At ys k x
  At-prefix xs ys k x prefix at = subst (λ l. At l k x) prefix.1 (At-append_front xs prefix.0 k x at)

  -- what stands in the second before the end of the first stands in the first
  pub At-prefix_front : (xs ys : List A) (k : ℕ) (x : A) → IsPrefix xs ys → At ys k x → k < length xs → At xs k x
  At-prefix_front xs ys k x prefix at within = elim (At-append xs prefix.0 k x (subst (λ l. At l k x) (sym prefix.1) at)) [
    | inl front ↦ front
    | inr back ↦ absurd (omega (arith, back.0, within))
  ]

  -- both have the same first elements
  pub take-prefix : (xs ys : List A) (k : ℕ) → IsPrefix xs ys → k ≤ length xs → take k ys ≡ take k xs
  take-prefix xs ys k prefix fits = ap (take k) (sym prefix.1) ∙ take-append-le k xs prefix.0 fits

  -- as many of them as the first has are the first
  pub take-prefix_whole : (xs ys : List A) → IsPrefix xs ys → take (length xs) ys ≡ xs
  take-prefix_whole xs ys prefix = ap (take (length xs)) (sym prefix.1) ∙ take-append_seam xs prefix.0

  -- no more pass a test in the first
  pub length-filter_prefix : (p : A → Bool) (xs ys : List A) → IsPrefix xs ys → length (filter p xs) ≤ length (filter p ys)
  length-filter_prefix p xs ys prefix =
      omega (
        arith,
        ap (λ l. length (filter p l)) (sym prefix.1),
        ap length (filter-append p xs prefix.0),
        length-append (filter p xs) (filter p prefix.0),
      )

  -- where as many pass in both, each that passes stands in the first
  pub At-prefix_filtered : (p : A → Bool) (xs ys : List A) (k : ℕ) (x : A)
      → IsPrefix xs ys → length (filter p ys) ≤ length (filter p xs) → At ys k x → p x ≡ true
      → At xs k x
  At-prefix_filtered p xs ys k x prefix few at passes = elim (cases_lt k (length xs)) [
    | inl before ↦ At-prefix_front xs ys k x prefix at before
    | inr after ↦
        absurd
        (let front : length (filter p (take (length xs) ys)) ≡ length (filter p xs) =
        ap (λ l. length (filter p l)) (take-prefix_whole xs ys prefix) in
        omega (arith, less_in_front p ys (length xs) k x at after passes, front, few))
  ]

  -- ---- nothing more of a kind

  -- a list goes on with nothing
  pub NoMore-self : (own : A → Bool) (xs : List A) → NoMore own xs xs
  NoMore-self own xs = record { rest = []; is = append-nil xs; others = λ k x at. absurd cc }

  -- what goes on so begins with what stood there
  pub IsPrefix-no_more : (own : A → Bool) (xs ys : List A) → NoMore own xs ys → IsPrefix xs ys
  IsPrefix-no_more own xs ys more = (more.rest, more.is)

  -- one list goes on so through another
  pub NoMore-through : (own : A → Bool) (xs ys zs : List A) → NoMore own xs ys → NoMore own ys zs → NoMore own xs zs
  NoMore-through own xs ys zs first second = record {
    rest = first.rest ++ second.rest;
    is = sym (append_assoc xs first.rest second.rest) ∙ (ap (λ l. l ++ second.rest) first.is ∙ second.is);
    others = λ k x at. elim (At-append first.rest second.rest k x at) [
      | inl front ↦ first.others k x front
      | inr back ↦ second.others (k - length first.rest) x back.1
    ];
  }

  -- what is of the kind stood there
  pub At-no_more : (own : A → Bool) (xs ys : List A) (k : ℕ) (x : A) → NoMore own xs ys → At ys k x → own x ≡ true → At xs k x
  At-no_more own xs ys k x more at is = elim (At-append xs more.rest k x (subst (λ l. At l k x) (sym more.is) at)) [
    | inl front ↦ front
    | inr back ↦
        absurd
        (let other : own x ≡ false = more.others (k - length xs) x back.1 in
        let wrong : true ≡ false = sym is ∙ other in
        cc)
  ]

  -- a test that passes nothing but this kind passes what it passed
  pub filter-no_more : (own p : A → Bool) (xs ys : List A)
      → NoMore own xs ys → ((x : A) → own x ≡ false → p x ≡ false)
      → filter p ys ≡ filter p xs
  filter-no_more own p xs ys more fails =
      let none : filter p more.rest ≡ [] = filter-none_at p more.rest (λ k x at. fails x (more.others k x at)) in
      ap (filter p) (sym more.is)
      ∙ (filter-append p xs more.rest ∙ (ap (λ l. filter p xs ++ l) none ∙ append-nil (filter p xs)))
