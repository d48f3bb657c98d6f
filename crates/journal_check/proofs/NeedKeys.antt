-- The keys of what a command needs.
use Rattle.std.proofs.Common.{◌≡◌, ℕ, ◌+◌, ◌*◌, ◌<◌, inl, inr, true, false, List, length, get_or, map, Result, Some, sym, ap, ◌∙◌, arith}
use Rattle.std.specs.List.Sorted.{IsBinarySearchResult, IsNonDecreasing}
use Rattle.std.specs.Ordering.{nat_cmp}
use Rattle.std.specs.Prelude.{Contains, slice_get}
use Rattle.std.specs.Result.{is_ok}
use Rattle.std.specs.declared.result.Result.TheVariants.{Err, Ok}
use Rattle.std.proofs.lemmas.Bool.{cases_lt}
use Rattle.std.proofs.lemmas.List.{get_or-map, get_or_default, length-map}
use Rattle.std.proofs.lemmas.List.Sorted.{Contains-permutation, IsPermutation-sym, searched}
use Rattle.std.proofs.lemmas.Option.{get_or_from_slice_get, slice_get_within}
use Rattle.journal_check.specs.Needs.{AreKeys, key_of}

-- a key has one domain and one RMID
same-key : (domain rmid other_domain other_rmid : ℕ) → rmid < 65536 → other_rmid < 65536 → domain * 65536 + rmid ≡ other_domain * 65536 + other_rmid → (domain ≡ other_domain) × (rmid ≡ other_rmid)
same-key domain rmid other_domain other_rmid small other_small same = (omega arith, omega arith)

-- a need is a domain and an RMID
same-pair : (need : ℕ × ℕ) (domain rmid : ℕ) → need.0 ≡ domain → need.1 ≡ rmid → need ≡ (domain, rmid)
same-pair need domain rmid first second = ap (λ d. (d, need.1)) first ∙ ap (λ r. (domain, r)) second

module _ (needs : List (ℕ × ℕ)) (keys : List ℕ) (are : AreKeys needs keys) (domain rmid : ℕ) (fits : rmid < 65536) where
  abbrev key : ℕ
  key = key_of (domain, rmid)

  -- what has its key among the keys is needed
  key-needed : Contains keys key → Contains needs (domain, rmid)
  key-needed has =
      let its = Contains-permutation keys (map key_of needs) key (IsPermutation-sym (map key_of needs) keys are.same) has in
      let n = its.0 in
      let within : n < length needs = omega (arith, its.1, length-map needs key_of) in
      let need = get_or needs n (domain, rmid) in
      let same : key_of need ≡ key = sym (get_or-map key_of needs n (domain, rmid) key within) ∙ its.2 in
      let parts = same-key need.0 need.1 domain rmid (are.small n (domain, rmid) within) fits same in
      (n, within, same-pair need domain rmid parts.0 parts.1)

  -- and the other way round
  needed-key : (n : ℕ) (need : ℕ × ℕ) → slice_get needs n ≡ Some need → need.0 ≡ domain → need.1 ≡ rmid → Contains keys key
  needed-key n need at first second =
      let within : n < length needs = slice_get_within needs n need at in
      let same : key_of need ≡ key = ap key_of (same-pair need domain rmid first second) in
      let there : get_or (map key_of needs) n key ≡ key = get_or-map key_of needs n need key within ∙ (ap key_of (get_or_from_slice_get needs n need need at) ∙ same) in
      Contains-permutation (map key_of needs) keys key are.same (n, (let count = length-map needs key_of in omega (arith, within, count)), there)

-- a search among sorted numbers finds what is there
search-contains : (xs : List ℕ) (x : ℕ) (r : Result ℕ ℕ) → IsNonDecreasing xs → IsBinarySearchResult (λ y. nat_cmp y x) xs r → is_ok r ≡ true → Contains xs x
search-contains xs x (Ok i) sorted is found = (let it = searched xs x (Ok i) is (λ a b. sorted a b 0) in (i, it.0, get_or_default xs i x 0 it.0 ∙ it.1))
search-contains xs x (Err i) sorted is found = absurd cc

-- and only that
search-misses : (xs : List ℕ) (x : ℕ) (r : Result ℕ ℕ) → IsNonDecreasing xs → IsBinarySearchResult (λ y. nat_cmp y x) xs r → is_ok r ≡ false → Contains xs x → ⊥
search-misses xs x (Ok i) sorted is found has = cc
search-misses xs x (Err i) sorted is found (n, within, there) =
    let it = searched xs x (Err i) is (λ a b. sorted a b 0) in
    let same : get_or xs n 0 ≡ x = get_or_default xs n 0 x within ∙ there in
    elim (cases_lt n i) [
      | inl below ↦ (let less = it.1 n below in omega (arith, less, same))
      | inr above ↦ (let more = it.2 n above within in omega (arith, more, same))
    ]

module _ (needs : List (ℕ × ℕ)) (keys : List ℕ) (are : AreKeys needs keys) (domain rmid : ℕ) (fits : rmid < 65536) (r : Result ℕ ℕ) (is : IsBinarySearchResult (λ y. nat_cmp y (key_of (domain, rmid))) keys r) where
  -- a search among the keys finds what is needed
  pub found-needed : is_ok r ≡ true → Contains needs (domain, rmid)
  found-needed found = key-needed needs keys are domain rmid fits (search-contains keys (key_of (domain, rmid)) r are.sorted is found)

  -- and all of it
  pub missed-needed : is_ok r ≡ false → (n : ℕ) (need : ℕ × ℕ) → slice_get needs n ≡ Some need → need.0 ≡ domain → need.1 ≡ rmid → ⊥
  missed-needed missed n need at first second = search-misses keys (key_of (domain, rmid)) r are.sorted is missed (needed-key needs keys are domain rmid fits n need at first second)
