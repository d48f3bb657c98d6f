-- The region that a touch is of.
use Rattle.std.proofs.Common.{◌≡◌, ℕ, zero, suc, ◌+◌, ◌<◌, Bool, true, false, cond, eqb, List, [], ◌∷◌, length, find, get_or, Option, None, Some, IfSome, is_some, refl, sym, ap, ◌∙◌, arith}
use Rattle.std.specs.List.{enumerate_from}
use Rattle.std.specs.Option.{option_and_then, option_map}
use Rattle.pseudo_lock.specs.declared.region.Region.{Region}
use Rattle.rc_base.specs.declared.names.Gid.{Gid}
use Rattle.tree_core.specs.Touched.{only_of}
use Rattle.tree_law.specs.commands.Touch.{is_held_by, with_domain}

module _ (gid : Gid) where
  -- the region of the group among these, from a domain on
  abbrev pub held : ℕ → List (Option Region) → Option (ℕ × Region)
  held first regions = option_and_then with_domain (find (is_held_by gid) (enumerate_from first regions))

  -- the first is not its
  held-other : (first : ℕ) (o : Option Region) (rest : List (Option Region)) → only_of gid o ≡ None → held first (o ∷ rest) ≡ held (first + 1) rest
  held-other first None rest none = refl
  held-other first (Some r) rest none = at (eqb r.gid.0 gid.0) none
    where
      at : (b : Bool) → cond b (Some r) None ≡ None → option_and_then with_domain (cond b (Some (first, Some r)) (find (is_held_by gid) (enumerate_from (first + 1) rest))) ≡ held (first + 1) rest
      at true e = absurd (let some : Some r ≡ None = e in cc)
      at false e = refl

  -- the first is its
  held-first : (first : ℕ) (o : Option Region) (rest : List (Option Region)) (r : Region) → only_of gid o ≡ Some r → held first (o ∷ rest) ≡ Some (first, r)
  held-first first None rest r is = absurd (let none : ◌≡◌ {A = Option Region} None (Some r) = is in cc)
  held-first first (Some q) rest r is = at (eqb q.gid.0 gid.0) is
    where
      at : (b : Bool) → cond b (Some q) None ≡ Some r → option_and_then with_domain (cond b (Some (first, Some q)) (find (is_held_by gid) (enumerate_from (first + 1) rest))) ≡ Some (first, r)
      at true e = ap (λ (x : Region). Some (first, x)) (let same : Some q ≡ Some r = e in cc)
      at false e = absurd (let none : ◌≡◌ {A = Option Region} None (Some r) = e in cc)

  -- the first that is its is found
  pub held-found : (first n : ℕ) (regions : List (Option Region)) (r : Region) → n < length regions → ((k : ℕ) → k < n → only_of gid (get_or regions k None) ≡ None) → only_of gid (get_or regions n None) ≡ Some r → held first regions ≡ Some (first + n, r)
  held-found first n [] r within lower is = absurd (omega arith)
  held-found first zero (o ∷ os) r within lower is = let sum : first ≡ first + 0 = omega arith in held-first first o os r is ∙ ap (λ (k : ℕ). Some (k, r)) sum
  held-found first (suc n) (o ∷ os) r within lower is =
      let sum : first + 1 + n ≡ first + suc n = omega arith in
      held-other first o os (lower 0 (omega arith)) ∙ held-found (first + 1) n os r (omega arith) (λ k lt. lower (suc k) (omega arith)) is ∙ ap (λ (k : ℕ). Some (k, r)) sum

  -- and none, where none is
  pub held-none : (first : ℕ) (regions : List (Option Region)) → ((k : ℕ) → k < length regions → only_of gid (get_or regions k None) ≡ None) → held first regions ≡ None
  held-none first [] none = refl
  held-none first (o ∷ os) none = held-other first o os (none 0 (omega arith)) ∙ held-none (first + 1) os (λ k lt. none (suc k) (omega arith))

  -- what was found at a domain, where none was below it
  pub held-at : (n : ℕ) (regions : List (Option Region)) (o : Option Region) → n < length regions → ((k : ℕ) → k < n → only_of gid (get_or regions k None) ≡ None) → o ≡ only_of gid (get_or regions n None) → IfSome o (λ (r : Region). r.domain ≡ n) → is_some o ≡ true
      → option_map (λ (r : Region). (r.domain, r)) o ≡ held 0 regions
  held-at n regions None within lower is own some = absurd (let f : false ≡ true = some in cc)
  held-at n regions (Some r) within lower is own some =
      let sum : r.domain ≡ 0 + n = omega (arith, own) in
      ap (λ (k : ℕ). Some (k, r)) sum ∙ sym (held-found 0 n regions r within lower (sym is))
