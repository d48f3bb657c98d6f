-- Unions of masks, one group after the other.
use Rattle.std.proofs.Common.{◌≡◌, ℕ, Bool, true, false, bit_or, List, [], ◌∷◌, ◌++◌, filter, Option, None, Some, is_some, refl, sym, ap, ◌∙◌, arith, max}
use Rattle.std.specs.List.{flat_map}
use Rattle.std.specs.Int.{bit_at}
use Rattle.std.proofs.lemmas.List.Concat.{flat_map-cons}
use Rattle.std.proofs.lemmas.Nat.Bits.{bit_at-zero, bit_at_or, same_from_bits}
use Rattle.machine.specs.declared.parameters.Parameters.{Parameters}
use Rattle.pair_law.specs.Others.{masks_of, sides_beside}
use Rattle.pair_law.specs.State.{PairGroup, mask_in}
use Rattle.pair_text.specs.declared.side.Side.{Side}
use Rattle.pair_text.specs.declared.side.Side.TheVariants.{First, Second}
use Rattle.tree_law.specs.Space.{union_of}

pub bit_or-zero : (a : ℕ) → bit_or a 0 ≡ a
bit_or-zero a = same_from_bits (bit_or a 0) a (λ i. bit_at_or a 0 i ∙ omega (arith, bit_at-zero i))

pub bit_or-assoc : (a b c : ℕ) → bit_or (bit_or a b) c ≡ bit_or a (bit_or b c)
bit_or-assoc a b c = same_from_bits (bit_or (bit_or a b) c) (bit_or a (bit_or b c)) (λ i.
    bit_at_or (bit_or a b) c i ∙ ap (λ (n : ℕ). max n (bit_at c i)) (bit_at_or a b i) ∙ omega (arith, bit_at_or a (bit_or b c) i, bit_at_or b c i))

zero-bit_or : (a : ℕ) → bit_or 0 a ≡ a
zero-bit_or a = same_from_bits (bit_or 0 a) a (λ i. bit_at_or 0 a i ∙ omega (arith, bit_at-zero i))

-- the union of two lists of masks
union_of-append : (xs ys : List ℕ) → union_of (xs ++ ys) ≡ bit_or (union_of xs) (union_of ys)
union_of-append [] ys = sym (zero-bit_or (union_of ys))
union_of-append (x ∷ xs) ys = ap (bit_or x) (union_of-append xs ys) ∙ sym (bit_or-assoc x (union_of xs) (union_of ys))

-- the masks of a group that part the caches of a side
pub union_of-levels : (l2 : Option Parameters) (side : Side) (domain : ℕ) (g : PairGroup) (levels : Bool) → levels ≡ is_some l2 → levels ≡ true → mask_in side domain g ≡ union_of (masks_of (sides_beside l2 side) domain g)
union_of-levels None side domain g levels is e = absurd (let f : true ≡ false = sym e ∙ is in cc)
union_of-levels (Some l2) side domain g levels is e = sym (bit_or-zero (mask_in side domain g))

pub union_of-shared : (l2 : Option Parameters) (side : Side) (domain : ℕ) (g : PairGroup) (levels : Bool) → levels ≡ is_some l2 → levels ≡ false → bit_or (mask_in First domain g) (mask_in Second domain g) ≡ union_of (masks_of (sides_beside l2 side) domain g)
union_of-shared None side domain g levels is e = ap (bit_or (mask_in First domain g)) (sym (bit_or-zero (mask_in Second domain g)))
union_of-shared (Some l2) side domain g levels is e = absurd (let f : false ≡ true = sym e ∙ is in cc)

module _ {X : Type 0} (f : X → List ℕ) (p : X → Bool) where
  -- the union of what is left, where the first of it passes
  pub union_of-taken : (ways : ℕ) (xs rest : List X) (x : X) → xs ≡ x ∷ rest → p x ≡ true → bit_or ways (union_of (flat_map f (filter p xs))) ≡ bit_or (bit_or ways (union_of (f x))) (union_of (flat_map f (filter p rest)))
  union_of-taken ways xs rest x is passes =
      ap (λ (l : List X). bit_or ways (union_of (flat_map f (filter p l)))) is
      ∙ rw passes (ap (λ (l : List ℕ). bit_or ways (union_of l)) (flat_map-cons f x (filter p rest)) ∙ ap (bit_or ways) (union_of-append (f x) (flat_map f (filter p rest))) ∙ sym (bit_or-assoc ways (union_of (f x)) (union_of (flat_map f (filter p rest)))))

  -- and where it does not
  pub union_of-passed : (ways : ℕ) (xs rest : List X) (x : X) → xs ≡ x ∷ rest → p x ≡ false → bit_or ways (union_of (flat_map f (filter p xs))) ≡ bit_or ways (union_of (flat_map f (filter p rest)))
  union_of-passed ways xs rest x is fails = ap (λ (l : List X). bit_or ways (union_of (flat_map f (filter p l)))) is ∙ rw fails refl
