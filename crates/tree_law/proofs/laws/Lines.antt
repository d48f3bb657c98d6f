-- The first lines of regions.
use Rattle.std.proofs.Common.{◌≡◌, ◌≢◌, ℕ, ◌+◌, ◌-◌, ◌*◌, ◌%◌, ◌^◌, ◌<◌, ◌≤◌, List, length, Option, None, Some, IfSome, inl, inr, sym, subst, ap, ◌∙◌, arith}
use Rattle.std.proofs.Math.Nat.{mul-le-mul_right, mul-mod_left, mul_assoc}
use Rattle.std.proofs.lemmas.Bool.{cases_lt, cases_order, eqb-true}
use Rattle.std.proofs.lemmas.List.{get_or_past}
use Rattle.cbm.specs.Masks.{ways_of}
use Rattle.lists.proofs.Powers.{count_ones-one, pow-divides}
use Rattle.machine.specs.Ranges.{InRange}
use Rattle.machine.specs.declared.parameters.Parameters.{Parameters}
use Rattle.script_ops.specs.declared.limits.TheConstants.{MOST_WEIGHT}
use Rattle.tree_law.specs.LawsFollows.{lines_of}
use Rattle.tree_law.specs.Regions.{HaveLines, IsPlaced, LinesDiffer}
use Rattle.tree_law.specs.Space.{region_in}
use Rattle.pseudo_lock.specs.declared.region.Region.{Region}
use Rattle.pseudo_lock.specs.Regions.{first_line_of}
use Rattle.cbm.proofs.laws.Ways.{length-ways_of}

module _ (regions : List (Option Region)) (locks : ℕ) (have : HaveLines regions locks) where
  -- a region stands at a place
  region_in-within : (domain : ℕ) (r : Region) → region_in regions domain ≡ Some r → domain < length regions
  region_in-within domain r is = elim (cases_lt domain (length regions)) [
    | inl lt ↦ lt
    | inr le ↦ absurd (let f : ◌≡◌ {A = Option Region} None (Some r) = sym (get_or_past regions domain None le) ∙ is in cc)
  ]

  -- it has the first line of a lock
  region_in-placed : (domain : ℕ) (r : Region) → region_in regions domain ≡ Some r → IsPlaced locks r
  region_in-placed domain r is = subst (λ (o : Option Region). IfSome o (IsPlaced locks)) is (have.placed domain None (region_in-within domain r is))

  -- the regions of two domains have different first lines
  pub first_line-differs : (one other : ℕ) (a b : Region) → one ≢ other → region_in regions one ≡ Some a → region_in regions other ≡ Some b → a.first_line ≢ b.first_line
  first_line-differs one other a b apart is js = elim (cases_order one other) [
    | inl e ↦ absurd (apart e)
    | inr (inl lt) ↦ both one other (Some a) (Some b) is js (have.differ one other None lt (region_in-within other b js))
    | inr (inr lt) ↦ λ e. both other one (Some b) (Some a) js is (have.differ other one None lt (region_in-within one a is)) (sym e)
  ]
    where
      both : (i j : ℕ) (x y : Option Region) → region_in regions i ≡ x → region_in regions j ≡ y → LinesDiffer (region_in regions i) (region_in regions j) → LinesDiffer x y
      both i j x y is js differ = subst (LinesDiffer x) js (subst (λ (o : Option Region). LinesDiffer o (region_in regions j)) is differ)

  -- a first line is a multiple of the number of sets
  pub first_line-whole : (m : Parameters) (domain : ℕ) (r : Region) → InRange m → region_in regions domain ≡ Some r → r.first_line % m.sets ≡ 0
  first_line-whole m domain r range is =
      let placed = region_in-placed domain r is in
      let p = count_ones-one m.sets (eqb-true (_) 1 range.set_power) in
      let k = placed.0 in
      let most : 2 ^ p.0 ≤ 2 ^ 32 = (let limit = range.set_limit in let is_power = p.1 in omega arith) in
      let whole : 2 ^ 32 ≡ 2 ^ (32 - p.0) * 2 ^ p.0 = pow-divides 32 p.0 most in
      let turned : 2 ^ 32 ≡ 2 ^ (32 - p.0) * m.sets = whole ∙ ap (λ (n : ℕ). 2 ^ (32 - p.0) * n) (sym p.1) in
      ap (λ (n : ℕ). n % m.sets) (placed.2 ∙ parts k (2 ^ (32 - p.0)) m.sets turned) ∙ mul-mod_left ((2 ^ 20 + k) * 2 ^ (32 - p.0)) m.sets
    where
      parts : (k q sets : ℕ) → 2 ^ 32 ≡ q * sets → first_line_of k ≡ (2 ^ 20 + k) * q * sets
      parts k q sets e = (let sum : first_line_of k ≡ (2 ^ 20 + k) * 2 ^ 32 = omega arith in sum ∙ sym (mul_assoc (2 ^ 20 + k) q sets ∙ ap (λ (n : ℕ). (2 ^ 20 + k) * n) (sym e)))

  -- with fewer locks than a script has ops at most, each line of a region is below 2^60
  pub first_line-bounded : (m : Parameters) (domain : ℕ) (r : Region) (offset : ℕ) → InRange m → locks < MOST_WEIGHT → region_in regions domain ≡ Some r → offset < lines_of m r → r.first_line + offset < 2 ^ 60
  first_line-bounded m domain r offset range few is less =
      let placed = region_in-placed domain r is in
      let ways = length-ways_of r.mask in
      let sets : m.sets * length (ways_of r.mask) ≤ 65536 * length (ways_of r.mask) = mul-le-mul_right {m = m.sets} {n = 65536} (length (ways_of r.mask)) range.set_limit in
      let k = placed.0 in let below = placed.1 in let first = placed.2 in omega arith
