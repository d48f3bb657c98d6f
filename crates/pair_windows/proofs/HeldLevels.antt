-- The masks that a group has in an L3 domain, and in the L2 domains that lie in it, as a test and as a fact.
use Rattle.std.proofs.Common.{◌≡◌, ℕ, zero, suc, ◌+◌, ◌<◌, ◌≤◌, Bool, true, false, not, ◌&&◌, ◌||◌, eqb, get_or, Option, Some, None, inl, inr, refl, sym, subst, ap, ◌∙◌, arith}
use Rattle.std.specs.Prelude.{IsSomeAnd}
use Rattle.std.specs.List.{All, list_all, range_with_len}
use Rattle.std.specs.Option.{option_map_or}
use Rattle.std.proofs.lemmas.Bool.{and_parts, cases_Bool, cases_lt, eq-eqb, eqb-true}
use Rattle.group_tree.specs.Records.{is_mode}
use Rattle.pair_windows.proofs.FoundGroups.{find-rising, is_mode-exclusive}
use Rattle.pair_windows.specs.LevelSpans.{exclusive_in}
use Rattle.pair_windows.specs.JointWindows.{has_masks_of, keeps_masks}
use Rattle.lists.proofs.Tests.{All-kept}
use Rattle.pair_law.specs.Epochs.{state_at}
use Rattle.pair_law.specs.State.{PairState, group_of, mask_in}
use Rattle.pair_text.specs.Values.{Machines, PairScriptValue, side_machine}
use Rattle.pair_text.specs.declared.group.PairGroup.{PairGroup}
use Rattle.pair_text.specs.declared.side.Side.TheVariants.{First, Second}
use Rattle.pair_law.specs.JointWindows.{HasLevels, domain_above}
use Rattle.pair_windows.proofs.laws.RisingGroups.{RiseByGid-state_at}
use Rattle.rc_base.specs.declared.names.Mode.TheVariants.{Exclusive}

-- ---- tests of all numbers of a range

list_all-at : (p : ℕ → Bool) (a n k : ℕ) → list_all p (range_with_len a n) ≡ true → a ≤ k → k < a + n → p k ≡ true
list_all-at p a zero k all low high = absurd (omega (arith, low, high))
list_all-at p a (suc n) k all low high =
    let parts = and_parts (p a) (list_all p (range_with_len (a + 1) n)) all in
    elim (cases_lt a k) [
      | inl lt ↦ list_all-at p (a + 1) n k parts.1 (omega (arith, lt)) (omega (arith, high))
      | inr le ↦ let same : a ≡ k = omega (arith, le, low) in ap p (sym same) ∙ parts.0
    ]

list_all-range : (p : ℕ → Bool) (a n : ℕ) → ((k : ℕ) → a ≤ k → k < a + n → p k ≡ true) → list_all p (range_with_len a n) ≡ true
list_all-range p a zero each = refl
list_all-range p a (suc n) each =
    let here = each a (omega arith) (omega arith) in
    let rest = list_all-range p (a + 1) n (λ k low high. each k (omega (arith, low)) (omega (arith, high))) in
    rw (here, rest) refl

-- ---- the condition of a window, as a test and as a fact

module _ (m : Machines) (domain : ℕ) (g : PairGroup) where
  -- the levels that the group has
  abbrev pub HasOwn : PairState → Type 0
  HasOwn s = HasLevels m domain g.gid (mask_in Second domain g) (λ x. mask_in First x g) s

  -- whether another record of the group has the same mask in an L2 domain that lies in the L3 domain
  abbrev is_same_in : PairGroup → ℕ → Bool
  is_same_in later x = not (eqb (domain_above m x) domain) || eqb (mask_in First x later) (mask_in First x g)

  -- masks that are kept are had
  pub HasLevels-keeps : (s : PairState) → keeps_masks m domain g s ≡ true → HasOwn s
  HasLevels-keeps s is = of (group_of s g.gid) is
    where
      of : (o : Option PairGroup) → option_map_or (has_masks_of m domain g) o false ≡ true
          → IsSomeAnd o (λ later. (later.mode ≡ Exclusive) × (mask_in Second domain later ≡ mask_in Second domain g) × ((x : ℕ) → x < (side_machine m First).domains → domain_above m x ≡ domain → mask_in First x later ≡ mask_in First x g))
      of None e = absurd (let f : false ≡ true = e in cc)
      of (Some later) e =
          let first = and_parts (is_mode Exclusive later.mode && eqb (mask_in Second domain later) (mask_in Second domain g)) (list_all (is_same_in later) (range_with_len 0 (side_machine m First).domains)) e in
          let second = and_parts (is_mode Exclusive later.mode) (eqb (mask_in Second domain later) (mask_in Second domain g)) first.0 in (
            is_mode-exclusive later.mode second.0,
            eqb-true (mask_in Second domain later) (mask_in Second domain g) second.1,
            λ x lt lies.
                let same = list_all-at (is_same_in later) 0 (side_machine m First).domains x first.1 (omega arith) (omega (arith, lt)) in
                let there = eq-eqb (domain_above m x) domain lies in
                eqb-true (mask_in First x later) (mask_in First x g) (rw there at same),
          )

  -- those that are had are kept
  pub keeps_masks-has : (s : PairState) → HasOwn s → keeps_masks m domain g s ≡ true
  keeps_masks-has s has = of (group_of s g.gid) has
    where
      of : (o : Option PairGroup)
          → IsSomeAnd o (λ later. (later.mode ≡ Exclusive) × (mask_in Second domain later ≡ mask_in Second domain g) × ((x : ℕ) → x < (side_machine m First).domains → domain_above m x ≡ domain → mask_in First x later ≡ mask_in First x g))
          → option_map_or (has_masks_of m domain g) o false ≡ true
      of None h = absurd h
      of (Some later) h =
          let mode : is_mode Exclusive later.mode ≡ true = ap (is_mode Exclusive) h.0 in
          let mask : eqb (mask_in Second domain later) (mask_in Second domain g) ≡ true = eq-eqb (mask_in Second domain later) (mask_in Second domain g) h.1 in
          let all : list_all (is_same_in later) (range_with_len 0 (side_machine m First).domains) ≡ true = list_all-range (is_same_in later) 0 (side_machine m First).domains (λ x low high. at x (omega (arith, high)) (h.2 x)) in
          rw (mode, mask, all) refl
        where
          at : (x : ℕ) → x < (side_machine m First).domains → (x < (side_machine m First).domains → domain_above m x ≡ domain → mask_in First x later ≡ mask_in First x g) → is_same_in later x ≡ true
          at x lt same = elim (cases_Bool (eqb (domain_above m x) domain)) [
            | inl there ↦ let is = eq-eqb (mask_in First x later) (mask_in First x g) (same lt (eqb-true (domain_above m x) domain there)) in rw (there, is) refl
            | inr elsewhere ↦ rw elsewhere refl
          ]

-- ---- the exclusive groups of a state

-- each has its levels in the state
pub HasLevels-exclusive : (m : Machines) (domain : ℕ) (script : PairScriptValue) (epoch : ℕ) → All (λ (g : PairGroup). HasOwn m domain g (state_at script epoch)) (exclusive_in (state_at script epoch))
HasLevels-exclusive m domain script epoch =
    let s : PairState = state_at script epoch in
    All-kept (λ (g : PairGroup). HasOwn m domain g s) (λ (g : PairGroup). is_mode Exclusive g.mode) s.groups
    (λ k d within exclusive. at s (get_or s.groups k d) (find-rising s.groups (RiseByGid-state_at script epoch).rising k d within) exclusive)
  where
    at : (s : PairState) (g : PairGroup) → group_of s g.gid ≡ Some g → is_mode Exclusive g.mode ≡ true → HasOwn m domain g s
    at s g found exclusive =
        subst (λ (o : Option PairGroup). IsSomeAnd o (λ later. (later.mode ≡ Exclusive) × (mask_in Second domain later ≡ mask_in Second domain g) × ((x : ℕ) → x < (side_machine m First).domains → domain_above m x ≡ domain → mask_in First x later ≡ mask_in First x g)))
        (sym found) (is_mode-exclusive g.mode exclusive, refl, λ x lt lies. refl)
