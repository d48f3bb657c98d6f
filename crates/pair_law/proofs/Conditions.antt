-- The conditions of windows hold or do not.
use Rattle.std.proofs.Common.{◌≡◌, ℕ, zero, suc, ◌<◌, Bool, true, false, Option, None, Some, ◌⊎◌, inl, inr, refl, sym, subst, ap, ◌∙◌, arith}
use Rattle.std.specs.Prelude.{IsSomeAnd}
use Rattle.std.proofs.lemmas.Bool.{cases_eq, cases_lt, true≢false}
use Rattle.cbm.specs.Masks.{overlaps}
use Rattle.pair_law.specs.State.{PairGroup, PairState, group_of, mask_in}
use Rattle.pair_text.specs.Values.{Machines, side_machine}
use Rattle.pair_text.specs.declared.side.Side.{Side}
use Rattle.pair_text.specs.declared.side.Side.TheVariants.{First, Second}
use Rattle.pair_law.proofs.Alone.{IsSomeAnd-parts}
use Rattle.pair_law.specs.CdpWindows.{IsAlone, other_side}
use Rattle.pair_law.specs.JointWindows.{HasLevels, domain_above}
use Rattle.rc_base.specs.declared.names.Gid.{Gid}
use Rattle.rc_base.specs.declared.names.Mode.{Mode}
use Rattle.rc_base.specs.declared.names.Mode.TheVariants.{Shareable, Exclusive, LockSetup, Locked}

-- what holds or does not
abbrev pub Decided : Type 0 → Type 0
Decided P = P ⊎ (P → ⊥)

both-decided : {P Q : Type 0} → Decided P → Decided Q → Decided (P × Q)
both-decided (inl p) (inl q) = inl (p, q)
both-decided (inl p) (inr q) = inr (λ h. q h.1)
both-decided (inr p) q = inr (λ h. p h.0)

three-decided : {P Q R : Type 0} → Decided P → Decided Q → Decided R → Decided (P × Q × R)
three-decided (inl p) (inl q) (inl r) = inl (p, q, r)
three-decided (inl p) (inl q) (inr r) = inr (λ h. r h.2)
three-decided (inl p) (inr q) r = inr (λ h. q h.1)
three-decided (inr p) q r = inr (λ h. p h.0)

mode-decided : (m : Mode) → Decided (m ≡ Exclusive)
mode-decided Exclusive = inl refl
mode-decided Shareable = inr (λ e. let f : Shareable ≡ Exclusive = e in cc)
mode-decided LockSetup = inr (λ e. let f : LockSetup ≡ Exclusive = e in cc)
mode-decided Locked = inr (λ e. let f : Locked ≡ Exclusive = e in cc)

nat-decided : (a b : ℕ) → Decided (a ≡ b)
nat-decided a b = elim (cases_eq a b) [
  | inl e ↦ inl e
  | inr n ↦ inr (λ e. n e)
]

false-decided : (b : Bool) → Decided (b ≡ false)
false-decided true = inr (λ e. true≢false e)
false-decided false = inl refl

some-decided : {X : Type 0} (P : X → Type 0) → ((x : X) → Decided (P x)) → (o : Option X) → Decided (IsSomeAnd o P)
some-decided P either None = inr (λ h. h)
some-decided P either (Some x) = either x

-- of all numbers below one
below-decided : (P : ℕ → Type 0) → ((x : ℕ) → Decided (P x)) → (n : ℕ) → Decided ((x : ℕ) → x < n → P x)
below-decided P either zero = inl (λ x lt. absurd (omega arith))
below-decided P either (suc n) = at (below-decided P either n) (either n)
  where
    at : Decided ((x : ℕ) → x < n → P x) → Decided (P n) → Decided ((x : ℕ) → x < suc n → P x)
    at (inl all) (inl one) = inl (λ x lt. elim (cases_lt x n) [
      | inl less ↦ all x less
      | inr le ↦ let same : n ≡ x = omega arith in subst P same one
    ])
    at (inl all) (inr none) = inr (λ h. none (h n (omega arith)))
    at (inr some) one = inr (λ h. some (λ x lt. h x (omega arith)))

implied-decided : {A B : Type 0} → Decided A → Decided B → Decided (A → B)
implied-decided (inl a) (inl b) = inl (λ x. b)
implied-decided (inl a) (inr b) = inr (λ h. b (h a))
implied-decided (inr a) b = inl (λ x. absurd (a x))

pub IsAlone-decided : (domain : ℕ) (group : Gid) (side : Side) (mask : ℕ) (s : PairState) → Decided (IsAlone domain group side mask s)
IsAlone-decided domain group side mask s = some-decided (λ (g : PairGroup). (g.mode ≡ Exclusive) × (mask_in side domain g ≡ mask) × (overlaps mask (mask_in (other_side side) domain g) ≡ false))
    (λ g. three-decided (mode-decided g.mode) (nat-decided (mask_in side domain g) mask) (false-decided (overlaps mask (mask_in (other_side side) domain g)))) (group_of s group)

pub HasLevels-decided : (m : Machines) (domain : ℕ) (group : Gid) (mask : ℕ) (masks : ℕ → ℕ) (s : PairState) → Decided (HasLevels m domain group mask masks s)
HasLevels-decided m domain group mask masks s =
    some-decided (λ (g : PairGroup). (g.mode ≡ Exclusive) × (mask_in Second domain g ≡ mask) × ((x : ℕ) → x < (side_machine m First).domains → domain_above m x ≡ domain → mask_in First x g ≡ masks x))
    (λ g. three-decided (mode-decided g.mode) (nat-decided (mask_in Second domain g) mask)
    (below-decided (λ x. domain_above m x ≡ domain → mask_in First x g ≡ masks x) (λ x. implied-decided (nat-decided (domain_above m x) domain) (nat-decided (mask_in First x g) (masks x))) (side_machine m First).domains)) (group_of s group)

-- a group has one mask
pub IsAlone-mask : (domain : ℕ) (group : Gid) (side : Side) (mask other : ℕ) (s : PairState) → IsAlone domain group side mask s → IsAlone domain group side other s → mask ≡ other
IsAlone-mask domain group side mask other s one two =
    let x = IsSomeAnd-parts (λ (g : PairGroup). (g.mode ≡ Exclusive) × (mask_in side domain g ≡ mask) × (overlaps mask (mask_in (other_side side) domain g) ≡ false)) (group_of s group) one in
    let y = IsSomeAnd-parts (λ (g : PairGroup). (g.mode ≡ Exclusive) × (mask_in side domain g ≡ other) × (overlaps other (mask_in (other_side side) domain g) ≡ false)) (group_of s group) two in
    let same : x.0 ≡ y.0 = same_some x.0 y.0 (sym x.1 ∙ y.1) in
    sym x.2.1 ∙ (ap (mask_in side domain) same ∙ y.2.1)
  where
    same_some : (a b : PairGroup) → Some a ≡ Some b → a ≡ b
    same_some a b e = cc

-- and one mask of each domain of each level
pub HasLevels-masks : (m : Machines) (domain : ℕ) (group : Gid) (mask other : ℕ) (masks others : ℕ → ℕ) (s : PairState) → HasLevels m domain group mask masks s → HasLevels m domain group other others s
    → (mask ≡ other) × ((x : ℕ) → x < (side_machine m First).domains → domain_above m x ≡ domain → masks x ≡ others x)
HasLevels-masks m domain group mask other masks others s one two =
    let x = IsSomeAnd-parts (λ (g : PairGroup). (g.mode ≡ Exclusive) × (mask_in Second domain g ≡ mask) × ((y : ℕ) → y < (side_machine m First).domains → domain_above m y ≡ domain → mask_in First y g ≡ masks y)) (group_of s group) one in
    let z = IsSomeAnd-parts (λ (g : PairGroup). (g.mode ≡ Exclusive) × (mask_in Second domain g ≡ other) × ((y : ℕ) → y < (side_machine m First).domains → domain_above m y ≡ domain → mask_in First y g ≡ others y)) (group_of s group) two in
    let same : x.0 ≡ z.0 = same_some x.0 z.0 (sym x.1 ∙ z.1) in
    (sym x.2.1 ∙ (ap (mask_in Second domain) same ∙ z.2.1), λ y lt lies. sym (x.2.2 y lt lies) ∙ (ap (mask_in First y) same ∙ z.2.2 y lt lies))
  where
    same_some : (a b : PairGroup) → Some a ≡ Some b → a ≡ b
    same_some a b e = cc

-- the same levels, by other names of the masks
pub HasLevels-same : (m : Machines) (domain : ℕ) (group : Gid) (mask other : ℕ) (masks others : ℕ → ℕ) (s : PairState) → mask ≡ other → ((x : ℕ) → x < (side_machine m First).domains → domain_above m x ≡ domain → masks x ≡ others x)
    → HasLevels m domain group other others s → HasLevels m domain group mask masks s
HasLevels-same m domain group mask other masks others s same each has =
    let z = IsSomeAnd-parts (λ (g : PairGroup). (g.mode ≡ Exclusive) × (mask_in Second domain g ≡ other) × ((y : ℕ) → y < (side_machine m First).domains → domain_above m y ≡ domain → mask_in First y g ≡ others y)) (group_of s group) has in
    subst (λ (o : Option PairGroup). IsSomeAnd o (λ (g : PairGroup). (g.mode ≡ Exclusive) × (mask_in Second domain g ≡ mask) × ((y : ℕ) → y < (side_machine m First).domains → domain_above m y ≡ domain → mask_in First y g ≡ masks y))) (sym z.1)
    (z.2.0, z.2.1 ∙ sym same, λ y lt lies. z.2.2 y lt lies ∙ sym (each y lt lies))
