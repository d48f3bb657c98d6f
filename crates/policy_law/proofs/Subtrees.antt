-- The bits below a node of the tree are those of the ways below it.
use Rattle.std.proofs.Common.{◌≡◌, ℕ, zero, suc, ◌+◌, ◌-◌, ◌/◌, ◌%◌, ◌^◌, ◌<◌, ◌≤◌, Bool, true, false, cond, not, ◌==◌, List, [], ◌∷◌, length, refl, sym, ◌∙◌, ap, inl, inr, arith}
use Rattle.std.specs.Prelude.{filter}
use Rattle.std.proofs.Math.Nat.{div-div-eq-div-mul}
use Rattle.std.proofs.lemmas.Nat.{pow-add}
use Rattle.std.proofs.lemmas.Bool.{cases_Bool, cases_lt, eqb-true, eq-eqb, ne_eqb, true≢false}
use Rattle.policy_law.specs.Policies.{has_way}
use Rattle.policy_law.specs.Isolation.{KeepsMasks, Respects, IsIsolated}
use Rattle.policy_law.specs.KnownPolicies.{first_way, is_upper, some_or, way_below, bits_after, tree}
use Rattle.policy_law.proofs.laws.Masks.{has_way-first_way, has_way-front, has_way-rest}
use Rattle.policy_law.proofs.Isolated.{IsIsolated-respected}

-- a node above a node
node-above : (w a b : ℕ) → w / 2 ^ a / 2 ^ b ≡ w / 2 ^ (a + b)
node-above w a b = div-div-eq-div-mul w (2 ^ a) (2 ^ b) ∙ ap (λ n. w / n) (sym (pow-add 2 a b))

-- the ways that a half leaves are ways
has_way-filter : (p : ℕ → Bool) (ways : List ℕ) (w : ℕ) → has_way (filter p ways) w ≡ true → has_way ways w ≡ true
has_way-filter p [] w h = h
has_way-filter p (v ∷ vs) w h = elim (cases_Bool (p v)) [
  | inl k ↦
      let kept : has_way (v ∷ filter p vs) w ≡ true = rw k at h in
      elim (cases_Bool (v == w)) [
        | inl t ↦ rw t refl
        | inr t ↦ let rest : has_way (filter p vs) w ≡ true = rw t at kept in rw t (has_way-filter p vs w rest)
      ]
  | inr k ↦ let rest : has_way (filter p vs) w ≡ true = rw k at h in has_way-rest v w vs (has_way-filter p vs w rest)
]

-- and so are those that are gone on with
has_way-some_or : (left ways : List ℕ) (w : ℕ) → ((v : ℕ) → has_way left v ≡ true → has_way ways v ≡ true) → has_way (some_or left ways) w ≡ true → has_way ways w ≡ true
has_way-some_or [] ways w all h = h
has_way-some_or (v ∷ vs) ways w all h = all w h

-- there are some
length-some_or : (left ways : List ℕ) → 0 < length ways → 0 < length (some_or left ways)
length-some_or [] ways some = some
length-some_or (v ∷ vs) ways some = omega arith

-- the side that a bit names
abbrev on_side : Bool → ℕ → ℕ → Bool
on_side bit level w = cond bit (is_upper level w) (not (is_upper level w))

-- where all ways are on one side, all are left
filter-all : (p : ℕ → Bool) (ways : List ℕ) → ((w : ℕ) → has_way ways w ≡ true → p w ≡ true) → filter p ways ≡ ways
filter-all p [] all = refl
filter-all p (w ∷ ws) all =
    let here : p w ≡ true = all w (has_way-front w ws) in
    rw here (ap (λ l. w ∷ l) (filter-all p ws (λ v h. all v (has_way-rest w v ws h))))

-- or none
filter-none : (p : ℕ → Bool) (ways : List ℕ) → ((w : ℕ) → has_way ways w ≡ true → p w ≡ false) → filter p ways ≡ []
filter-none p [] all = refl
filter-none p (w ∷ ws) all =
    let here : p w ≡ false = all w (has_way-front w ws) in
    rw here (filter-none p ws (λ v h. all v (has_way-rest w v ws h)))

-- so nothing is halved
some_or-one_side : (p : ℕ → Bool) (ways : List ℕ) (b : Bool) → ((w : ℕ) → has_way ways w ≡ true → p w ≡ b) → some_or (filter p ways) ways ≡ ways
some_or-one_side p [] b all = refl
some_or-one_side p (w ∷ ws) true all = rw (filter-all p (w ∷ ws) all) refl
some_or-one_side p (w ∷ ws) false all = rw (filter-none p (w ∷ ws) all) refl

-- a fill stays in its mask
has_way-way_below : (mask : List ℕ) (bits : ℕ → ℕ → Bool) (level : ℕ) (ways : List ℕ) → 0 < length ways → ((w : ℕ) → has_way ways w ≡ true → has_way mask w ≡ true) → has_way mask (way_below bits level ways) ≡ true
has_way-way_below mask bits zero ways some all = all (first_way ways) (has_way-first_way ways some)
has_way-way_below mask bits (suc level) ways some all =
    let left : List ℕ = filter (on_side (bits level (first_way ways / 2 ^ suc level)) level) ways in
    has_way-way_below mask bits level (some_or left ways) (length-some_or left ways some)
    (λ w h. all w (has_way-some_or left ways w (λ v k. has_way-filter (on_side (bits level (first_way ways / 2 ^ suc level)) level) ways v k) h))

pub KeepsMasks-tree : (levels : ℕ) → KeepsMasks (tree levels)
KeepsMasks-tree levels mask bits some = has_way-way_below mask bits levels mask some (λ w h. h)

-- a mask of just the ways below a node
abbrev IsBelow : ℕ → ℕ → List ℕ → Type 0
IsBelow height node m = (w : ℕ) → has_way m w ≡ (w / 2 ^ height == node)

-- the same bits of the nodes below it, which are at levels below its height
abbrev SameBelow : ℕ → ℕ → (ℕ → ℕ → Bool) → (ℕ → ℕ → Bool) → Type 0
SameBelow height node s t = (level n rest : ℕ) → suc level + rest ≡ height → n / 2 ^ rest ≡ node → s level n ≡ t level n

-- above the node all its ways are on one side
is_upper-above : (height node level : ℕ) (m : List ℕ) (w : ℕ) → IsBelow height node m → height ≤ level → has_way m w ≡ true → is_upper level w ≡ ((node / 2 ^ (level - height)) % 2 == 1)
is_upper-above height node level m w below le h =
    let at_node : w / 2 ^ height ≡ node = eqb-true (w / 2 ^ height) node (sym (below w) ∙ h) in
    let level_is : height + (level - height) ≡ level = omega arith in
    ap (λ q. q % 2 == 1) (ap (λ l. w / 2 ^ l) (sym level_is) ∙ (sym (node-above w height (level - height)) ∙ ap (λ n. n / 2 ^ (level - height)) at_node))

-- the same way is found
way_below-same : (height node : ℕ) (m : List ℕ) (s t : ℕ → ℕ → Bool) → IsBelow height node m → SameBelow height node s t → (level : ℕ) (ways : List ℕ) → 0 < length ways → ((w : ℕ) → has_way ways w ≡ true → has_way m w ≡ true)
    → way_below s level ways ≡ way_below t level ways
way_below-same height node m s t below same zero ways some all = refl
way_below-same height node m s t below same (suc level) ways some all =
    let n : ℕ = first_way ways / 2 ^ suc level in
    elim (cases_lt level height) [
      | inl lower ↦
          let at_node : first_way ways / 2 ^ height ≡ node = eqb-true (first_way ways / 2 ^ height) node (sym (below (first_way ways)) ∙ all (first_way ways) (has_way-first_way ways some)) in
          let height_is : suc level + (height - suc level) ≡ height = omega arith in
          let bit : s level (first_way ways / 2 ^ suc level) ≡ t level (first_way ways / 2 ^ suc level) = same level (first_way ways / 2 ^ suc level) (height - suc level) height_is
          (node-above (first_way ways) (suc level) (height - suc level) ∙ (ap (λ h. first_way ways / 2 ^ h) height_is ∙ at_node)) in
          let left : List ℕ = some_or (filter (on_side (s level (first_way ways / 2 ^ suc level)) level) ways) ways in
          way_below-same height node m s t below same level left (length-some_or (filter (on_side (s level (first_way ways / 2 ^ suc level)) level) ways) ways some)
          (λ w h. all w (has_way-some_or (filter (on_side (s level (first_way ways / 2 ^ suc level)) level) ways) ways w (λ v k. has_way-filter (on_side (s level (first_way ways / 2 ^ suc level)) level) ways v k) h))
          ∙ ap (λ b. way_below t level (some_or (filter (on_side b level) ways) ways)) bit
      | inr higher ↦
          let side : Bool = ((node / 2 ^ (level - height)) % 2 == 1) in
          let whole : (bit : Bool) → some_or (filter (on_side bit level) ways) ways ≡ ways = λ bit.
          some_or-one_side (on_side bit level) ways (cond bit side (not side)) (λ w h. ap (λ u. cond bit u (not u)) (is_upper-above height node level m w below higher (all w h))) in
          ap (way_below s level) (whole (s level (first_way ways / 2 ^ suc level)))
          ∙ (way_below-same height node m s t below same level ways some all ∙ ap (way_below t level) (sym (whole (t level (first_way ways / 2 ^ suc level)))))
    ]

-- a use of a way below
SameBelow-own : (height node w : ℕ) (s t : ℕ → ℕ → Bool) → SameBelow height node s t → SameBelow height node (bits_after w s) (bits_after w t)
SameBelow-own height node w s t same level n rest e at_node = elim (cases_Bool (n == w / 2 ^ suc level)) [
  | inl k ↦ rw k refl
  | inr k ↦ rw k (same level n rest e at_node)
]

-- a use of another way
SameBelow-other : (height node w : ℕ) (m : List ℕ) (s t : ℕ → ℕ → Bool) → IsBelow height node m → has_way m w ≡ false → SameBelow height node s t → SameBelow height node (bits_after w s) t
SameBelow-other height node w m s t below out same level n rest e at_node =
    let away : (n == w / 2 ^ suc level) ≡ false = ne_eqb n (w / 2 ^ suc level) (λ k.
    let there : w / 2 ^ height ≡ node = ap (λ h. w / 2 ^ h) (sym e) ∙ (sym (node-above w (suc level) rest) ∙ (ap (λ q. q / 2 ^ rest) (sym k) ∙ at_node)) in
    true≢false (sym (eq-eqb (w / 2 ^ height) node there) ∙ (sym (below w) ∙ out))) in
    rw away (same level n rest e at_node)

-- such a mask is respected
Respects-tree : (levels height node : ℕ) (m : List ℕ) → 0 < length m → IsBelow height node m → Respects (SameBelow height node) (tree levels) m
Respects-tree levels height node m some below = record {
  victim = λ s t same. way_below-same height node m s t below same levels m some (λ w h. h);
  hit = λ s t w same h. SameBelow-own height node w s t same;
  fill = λ s t w same h. SameBelow-own height node w s t same;
  drop = λ s t w same h. same;
  others_hit = λ s t its w same apart out. SameBelow-other height node w m s t below out same;
  others_fill = λ s t its w same apart out. SameBelow-other height node w m s t below out same;
  others_drop = λ s t w same out. same;
}

-- and isolates
pub IsIsolated-tree : (levels height node : ℕ) (m : List ℕ) (bits : ℕ → ℕ → Bool) → 0 < length m → ((w : ℕ) → has_way m w ≡ (w / 2 ^ height == node)) → IsIsolated (tree levels) m bits bits
IsIsolated-tree levels height node m bits some below =
    IsIsolated-respected {Agree = SameBelow height node} (tree levels) m bits bits some (KeepsMasks-tree levels) (Respects-tree levels height node m some below) (λ level n rest e at_node. refl)
