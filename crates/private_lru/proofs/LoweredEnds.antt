-- The end of a group's covered accesses, lowered by one use.
use Rattle.std.proofs.Common.{◌≡◌, ℕ, ◌≤◌, true, false, cond, eqb, ◌⊎◌, inl, inr, refl, ap, ◌∙◌, arith}
use Rattle.std.specs.Prelude.{◌&&◌, min, nat_lt}
use Rattle.std.proofs.lemmas.Bool.{and_parts, cases_Bool, cases_lt, eq-eqb, eqb-false, eqb-true, lt-ltb, ltb-true, ne_eqb}
use Rattle.cache_core.specs.declared.entry.What.{What}
use Rattle.private_lru.specs.Covered.{loads}
use Rattle.private_lru.specs.Cuts.{IsOwnUse, cut_by, loaded_by, shared_by}
use Rattle.private_lru.specs.declared.exclusive_span.ExclusiveSpan.{ExclusiveSpan}
use Rattle.private_lru.specs.declared.uses.LineUse.{LineUse}

module _ (u : LineUse) (at : ℕ) (s : ExclusiveSpan) (reach end : ℕ) where
  -- a use of the group in its window
  pub cut_by-own : IsOwnUse s reach u → cut_by u at s reach end ≡ min end at
  cut_by-own own = rw (eq-eqb u.owner.0 s.gid.0 own.0, lt-ltb u.at reach own.1) refl

  -- as it was, or at the position
  pub cut_by-or : (cut_by u at s reach end ≡ end) ⊎ (IsOwnUse s reach u × (cut_by u at s reach end ≡ min end at))
  cut_by-or = elim (cases_Bool (eqb u.owner.0 s.gid.0 && nat_lt u.at reach)) [
    | inr isnt ↦ inl (ap (λ b. cond b (min end at) end) isnt)
    | inl is ↦
        let both = and_parts (eqb u.owner.0 s.gid.0) (nat_lt u.at reach) is in
        let own : IsOwnUse s reach u = (eqb-true u.owner.0 s.gid.0 both.0, ltb-true u.at reach both.1) in
        inr (own, cut_by-own own)
  ]

  pub cut_by-le : cut_by u at s reach end ≤ end
  cut_by-le = elim cut_by-or [
    | inl same ↦ omega (arith, same)
    | inr cut ↦ let same = cut.1 in omega (arith, same)
  ]

module _ (sets : ℕ) (opening : What) (u : LineUse) (s : ExclusiveSpan) (reach end : ℕ) where
  -- a use of a line that was loaded
  pub loaded_by-own : loads sets opening u.line ≡ true → IsOwnUse s reach u → loaded_by sets opening u s reach end ≡ 0
  loaded_by-own is own =
      let cut = cut_by-own u 0 s reach end own in
      let none : cut_by u 0 s reach end ≡ 0 = omega (arith, cut) in
      ap (λ b. cond b (cut_by u 0 s reach end) end) is ∙ none

  pub loaded_by-or : (loaded_by sets opening u s reach end ≡ end) ⊎ (IsOwnUse s reach u × (loads sets opening u.line ≡ true) × (loaded_by sets opening u s reach end ≡ 0))
  loaded_by-or = elim (cases_Bool (loads sets opening u.line)) [
    | inr isnt ↦ inl (ap (λ b. cond b (cut_by u 0 s reach end) end) isnt)
    | inl is ↦ elim (cut_by-or u 0 s reach end) [
      | inl same ↦ inl (ap (λ b. cond b (cut_by u 0 s reach end) end) is ∙ same)
      | inr cut ↦ inr (cut.0, is, loaded_by-own is cut.0)
    ]
  ]

module _ (a b : LineUse) (s : ExclusiveSpan) (reach end : ℕ) where
  -- where they are of one group
  shared_by-same : eqb a.owner.0 b.owner.0 ≡ true → shared_by a b s reach end ≡ end
  shared_by-same is = ap (λ c. cond c end (cut_by b a.at s reach (cut_by a b.at s reach end))) is

  -- of two
  shared_by-apart : eqb a.owner.0 b.owner.0 ≡ false → shared_by a b s reach end ≡ cut_by b a.at s reach (cut_by a b.at s reach end)
  shared_by-apart isnt = ap (λ c. cond c end (cut_by b a.at s reach (cut_by a b.at s reach end))) isnt

  pub shared_by-le : shared_by a b s reach end ≤ end
  shared_by-le = elim (cases_Bool (eqb a.owner.0 b.owner.0)) [
    | inl is ↦ let same = shared_by-same is in omega (arith, same)
    | inr isnt ↦
        let apart = shared_by-apart isnt in
        let low = cut_by-le a b.at s reach end in
        let lower = cut_by-le b a.at s reach (cut_by a b.at s reach end) in
        omega (arith, apart, low, lower)
  ]

  pub shared_by-second : (a.owner.0 ≡ b.owner.0 → ⊥) → IsOwnUse s reach b → shared_by a b s reach end ≤ a.at
  shared_by-second other own =
      let apart = shared_by-apart (ne_eqb a.owner.0 b.owner.0 other) in
      let cut = cut_by-own b a.at s reach (cut_by a b.at s reach end) own in
      omega (arith, apart, cut)

  pub shared_by-first : (a.owner.0 ≡ b.owner.0 → ⊥) → IsOwnUse s reach a → shared_by a b s reach end ≤ b.at
  shared_by-first other own =
      let apart = shared_by-apart (ne_eqb a.owner.0 b.owner.0 other) in
      let cut = cut_by-own a b.at s reach end own in
      let low = cut_by-le b a.at s reach (cut_by a b.at s reach end) in
      omega (arith, apart, cut, low)

  pub shared_by-or : (shared_by a b s reach end ≡ end)
      ⊎ ((a.owner.0 ≡ b.owner.0 → ⊥) × ((IsOwnUse s reach b × (shared_by a b s reach end ≡ a.at)) ⊎ (IsOwnUse s reach a × (shared_by a b s reach end ≡ b.at))))
  shared_by-or = elim (cases_Bool (eqb a.owner.0 b.owner.0)) [
    | inl is ↦ inl (shared_by-same is)
    | inr isnt ↦
        let apart = shared_by-apart isnt in
        let mid : ℕ = cut_by a b.at s reach end in
        let other : a.owner.0 ≡ b.owner.0 → ⊥ = eqb-false a.owner.0 b.owner.0 isnt in
        elim (cut_by-or b a.at s reach mid) [
          | inr second ↦ elim (cases_lt a.at mid) [
            | inl lt ↦ let cut = second.1 in inr (other, inl (second.0, omega (arith, apart, cut, lt)))
            | inr ge ↦
                let cut = second.1 in
                elim (cut_by-or a b.at s reach end) [
                  | inl same ↦ inl (omega (arith, apart, cut, ge, same))
                  | inr first ↦ elim (cases_lt b.at end) [
                    | inl less ↦ let low = first.1 in inr (other, inr (first.0, omega (arith, apart, cut, ge, low, less)))
                    | inr more ↦ let low = first.1 in inl (omega (arith, apart, cut, ge, low, more))
                  ]
                ]
          ]
          | inl kept ↦ elim (cut_by-or a b.at s reach end) [
            | inl same ↦ inl (omega (arith, apart, kept, same))
            | inr first ↦ elim (cases_lt b.at end) [
              | inl less ↦ let low = first.1 in inr (other, inr (first.0, omega (arith, apart, kept, low, less)))
              | inr more ↦ let low = first.1 in inl (omega (arith, apart, kept, low, more))
            ]
          ]
        ]
  ]
