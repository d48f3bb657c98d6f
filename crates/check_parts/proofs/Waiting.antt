-- How many groups wait for their region, and how a change of the list of groups changes that.
use Rattle.std.proofs.Common.{◌≡◌, ◌≢◌, ℕ, ◌+◌, ◌≤◌, Bool, true, false, cond, List, [], ◌∷◌, ◌++◌, filter, find, get_or, Option, Some, None, inl, inr, refl, sym, ap, ◌∙◌, arith}
use Rattle.std.specs.List.{All}
use Rattle.std.proofs.lemmas.Bool.{cases_Bool, eqb-true, true≢false}
use Rattle.std.proofs.lemmas.List.Elements.{All-head, All-tail}
use Rattle.std.proofs.lemmas.Option.{same_Some}
use Rattle.group_tree.specs.Lists.{GidsDiffer, replaced}
use Rattle.group_tree.specs.Records.{has_gid}
use Rattle.group_tree.specs.declared.group.Group.{Group}
use Rattle.lists.proofs.Pairs.{AllPairs-head, AllPairs-tail}
use Rattle.lists.proofs.Sums.{one_if-le}
use Rattle.lists.specs.Sums.{one_if}
use Rattle.tree_law.specs.commands.Mode.{is_setup}

-- whether a group is in pseudo-locksetup
abbrev pub waits : Group → Bool
waits g = is_setup g.mode

-- how many of these groups are
abbrev pub waiting : List Group → ℕ
waiting [] = 0
waiting (g ∷ gs) = one_if (waits g) + waiting gs

-- one group more
pub waiting-push : (groups : List Group) (g : Group) → waiting (groups ++ g ∷ []) ≡ waiting groups + one_if (waits g)
waiting-push [] g = omega arith
waiting-push (x ∷ xs) g = omega (arith, waiting-push xs g)

-- fewer groups
pub waiting-filter : (keeps : Group → Bool) (groups : List Group) → waiting (filter keeps groups) ≤ waiting groups
waiting-filter keeps [] = omega arith
waiting-filter keeps (x ∷ xs) = at (keeps x) (waiting-filter keeps xs)
  where
    at : (b : Bool) → waiting (filter keeps xs) ≤ waiting xs → waiting (cond b (x ∷ filter keeps xs) (filter keeps xs)) ≤ one_if (waits x) + waiting xs
    at true rest = omega (arith, rest)
    at false rest = omega (arith, rest)

-- ---- another record in place of one

module _ (new : Group) where
  -- one that does not wait
  pub waiting-left : (groups : List Group) → waits new ≡ false → waiting (replaced new groups) ≤ waiting groups
  waiting-left [] out = omega arith
  waiting-left (x ∷ xs) out = at (has_gid new.gid x) (waiting-left xs out)
    where
      none : one_if (waits new) ≡ 0
      none = ap one_if out

      at : (b : Bool) → waiting (replaced new xs) ≤ waiting xs → one_if (waits (cond b new x)) + waiting (replaced new xs) ≤ one_if (waits x) + waiting xs
      at true rest = omega (arith, none, rest)
      at false rest = omega (arith, rest)

  -- in place of one that waits
  pub waiting-fewer : (g : Group) (groups : List Group) → waits new ≡ false → waits g ≡ true → find (has_gid new.gid) groups ≡ Some g → waiting (replaced new groups) + 1 ≤ waiting groups
  waiting-fewer g [] out waited found = absurd (let f : ◌≡◌ {A = Option Group} None (Some g) = found in cc)
  waiting-fewer g (x ∷ xs) out waited found = at (has_gid new.gid x) found (λ is. waiting-fewer g xs out waited is)
    where
      none : one_if (waits new) ≡ 0
      none = ap one_if out

      at : (b : Bool) → cond b (Some x) (find (has_gid new.gid) xs) ≡ Some g → (find (has_gid new.gid) xs ≡ Some g → waiting (replaced new xs) + 1 ≤ waiting xs) → one_if (waits (cond b new x)) + waiting (replaced new xs) + 1 ≤ one_if (waits x) + waiting xs
      at true is rest =
          let one : one_if (waits x) ≡ 1 = ap (λ (h : Group). one_if (waits h)) (same_Some x g is) ∙ ap one_if waited in
          omega (arith, none, one, waiting-left xs out)
      at false is rest = omega (arith, rest is)

  -- of no group
  waiting-same : (groups : List Group) → All (λ (x : Group). has_gid new.gid x ≡ false) groups → waiting (replaced new groups) ≤ waiting groups
  waiting-same [] strange = omega arith
  waiting-same (x ∷ xs) strange = at (has_gid new.gid x) (All-head (λ (y : Group). has_gid new.gid y ≡ false) x xs strange) (waiting-same xs (All-tail (λ (y : Group). has_gid new.gid y ≡ false) x xs strange))
    where
      at : (b : Bool) → b ≡ false → waiting (replaced new xs) ≤ waiting xs → one_if (waits (cond b new x)) + waiting (replaced new xs) ≤ one_if (waits x) + waiting xs
      at true strange_it rest = absurd (true≢false strange_it)
      at false strange_it rest = omega (arith, rest)

  -- of one at most
  pub waiting-more : (groups : List Group) → GidsDiffer groups → waiting (replaced new groups) ≤ waiting groups + 1
  waiting-more [] differ = omega arith
  waiting-more (x ∷ xs) differ = at (has_gid new.gid x) refl (waiting-more xs (AllPairs-tail (λ (one later : Group). one.gid.0 ≢ later.gid.0) x xs differ))
    where
      strange : has_gid new.gid x ≡ true → All (λ (y : Group). has_gid new.gid y ≡ false) xs
      strange own = λ k d within. elim (cases_Bool (has_gid new.gid (get_or xs k d))) [
        | inl too ↦ absurd (AllPairs-head (λ (one later : Group). one.gid.0 ≢ later.gid.0) x xs differ k d within (sym (eqb-true new.gid.0 x.gid.0 own) ∙ eqb-true new.gid.0 (get_or xs k d).gid.0 too))
        | inr not_it ↦ not_it
      ]

      at : (b : Bool) → has_gid new.gid x ≡ b → waiting (replaced new xs) ≤ waiting xs + 1 → one_if (waits (cond b new x)) + waiting (replaced new xs) ≤ one_if (waits x) + waiting xs + 1
      at true own rest = omega (arith, one_if-le (waits new), waiting-same xs (strange own))
      at false other rest = omega (arith, rest)
