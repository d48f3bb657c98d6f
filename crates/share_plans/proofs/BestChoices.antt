-- The better of two choices.
use Rattle.std.proofs.Common.{◌≡◌, ℕ, ◌-◌, ◌<◌, ◌≤◌, ◌*◌, Bool, true, false, cond, ltb, List, Option, Some, None, IfSome, refl, sym, ap, subst, arith}
use Rattle.std.proofs.lemmas.Option.{same_Some, none-some}
use Rattle.share_plans.specs.declared.choice.Choice.{Choice}
use Rattle.share_plans.specs.declared.demand.Demand.{Demand}
use Rattle.share_plans.specs.declared.goal.Goal.{Goal}
use Rattle.share_plans.specs.Rows.{IsChosen, IsFit, IsNoBetter, at, better, choice_of, with_count}
use Rattle.share_plans.proofs.Fractions.{IsNoWorse-same, IsNoWorse-trans, IsWhole-some}

-- the whole of a choice's score is 1 at least
abbrev pub HasWhole : Option Choice → Type 0
HasWhole best = IfSome best (λ choice. 0 < choice.score.whole)

-- what is no better than the first is no better than the better of the two
pub IsNoBetter-first : (choice first second : Option Choice) → HasWhole first → IsNoBetter choice first → IsNoBetter choice (better first second)
IsNoBetter-first None first second some h = tt
IsNoBetter-first (Some choice) None second some h = absurd h
IsNoBetter-first (Some choice) (Some a) None some h = h
IsNoBetter-first (Some choice) (Some a) (Some b) some h = at (ltb (b.score.part * a.score.whole) (a.score.part * b.score.whole)) refl
  where
    at : (less : Bool) → ltb (b.score.part * a.score.whole) (a.score.part * b.score.whole) ≡ less → IsNoBetter (Some choice) (cond less (Some b) (Some a))
    at true is = IsNoWorse-trans b.score a.score choice.score some (grind (arith, is)) h
    at false is = h

-- the second is no better than the better of the two
pub IsNoBetter-second : (first second : Option Choice) → IsNoBetter second (better first second)
IsNoBetter-second first None = tt
IsNoBetter-second None (Some b) = IsNoWorse-same b.score
IsNoBetter-second (Some a) (Some b) = at (ltb (b.score.part * a.score.whole) (a.score.part * b.score.whole)) refl
  where
    at : (less : Bool) → ltb (b.score.part * a.score.whole) (a.score.part * b.score.whole) ≡ less → IsNoBetter (Some b) (cond less (Some b) (Some a))
    at true is = IsNoWorse-same b.score
    at false is = grind (arith, is)

-- the better of two is one of them
pub IfSome-better : (P : Choice → Type 0) (first second : Option Choice) → IfSome first P → IfSome second P → IfSome (better first second) P
IfSome-better P None second f s = s
IfSome-better P (Some a) None f s = f
IfSome-better P (Some a) (Some b) f s = at (ltb (b.score.part * a.score.whole) (a.score.part * b.score.whole))
  where
    at : (less : Bool) → IfSome (cond less (Some b) (Some a)) P
    at true = s
    at false = f

-- a choice that fits has a whole
pub HasWhole-fit : (goal : Goal) (programs : ℕ) (best : Option Choice) → IfSome best (λ choice. IsFit goal programs choice.score) → HasWhole best
HasWhole-fit goal programs None fit = tt
HasWhole-fit goal programs (Some choice) fit = IsWhole-some goal choice.score.whole fit.whole

-- what is chosen of a count has that count
count-same : (goal : Goal) (d : Demand) (count : ℕ) (rest : Option Choice) (choice : Choice) → Some choice ≡ with_count goal d count rest → choice.count ≡ count
count-same goal d count None choice is = absurd (none-some choice (sym is))
count-same goal d count (Some rest) choice is = ap (λ (c : Choice). c.count) (same_Some choice _ is)

-- the choice of a count is one that the program has
pub IsChosen-here : (goal : Goal) (d : Demand) (next : List (Option Choice)) (ways count : ℕ) (one : Option Choice) → d.least ≤ count → count ≤ ways → one ≡ choice_of goal d next ways count
    → IfSome one (IsChosen goal d next ways)
IsChosen-here goal d next ways count None enough within is = tt
IsChosen-here goal d next ways count (Some choice) enough within is =
    let same : choice.count ≡ count = count-same goal d count (at next (ways - count)) choice is in
    record {
      enough = omega (arith, same, enough);
      within = omega (arith, same, within);
      same = subst (λ (n : ℕ). choice_of goal d next ways n ≡ Some choice) (sym same) (sym is);
    }
