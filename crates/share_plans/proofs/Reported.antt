-- The report of what was played.
use Rattle.std.proofs.Common.{◌≡◌, ℕ, suc, ◌+◌, ◌<◌, List, [], ◌∷◌, length, get_or, Option, Some, None, IfSome, refl, sym, ap, ◌∙◌, subst, arith}
use Rattle.std.specs.declared.alloc.Global.{Global}
use Rattle.std.specs.declared.vec.Vec.{Vec}
use Rattle.share_plans.specs.Divisions.{IsBestDivision, IsDivision}
use Rattle.share_plans.specs.Played.{ArePlayed, Asked, HasPlayed, HavePlayed, OwnValue, PlayedValue}
use Rattle.share_plans.specs.Reports.{IsShareReport, demands_of, share_text, shared_of}
use Rattle.share_plans.specs.Rows.{counts_in}
use Rattle.share_plans.specs.declared.demand.Demand.{Demand}
use Rattle.share_plans.specs.declared.goal.Goal.{Goal}
use Rattle.share_plans.specs.declared.program.Program.{Program}
use Rattle.share_plans.specs.declared.program_use.ProgramUse.{ProgramUse}

-- programs from one on, by their places
ArePlayed-from : (asked : Asked) (k : ℕ) (programs : List Program) (own : List OwnValue) (uses : List ProgramUse) → length programs ≡ length own
    → ((j : ℕ) (d : OwnValue) → j < length own → HasPlayed asked (k + j) (get_or own j d) uses) → ArePlayed asked k programs own uses
ArePlayed-from asked k [] [] uses count each = tt
ArePlayed-from asked k [] (o ∷ own) uses count each = absurd (omega (arith, count))
ArePlayed-from asked k (p ∷ programs) [] uses count each = absurd (omega (arith, count))
ArePlayed-from asked k (p ∷ programs) (o ∷ own) uses count each = (
  subst (λ (n : ℕ). HasPlayed asked n o uses) (let none : k + 0 ≡ k = omega arith in none) (each 0 o (omega arith)),
  ArePlayed-from asked (k + 1) programs own uses (omega (arith, count))
      (λ j d below. subst (λ (n : ℕ). HasPlayed asked n (get_or own j d) uses) (let more : k + suc j ≡ k + 1 + j = omega arith in more) (each (suc j) d (omega (arith, below)))),
)

-- all programs
pub ArePlayed-all : (asked : Asked) (programs : List Program) (played : PlayedValue) (uses : List ProgramUse) → length programs ≡ asked.programs → HavePlayed asked played uses
    → ArePlayed asked 0 programs played.programs uses
ArePlayed-all asked programs played uses count have =
    ArePlayed-from asked 0 programs played.programs uses (count ∙ sym have.count) (λ j d below.
    let place : j ≡ 0 + j = omega arith in
    subst (λ (n : ℕ). HasPlayed asked n (get_or played.programs j d) uses) place (have.own j d (omega (arith, below, have.count))))

-- a report with the best division
pub IsShareReport-best : (goal : Goal) (sets ways : ℕ) (programs : List Program) (uses : List ProgramUse) (demands : List Demand) (shared : List ℕ) (counts : Option (Vec ℕ Global)) (text : List ℕ)
    → demands ≡ demands_of sets 0 programs uses → shared ≡ shared_of sets ways 0 programs uses
    → IfSome counts (λ c. IsBestDivision goal ways demands c.items) → (counts ≡ None → (others : List ℕ) → IsDivision ways demands others → ⊥)
    → text ≡ share_text goal ways programs demands shared (counts_in counts) → IsShareReport goal sets ways programs uses text
IsShareReport-best goal sets ways programs uses demands shared counts text is_demands is_shared best none report = record {
  counts = counts_in counts;
  best = subst (λ (ds : List Demand). IfSome (counts_in counts) (IsBestDivision goal ways ds)) is_demands (found counts best);
  none = λ no. subst (λ (ds : List Demand). (others : List ℕ) → IsDivision ways ds others → ⊥) is_demands (none (absent counts no));
  report = report ∙ (ap (λ (ds : List Demand). share_text goal ways programs ds shared (counts_in counts)) is_demands
      ∙ ap (λ (ns : List ℕ). share_text goal ways programs (demands_of sets 0 programs uses) ns (counts_in counts)) is_shared);
}
  where
    found : (o : Option (Vec ℕ Global)) → IfSome o (λ c. IsBestDivision goal ways demands c.items) → IfSome (counts_in o) (IsBestDivision goal ways demands)
    found None h = tt
    found (Some c) h = h

    absent : (o : Option (Vec ℕ Global)) → counts_in o ≡ None → o ≡ None
    absent None h = refl
    absent (Some c) h = absurd cc
