-- The programs of a form, and their report.
use Rattle.std.proofs.Common.{◌≡◌, ℕ, ◌+◌, ◌≤◌, List, [], ◌∷◌, length, sym, subst, ap, ◌∙◌, refl, arith}
use Rattle.std.specs.Prelude.{All, Ok, decimal}
use Rattle.std.proofs.lemmas.List.Elements.{All-cons, All-head, All-nil, All-tail}
use Rattle.share_plans.specs.LeftUses.{left_uses}
use Rattle.share_plans.specs.Played.{HavePlayed, PlayedValue}
use Rattle.share_plans.specs.Reading.{AreOf}
use Rattle.share_plans.specs.Reports.{IsShareReport, ReportsShares}
use Rattle.share_plans.specs.Streams.{stream_of}
use Rattle.share_plans.specs.declared.division_limits.TheConstants.{MOST_WEIGHT}
use Rattle.share_plans.specs.declared.goal.Goal.{Goal}
use Rattle.share_plans.specs.declared.program.Program.{Program}
use Rattle.share_plans.specs.declared.program_use.ProgramUse.{ProgramUse}
use Rattle.plan_top.specs.ShareForms.{ShareWords, programs_from, programs_of}
use Rattle.plan_top.specs.Shares.{asked_by}
use Rattle.plan_top.specs.declared.share_form.Wish.{Wish}
use Rattle.plan_top.proofs.Wishes.{IsLight}

-- a weight is not too great
abbrev pub IsLightOne : Program → Type 0
IsLightOne p = p.weight ≤ MOST_WEIGHT

-- there are as many programs as wishes
pub length-programs_from : (k : ℕ) (wishes : List Wish) → length (programs_from k wishes) ≡ length wishes
length-programs_from k [] = refl
length-programs_from k (w ∷ wishes) = omega (arith, length-programs_from (k + 1) wishes)

-- their weights are those of the wishes
pub All-programs_from : (k : ℕ) (wishes : List Wish) → All IsLight wishes → All IsLightOne (programs_from k wishes)
All-programs_from k [] light = All-nil IsLightOne
All-programs_from k (w ∷ wishes) light = All-cons IsLightOne (record { name = decimal k; weight = w.weight; least = w.least }) (programs_from (k + 1) wishes)
    (All-head IsLight w wishes light) (All-programs_from (k + 1) wishes (All-tail IsLight w wishes light))

-- the report of what was played is that of the form
pub ReportsShares-played : (form : ShareWords) (goal : Goal) (ways : ℕ) (programs : List Program) (played : PlayedValue) (bytes text : List ℕ)
    → goal ≡ form.goal → ways ≡ form.ways → programs ≡ programs_of form
    → ((sets : ℕ) (uses : List ProgramUse) → HavePlayed (record { programs = length programs; sets = sets; ways = ways }) played uses → IsShareReport goal sets ways programs uses text)
    → AreOf (asked_by form) played bytes → ReportsShares form.goal form.levels form.sets form.ways (programs_of form) bytes text
ReportsShares-played form goal ways programs played bytes text same_goal same_ways same_programs made are =
    let count = length-programs_from 0 form.wishes in
    let left = left_uses form.levels are.uses in
    let have = subst (λ (n : ℕ). HavePlayed (record { programs = n; sets = form.sets; ways = ways }) played left) (sym (ap length same_programs ∙ count))
    (subst (λ (w : ℕ). HavePlayed (record { programs = length form.wishes; sets = form.sets; ways = w }) played left) (sym same_ways) are.have) in
    let is = made form.sets left have in
    record {
      uses = are.uses;
      stream = subst (λ (n : ℕ). stream_of n bytes ≡ Ok are.uses) (sym count) are.said;
      shares = subst (λ (ps : List Program). IsShareReport form.goal form.sets form.ways ps left text) same_programs
          (subst (λ (w : ℕ). IsShareReport form.goal form.sets w programs left text) same_ways
          (subst (λ (g : Goal). IsShareReport g form.sets ways programs left text) same_goal is));
    }
