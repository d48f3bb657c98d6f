use Rattle.std.proofs.Common.{◌≡◌, ℕ, ◌++◌, List, IfSome, length, refl, sym, ap, ◌∙◌, subst}
use Rattle.std.proofs.lemmas.Result.{IfOk-weaker}
use Rattle.std.specs.declared.alloc.Global.{Global}
use Rattle.std.specs.declared.vec.Vec.{Vec}
use Rattle.share_plans.specs.Divisions.{IsBestDivision, IsDivision}
use Rattle.share_plans.specs.Played.{ArePlayed, Asked, HavePlayed, OwnValue}
use Rattle.share_plans.specs.Reports.{IsShareReport, demands_of, share_text, shared_of}
use Rattle.share_plans.specs.Rows.{counts_in}
use Rattle.share_plans.specs.declared.demand.Demand.{Demand}
use Rattle.share_plans.specs.declared.program_use.ProgramUse.{ProgramUse}
use Rattle.share_plans.proofs.Reported.{ArePlayed-all, IsShareReport-best}
use Rattle.share_plans.proofs.shares.share_report.Goals as goal

pub returns : goal.returns
returns c =
    let programs = c.args.programs.now in
    let played = c.args.played.now in
    let ways = c.args.ways in
    let demands = c.push_demands.new.demands.items in
    let shared = c.push_shared.new.misses.items in
    let counts = c.in_ok-counts.counts in
    IfOk-weaker c.report_of.result
    (λ (text : Vec ℕ Global). text.items ≡ share_text c.args.goal ways programs c.deref-2.result.now c.deref-3.result.now (counts_in counts))
    (λ (text : Vec ℕ Global). (sets : ℕ) (uses : List ProgramUse) → HavePlayed (record { programs = length programs; sets = sets; ways = ways }) played uses
    → IsShareReport c.args.goal sets ways programs uses text.items)
    (λ text told sets uses have.
    let asked : Asked = record { programs = length programs; sets = sets; ways = ways } in
    let all : ArePlayed asked 0 programs played.programs uses = ArePlayed-all asked programs played uses refl have in
    let own = subst (λ (own : List OwnValue). ArePlayed asked 0 programs own uses) (sym c.programs.ensures.programs) all in
    let again = subst (λ (own : List OwnValue). ArePlayed asked 0 programs own uses) (sym c.programs-2.ensures.programs) all in
    let demands_are : demands ≡ demands_of sets 0 programs uses =
    c.in_ok-push_demands.ensures.demands asked 0 uses own ∙ ap (λ (ds : List Demand). ds ++ demands_of sets 0 programs uses) c.new-demands.ensures.items in
    let shared_are : shared ≡ shared_of sets ways 0 programs uses =
    c.in_ok-push_shared.ensures.shared asked 0 uses again ∙ ap (λ (ns : List ℕ). ns ++ shared_of sets ways 0 programs uses) c.new-shared.ensures.items in
    IsShareReport-best c.args.goal sets ways programs uses demands shared counts text.items demands_are shared_are
    (subst (λ (ds : List Demand). IfSome counts (λ found. IsBestDivision c.args.goal ways ds found.items)) c.deref.ensures.value c.in_ok-counts.ensures.best)
    (λ none. subst (λ (ds : List Demand). (others : List ℕ) → IsDivision ways ds others → ⊥) c.deref.ensures.value (c.in_ok-counts.ensures.none none))
    (told ∙ (ap (λ (ds : List Demand). share_text c.args.goal ways programs ds c.deref-3.result.now (counts_in counts)) c.deref-2.ensures.value
    ∙ ap (λ (ns : List ℕ). share_text c.args.goal ways programs demands ns (counts_in counts)) c.deref-3.ensures.value)))
    c.report_of.ensures
