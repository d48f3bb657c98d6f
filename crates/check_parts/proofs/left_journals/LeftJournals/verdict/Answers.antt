use Rattle.std.proofs.Common.{◌≡◌, ◌∙◌, List, Option, sym, ap, subst}
use Rattle.cache_core.specs.declared.entry.SliceEntry.{SliceEntry}
use Rattle.check_parts.proofs.KeptParts.{IfOk-map}
use Rattle.check_parts.specs.JudgedSlices.{IsJudged, journals_of}
use Rattle.check_parts.specs.LeftJournals.{IsLeft, IsRest, kept_in}
use Rattle.check_parts.specs.declared.judged_slices.JudgedSlices.{JudgedSlices}
use Rattle.journal_check.specs.Verdicts.{IsVerdict}
use Rattle.journal_text.specs.States.{journals_in}
use Rattle.run_law.specs.Journals.{JournalsValue}
use Rattle.run_law.specs.TreeHistory.{TreeEntryValue}
use Rattle.check_parts.proofs.left_journals.LeftJournals.verdict.Goals as goal

pub returns-in-Some : goal.returns-in-Some
returns-in-Some c =
    let script = c.args.script.now in
    let kept = kept_in c.args.self in
    let j = c.of-journals.result in
    IfOk-map c.verdict.result
    (λ v told parts left.
    (let rest : IsRest script c.in-Some.judged kept parts = subst (λ (o : Option JudgedSlices). IsLeft script o kept parts) c.in-Some.is left in
    let tree : parts.tree ≡ j.tree = sym (c.of-journals.ensures.tree ∙ rest.tree) in
    subst (λ (t : List TreeEntryValue). IsVerdict script (journals_of t parts.slices) v) (sym tree)
    (told parts.slices (sym rest.count ∙ c.requires) rest.more
    (subst (λ (s : List (List SliceEntry)). IsJudged script c.in-Some.judged j.tree parts.slices s) (sym c.of-journals.ensures.slices)
    (subst (λ (t : List TreeEntryValue). IsJudged script c.in-Some.judged t parts.slices kept.slices) tree rest.rest)))))
    c.verdict.ensures

pub returns-in-None : goal.returns-in-None
returns-in-None c =
    let script = c.args.script.now in
    let kept = kept_in c.args.self in
    let j = c.of-journals.result in
    IfOk-map c.check.result
    (λ v told parts left.
    (let all : parts ≡ kept = subst (λ (o : Option JudgedSlices). IsLeft script o kept parts) c.in-None.is left in
    let same : j ≡ journals_in parts = ap (λ (t : List TreeEntryValue). journals_of t j.slices) c.of-journals.ensures.tree ∙ (ap (journals_of kept.tree) c.of-journals.ensures.slices ∙ ap journals_in (sym all)) in
    subst (λ (x : JournalsValue). IsVerdict script x v) same told))
    c.check.ensures
