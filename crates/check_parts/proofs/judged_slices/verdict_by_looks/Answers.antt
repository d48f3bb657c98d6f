use Rattle.std.proofs.Common.{◌≡◌, ◌↔◌, ◌∙◌, true, false, List, map, sym, ap, subst, arith}
use Rattle.std.specs.Prelude.{IsTrue}
use Rattle.cache_core.specs.declared.entry.SliceEntry.{SliceEntry}
use Rattle.check_parts.proofs.JudgedSlices.{HaveLooks-all}
use Rattle.check_parts.proofs.JudgedVerdicts.{IsFirstFalse-entries, IsFirstFalse-looks}
use Rattle.check_parts.proofs.MatchedLooks.{AreMatched-looks}
use Rattle.check_parts.specs.JudgedSlices.{journals_of}
use Rattle.journal_check.specs.declared.verdict.Clause.TheVariants as clauses
use Rattle.run_law.specs.Clauses.{CommandsStandOnce, TreeIsLegal}
use Rattle.run_law.specs.Entries.{entries_of}
use Rattle.run_law.specs.Journals.{JournalsValue}
use Rattle.run_law.specs.Looks.{AreMatched}
use Rattle.run_law.specs.TreeHistory.{TreeEntryValue}
use Rattle.check_parts.proofs.judged_slices.verdict_by_looks.Goals as goal

-- journals are their parts
journals-same : (j : JournalsValue) (tree : List TreeEntryValue) (slices : List (List SliceEntry)) → j.tree ≡ tree → j.slices ≡ slices → j ≡ journals_of tree slices
journals-same j tree slices one two = ap (λ (t : List TreeEntryValue). journals_of t j.slices) one ∙ ap (journals_of tree) two

pub returns-then-matched : goal.returns-then-matched
returns-then-matched c =
    λ all count more holds are.
    let script = c.args.script.now in
    let left = c.args.left in
    let looks = map entries_of c.args.looks.items in
    let same : c.of-journals.result ≡ journals_of left.tree looks = journals-same c.of-journals.result left.tree looks (c.of-journals.ensures.tree ∙ c.into_parts-tree.ensures.tree) c.of-journals.ensures.slices in
    let told = subst (λ (j : JournalsValue). CommandsStandOnce script j → TreeIsLegal script j → (IsTrue c.in_ok-matched.matched ↔ AreMatched script j)) same c.in_ok-matched.ensures in
    let once = holds clauses.CommandsStandOnce (omega arith) in
    let legal = holds clauses.TreeIsLegal (omega arith) in
    let matched = (AreMatched-looks script left.tree all looks (HaveLooks-all script all looks are)).0 ((told once legal).0 c.if-matched.true) in
    IsFirstFalse-entries script (journals_of left.tree all) holds matched (λ made. c.more_entries_fail.ensures script (journals_of left.tree all) c.threads-threads.ensures.lawful count more once legal made)

pub returns : goal.returns
returns c =
    λ all count more holds are.
    let script = c.args.script.now in
    let left = c.args.left in
    let looks = map entries_of c.args.looks.items in
    let same : c.of-journals.result ≡ journals_of left.tree looks = journals-same c.of-journals.result left.tree looks (c.of-journals.ensures.tree ∙ c.into_parts-tree.ensures.tree) c.of-journals.ensures.slices in
    let told = subst (λ (j : JournalsValue). CommandsStandOnce script j → TreeIsLegal script j → (IsTrue c.in_ok-matched.matched ↔ AreMatched script j)) same c.in_ok-matched.ensures in
    let once = holds clauses.CommandsStandOnce (omega arith) in
    let legal = holds clauses.TreeIsLegal (omega arith) in
    IsFirstFalse-looks script (journals_of left.tree all) holds
    (λ matched. (let yes = (told once legal).1 ((AreMatched-looks script left.tree all looks (HaveLooks-all script all looks are)).1 matched) in
    let wrong : true ≡ false = sym yes ∙ c.if-matched.false in cc))
