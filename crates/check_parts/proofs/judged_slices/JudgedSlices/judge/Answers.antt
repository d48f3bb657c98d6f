use Rattle.std.proofs.Common.{◌≡◌, ◌∙◌, Option, None, Some, map, sym, ap, subst, arith}
use Rattle.check_parts.proofs.JudgedSlices.{IsFound-so_far, looks-so_far}
use Rattle.check_parts.proofs.JudgedVerdicts.{IsFound-verdict, earlier_of-none}
use Rattle.check_parts.specs.JudgedSlices.{AreLooks, IsFound, earlier_of, found_in, found_so_far, journals_of, looks_in}
use Rattle.journal_check.specs.declared.verdict.Clause.{Clause}
use Rattle.run_law.specs.Entries.{entries_of}
use Rattle.check_parts.proofs.judged_slices.JudgedSlices.judge.Goals as goal

pub returns-in-Some-clause-judged : goal.returns-in-Some-clause-judged
returns-in-Some-clause-judged c =
    λ all count so_far.
    let script = c.args.script.now in
    let left = c.args.left.now in
    let judged = c.args.judged in
    let v = c.in_ok-verdict.verdict in
    let is : earlier_of (found_so_far judged) (found_in v) ≡ Some c.in-Some.clause =
    sym (c.earlier_of.ensures ∙ (ap (λ (f : Option Clause). earlier_of f c.found_in.result) c.so_far-found.ensures.found ∙ ap (earlier_of (found_so_far judged)) c.found_in.ensures)) ∙ c.in-Some.is in
    record {
      found = subst (IsFound script (journals_of left.tree all)) is (IsFound-so_far script left.tree all left.slices judged (found_in v) so_far (IsFound-verdict script left c.runs_by_clauses.ensures c.requires.all v c.in_ok-verdict.ensures));
      looks = λ none. absurd (let wrong : Some c.in-Some.clause ≡ None = none in cc);
    }

pub returns-in_ok-looks-in-None-clause-judged : goal.returns-in_ok-looks-in-None-clause-judged
returns-in_ok-looks-in-None-clause-judged c =
    λ all count so_far.
    let script = c.args.script.now in
    let left = c.args.left.now in
    let judged = c.args.judged in
    let v = c.in_ok-verdict.verdict in
    let new = map entries_of c.in_ok-looks-in-None.looks.items in
    let is : earlier_of (found_so_far judged) (found_in v) ≡ None =
    sym (c.earlier_of.ensures ∙ (ap (λ (f : Option Clause). earlier_of f c.found_in.result) c.so_far-found.ensures.found ∙ ap (earlier_of (found_so_far judged)) c.found_in.ensures)) ∙ c.in-None.is in
    let before = looks-so_far script left.tree all left.slices judged (earlier_of-none (found_so_far judged) (found_in v) is) so_far in
    let own : AreLooks script all before.0 (looks_in c.so_far-found.result) = subst (AreLooks script all before.0) (sym c.so_far-found.ensures.looks) before.2 in
    record {
      found = subst (IsFound script (journals_of left.tree all)) is (IsFound-so_far script left.tree all left.slices judged (found_in v) so_far (IsFound-verdict script left c.runs_by_clauses.ensures c.requires.all v c.in_ok-verdict.ensures));
      looks = λ none. subst (λ n. AreLooks script all n new) (sym count) (c.in_ok-looks-in-None.ensures.looks all before.0 (let few = before.1 in omega (arith, few, count)) own before.3);
    }
