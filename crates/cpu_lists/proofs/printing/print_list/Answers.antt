use Rattle.std.proofs.Common.{◌≡◌, ℕ, ◌+◌, ◌++◌, eqb, Bool, List, length, false, sym, ap, ◌∙◌, arith, append_assoc, length-append}
use Rattle.std.proofs.lemmas.Bool.{ne_eqb}
use Rattle.std.proofs.lemmas.List.{append-nil}
use Rattle.cpu_lists.specs.Sets.{numbers_from}
use Rattle.cpu_lists.specs.Printed.{list_text, runs_of, element_text}
use Rattle.cpu_lists.proofs.RunsOfSets.{text_of, text_of-nil, text_of-cons, list_text-text_of}
use Rattle.cpu_lists.proofs.printing.print_list.Goals as goal

pub runs-init : goal.runs-init
runs-init c = record {
  within = omega arith;
  bytes = ap (λ (text : List ℕ). c.args.out.now.bytes ++ text) (list_text-text_of c.args.set);
  spare = omega arith;
  short = omega arith;
}

pub returns-in_default-clause-bytes : goal.returns-in_default-clause-bytes
returns-in_default-clause-bytes c =
    let is_first = eqb c.runs.from 0 in
    sym (c.runs.invariant.bytes ∙ ap (λ (text : List ℕ). c.runs.out.bytes ++ text) (ap (λ (ns : List ℕ). text_of is_first (runs_of ns)) c.in_default.ensures ∙ text_of-nil is_first) ∙ append-nil c.runs.out.bytes)

pub returns-in_default-clause-spare : goal.returns-in_default-clause-spare
returns-in_default-clause-spare c =
    let is_first = eqb c.runs.from 0 in
    let bytes : c.args.out.now.bytes ++ list_text c.args.set ≡ c.runs.out.bytes = c.runs.invariant.bytes ∙ ap (λ (text : List ℕ). c.runs.out.bytes ++ text) (ap (λ (ns : List ℕ). text_of is_first (runs_of ns)) c.in_default.ensures ∙ text_of-nil is_first) ∙ append-nil c.runs.out.bytes in
    omega (arith, ap length bytes, length-append c.args.out.now.bytes (list_text c.args.set), c.runs.invariant.spare)

pub runs-preserved : goal.runs-preserved
runs-preserved c =
    let run = c.in-Some.run' in
    let is_first = eqb c.runs.from 0 in
    let behind = runs_of (numbers_from c.args.set (run.last + 1)) in
    let later : eqb (run.last + 1) 0 ≡ false = ne_eqb (run.last + 1) 0 (λ e. omega arith) in
    let facts = c.in-Some.ensures in
    let grown = ap length c.push_element.ensures.bytes in
    let sum = length-append c.runs.out.bytes (element_text is_first run) in
    record {
      within = omega arith;
      bytes = c.runs.invariant.bytes
          ∙ ap (λ (text : List ℕ). c.runs.out.bytes ++ text) (ap (text_of is_first) facts.3 ∙ text_of-cons is_first run behind)
          ∙ sym (append_assoc c.runs.out.bytes (element_text is_first run) (text_of false behind))
          ∙ ap (λ (text : List ℕ). text ++ text_of false behind) (sym c.push_element.ensures.bytes)
          ∙ ap (λ (b : Bool). c.push_element.new.out.bytes ++ text_of b behind) (sym later);
      spare = omega (arith, c.push_element.ensures.spare, c.runs.invariant.spare);
      short = omega (arith, c.push_element.ensures.short, c.runs.invariant.short);
    }
