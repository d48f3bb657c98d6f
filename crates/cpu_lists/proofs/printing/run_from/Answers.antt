use Rattle.std.proofs.Common.{◌≡◌, ◌<◌, true, false, inl, inr, sym, ap, ◌∙◌, arith}
use Rattle.std.proofs.lemmas.Bool.{cases_lt}
use Rattle.cpu_lists.specs.Sets.{has}
use Rattle.cpu_lists.proofs.RunsOfSets.{numbers_from-none, runs_of-first_run}
use Rattle.cpu_lists.proofs.printing.run_from.Goals as goal

pub returns-then-first-eq64 : goal.returns-then-first-eq64
returns-then-first-eq64 c = numbers_from-none c.args.set c.args.from (λ k low high. c.next-first.ensures.passed k low (omega arith))

pub returns : goal.returns
returns c =
    let there : has c.args.set c.next-first.result ≡ true = c.next-first.ensures.found (omega arith) in
    let some : c.next-first.result < c.next-end.result = elim (cases_lt c.next-first.result c.next-end.result) [
      | inl lt ↦ lt
      | inr le ↦ (let same : c.next-end.result ≡ c.next-first.result = omega arith in
          let gone : has c.args.set c.next-first.result ≡ false = ap (has c.args.set) (sym same) ∙ c.next-end.ensures.found (omega arith) in
          absurd cc)
    ] in
    rw (c.from.ensures, c.from-2.ensures) (
      omega arith,
      omega arith,
      omega arith,
      runs_of-first_run c.args.set c.args.from c.next-first.result c.next-end.result c.next-first.ensures.low some c.next-end.ensures.high
          (λ k low high. c.next-first.ensures.passed k low high) (λ k low high. c.next-end.ensures.passed k low high) c.next-end.ensures.found,
    )
