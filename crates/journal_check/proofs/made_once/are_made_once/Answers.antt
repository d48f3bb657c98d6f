use Rattle.std.proofs.Common.{◌≡◌, ℕ, ◌<◌, length, true, false, sym, ◌∙◌, arith}
use Rattle.journal_check.proofs.StandingOps.{EachStandsOnce, EachStandsOnce-accesses, EachStandsOnce-both, EachStandsOnce-commands}
use Rattle.journal_check.proofs.laws.Told.{is_false}
use Rattle.machine.specs.Slices.{slice_count}
use Rattle.run_law.specs.Clauses.{EntriesStandOnce}
use Rattle.run_law.specs.Journals.{JournalsValue}
use Rattle.script_ops.specs.Values.{ScriptValue}
use Rattle.journal_check.proofs.made_once.are_made_once.Goals as goal

-- where all is made once, it is in each slice
once-each : (script : ScriptValue) (j : JournalsValue) → length j.slices ≡ slice_count script.machine → EntriesStandOnce script j → (i : ℕ) → i < length j.slices → EachStandsOnce script j i
once-each script j all once i within t o op is = once.each i t o op (omega arith) is

pub returns-then-not-are_known : goal.returns-then-not-are_known
returns-then-not-are_known c =
    is_false (EntriesStandOnce c.args.script.now c.args.j.now)
    (λ once.
    let shown = c.are_known.ensures.1 once.no_others in
    let wrong : true ≡ false = sym shown ∙ c.if-not-are_known.true in
    cc)

pub returns-then-not-accesses : goal.returns-then-not-accesses
returns-then-not-accesses c =
    let script = c.args.script.now in
    let j = c.args.j.now in
    is_false (EntriesStandOnce script j)
    (λ once.
    let shown = c.in_ok-accesses.ensures.1 (λ i within. EachStandsOnce-accesses script j i c.args.steps.now c.requires.legal c.requires.trace (once-each script j c.requires.all once i within)) in
    let wrong : true ≡ false = sym shown ∙ c.if-not-accesses.true in
    cc)

pub returns : goal.returns
returns c =
    let script = c.args.script.now in
    let j = c.args.j.now in
    let steps = c.args.steps.now in (
      λ shown. record {
        each = λ i t o op less is.
            let within : i < length j.slices = omega (arith, less, c.requires.all) in
            EachStandsOnce-both script j i steps c.requires.legal c.requires.trace (c.in_ok-accesses.ensures.0 c.if-not-accesses.false i within) (c.in_ok-paid.ensures.0 shown i within) t o op is;
        no_others = c.are_known.ensures.0 c.if-not-are_known.false;
      },
      λ once. c.in_ok-paid.ensures.1 (λ i within. EachStandsOnce-commands script j i steps c.requires.legal c.requires.trace (once-each script j c.requires.all once i within)),
    )
