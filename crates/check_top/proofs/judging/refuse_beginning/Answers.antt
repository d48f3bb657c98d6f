use Rattle.std.proofs.Common.{subst}
use Rattle.check_parts.specs.Beginnings.{FindsFault, HasFault}
use Rattle.check_parts.specs.declared.bad_input.BadInput.TheVariants.{BadScript}
use Rattle.check_top.proofs.judging.refuse_beginning.Goals as goal

pub returns-in_ok-line-in-Some : goal.returns-in_ok-line-in-Some
returns-in_ok-line-in-Some c =
    let has : HasFault c.args.bytes.now c.in-Some.fault = subst (FindsFault c.args.bytes.now) c.in-Some.is c.in_ok-fault.ensures in
    λ more few. record {
      bad = BadScript c.in-Some.fault;
      is_bad = (few, has more);
      told = c.in_ok-line-in-Some.ensures;
    }
