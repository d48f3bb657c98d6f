use Rattle.std.proofs.Common.{◌*◌, ◌^◌, ◌∙◌, subst, arith}
use Rattle.machine.specs.Slices.{slice_count}
use Rattle.machine.specs.declared.parameters.Parameters.{Parameters}
use Rattle.run_counts.proofs.CountedAccesses.{HasTallied-none, IsFewWith-le}
use Rattle.run_counts.specs.Occupancies.{Suits}
use Rattle.run_counts.proofs.run_counts.RunCounts.of.Goals as goal

pub count_domains-requires-clause-suits : goal.count_domains-requires-clause-suits
count_domains-requires-clause-suits c = subst (λ (p : Parameters). Suits p c.in_ok-walk.walk.lines) c.machine.ensures c.in_ok-walk.ensures.suits

pub count_domains-requires-clause-tallied : goal.count_domains-requires-clause-tallied
count_domains-requires-clause-tallied c = HasTallied-none c.args.journals.now c.in_ok-walk.walk.tally.tally c.in_ok-walk.walk.tally.streak c.in_ok-walk.ensures.groups c.in_ok-walk.ensures.all

pub finish-requires : goal.finish-requires
finish-requires c =
    let t = c.count_domains.new.walk.tally in
    IsFewWith-le (slice_count c.args.script.now.machine * 2 ^ 58) (2 ^ 63) t.tally t.streak (omega arith) c.in_ok-domains.ensures.tallied.few

pub returns : goal.returns
returns c =
    let tallied = c.in_ok-domains.ensures.tallied in
    record {
      tally = record { groups = λ gid. c.in_ok-tally.ensures.groups gid ∙ tallied.groups gid; all = c.in_ok-tally.ensures.all ∙ tallied.all };
      domains = c.in_ok-domains.ensures.lines;
    }
