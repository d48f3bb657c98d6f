use Rattle.std.proofs.Common.{◌≡◌, ◌+◌, ◌*◌, sym, subst, arith}
use Rattle.run_counts.proofs.DomainCounts.{AreOfDomains-none, AreOfDomains-push, IsOfDomain-told}
use Rattle.run_counts.specs.RunCounts.{AreOfDomains}
use Rattle.run_counts.specs.Tallies.{HasTallied}
use Rattle.run_counts.proofs.run_counts.count_domains.Goals as goal

pub loop-domain-init : goal.loop-domain-init
loop-domain-init c =
    let t = c.args.walk.now.tally in
    record {
      suits = c.requires.suits;
      tallied = subst (λ n. HasTallied c.args.journals.now n t.tally t.streak) (let same : 0 ≡ 0 * c.args.script.now.machine.slices = omega arith in same) c.requires.tallied;
      lines = AreOfDomains-none c.args.script.now c.args.journals.now c.new-domains.result.items c.new-domains.ensures.items;
    }

pub loop-domain-preserved : goal.loop-domain-preserved
loop-domain-preserved c =
    let script = c.args.script.now in
    let j = c.args.journals.now in
    let domain = c.loop-domain.domain in
    let counted = c.in_ok-count_domain.ensures in
    record {
      suits = counted.lines.suits;
      tallied = counted.tallied;
      lines =
          subst (AreOfDomains script j (domain + 1)) (sym c.in_ok-push.ensures.items)
          (AreOfDomains-push script j domain c.loop-domain.domains.items c.in_ok-lines.lines c.loop-domain.invariant.lines
          (IsOfDomain-told script j domain c.count_domain.new.walk.lines c.in_ok-lines.lines c.in_ok-lines.ensures.counts c.in_ok-lines.ensures.valid counted.lines));
    }
