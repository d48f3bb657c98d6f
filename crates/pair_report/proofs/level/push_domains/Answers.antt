use Rattle.std.proofs.Common.{◌++◌, map, sym, ap, ◌∙◌, arith}
use Rattle.lists.proofs.Ranges.{flat_map-range_suc}
use Rattle.machine.specs.declared.parameters.Parameters.{Parameters}
use Rattle.pair_text.specs.Values.{side_machine}
use Rattle.pair_report.specs.LevelReport.{level_domain_line}
use Rattle.run_counts.specs.CacheCounts.{valid_in}
use Rattle.run_law.specs.Entries.{entries_of}
use Rattle.pair_report.proofs.level.push_domains.Goals as goal

pub push_level_domain-requires-clause-counts : goal.push_level_domain-requires-clause-counts
push_level_domain-requires-clause-counts c = c.requires.counts ∙ ap (λ (m : Parameters). valid_in m (map entries_of c.args.caches.now.entries.now)) (sym c.machine_on-machine.ensures)

pub push_level_domain-requires-clause-domain : goal.push_level_domain-requires-clause-domain
push_level_domain-requires-clause-domain c =
    let lt = c.loop-domain-test.true in
    let same = ap (λ (m : Parameters). m.domains) c.machine_on-machine.ensures in
    let all = c.requires.one_each in
    omega (arith, lt, same, all)

pub loop-domain-preserved : goal.loop-domain-preserved
loop-domain-preserved c =
    let caches = map entries_of c.args.caches.now.entries.now in
    let side = c.args.side in
    flat_map-range_suc (level_domain_line side (side_machine c.args.script.now.machines side) caches) c.loop-domain.domain c.args.report.now c.loop-domain.report c.push_level_domain.new.report c.loop-domain.invariant
    (c.in_ok-push_level_domain.ensures ∙ ap (λ (m : Parameters). c.loop-domain.report ++ level_domain_line side m caches c.loop-domain.domain) c.machine_on-machine.ensures)
