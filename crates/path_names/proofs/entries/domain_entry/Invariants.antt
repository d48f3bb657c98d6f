use Rattle.std.proofs.Common.{◌≡◌}
use Rattle.path_names.proofs.Domains.{found_from}
use Rattle.path_names.proofs.entries.domain_entry.Given as goal

abbrev pub invariant-loop-domain : goal.invariant-loop-domain
invariant-loop-domain l = found_from l.holder l.name l.domains 0 ≡ found_from l.holder l.name l.domains l.domain
