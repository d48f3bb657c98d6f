use Rattle.std.proofs.Common.{◌≡◌, ◌+◌, ◌*◌, ◌++◌, length}
use Rattle.std.specs.List.{flat_map, range_with_len}
use Rattle.path_names.specs.PathTable.{domain_name}
use Rattle.file_view.specs.Lines.{on_line}
use Rattle.file_view.proofs.fixed.push_domains.Given as goal

abbrev pub invariant-loop-domain : goal.invariant-loop-domain
invariant-loop-domain l = record {
  bytes : l.out.bytes ≡ l.initial.out.bytes ++ flat_map (λ d. on_line (domain_name d)) (range_with_len 0 l.domain);
  spare : l.out.spare + length (flat_map (λ d. on_line (domain_name d)) (range_with_len 0 l.domain)) ≡ l.initial.out.spare;
  long : length (flat_map (λ d. on_line (domain_name d)) (range_with_len 0 l.domain)) ≡ 10 * l.domain;
}
