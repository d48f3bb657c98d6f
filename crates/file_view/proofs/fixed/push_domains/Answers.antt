use Rattle.std.proofs.Common.{◌≡◌, ℕ, ◌++◌, List, length, ap, ◌∙◌, sym, arith, append_assoc, length-append}
use Rattle.std.specs.List.{flat_map, range_with_len}
use Rattle.path_names.specs.PathTable.{domain_name}
use Rattle.file_view.specs.Lines.{on_line}
use Rattle.file_view.proofs.NameLines.{flat_map-domain_lines}
use Rattle.file_view.proofs.Ranges.{flat_map-range_with_len}
use Rattle.file_view.proofs.fixed.push_domains.Goals as goal

pub loop-domain-preserved : goal.loop-domain-preserved
loop-domain-preserved c =
    let line : ℕ → List ℕ = λ d. on_line (domain_name d) in
    let n = c.loop-domain.domain in
    let lines = flat_map line (range_with_len 0 n) in
    let before = c.loop-domain.invariant in
    let last = c.push_name.ensures in
    let name : c.as_slice.result.now ≡ domain_name n = c.as_slice.ensures ∙ c.domain_name.ensures in
    rw (flat_map-range_with_len line n) (record {
      bytes = last.bytes ∙ (ap (λ t. c.loop-domain.out.bytes ++ on_line t) name ∙ (ap (λ t. t ++ line n) before.bytes ∙ append_assoc c.args.out.now.bytes lines (line n)));
      spare = omega (arith, before.spare, last.spare, ap (λ t. length (on_line t)) name, length-append lines (line n));
      long = omega (arith, before.long, length-append lines (line n));
    })

pub returns-clause-bytes : goal.returns-clause-bytes
returns-clause-bytes c = c.loop-domain.invariant.bytes ∙ ap (λ t. c.args.out.now.bytes ++ t) (flat_map-domain_lines c.args.domains c.loop-domain.domain (omega arith))

pub returns-clause-spare : goal.returns-clause-spare
returns-clause-spare c = rw (sym (flat_map-domain_lines c.args.domains c.loop-domain.domain (omega arith))) c.loop-domain.invariant.spare

pub returns-clause-short : goal.returns-clause-short
returns-clause-short c = rw (sym (flat_map-domain_lines c.args.domains c.loop-domain.domain (omega arith))) (omega (arith, c.loop-domain.invariant.long))
