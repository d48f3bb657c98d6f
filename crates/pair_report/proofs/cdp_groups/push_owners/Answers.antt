use Rattle.std.proofs.Common.{◌≡◌, ℕ, List, ◌++◌, codes, length, map, ap, ◌∙◌}
use Rattle.pair_report.specs.PairCounts.{sides_told}
use Rattle.report_pieces.proofs.laws.Results.{OnOk-map}
use Rattle.run_counts.specs.CacheCounts.{slices_alone}
use Rattle.cache_core.specs.Whats.{is_access_of}
use Rattle.run_counts.specs.Tallies.{counted_in}
use Rattle.run_counts.specs.declared.counts.Counts.{Counts}
use Rattle.run_law.specs.Entries.{entries_of}
use Rattle.pair_report.proofs.cdp_groups.push_owners.Goals as goal

-- the same counts after the same words
sides_told-same : (first word second other_word : List ℕ) (one counts other other_counts : Counts) → first ≡ word → one ≡ counts → second ≡ other_word → other ≡ other_counts → sides_told first one second other ≡ sides_told word counts other_word other_counts
sides_told-same first word second other_word one counts other other_counts is_word is_counts is_other_word is_other_counts =
    ap (λ (w : List ℕ). sides_told w one second other) is_word
    ∙ (ap (λ (n : Counts). sides_told word n second other) is_counts
    ∙ (ap (λ (w : List ℕ). sides_told word counts w other) is_other_word ∙ ap (λ (n : Counts). sides_told word counts other_word n) is_other_counts))

pub returns : goal.returns
returns c =
    let caches = map entries_of c.args.slices.now in
    let first : Counts = counted_in (is_access_of c.args.first_owner) (slices_alone caches) (length caches) in
    let second : Counts = counted_in (is_access_of c.args.second_owner) (slices_alone caches) (length caches) in
    let same = sides_told-same c.as_slice.result.now (codes ": data ") c.as_slice-2.result.now (codes ", code ") c.of-data.result first c.of-code.result second
    c.as_slice.ensures (c.of-data.ensures ∙ c.requires.counts.groups c.args.first_owner) c.as_slice-2.ensures (c.of-code.ensures ∙ c.requires.counts.groups c.args.second_owner) in
    OnOk-map c.push_sides.result (λ told. told ∙ ap (λ (text : List ℕ). c.args.report.now ++ text) same) c.push_sides.ensures
