use Rattle.std.proofs.Common.{◌≡◌, ◌∙◌, [], ℕ, Global, Vec, List, length, map, sym, ap, subst, arith}
use Rattle.std.proofs.lemmas.List.{get_or_past, length-map}
use Rattle.cache_core.specs.declared.entry.SliceEntry.{SliceEntry}
use Rattle.check_parts.proofs.JudgedSlices.{IsSoFar-same}
use Rattle.check_parts.proofs.LeftParts.{IsRest-judged, IsSoFar-left, count-left, entries-left, tree-left}
use Rattle.check_parts.specs.JudgedSlices.{AreJudged, IsSoFar, entries_at}
use Rattle.check_parts.specs.LeftJournals.{kept_in}
use Rattle.journal_text.specs.States.{PartsRead}
use Rattle.run_law.specs.Entries.{entries_of, entry_value}
use Rattle.run_law.specs.TreeHistory.{TreeEntryValue}
use Rattle.check_parts.proofs.left_journals.judge.Goals as goal

pub returns : goal.returns
returns c =
    λ parts left more.
    let script = c.args.script.now in
    let kept = kept_in c.args.left in
    let judged = c.args.left.judged in
    let j = c.of-journals.result in
    let now = c.in_ok-now.now in
    let new : PartsRead = record { tree = map entry_value c.into_parts-tree.result.0.items; slices = map entries_of c.in_ok-slices.slices.items; entries = c.args.left.entries.items } in
    let tree : j.tree ≡ parts.tree = c.of-journals.ensures.tree ∙ tree-left script kept parts judged left in
    let count : length parts.slices ≡ length c.args.left.slices.items = sym (count-left script kept parts judged left) ∙ length-map c.args.left.slices.items entries_of in
    let same : (i : ℕ) → entries_at j.slices i ≡ entries_at kept.slices i = λ i. ap (λ (slices : List (List SliceEntry)). entries_at slices i) c.of-journals.ensures.slices ∙ c.in_ok-all.ensures.same i in
    let so_far = IsSoFar-same script parts.tree parts.slices kept.slices judged j.slices same (IsSoFar-left script kept parts judged left) in
    let counted : length parts.slices ≡ c.len-count.result = count ∙ sym (c.len-count.ensures ∙ c.args.left.slices.ok.0) in
    let nothing : length c.new.result.items ≡ 0 = ap (λ (xs : List (Vec SliceEntry Global)). length xs) c.new.ensures.items in
    let are = c.in_ok-now.ensures.judged parts.slices counted (subst (λ (t : List TreeEntryValue). IsSoFar script judged t parts.slices j.slices) (sym tree) so_far) in
    IsRest-judged script kept parts now new (c.into_parts-tree.ensures.tree ∙ tree) (entries-left script kept parts judged left)
    (length-map c.in_ok-slices.slices.items entries_of ∙ (c.in_ok-slices.ensures.count (omega (arith, nothing)) ∙ sym counted))
    (λ i. c.in_ok-slices.ensures.same i ∙ (ap (λ (xs : List (Vec SliceEntry Global)). entries_at (map entries_of xs) i) c.new.ensures.items ∙ get_or_past [] i [] (omega arith)))
    more (subst (λ (t : List TreeEntryValue). AreJudged script now t parts.slices) tree are)
