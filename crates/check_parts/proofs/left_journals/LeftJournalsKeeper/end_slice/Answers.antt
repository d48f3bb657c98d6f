use Rattle.std.proofs.Common.{◌≡◌, ◌∙◌, ◌++◌, ◌∷◌, [], Global, Vec, List, map, sym, ap, subst}
use Rattle.std.proofs.lemmas.List.{map_push}
use Rattle.cache_core.specs.declared.entry.SliceEntry.{SliceEntry}
use Rattle.check_parts.proofs.LeftParts.{IsLeft-slice}
use Rattle.check_parts.specs.LeftJournals.{KeepsLeft, kept_in}
use Rattle.check_parts.specs.declared.left_journals.LeftJournals.{LeftJournals}
use Rattle.journal_text.specs.States.{PartsRead, with_slice}
use Rattle.run_law.specs.Entries.{entries_of}
use Rattle.check_parts.proofs.left_journals.LeftJournalsKeeper.end_slice.Goals as goal

pub returns : goal.returns
returns c =
    λ parts left.
    let script = c.args.weighed.now.script.now in
    let old = c.args.self.now in
    let kept = kept_in old in
    let whole : LeftJournals = record old { slices = c.push.new.self; entries = c.replace-entries.new.dest } in
    let pushed : map entries_of c.push.new.self.items ≡ kept.slices ++ kept.entries ∷ [] =
    ap (map entries_of) c.in_ok-push.ensures.items
    ∙ (map_push entries_of old.slices.items c.replace-entries.result
    ∙ ap (λ (v : Vec SliceEntry Global). map entries_of old.slices.items ++ v.items ∷ []) c.replace-entries.ensures.value) in
    let empty : c.replace-entries.new.dest.items ≡ [] = ap (λ (v : Vec SliceEntry Global). v.items) c.replace-entries.ensures.after ∙ c.new.ensures.items in
    let parts_of : List (List SliceEntry) → List SliceEntry → PartsRead = λ slices entries. record { tree = kept.tree; slices = slices; entries = entries } in
    let is : with_slice kept ≡ kept_in whole =
    sym (ap (λ (slices : List (List SliceEntry)). parts_of slices c.replace-entries.new.dest.items) pushed ∙ ap (parts_of (kept.slices ++ kept.entries ∷ [])) empty) in
    let taken : c.replace-left.result ≡ whole = c.replace-left.ensures.value in
    c.in_ok-self.ensures (with_slice parts) (subst (λ (l : LeftJournals). KeepsLeft l script (with_slice parts)) (sym taken) (IsLeft-slice script kept (kept_in whole) parts old.judged is left))
