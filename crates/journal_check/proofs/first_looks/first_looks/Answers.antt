use Rattle.std.proofs.Common.{◌≡◌, ℕ, ◌+◌, ◌++◌, ◌∷◌, [], List, None, Option, get_or, take, sym, ap, ◌∙◌, subst}
use Rattle.std.specs.Prelude.{if◌then◌else◌}
use Rattle.std.proofs.lemmas.List.{take_all, take_more}
use Rattle.cache_core.specs.declared.entry.SliceEntry.{SliceEntry}
use Rattle.journal_check.proofs.laws.Told.{no_entry}
use Rattle.journal_check.specs.FirstLooks.{AreFirstLooks, look_key, noted_for}
use Rattle.run_law.proofs.laws.MatchedLooks.{first_look_push}
use Rattle.run_law.specs.Looks.{first_look, first_of, look_number}
use Rattle.run_law.specs.Truth.{is_made_by}
use Rattle.journal_check.proofs.first_looks.first_looks.Goals as goal

pub loop-entry-preserved : goal.loop-entry-preserved
loop-entry-preserved c t o n rmid is some small =
    let entries = c.args.entries.now in
    let i = c.loop-entry.entry-index in
    let e = get_or entries i no_entry in
    let last : Option ℕ = if is_made_by t o e then look_number rmid e.what else None in
    let told : noted_for c.note.new.looks (look_key n rmid) ≡ first_of (noted_for c.loop-entry.looks (look_key n rmid)) last = c.in_ok-note.ensures t o n rmid is some small in
    let more : take (i + 1) entries ≡ take i entries ++ e ∷ [] = take_more entries i no_entry c.loop-entry-test.true in
    told ∙ (ap (λ x. first_of x last) (c.loop-entry.invariant t o n rmid is some small) ∙ (sym (first_look_push t o rmid (take i entries) e) ∙ ap (first_look t o rmid) (sym more)))

pub returns : goal.returns
returns c =
    subst (λ (es : List SliceEntry). AreFirstLooks c.args.places.now es c.loop-entry.looks) (take_all c.loop-entry.entry-index c.args.entries.now c.loop-entry-test.false) c.loop-entry.invariant
