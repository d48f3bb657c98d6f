use Rattle.std.proofs.Common.{◌≡◌, ◌+◌, ◌++◌, ◌∷◌, [], List, get_or, take, refl, sym, subst}
use Rattle.std.proofs.lemmas.List.{take_all, take_more}
use Rattle.cache_core.specs.declared.entry.SliceEntry.{SliceEntry}
use Rattle.check_parts.proofs.NotedLooks.{AreNoted-nothing}
use Rattle.check_parts.specs.JudgedSlices.{HaveLooks}
use Rattle.check_parts.specs.NotedLooks.{AreNoted}
use Rattle.journal_check.proofs.laws.Told.{no_entry}
use Rattle.check_parts.proofs.look_lists.looks_in.Goals as goal

pub loop-entry-init : goal.loop-entry-init
loop-entry-init c =
    subst (λ (looks : List SliceEntry). AreNoted c.args.script.now [] looks c.new-noted.result) (sym c.new-looks.ensures.items)
    (AreNoted-nothing c.args.script.now c.new-noted.result (λ q. rw c.new-noted.ensures.empty refl))

pub loop-entry-preserved : goal.loop-entry-preserved
loop-entry-preserved c =
    let script = c.args.script.now in
    let entries = c.args.entries.now in
    let i = c.loop-entry.entry-index in
    let e = get_or entries i no_entry in
    let more : take (i + 1) entries ≡ take i entries ++ e ∷ [] = take_more entries i no_entry c.loop-entry-test.true in
    subst (λ (es : List SliceEntry). AreNoted script es c.note.new.looks.items c.note.new.noted) (sym more) (c.in_ok-note.ensures (take i entries) c.loop-entry.invariant)

pub returns : goal.returns
returns c =
    let are : AreNoted c.args.script.now (take c.loop-entry.entry-index c.args.entries.now) c.loop-entry.looks.items c.loop-entry.noted = c.loop-entry.invariant in
    subst (λ (es : List SliceEntry). HaveLooks c.args.script.now es c.loop-entry.looks.items) (take_all c.loop-entry.entry-index c.args.entries.now c.loop-entry-test.false) are.have
