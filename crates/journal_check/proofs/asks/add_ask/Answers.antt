use Rattle.std.proofs.Common.{◌≡◌, ◌+◌, ◌<◌, true, false, List, length, get_or, sym, ap, ◌∙◌, subst, arith}
use Rattle.std.proofs.lemmas.Option.{slice_get-get_or}
use Rattle.cache_core.specs.declared.entry.SliceEntry.{SliceEntry}
use Rattle.journal_check.proofs.AskLists.{AreAsks-more, AreAsks-skip}
use Rattle.journal_check.specs.Asks.{AreAsks}
use Rattle.journal_check.specs.declared.asks.Ask.{Ask}
use Rattle.journal_check.proofs.laws.Told.{no_entry}
use Rattle.run_law.specs.Journals.{At, slice_at}
use Rattle.journal_check.proofs.asks.add_ask.Goals as goal

pub returns-then-not-is_asked : goal.returns-then-not-is_asked
returns-then-not-is_asked c =
    let j = c.args.j.now in
    let es = c.slice-entries.result.now in
    let p = c.args.p in
    let e = get_or es p no_entry in
    let within : p < length es = omega (arith, c.requires.position, ap (λ (xs : List SliceEntry). length xs) c.slice-entries.ensures) in
    let at : At (slice_at j c.args.i) p e = subst (λ (xs : List SliceEntry). At xs p e) c.slice-entries.ensures (slice_get-get_or es p no_entry within) in
    AreAsks-skip c.args.script.now j c.args.i p c.args.asks.now.items e at c.requires.asks (λ asked. (let yes = c.is_asked.ensures.1 asked in let wrong : true ≡ false = sym yes ∙ c.if-not-is_asked.true in cc))

pub returns : goal.returns
returns c =
    let j = c.args.j.now in
    let es = c.slice-entries.result.now in
    let p = c.args.p in
    let e = get_or es p no_entry in
    let within : p < length es = omega (arith, c.requires.position, ap (λ (xs : List SliceEntry). length xs) c.slice-entries.ensures) in
    let at : At (slice_at j c.args.i) p e = subst (λ (xs : List SliceEntry). At xs p e) c.slice-entries.ensures (slice_get-get_or es p no_entry within) in
    subst (λ (xs : List Ask). AreAsks c.args.script.now j c.args.i (p + 1) xs) (sym c.in_ok-push.ensures.items)
    (AreAsks-more c.args.script.now j c.args.i p c.args.asks.now.items e at c.requires.asks c.requires.slice (c.is_asked.ensures.0 c.if-not-is_asked.false))
