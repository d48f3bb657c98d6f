use Rattle.std.proofs.Common.{◌≡◌, ◌++◌, ℕ, List, ap, length, sym, ◌∙◌, ◌^◌, ◌≤◌, arith, subst}
use Rattle.std.proofs.lemmas.Option.{slice_get_within}
use Rattle.std.specs.List.{All}
use Rattle.file_view.specs.Texts.{text_of}
use Rattle.run_law.specs.Entries.{entry_value}
use Rattle.run_replay.proofs.Entries.{HasFewLooks-position, IsAnsweredAs-op, IsAnswered-next}
use Rattle.run_replay.specs.Playbacks.{HasTaken, state_before}
use Rattle.tree_core.specs.Values.{TreeValue}
use Rattle.tree_law.proofs.laws.Refusals.{refusal-ok}
use Rattle.run_replay.proofs.texts.push_reading.Goals as goal

pub play_to-requires-clause-within : goal.play_to-requires-clause-within
play_to-requires-clause-within g c = let within = slice_get_within c.args.command.now.run.journals.now.tree c.args.command.now.position (entry_value c.args.command.now.entry.now) c.requires.entry in omega (arith, within)

pub push_text-requires-clause-accepted : goal.push_text-requires-clause-accepted
push_text-requires-clause-accepted g c =
    let script = c.args.command.now.run.script.now in
    let tree = c.args.command.now.run.journals.now.tree in
    let h = entry_value c.args.command.now.entry.now in
    let op = c.args.op.now in
    let there = c.in_ok-play_to.ensures in
    let t = c.tree.result.now in
    let taken = subst (HasTaken script tree) (sym c.tree.ensures) there.taken in
    let epoch : t.epoch ≡ c.args.command.now.position = ap (λ (u : TreeValue). u.epoch) c.tree.ensures ∙ there.epoch in
    let answered = IsAnsweredAs-op script t.state h op (IsAnswered-next script tree t c.args.command.now.position h taken epoch c.requires.entry) c.requires.op in
    refusal-ok script.machine t.state op h.looks (sym answered.reply ∙ c.requires.accepted)

pub push_text-requires-clause-looks : goal.push_text-requires-clause-looks
push_text-requires-clause-looks g c =
    let script = c.args.command.now.run.script.now in
    let tree = c.args.command.now.run.journals.now.tree in
    let h = entry_value c.args.command.now.entry.now in
    let op = c.args.op.now in
    let there = c.in_ok-play_to.ensures in
    let t = c.tree.result.now in
    let taken = subst (HasTaken script tree) (sym c.tree.ensures) there.taken in
    let epoch : t.epoch ≡ c.args.command.now.position = ap (λ (u : TreeValue). u.epoch) c.tree.ensures ∙ there.epoch in
    let answered = IsAnsweredAs-op script t.state h op (IsAnswered-next script tree t c.args.command.now.position h taken epoch c.requires.entry) c.requires.op in
    ap (λ (ns : List ℕ). length ns) c.items-looks.ensures ∙ answered.looks

pub push_text-requires-clause-counts : goal.push_text-requires-clause-counts
push_text-requires-clause-counts g c =
    let h = entry_value c.args.command.now.entry.now in
    subst (λ (ns : List ℕ). All (λ n. n ≤ 2 ^ 32) ns) (sym c.items-looks.ensures) (HasFewLooks-position c.args.command.now.run.journals.now.tree c.args.command.now.position h c.requires.taken.taken.counts c.requires.entry)

pub returns-clause-bytes : goal.returns-clause-bytes
returns-clause-bytes g c =
    let script = c.args.command.now.run.script.now in
    let tree = c.args.command.now.run.journals.now.tree in
    let op = c.args.op.now in
    let there = c.in_ok-play_to.ensures in
    let old = c.args.out.now.bytes in
    c.push_text.ensures.bytes
    ∙ (ap (λ (ns : List ℕ). old ++ text_of script.machine c.tree.result.now.state script.names op ns) c.items-looks.ensures
    ∙ ap (λ s. old ++ text_of script.machine s script.names op c.args.command.now.entry.now.looks.numbers) (ap (λ (u : TreeValue). u.state) c.tree.ensures ∙ (there.taken.state ∙ ap (state_before script tree) there.epoch)))
