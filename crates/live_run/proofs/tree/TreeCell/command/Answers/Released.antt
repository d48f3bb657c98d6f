-- A command whose follow-ups are all made.
use Rattle.std.proofs.Common.{◌≡◌, ℕ, ◌+◌, ◌-◌, true, List, [], ◌∷◌, ◌++◌, length, ap, refl, sym, ◌∙◌, subst, arith, Option}
use Rattle.std.specs.Prelude.{◌≤◌, None}
use Rattle.live_law.proofs.laws.Prefixes.{IsPrefix-no_more}
use Rattle.live_law.proofs.laws.SeenJournals.{HasGrown-through}
use Rattle.seen_journal.proofs.laws.Prefixes.{length-prefix}
use Rattle.live_law.specs.SeenJournals.{HasGrown, is_from}
use Rattle.live_run.proofs.Bridges.{history_length}
use Rattle.live_run.proofs.Commands.{command_kept, command_ready, command_replied}
use Rattle.live_run.proofs.Growth.{HasGrown-decided, HasGrown-taken}
use Rattle.live_run.proofs.HeldTrees.{let_go}
use Rattle.live_run.proofs.tree.TreeCell.command.Given.{Over}
use Rattle.live_run.specs.Cells.{TreeCellValue, TreeIsKept}
use Rattle.live_run.specs.Names.{history_of, seen_by}
use Rattle.live_run.specs.Commands.{FollowsAt, HasReplied, shown_where}
use Rattle.live_run.specs.Sharing.{IsShareOf}
use Rattle.run_law.specs.Jobs.{jobs_of}
use Rattle.run_law.specs.declared.journals.TreeEntry.{TreeEntry}
use Rattle.schedule_law.specs.declared.part.GivenTag.{GivenTag}
use Rattle.schedule_law.specs.LiveParts.{live_tree, resting_thread}
use Rattle.script_ops.specs.Values.{ScriptValue}
use Rattle.seen_journal.specs.Entries.{list_of}
use Rattle.seen_journal.specs.Journals.{JournalValue}
use Rattle.seen_journal.specs.Passes.{PassValue}
use Rattle.shared_parts.specs.Parts.{first_of}
use Rattle.live_run.proofs.tree.TreeCell.command.Goals.{After-follow_all, After-release-2}
use Rattle.live_law.specs.Stages.{IsReady}
use Rattle.live_run.proofs.Decisions.{IsDecided}

-- the parts of the thread when all that follows is made
pub record HasLetGo (g : Over) (c : After-follow_all g) : Type 0 where
  pub found : List ℕ
  pub given : Option GivenTag
  pub is : IsShareOf g.T.NamedTable.table (live_tree (list_of c.follow_all.new.side.seen.tree.seen) None ∷ resting_thread c.args.side.now.seen.thread (c.args.command.now.number + 1) true found given ∷ []) c.follow_all.new.side.share

pub has_let_go : (g : Over) (c : After-follow_all g) → HasLetGo g c
has_let_go g c =
    let script = g.N.RunNames.script in
    let k : ℕ = c.epoch-epoch.result - 1 in
    let done : FollowsAt script g.T.NamedTable.table c.args.command.now.number k c.args.command.now.op.now (length (jobs_of script (history_of c.follow_all.new.side.seen.tree.seen) k c.args.command.now.op.now)) c.follow_all.new.side.seen c.follow_all.new.side.share =
    subst (λ (p : PassValue TreeEntry). FollowsAt script g.T.NamedTable.table c.args.command.now.number k c.args.command.now.op.now (length (jobs_of script (history_of p.seen) k c.args.command.now.op.now)) c.follow_all.new.side.seen c.follow_all.new.side.share) (sym c.follow_all.ensures.tree) c.follow_all.ensures.done in
    let thread : c.follow_all.new.side.seen.thread ≡ c.args.side.now.seen.thread = c.follow_all.ensures.thread ∙ (c.decide.ensures.thread ∙ (c.look_all.ensures.thread ∙ c.take.ensures.taken.thread)) in
    record {
      found = done.found;
      given = done.given;
      is = subst (λ t. IsShareOf g.T.NamedTable.table (live_tree (list_of c.follow_all.new.side.seen.tree.seen) None ∷ resting_thread t (c.args.command.now.number + 1) true done.found done.given ∷ []) c.follow_all.new.side.share) thread
          (let_go script g.T.NamedTable.table c.args.command.now.number k c.args.command.now.op.now c.follow_all.new.side.seen c.follow_all.new.side.share done);
    }

-- what is known of the decision when the tree is let go
abbrev pub WasDecided : (g : Over) → After-release-2 g → Type 0
WasDecided g c =
    IsDecided g.N.RunNames.script g.T.NamedTable.table (record { tree = c.self.inside.tree; journal = c.self.inside.journal; slices = c.self.inside.slices.items; share = c.self.inside.share }) c.args.side.now.seen c.look_all.new.side.seen c.decide.new.s c.args.command.now.number c.args.command.now.op.now c.apply-reply.new.self c.decide.new.journal
    (record { thread = c.thread-2.result; op = c.args.command.now.number; reply = c.apply-reply.result.0; looks = c.look_all.new.looks }) c.look_all.new.side.share c.decide-entry.new.worker

-- all that it owes is made
done_at : (g : Over) (c : After-release-2 g) → WasDecided g c
    → FollowsAt g.N.RunNames.script g.T.NamedTable.table c.args.command.now.number (length (history_of c.self.inside.journal.entries)) c.args.command.now.op.now (length (jobs_of g.N.RunNames.script (history_of c.decide.new.s.tree.seen) (length (history_of c.self.inside.journal.entries)) c.args.command.now.op.now)) c.follow_all.new.side.seen c.follow_all.new.side.share
done_at g c its =
    let script = g.N.RunNames.script in
    let entries : List (ℕ × TreeEntry) = c.self.inside.journal.entries in
    let epoch : c.epoch-epoch.result ≡ length entries + 1 = c.epoch-epoch.ensures ∙ (its.epoch ∙ ap (λ x. x + 1) c.self.invariant.epoch) in
    let position : c.epoch-epoch.result - 1 ≡ length (history_of entries) = omega (arith, epoch, history_length entries) in
    subst (λ q. FollowsAt script g.T.NamedTable.table c.args.command.now.number q c.args.command.now.op.now (length (jobs_of script (history_of c.decide.new.s.tree.seen) q c.args.command.now.op.now)) c.follow_all.new.side.seen c.follow_all.new.side.share) position c.follow_all.ensures.done

-- the cell keeps what it keeps
pub kept_now : (g : Over) (c : After-release-2 g) → WasDecided g c → (found : List ℕ) (given : Option GivenTag) → IsShareOf g.T.NamedTable.table (live_tree (list_of c.follow_all.new.side.seen.tree.seen) None ∷ resting_thread c.args.side.now.seen.thread (c.args.command.now.number + 1) true found given ∷ []) c.follow_all.new.side.share
    → TreeIsKept g.N.RunNames.script g.T.NamedTable.table g.N.RunNames.tree g.N.RunNames.slices (record { tree = c.apply-reply.new.self; journal = c.follow_all.new.history; slices = c.release.new.slices.items; share = c.release-2.new.tree })
kept_now g c its found given gone =
    let script = g.N.RunNames.script in
    let old : TreeCellValue = record { tree = c.self.inside.tree; journal = c.self.inside.journal; slices = c.self.inside.slices.items; share = c.self.inside.share } in
    let entry : TreeEntry = record { thread = c.thread-2.result; op = c.args.command.now.number; reply = c.apply-reply.result.0; looks = c.look_all.new.looks } in
    let done = done_at g c its in
    let last : c.follow_all.new.side.seen.tree.seen ≡ c.decide.new.journal.entries = ap (λ (p : PassValue TreeEntry). p.seen) c.follow_all.ensures.tree ∙ its.seen in
    let share : IsShareOf g.T.NamedTable.table (live_tree (list_of c.decide.new.journal.entries) None ∷ []) c.release-2.new.tree = record {
      table_is = c.release-2.ensures.table.0 ∙ (c.take-2.ensures.table.0 ∙ c.self.invariant.share_is.table_is);
      words = c.self.invariant.share_is.words;
      parts_are = c.release-2.ensures.tree ∙ (ap first_of gone.parts_are ∙ ap (λ (es : List (ℕ × TreeEntry)). live_tree (list_of es) None ∷ []) last);
    } in
    subst (λ (j : JournalValue TreeEntry). TreeIsKept script g.T.NamedTable.table g.N.RunNames.tree g.N.RunNames.slices (record { tree = c.apply-reply.new.self; journal = j; slices = c.release.new.slices.items; share = c.release-2.new.tree })) (sym c.follow_all.ensures.history)
    (command_kept script g.T.NamedTable.table g.N.RunNames.tree g.N.RunNames.slices old c.self.invariant c.take.new.slices.items c.take.ensures.passes c.take.ensures.grown c.args.side.now.seen c.look_all.new.side.seen c.decide.new.s c.args.command.now.number c.args.command.now.op.now c.apply-reply.new.self c.decide.new.journal entry c.look_all.new.side.share c.decide-entry.new.worker
    c.requires.op c.requires.command its c.release.new.slices.items c.release.ensures.passes c.release.ensures.grown c.follow_all.new.side.seen c.release.new.s c.follow_all.new.side.share done c.follow_all.ensures.tree c.follow_all.ensures.thread c.release.ensures.taken c.release.ensures.tree c.release.ensures.same
    c.release-2.new.tree share)

-- what the thread has seen has grown
pub grown_now : (g : Over) (c : After-release-2 g) → WasDecided g c → HasGrown (seen_by c.args.side.now.seen) (seen_by c.release.new.s)
grown_now g c its =
    let entry : TreeEntry = record { thread = c.thread-2.result; op = c.args.command.now.number; reply = c.apply-reply.result.0; looks = c.look_all.new.looks } in
    let list = its.seen ∙ (its.list ∙ ap (λ xs. xs ++ (c.look_all.new.side.seen.thread, entry) ∷ []) (sym its.looks.whole)) in
    let decided : HasGrown (seen_by c.look_all.new.side.seen) (seen_by c.decide.new.s) = HasGrown-decided c.look_all.new.side.seen.thread entry c.look_all.new.side.seen c.decide.new.s list its.slices in
    let start = c.args.side.now.seen in
    HasGrown-through (seen_by start) (seen_by c.take.new.s) (seen_by c.release.new.s) (HasGrown-taken start c.take.new.s c.take.ensures.taken)
    (HasGrown-through (seen_by c.take.new.s) (seen_by c.look_all.new.side.seen) (seen_by c.release.new.s) c.look_all.ensures.seen
    (HasGrown-through (seen_by c.look_all.new.side.seen) (seen_by c.decide.new.s) (seen_by c.release.new.s) decided
    (HasGrown-through (seen_by c.decide.new.s) (seen_by c.follow_all.new.side.seen) (seen_by c.release.new.s) c.follow_all.ensures.seen
    (HasGrown-taken c.follow_all.new.side.seen c.release.new.s c.release.ensures.taken))))

-- the thread is ready for its next op
pub ready_now : (g : Over) (c : After-release-2 g) → WasDecided g c → IsReady g.N.RunNames.script c.args.side.now.seen.thread (c.args.command.now.number + 1) (seen_by c.release.new.s)
ready_now g c its =
    let script = g.N.RunNames.script in
    let old : TreeCellValue = record { tree = c.self.inside.tree; journal = c.self.inside.journal; slices = c.self.inside.slices.items; share = c.self.inside.share } in
    let entry : TreeEntry = record { thread = c.thread-2.result; op = c.args.command.now.number; reply = c.apply-reply.result.0; looks = c.look_all.new.looks } in
    let done = done_at g c its in
    command_ready script g.T.NamedTable.table g.N.RunNames.tree g.N.RunNames.slices old c.self.invariant c.take.new.slices.items c.take.ensures.passes c.take.ensures.grown c.args.side.now.seen c.look_all.new.side.seen c.decide.new.s c.args.command.now.number c.args.command.now.op.now c.apply-reply.new.self c.decide.new.journal entry c.look_all.new.side.share c.decide-entry.new.worker
    c.requires.op c.requires.command its c.release.new.slices.items c.release.ensures.passes c.release.ensures.grown c.follow_all.new.side.seen c.release.new.s c.follow_all.new.side.share done c.follow_all.ensures.tree c.follow_all.ensures.thread c.release.ensures.taken c.release.ensures.tree c.release.ensures.same

-- its reply is what the tree's law says, and its text what the files show
pub replied_now : (g : Over) (c : After-release-2 g) → WasDecided g c
    → HasReplied g.N.RunNames.script c.args.command.now.is_text_asked c.args.command.now.op.now c.apply-reply.result.0 (record { seen = c.args.side.now.seen; next = c.args.command.now.number; shown = c.args.shown.now.bytes; begun = true })
    (record { seen = c.release.new.s; next = c.args.command.now.number + 1; shown = c.show.new.shown.bytes; begun = true })
replied_now g c its =
    let script = g.N.RunNames.script in
    let old : TreeCellValue = record { tree = c.self.inside.tree; journal = c.self.inside.journal; slices = c.self.inside.slices.items; share = c.self.inside.share } in
    let entry : TreeEntry = record { thread = c.thread-2.result; op = c.args.command.now.number; reply = c.apply-reply.result.0; looks = c.look_all.new.looks } in
    let before = c.args.side.now.seen.tree.seen in
    let longer = length-prefix (history_of before) (history_of c.take.new.s.tree.seen) (IsPrefix-no_more (is_from c.args.side.now.seen.thread) (history_of before) (history_of c.take.new.s.tree.seen) c.take.ensures.taken.sees.tree) in
    let late : length (history_of before) ≤ length (history_of old.journal.entries) = omega (arith, longer, ap (λ xs. length (history_of xs)) c.take.ensures.tree) in
    let text : c.show.new.shown.bytes ≡ shown_where c.args.command.now.is_text_asked script c.apply-reply.new.self.state c.args.command.now.op.now entry.looks.numbers entry.reply c.args.shown.now.bytes =
    c.show.ensures.bytes
    ∙ (ap (λ (x : ScriptValue). shown_where c.args.command.now.is_text_asked x c.apply-reply.new.self.state c.args.command.now.op.now c.items-2.result.now entry.reply c.args.shown.now.bytes) c.requires.script
    ∙ ap (λ ns. shown_where c.args.command.now.is_text_asked script c.apply-reply.new.self.state c.args.command.now.op.now ns entry.reply c.args.shown.now.bytes) c.items-2.ensures) in
    command_replied script g.T.NamedTable.table g.N.RunNames.tree g.N.RunNames.slices old c.self.invariant c.take.new.slices.items c.take.ensures.passes c.take.ensures.grown c.args.side.now.seen c.look_all.new.side.seen c.decide.new.s c.args.command.now.number c.args.command.now.op.now c.apply-reply.new.self c.decide.new.journal entry c.look_all.new.side.share c.decide-entry.new.worker
    c.requires.op c.requires.command its c.args.command.now.is_text_asked c.args.side.now.seen c.release.new.s c.args.shown.now.bytes c.show.new.shown.bytes refl late (c.release.ensures.tree ∙ c.follow_all.ensures.tree) text
