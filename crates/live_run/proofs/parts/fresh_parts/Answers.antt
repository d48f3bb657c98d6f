use Rattle.std.proofs.Common.{◌≡◌, ◌+◌, List, length, sym, ap, ◌∙◌, subst, arith}
use Rattle.std.proofs.lemmas.List.{length_push}
use Rattle.live_run.proofs.FirstShares.{AreFirstShares-rest, last_share}
use Rattle.live_run.proofs.FreshParts.{AreOfSlices-rest, AreParts-push}
use Rattle.live_run.proofs.parts.fresh_parts.Goals as goal
use Rattle.live_run.specs.Cells.{SliceCellValue}
use Rattle.live_run.specs.Logs.{LogValue}
use Rattle.live_run.specs.Openings.{AreParts}
use Rattle.machine.specs.declared.parameters.Parameters.{Parameters}
use Rattle.run_law.specs.Slices.{shape_in}
use Rattle.run_law.specs.declared.journals.TreeEntry.{TreeEntry}
use Rattle.seen_journal.specs.Passes.{PassValue}

pub loop-alloc-preserved : goal.loop-alloc-preserved
loop-alloc-preserved g c =
    let script = g.N.RunNames.script in
    let had = c.loop-alloc.invariant in
    let logs : List LogValue = c.loop-alloc.logs.items in
    let rest : List LogValue = c.take_last.new.self.items in
    let log : LogValue = c.take_last.result in
    let part : SliceCellValue = record { cache = c.in_ok-cache.cache; journal = c.into_journal-journal.result; tree = c.take-tree.result; share = c.take_last-share.result } in
    let shorter : length logs ≡ length rest + 1 = ap length c.take_last.ensures.items ∙ length_push rest log in
    let number : c.len.result ≡ length rest = c.len.ensures ∙ c.take_last.new.self.ok.0 in
    let shape : part.cache.shape ≡ shape_in script.machine (length rest) = c.in_ok-cache.ensures.shape ∙ (ap (λ (m : Parameters). shape_in m c.len.result) c.requires.machine ∙ ap (shape_in script.machine) number) in
    record {
      name = c.take-tree.ensures.name ∙ had.name;
      left = omega (arith, c.take-tree.ensures.left, had.left, shorter);
      few = omega (arith, had.few, shorter);
      logs = AreOfSlices-rest g.N.RunNames.slices logs rest log c.take_last.ensures.items had.logs;
      shares = AreFirstShares-rest g.T.NamedTable.table (length logs) (length rest) c.loop-alloc.shares.items c.take_last-share.new.self.items c.take_last-share.result c.take_last-share.ensures.items shorter had.shares;
      parts = subst (AreParts script g.T.NamedTable.table g.N.RunNames.tree g.N.RunNames.slices (length rest)) (sym c.in_ok-push.ensures.items)
          (AreParts-push script g.T.NamedTable.table g.N.RunNames.tree g.N.RunNames.slices logs rest log c.loop-alloc.parts.items part c.requires.lawful had.few c.take_last.ensures.items had.logs (λ name. record {
            journal_is = c.into_journal-journal.ensures.name ∙ name;
            no_entries = c.into_journal-journal.ensures.empty;
            pass_is = ap (λ (p : PassValue TreeEntry). p.name) c.take-tree.ensures.pass ∙ (had.name ∙ c.requires.name);
            none_seen = ap (λ (p : PassValue TreeEntry). p.seen) c.take-tree.ensures.pass;
            shape = shape;
            rmids = c.in_ok-cache.ensures.rmids ∙ ap (λ (m : Parameters). m.rmids) c.requires.machine;
            stands = c.in_ok-cache.ensures.empty;
            share_is = last_share g.T.NamedTable.table (length logs) (length rest) c.loop-alloc.shares.items c.take_last-share.new.self.items c.take_last-share.result c.take_last-share.ensures.items shorter had.shares;
          }) had.parts);
    }
