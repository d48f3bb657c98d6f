use Rattle.std.proofs.Common.{◌≡◌, List, ap, sym, subst, ◌∙◌}
use Rattle.cache_core.specs.declared.entry.SliceEntry.{SliceEntry}
use Rattle.run_law.specs.Journals.{JournalsValue}
use Rattle.run_law.specs.Runs.{IsRun}
use Rattle.run_law.specs.TreeHistory.{TreeEntryValue}
use Rattle.step_world.proofs.laws.Schedules.{run_at_end}
use Rattle.step_world.proofs.world.World.close.Goals as goal
use Rattle.step_world.specs.Worlds.{machine_of}

-- journals of these lists
same_journals : (j : JournalsValue) (tree : List TreeEntryValue) (slices : List (List SliceEntry)) → j.tree ≡ tree → j.slices ≡ slices → j ≡ (record { tree = tree; slices = slices })
same_journals j tree slices a b = ap (λ (x : List TreeEntryValue). the (record { tree = x; slices = j.slices })) a ∙ ap (λ (y : List (List SliceEntry)). the (record { tree = tree; slices = y })) b
  where
    the : JournalsValue → JournalsValue
    the j = j

pub returns-clause-run : goal.returns-clause-run
returns-clause-run c script world over =
    let j = (machine_of c.args.self).journals in
    subst (λ x. IsRun script x) (sym (same_journals c.of.result j.tree j.slices c.of.ensures.tree (c.of.ensures.slices ∙ c.take_entries.ensures))) (run_at_end script (machine_of c.args.self) over world.so_far)
