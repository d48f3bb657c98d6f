-- The worked scripts, by computing.
use Rattle.std.proofs.Common.{refl}
use Rattle.cbm.specs.Masks.{overlaps, ways_of}
use Rattle.cbm.specs.Validity.{checked}
use Rattle.cpu_lists.specs.Lists.{list_cpus}
use Rattle.cpu_lists.specs.Masks.{mask_cpus}
use Rattle.cpu_lists.specs.Sets.{answer_of, numbers_of}
use Rattle.mode_rules.specs.Overlaps.{is_apart, leaving_overlap, write_overlap}
use Rattle.mode_rules.specs.Setup.{entry_refusal}
use Rattle.mode_rules.specs.StartingWays.{initial_ways, starting_ways}
use Rattle.rc_base.specs.Texts.{is_text}
use Rattle.schemata_text.specs.Reading.{entry_of, line_of, reading_from}
use Rattle.tree_law.specs.Resolving.{resolve}
use Rattle.tree_law.specs.ScriptRows.{FirstAnswers, FirstLeft, ThirdAnswers, ThirdLeft}
use Rattle.tree_law.specs.RegionScript.{SecondAnswers, SecondLeft}
use Rattle.tree_law.specs.Steps as steps
use Rattle.tree_law.specs.commands.Cpus as cpus
use Rattle.tree_law.specs.commands.Flush as flush
use Rattle.tree_law.specs.commands.Mkdir as mkdir
use Rattle.tree_law.specs.commands.Mode as mode
use Rattle.tree_law.specs.commands.Reads as reads
use Rattle.tree_law.specs.commands.Rmdir as rmdir
use Rattle.tree_law.specs.commands.Schemata as schemata
use Rattle.tree_law.specs.commands.Tasks as tasks
use Rattle.tree_law.specs.commands.Threshold as threshold
use Rattle.tree_law.specs.commands.Tick as tick
use Rattle.tree_law.specs.commands.Touch as touch
use Rattle.tree_law.specs.commands.Write as write

-- the answers of the first script
pub FirstAnswers-holds : FirstAnswers
unfolding steps.next steps.refusal steps.needs steps.after mkdir.refusal mkdir.accepted reads.refusal reads.list_refusal reads.needs rmdir.refusal rmdir.accepted rmdir.freed tick.accepted tick.needs flush.after touch.touched touch.refusal touch.after resolve write.refusal write.accepted write.refused write.freed write.after cpus.mask_read cpus.list_read cpus.refusal cpus.accepted threshold.threshold_in threshold.refusal threshold.accepted tasks.refusal tasks.kept tasks.elements tasks.task_in mode.refusal mode.accepted mode.freed mode.mode_in mode.is_present mode.after schemata.refusal schemata.accepted schemata.schemata_read schemata.after initial_ways starting_ways is_text overlaps ways_of checked write_overlap leaving_overlap is_apart entry_refusal reading_from line_of entry_of answer_of mask_cpus list_cpus numbers_of
FirstAnswers-holds = refl

-- the state that the first script leaves
pub FirstLeft-holds : FirstLeft
unfolding steps.next steps.refusal steps.needs steps.after mkdir.refusal mkdir.accepted reads.refusal reads.list_refusal reads.needs rmdir.refusal rmdir.accepted rmdir.freed tick.accepted tick.needs flush.after touch.touched touch.refusal touch.after resolve write.refusal write.accepted write.refused write.freed write.after cpus.mask_read cpus.list_read cpus.refusal cpus.accepted threshold.threshold_in threshold.refusal threshold.accepted tasks.refusal tasks.kept tasks.elements tasks.task_in mode.refusal mode.accepted mode.freed mode.mode_in mode.is_present mode.after schemata.refusal schemata.accepted schemata.schemata_read schemata.after initial_ways starting_ways is_text overlaps ways_of checked write_overlap leaving_overlap is_apart entry_refusal reading_from line_of entry_of answer_of mask_cpus list_cpus numbers_of
FirstLeft-holds = refl

-- the answers of the second script
pub SecondAnswers-holds : SecondAnswers
unfolding steps.next steps.refusal steps.needs steps.after mkdir.refusal mkdir.accepted reads.refusal reads.list_refusal reads.needs rmdir.refusal rmdir.accepted rmdir.freed tick.accepted tick.needs flush.after touch.touched touch.refusal touch.after resolve write.refusal write.accepted write.refused write.freed write.after cpus.mask_read cpus.list_read cpus.refusal cpus.accepted threshold.threshold_in threshold.refusal threshold.accepted tasks.refusal tasks.kept tasks.elements tasks.task_in mode.refusal mode.accepted mode.freed mode.mode_in mode.is_present mode.after schemata.refusal schemata.accepted schemata.schemata_read schemata.after initial_ways starting_ways is_text overlaps ways_of checked write_overlap leaving_overlap is_apart entry_refusal reading_from line_of entry_of answer_of mask_cpus list_cpus numbers_of
SecondAnswers-holds = refl

-- the state that the second script leaves
pub SecondLeft-holds : SecondLeft
unfolding steps.next steps.refusal steps.needs steps.after mkdir.refusal mkdir.accepted reads.refusal reads.list_refusal reads.needs rmdir.refusal rmdir.accepted rmdir.freed tick.accepted tick.needs flush.after touch.touched touch.refusal touch.after resolve write.refusal write.accepted write.refused write.freed write.after cpus.mask_read cpus.list_read cpus.refusal cpus.accepted threshold.threshold_in threshold.refusal threshold.accepted tasks.refusal tasks.kept tasks.elements tasks.task_in mode.refusal mode.accepted mode.freed mode.mode_in mode.is_present mode.after schemata.refusal schemata.accepted schemata.schemata_read schemata.after initial_ways starting_ways is_text overlaps ways_of checked write_overlap leaving_overlap is_apart entry_refusal reading_from line_of entry_of answer_of mask_cpus list_cpus numbers_of
SecondLeft-holds = refl

-- the answers of the third script
pub ThirdAnswers-holds : ThirdAnswers
unfolding steps.next steps.refusal steps.needs steps.after mkdir.refusal mkdir.accepted reads.refusal reads.list_refusal reads.needs rmdir.refusal rmdir.accepted rmdir.freed tick.accepted tick.needs flush.after touch.touched touch.refusal touch.after resolve write.refusal write.accepted write.refused write.freed write.after cpus.mask_read cpus.list_read cpus.refusal cpus.accepted threshold.threshold_in threshold.refusal threshold.accepted tasks.refusal tasks.kept tasks.elements tasks.task_in mode.refusal mode.accepted mode.freed mode.mode_in mode.is_present mode.after schemata.refusal schemata.accepted schemata.schemata_read schemata.after initial_ways starting_ways is_text overlaps ways_of checked write_overlap leaving_overlap is_apart entry_refusal reading_from line_of entry_of answer_of mask_cpus list_cpus numbers_of
ThirdAnswers-holds = refl

-- the state that the third script leaves
pub ThirdLeft-holds : ThirdLeft
unfolding steps.next steps.refusal steps.needs steps.after mkdir.refusal mkdir.accepted reads.refusal reads.list_refusal reads.needs rmdir.refusal rmdir.accepted rmdir.freed tick.accepted tick.needs flush.after touch.touched touch.refusal touch.after resolve write.refusal write.accepted write.refused write.freed write.after cpus.mask_read cpus.list_read cpus.refusal cpus.accepted threshold.threshold_in threshold.refusal threshold.accepted tasks.refusal tasks.kept tasks.elements tasks.task_in mode.refusal mode.accepted mode.freed mode.mode_in mode.is_present mode.after schemata.refusal schemata.accepted schemata.schemata_read schemata.after initial_ways starting_ways is_text overlaps ways_of checked write_overlap leaving_overlap is_apart entry_refusal reading_from line_of entry_of answer_of mask_cpus list_cpus numbers_of
ThirdLeft-holds = refl
