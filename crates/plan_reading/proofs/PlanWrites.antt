-- The commands of a plan are writes to files of groups that the script makes.
use Rattle.std.proofs.Common.{◌≡◌, ℕ, ◌+◌, ◌≤◌, Bool, true, false, cond, List, [], ◌∷◌, ◌++◌, length, map, get_or, Option, Some, None, IfSome, refl, arith}
use Rattle.std.specs.Prelude.{codes}
use Rattle.std.specs.List.{AllByRecursion, flat_map, list_all}
use Rattle.std.proofs.lemmas.List.Elements.{recursion_from_All}
use Rattle.group_tree.specs.Records.{is_control}
use Rattle.group_tree.specs.declared.group.Group.{Group}
use Rattle.lists.proofs.Choices.{cond-and}
use Rattle.lists.proofs.Recursions.{AllByRecursion-append}
use Rattle.lists.proofs.Tests.{All-kept}
use Rattle.machine.specs.Ranges.{InRange}
use Rattle.path_names.specs.declared.files.FileKind.{FileKind}
use Rattle.path_names.specs.declared.files.FileKind.TheVariants.{Mode as ModeFile, Schemata as SchemataFile}
use Rattle.path_names.specs.declared.names.NameId.{NameId}
use Rattle.run_law.specs.Journals.{JournalsValue}
use Rattle.run_law.specs.TreeHistory.{tree_after}
use Rattle.schemata_text.specs.Printed.{printed}
use Rattle.script_ops.specs.Values.{ScriptValue}
use Rattle.script_ops.specs.declared.limits.TheConstants.{MOST_TEXT_BYTES}
use Rattle.tree_law.specs.Counted.{is_counted, is_counted_mode}
use Rattle.plan_reading.proofs.MadeGroups.{AreMade-tree_after, IsMadeName}
use Rattle.plan_reading.proofs.PrintedMasks.{AllSmall-masks_at, length-masks_at, length-printed, list_all-printed}
use Rattle.plan_reading.specs.PlanReading.{commands_of}
use Rattle.way_plans.specs.PlanCommands.{exclusive_op, schemata_ops, shareable_op, shareable_ops, write_op}
use Rattle.way_plans.specs.PlanTexts.{DomainPart, dir_of, is_exclusive, is_whole, masks_at, named_dir}
use Rattle.way_plans.specs.Planned.{AreParts}
use Rattle.way_plans.specs.Plans.{planned}
use Rattle.plan_reading.specs.GroupWrites.{IsGroupWrite, IsMadeDir, is_group_file, is_text_byte}

-- ---- the groups

-- a name that a command of the script makes leads to such a directory
IsMadeDir-name : (script : ScriptValue) (name : Option NameId) → IfSome name (IsMadeName script) → IsMadeDir script (named_dir name)
IsMadeDir-name script None made = tt
IsMadeDir-name script (Some name) made = made

-- the groups of a plan are such
AllMade-planned : (script : ScriptValue) (j : JournalsValue) → AllByRecursion (λ (g : Group). IsMadeDir script (dir_of g)) (planned (tree_after script j.tree))
AllMade-planned script j =
    let s = tree_after script j.tree in
    recursion_from_All (λ (g : Group). IsMadeDir script (dir_of g)) (planned s) (All-kept (λ (g : Group). IsMadeDir script (dir_of g)) is_counted s.groups (λ k d within counted.
    let g : Group = get_or s.groups k d in
    IsMadeDir-name script g.name (AreMade-tree_after script j.tree k d within (cond-and (is_control g.kind) (is_counted_mode g.mode) counted).0)))

-- ---- the commands

module _ (script : ScriptValue) where
  -- a write to a file of such a group
  written : (g : Group) (kind : FileKind) (text : List ℕ) → IsMadeDir script (dir_of g) → is_group_file kind ≡ true → list_all is_text_byte text ≡ true → length text ≤ MOST_TEXT_BYTES → IsGroupWrite (IsMadeDir script) (write_op g kind text)
  written g kind text made has bytes short = record { dir = dir_of g; kind = kind; text = text; is = refl; is_dir = made; has_file = has; bytes = bytes; short = short }

  -- those that make groups shareable
  AllWritten-shareable : (groups : List Group) → AllByRecursion (λ (g : Group). IsMadeDir script (dir_of g)) groups → AllByRecursion (IsGroupWrite (IsMadeDir script)) (flat_map shareable_ops groups)
  AllWritten-shareable [] made = tt
  AllWritten-shareable (g ∷ gs) made = AllByRecursion-append (IsGroupWrite (IsMadeDir script)) (shareable_ops g) (flat_map shareable_ops gs) (one (is_exclusive g.mode)) (AllWritten-shareable gs made.1)
    where
      one : (b : Bool) → AllByRecursion (IsGroupWrite (IsMadeDir script)) (cond b (shareable_op g ∷ []) [])
      one true = (written g ModeFile (codes "shareable") made.0 refl refl (omega arith), tt)
      one false = tt

  -- those that make groups exclusive
  AllWritten-exclusive : (groups : List Group) → AllByRecursion (λ (g : Group). IsMadeDir script (dir_of g)) groups → AllByRecursion (IsGroupWrite (IsMadeDir script)) (map exclusive_op groups)
  AllWritten-exclusive [] made = tt
  AllWritten-exclusive (g ∷ gs) made = (written g ModeFile (codes "exclusive") made.0 refl refl (omega arith), AllWritten-exclusive gs made.1)

  -- those that give groups their ways
  AllWritten-schemata : (j : JournalsValue) (parts : List DomainPart) (place : ℕ) (groups : List Group) → InRange script.machine → AreParts script j parts → AllByRecursion (λ (g : Group). IsMadeDir script (dir_of g)) groups
      → AllByRecursion (IsGroupWrite (IsMadeDir script)) (schemata_ops script.machine.ways parts place groups)
  AllWritten-schemata j parts place [] range are made = tt
  AllWritten-schemata j parts place (g ∷ gs) range are made =
      let masks = masks_at place 0 parts in
      let few : length masks ≤ 8 = omega (arith, length-masks_at place 0 parts, are.all, range.domain_limit) in
      let small = AllSmall-masks_at script j place 0 parts range.some_min (omega (arith, are.all, range.domain_limit)) are.each in (
        written g SchemataFile (printed script.machine.ways masks) made.0 refl (list_all-printed script.machine.ways masks small) (length-printed script.machine.ways masks range.way_limit small few),
        AllWritten-schemata j parts (place + 1) gs range are made.1,
      )

  -- all of them
  pub AllWritten-plan : (j : JournalsValue) (parts : List DomainPart) → InRange script.machine → AreParts script j parts → AllByRecursion (IsGroupWrite (IsMadeDir script)) (commands_of script j parts)
  AllWritten-plan j parts range are = at (is_whole parts)
    where
      made : AllByRecursion (λ (g : Group). IsMadeDir script (dir_of g)) (planned (tree_after script j.tree))
      made = AllMade-planned script j

      at : (b : Bool) → AllByRecursion (IsGroupWrite (IsMadeDir script))
          (cond b (flat_map shareable_ops (planned (tree_after script j.tree)) ++ schemata_ops script.machine.ways parts 0 (planned (tree_after script j.tree)) ++ map exclusive_op (planned (tree_after script j.tree))) [])
      at false = tt
      at true =
          AllByRecursion-append (IsGroupWrite (IsMadeDir script)) (flat_map shareable_ops (planned (tree_after script j.tree)) ++ schemata_ops script.machine.ways parts 0 (planned (tree_after script j.tree))) (map exclusive_op (planned (tree_after script j.tree)))
          (AllByRecursion-append (IsGroupWrite (IsMadeDir script)) (flat_map shareable_ops (planned (tree_after script j.tree))) (schemata_ops script.machine.ways parts 0 (planned (tree_after script j.tree)))
          (AllWritten-shareable (planned (tree_after script j.tree)) made)
          (AllWritten-schemata j parts 0 (planned (tree_after script j.tree)) range are made))
          (AllWritten-exclusive (planned (tree_after script j.tree)) made)
