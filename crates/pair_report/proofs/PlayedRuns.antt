-- How many replies and how many lists of entries the journals of a run have.
use Rattle.std.proofs.Common.{◌≡◌, suc, ◌≤◌, List, Vec, [], ◌∷◌, length, sym, refl, ap, ◌∙◌, arith}
use Rattle.std.specs.declared.alloc.Global.{Global}
use Rattle.std.proofs.lemmas.List.{length-map}
use Rattle.cache_core.specs.declared.entry.SliceEntry.{SliceEntry}
use Rattle.pair_law.proofs.laws.Machines.{domains-few, side_machine-slices}
use Rattle.pair_law.specs.Epochs.{replies_to}
use Rattle.pair_law.specs.State.{PairState, opening}
use Rattle.pair_law.specs.Steps.{next}
use Rattle.pair_text.specs.Values.{Machines, PairScriptValue, commands_of, side_machine}
use Rattle.pair_text.specs.declared.op.PairOp.{PairOp}
use Rattle.pair_text.specs.declared.side.Side.{Side}
use Rattle.pair_text.specs.declared.side.Side.TheVariants.{First, Second}
use Rattle.pair_windows.specs.CdpJournals.{IsPlayed, cdp_journals}
use Rattle.pair_windows.specs.LevelJournals.{IsPlayedOnLevels, level_journals}
use Rattle.rc_base.specs.declared.replies.Reply.{Reply}
use Rattle.run_law.specs.Entries.{entries_of}

-- each command has a reply
length-replies_to : (m : Machines) (s : PairState) (ops : List PairOp) → length (replies_to m s ops) ≡ length ops
length-replies_to m s [] = refl
length-replies_to m s (op ∷ ops) = ap suc (length-replies_to m (next m s op).state ops)

module _ (script : PairScriptValue) (replies : List Reply) (slices : List (Vec SliceEntry Global)) (played : IsPlayed script (cdp_journals replies slices)) where
  pub length-replies : length replies ≡ length (commands_of script)
  length-replies = ap (λ (l : List Reply). length l) played.run.replies ∙ length-replies_to script.machines (opening script.machines script.tasks) (commands_of script)

  pub length-slices : length slices ≡ script.machines.machine.domains
  length-slices = sym (length-map slices entries_of) ∙ played.run.one_each

  pub few-slices : length slices ≤ 8
  few-slices = let is = length-slices in let few = domains-few script.machines played.playable.lawful.machines Second in omega (arith, is, few)

module _ (script : PairScriptValue) (replies : List Reply) (l2 l3 : List (Vec SliceEntry Global)) (played : IsPlayedOnLevels script (level_journals replies l2 l3)) where
  pub length-level_replies : length replies ≡ length (commands_of script)
  length-level_replies = ap (λ (l : List Reply). length l) (played.run First).replies ∙ length-replies_to script.machines (opening script.machines script.tasks) (commands_of script)

  pub length-l2 : length l2 ≡ (side_machine script.machines First).domains
  length-l2 = sym (length-map l2 entries_of) ∙ (played.run First).one_each

  pub length-l3 : length l3 ≡ script.machines.machine.domains
  length-l3 = sym (length-map l3 entries_of) ∙ (played.run Second).one_each

  pub few-l2 : length l2 ≤ 8
  few-l2 = let is = length-l2 in let few = domains-few script.machines played.playable.lawful.machines First in omega (arith, is, few)

  pub few-l3 : length l3 ≤ 8
  few-l3 = let is = length-l3 in let few = domains-few script.machines played.playable.lawful.machines Second in omega (arith, is, few)

  pub one-slice : (side : Side) → (side_machine script.machines side).slices ≡ 1
  one-slice side = side_machine-slices script.machines played.playable.lawful.machines side
