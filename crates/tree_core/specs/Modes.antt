-- What a written mode asks of a group.
-- (For functions and proofs: no promise of the program stands on it.)
use Rattle.std.specs.Prelude.{◌≡◌, ℕ, false, true, List, Option, Some, None, Result, Ok, Err}
use Rattle.std.specs.Option.{option_or}
use Rattle.group_tree.specs.declared.group.Group.{Group}
use Rattle.machine.specs.declared.parameters.Parameters.{Parameters}
use Rattle.rc_base.specs.declared.names.Mode.{Mode}
use Rattle.rc_base.specs.declared.replies.Reply.{Reply}
use Rattle.command_parts.specs.Replies.{reply_to}
use Rattle.tree_law.specs.Refusals.{Refusal}
use Rattle.tree_law.specs.State.{State}
use Rattle.tree_law.specs.commands.Mode.{against_entry, against_exclusive, against_leaving, freed_by, is_present, mode_in, refusal, with_mode}
use Rattle.tree_law.specs.commands.Schemata.{is_locked}

-- what is against a change of mode, but for a lack of RMIDs
abbrev pub against_turn : Parameters → State → Group → Mode → Option Refusal
against_turn m s g mode = option_or (against_entry s g mode) (option_or (against_leaving m s g) (against_exclusive m s g mode))

-- the text asks a group to turn to another mode, and nothing but a lack of RMIDs can be against that
pub record TurnsTo (m : Parameters) (s : State) (g : Group) (text : List ℕ) (mode : Mode) : Type 0 where
  pub other : is_present g.mode text ≡ false
  pub unlocked : is_locked g.mode ≡ false
  pub asked : mode_in text ≡ Some mode
  pub free : against_turn m s g mode ≡ None

-- the text asks for the mode that the group is in
abbrev pub Stays : Group → List ℕ → Type 0
Stays g text = is_present g.mode text ≡ true

-- the text is refused, whatever RMIDs are free
pub record IsRefused (m : Parameters) (s : State) (g : Group) (text : List ℕ) (reply : Reply) : Type 0 where
  pub reason : Refusal
  pub is : refusal m s g text ≡ Some reason
  pub reply_is : reply ≡ reply_to reason

-- why a text is refused, or whether it changes the mode of a group, and to which
abbrev pub AsksMode : Parameters → State → Group → List ℕ → Result (Option Mode) Reply → Type 0
AsksMode m s g text (Ok None) = Stays g text
AsksMode m s g text (Ok (Some mode)) = TurnsTo m s g text mode
AsksMode m s g text (Err reply) = IsRefused m s g text reply

-- the state after a group has turned to a mode
abbrev pub turned : Parameters → State → Group → Mode → List ℕ → State
turned m s g mode looks = with_mode m s g (freed_by g (Some mode)) looks (Some mode)
