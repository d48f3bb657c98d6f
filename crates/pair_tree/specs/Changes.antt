-- What a command makes of the state.
-- (For functions and proofs: no promise of the program stands on it.)
use Rattle.std.specs.Prelude.{◌≡◌, ℕ, List, Option, Some, None, Result, Ok, Err, find, is_none}
use Rattle.pair_law.specs.Others.{initial_mask, places_on}
use Rattle.pair_law.specs.State.{PairGroup, PairState}
use Rattle.pair_law.specs.Steps.{kept_tasks, next, text_refusal, written}
use Rattle.pair_law.specs.commands.Mkdir as mkdir
use Rattle.pair_law.specs.commands.Mkdir.{initial_masks, new_group}
use Rattle.pair_law.specs.commands.Mode as mode
use Rattle.pair_text.specs.Values.{Machines}
use Rattle.pair_text.specs.declared.op.PairOp.{PairOp}
use Rattle.pair_text.specs.declared.side.Side.{Side}
use Rattle.path_names.specs.declared.files.FileKind.{FileKind}
use Rattle.rc_base.specs.declared.names.Mode.{Mode}
use Rattle.rc_base.specs.declared.replies.Reply.{Reply}
use Rattle.tree_law.specs.Refusals.{Refusal, reply_of}

-- a state that is changed, unless something is against it
abbrev pub unless : Option Refusal → PairState → PairState → PairState
unless None kept changed = changed
unless (Some r) kept changed = kept

-- A command changes the state, unless something is against it.
pub record MakesUnless (kept : PairState) (against : Option Refusal) (changed new : PairState) (said : Reply) : Type 0 where
  -- the reply says why not
  pub reply : said ≡ reply_of against
  -- it is the changed state then, and is else as it was
  pub state : new ≡ unless against kept changed

-- a function gave a new group's masks on a side, or the first domain without space
abbrev pub GivesMasks : Machines → PairState → Side → Result (List ℕ) ℕ → Type 0
GivesMasks m s side (Ok masks) = (find (λ place. is_none (initial_mask m s place)) (places_on m side) ≡ None) × (masks ≡ initial_masks m s side)
GivesMasks m s side (Err domain) = find (λ place. is_none (initial_mask m s place)) (places_on m side) ≡ Some (record { side = side; domain = domain })

-- a function gave a new group of this name, or the reply where something is against it
abbrev pub GivesGroup : Machines → PairState → List ℕ → Result PairGroup Reply → Type 0
GivesGroup m s name (Ok g) = (mkdir.refusal m s name ≡ None) × (g ≡ new_group m s name)
GivesGroup m s name (Err reply) = (r : Refusal) × (mkdir.refusal m s name ≡ Some r) × (reply ≡ reply_of (Some r))

-- What a written text asks of a group: to turn to this mode, or to stay as it is, and nothing is against it; or the reply where
-- something is.
abbrev pub AsksMode : Machines → PairState → PairGroup → List ℕ → Result (Option Mode) Reply → Type 0
AsksMode m s g text (Ok o) = (mode.refusal m s g text ≡ None) × (mode.accepted s g text ≡ mode.with_mode s g o)
AsksMode m s g text (Err reply) = (r : Refusal) × (mode.refusal m s g text ≡ Some r) × (reply ≡ reply_of (Some r))

-- what a write of a file of a group makes of the state; refused, it leaves the tasks that it had moved
abbrev pub WritesFile : Machines → PairState → PairGroup → FileKind → List ℕ → PairState → Reply → Type 0
WritesFile m s g kind text new said = MakesUnless (kept_tasks s (Some g) kind text) (text_refusal m s g kind text) (written m s g kind text) new said

-- a command is taken by the law
pub record Takes (m : Machines) (s : PairState) (op : PairOp) (new : PairState) (said : Reply) : Type 0 where
  pub reply : said ≡ (next m s op).reply
  pub state : new ≡ (next m s op).state
