-- What each command does to the tree: why it is refused, the counts that it needs, its reply and the next state, and what follows
-- it in the slices.
use Rattle.std.specs.Prelude.{ℕ, if◌then◌else◌, is_some, List, [], map, Option, Some, None}
use Rattle.std.specs.List.{range_with_len}
use Rattle.machine.specs.declared.parameters.Parameters.{Parameters}
use Rattle.rc_base.specs.declared.replies.Reply.{Reply}
use Rattle.script_ops.specs.declared.op.Op.{Op}
use Rattle.script_ops.specs.declared.op.Op.TheVariants as ops
use Rattle.tree_law.specs.Freeing.{counts_of}
use Rattle.tree_law.specs.Refusals.{Refusal, reply_of}
use Rattle.tree_law.specs.State.{Outcome, State}
use Rattle.tree_law.specs.commands.Drop as drop
use Rattle.tree_law.specs.commands.Flush as flush
use Rattle.tree_law.specs.commands.Mkdir as mkdir
use Rattle.tree_law.specs.commands.Reads as read
use Rattle.tree_law.specs.commands.Rmdir as rmdir
use Rattle.tree_law.specs.commands.Tick as tick
use Rattle.tree_law.specs.commands.Touch as touch
use Rattle.tree_law.specs.commands.Write as write
use Rattle.tree_law.specs.declared.follow.Follow.{Follow}
use Rattle.tree_law.specs.declared.follow.Follow.TheVariants as follows

-- why a command is refused, where it is
unfoldable pub refusal : Parameters → State → Op → Option Refusal
refusal m s (ops.Mkdir path) = mkdir.refusal m s path
refusal m s (ops.Rmdir path) = rmdir.refusal s path
refusal m s (ops.Write path text) = write.refusal m s path text
refusal m s (ops.Read path) = read.refusal s path
refusal m s (ops.List path) = read.list_refusal s path
refusal m s (ops.Touch cpu path task offset) = touch.refusal m s path offset cpu
refusal m s (ops.DropRegion path offset) = drop.refusal m s path offset
refusal m s op = None

-- the counts that an accepted command needs, as pairs of a domain and an RMID
abbrev pub needs_accepted : Parameters → State → Op → List (ℕ × ℕ)
needs_accepted m s (ops.Rmdir path) = counts_of m (rmdir.freed s path)
needs_accepted m s (ops.Write path text) = counts_of m (write.freed s path text)
needs_accepted m s (ops.Read path) = read.needs s path
needs_accepted m s ops.Tick = tick.needs m s
needs_accepted m s op = []

-- a refused command needs none
unfoldable pub needs : Parameters → State → Op → List (ℕ × ℕ)
needs m s op = if is_some (refusal m s op) then [] else needs_accepted m s op

-- the state after an accepted command, but for the last status
abbrev pub accepted : Parameters → State → Op → List ℕ → State
accepted m s (ops.Mkdir path) looks = mkdir.accepted m s path
accepted m s (ops.Rmdir path) looks = rmdir.accepted m s path looks
accepted m s (ops.Write path text) looks = write.accepted m s path text looks
accepted m s ops.Tick looks = tick.accepted m s looks
accepted m s op looks = s

-- the state after a refused command, but for the last status
abbrev pub left : State → Op → State
left s (ops.Write path text) = write.refused s path text
left s op = s

-- mkdir and write set the last status, and no other command does
abbrev pub with_status : Op → Reply → State → State
with_status (ops.Mkdir path) reply s = record s { status = reply }
with_status (ops.Write path text) reply s = record s { status = reply }
with_status op reply s = s

-- the state after a command that is refused for this, or accepted, but for the last status
abbrev pub next_if : Parameters → State → Op → List ℕ → Option Refusal → State
next_if m s op looks None = accepted m s op looks
next_if m s op looks (Some r) = left s op

-- the reply and the next state
unfoldable pub next : Parameters → State → Op → List ℕ → Outcome
next m s op looks = record {
  reply = reply_of (refusal m s op);
  state = with_status op (reply_of (refusal m s op)) (next_if m s op looks (refusal m s op));
}

-- what follows an accepted command at this position
abbrev pub after_accepted : Parameters → State → ℕ → Op → List Follow
after_accepted m s k (ops.Rmdir path) = map (λ d. follows.Raise d) (range_with_len 0 m.domains)
after_accepted m s k (ops.Write path text) = write.after m s path text
after_accepted m s k (ops.Flush domain) = flush.after m domain
after_accepted m s k (ops.Touch cpu path task offset) = touch.after m s k path offset task cpu
after_accepted m s k (ops.DropLine addr) = drop.after_line m addr
after_accepted m s k (ops.DropRegion path offset) = drop.after_region s path offset
after_accepted m s k op = []

-- what follows a command at this position; nothing follows a refused one
unfoldable pub after : Parameters → State → ℕ → Op → List Follow
after m s k op = if is_some (refusal m s op) then [] else after_accepted m s k op

-- where a follow-up goes: to each slice of a domain, or to the slice that has one line there
pub data Target : Type 0 where
  EachSlice : ℕ → Target
  SliceOf : ℕ → ℕ → Target

-- a touch and a drop go to the slice of their line, a touch in its tag's domain
abbrev pub goes_to : Follow → Target
goes_to (follows.Raise domain) = EachSlice domain
goes_to (follows.Flush domain) = EachSlice domain
goes_to (follows.Lock domain mask first_line) = EachSlice domain
goes_to (follows.Touch tag line) = SliceOf tag.domain line
goes_to (follows.Drop domain line) = SliceOf domain line

-- (For proofs.) the domain of a follow-up; that of a touch is its tag's
abbrev pub follow_domain : Follow → ℕ
follow_domain (follows.Raise domain) = domain
follow_domain (follows.Flush domain) = domain
follow_domain (follows.Lock domain mask first_line) = domain
follow_domain (follows.Touch tag line) = tag.domain
follow_domain (follows.Drop domain line) = domain
