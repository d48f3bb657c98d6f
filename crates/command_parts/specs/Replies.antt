-- The replies to what is against a command.
-- (For functions and proofs: no promise of the program stands on it.)
use Rattle.rc_base.specs.Replies.{refused}
use Rattle.rc_base.specs.declared.replies.Reply.{Reply}
use Rattle.tree_law.specs.Refusals.{Refusal}

-- the reply to a command that is refused for this
abbrev pub reply_to : Refusal → Reply
reply_to r = refused r.why r.arg
