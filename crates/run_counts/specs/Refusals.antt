-- Refused commands.
use Rattle.std.specs.Prelude.{Bool, true, false}
use Rattle.rc_base.specs.declared.replies.Reply.{Reply}
use Rattle.rc_base.specs.declared.replies.Reply.TheVariants as replies

-- the command was refused
abbrev pub is_refusal : Reply → Bool
is_refusal replies.Ok = false
is_refusal (replies.Refused errno why arg) = true
