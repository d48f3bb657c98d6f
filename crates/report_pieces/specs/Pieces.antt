-- Pieces of a report's text.
use Rattle.std.specs.Prelude.{ℕ, List, [], ◌∷◌, ◌++◌, codes}
use Rattle.std.specs.List.{flat_map}
use Rattle.std.specs.Str.Lines.{lines}
use Rattle.rc_base.specs.Reasons.{reason_text}
use Rattle.rc_base.specs.Replies.{name_of}
use Rattle.rc_base.specs.declared.replies.Reply.{Reply}
use Rattle.rc_base.specs.declared.replies.Reply.TheVariants as replies

-- `ok`, or the error's name and the reason's text
abbrev pub reply_text : Reply → List ℕ
reply_text replies.Ok = codes "ok"
reply_text (replies.Refused errno why arg) = name_of errno ++ 32 ∷ reason_text why arg

-- each line of a text after a bar
abbrev pub barred : List ℕ → List ℕ
barred text = flat_map (λ line. 124 ∷ line ++ 10 ∷ []) (lines text)
