-- The line of a command in parts: its word, the numbers before the counts that it was given, and these.
-- (For functions and proofs: no promise of the program stands on it.)
use Rattle.std.specs.Prelude.{ℕ, ◌≤◌, List, [], ◌∷◌, codes}
use Rattle.journal_text.specs.Lines.{argument_in, reason_in}
use Rattle.journal_text.specs.Taken.{IsSplit, Takes}
use Rattle.journal_text.specs.Writable.{IsWritableReply}
use Rattle.journal_text.specs.declared.commands.CommandHead.{CommandHead}

-- the numbers of a command's line before its counts
abbrev pub numbers_in : CommandHead → List ℕ
numbers_in head = head.thread ∷ head.op ∷ reason_in head.reply ∷ argument_in head.reply ∷ head.looks ∷ []

-- a line begins like that of a command, and this text stands where its counts are
pub record IsCommandHead (weight : ℕ) (head : CommandHead) (rest line : List ℕ) : Type 0 where
  pub after : List ℕ
  pub split : IsSplit (codes "tree") after line
  pub takes : Takes (numbers_in head) rest after
  pub reply : IsWritableReply head.reply
  pub few : head.looks ≤ weight
