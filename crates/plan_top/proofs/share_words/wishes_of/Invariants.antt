use Rattle.plan_top.proofs.Wishes.{AreFirst}
use Rattle.plan_top.proofs.share_words.wishes_of.Given as goal

abbrev pub invariant-loop-word : goal.invariant-loop-word
invariant-loop-word l = AreFirst l.words l.wishes.items l.word-index
