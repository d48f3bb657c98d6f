use Rattle.std.specs.Prelude.{codes}
use Rattle.journal_text.proofs.KindWords.{is_word, word_of-none}
use Rattle.journal_text.proofs.kind.kind_named.Goals as goal

pub returns-then-is_text : goal.returns-then-is_text
returns-then-is_text c = is_word (codes "access") c.args.word.now c.if-is_text.ensures

pub returns-then-is_text-2 : goal.returns-then-is_text-2
returns-then-is_text-2 c = is_word (codes "raise") c.args.word.now c.if-is_text-2.ensures

pub returns-then-is_text-3 : goal.returns-then-is_text-3
returns-then-is_text-3 c = is_word (codes "flush") c.args.word.now c.if-is_text-3.ensures

pub returns-then-is_text-4 : goal.returns-then-is_text-4
returns-then-is_text-4 c = is_word (codes "lock") c.args.word.now c.if-is_text-4.ensures

pub returns-then-is_text-5 : goal.returns-then-is_text-5
returns-then-is_text-5 c = is_word (codes "look") c.args.word.now c.if-is_text-5.ensures

pub returns-then-is_text-6 : goal.returns-then-is_text-6
returns-then-is_text-6 c = is_word (codes "drop") c.args.word.now c.if-is_text-6.ensures

pub returns-else-is_text-6 : goal.returns-else-is_text-6
returns-else-is_text-6 c =
    word_of-none c.args.word.now c.if-is_text.ensures c.if-is_text-2.ensures c.if-is_text-3.ensures c.if-is_text-4.ensures c.if-is_text-5.ensures c.if-is_text-6.ensures
