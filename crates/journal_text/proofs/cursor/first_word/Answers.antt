use Rattle.std.proofs.Common.{sym}
use Rattle.std.proofs.lemmas.List.{take-append-drop}
use Rattle.journal_text.proofs.laws.Words.{EndsWord-drop_word, IsWord-take_word}
use Rattle.journal_text.proofs.cursor.first_word.Goals as goal

pub returns : goal.returns
returns c =
    let text = c.args.text.now in
    record {
      same = rw (c.split_at.ensures.front, c.split_at.ensures.back) (sym (take-append-drop c.word_len.result text));
      word_has_no_space = rw (c.split_at.ensures.front, c.word_len.ensures.value) (IsWord-take_word text);
      word_ends = rw (c.split_at.ensures.back, c.word_len.ensures.value) (EndsWord-drop_word text);
    }
