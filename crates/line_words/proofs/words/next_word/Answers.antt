use Rattle.std.proofs.Common.{◌≡◌, ℕ, List, [], length, drop, take, sym, ap, subst, ◌∙◌, arith, length-drop}
use Rattle.std.specs.List.{position_or_len}
use Rattle.std.proofs.lemmas.Bool.{eqb-true, eqb-false}
use Rattle.std.proofs.lemmas.List.{nil_from_length}
use Rattle.num_text.specs.Blanks.{is_blank, blanks_before}
use Rattle.line_words.specs.Lines.{words}
use Rattle.line_words.proofs.laws.FirstWord.{Behind, Behind-drop_blanks, words-behind}
use Rattle.line_words.proofs.words.next_word.Goals as goal

pub returns-then-is_empty : goal.returns-then-is_empty
returns-then-is_empty c =
    let nothing : c.from_word-text.result.now ≡ [] = nil_from_length c.from_word-text.result.now (eqb-true (length c.from_word-text.result.now) 0 (sym c.if-is_empty.ensures)) in
    record { words = sym (Behind-drop_blanks c.args.text.now).same ∙ ap words (sym c.from_word-text.ensures ∙ nothing); behind = tt }

pub returns : goal.returns
returns c =
    let rest = c.from_word-text.result.now in
    let behind : Behind c.args.text.now rest = subst (λ (xs : List ℕ). Behind c.args.text.now xs) (sym c.from_word-text.ensures) (Behind-drop_blanks c.args.text.now) in
    let n = position_or_len is_blank rest in
    let front = words-behind c.args.text.now rest behind (eqb-false (length rest) 0 (sym c.if-is_empty.ensures)) in
    let len : c.word_len.result ≡ n = c.word_len.ensures.value in
    let first : c.split_at.result.0.now ≡ take n rest = c.split_at.ensures.front ∙ ap (λ (k : ℕ). take k rest) len in
    let second : c.split_at.result.1.now ≡ drop n rest = c.split_at.ensures.back ∙ ap (λ (k : ℕ). drop k rest) len in
    let from : rest ≡ drop (blanks_before c.args.text.now) c.args.text.now = c.from_word-text.ensures in
    rw (first, second) (record { words = (front.0, omega (arith, front.1, front.2, behind.shorter, length-drop n rest)); behind = ap (λ (xs : List ℕ). drop (position_or_len is_blank xs) xs) from })
