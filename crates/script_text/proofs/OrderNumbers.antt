-- The numbers of an order, one after the other.
use Rattle.std.proofs.Common.{◌≡◌, ℕ, ◌^◌, ◌<◌, List, [], ◌∷◌, ◌++◌, length, Some, None, refl, sym, ap, ◌∙◌, arith, length-append}
use Rattle.std.proofs.lemmas.Bool.{lt-ltb}
use Rattle.num_text.specs.Blanks.{is_blank}
use Rattle.num_text.specs.Numbers.{dec_of, below}
use Rattle.num_text.proofs.laws.Digits.{number_of-digits, is_blank-decimal, list_any-decimal}
use Rattle.script_lines.specs.Arguments.{order_from}
use Rattle.line_words.specs.Lines.{words, from_word}
use Rattle.script_text.specs.Usual.{BeginsWithNumber, BeginsWithOrderNumber, BeginsWithNoOrderNumber}
use Rattle.script_text.proofs.AccessLines.{words-piece}
use Rattle.line_words.proofs.laws.FirstWord.{Behind-drop_blanks}

-- digits and a space
pub BeginsWithOrderNumber-digits : (text : List ℕ) (n : ℕ) (rest : List ℕ) → BeginsWithNumber text 32 n rest → n < 2 ^ 32 → BeginsWithOrderNumber text n rest
BeginsWithOrderNumber-digits text n rest h small = record {
  word = h.word;
  first = ap words h.parts ∙ words-piece h.word rest h.some (list_any-decimal is_blank is_blank-decimal h.word h.digits);
  number = spelled;
  shorter = omega (arith, ap length h.parts, length-append h.word (32 ∷ rest));
}
  where
    value : dec_of h.word ≡ Some n
    value = number_of-digits 10 h.word h.some h.digits ∙ ap (λ (k : ℕ). Some k) (sym h.value)

    spelled : below (2 ^ 32) (dec_of h.word) ≡ Some n
    spelled = rw value (rw (lt-ltb n (2 ^ 32) small) refl)

-- a word, and the blanks after it
pub BeginsWithOrderNumber-word : (text word rest after : List ℕ) (n : ℕ) → words text ≡ word ∷ words rest → length rest < length text → below (2 ^ 32) (dec_of word) ≡ Some n → after ≡ from_word rest → BeginsWithOrderNumber text n after
BeginsWithOrderNumber-word text word rest after n first shorter number behind =
    let blanks = Behind-drop_blanks rest in
    let same : words after ≡ words rest = ap words behind ∙ blanks.same in
    record {
      word = word;
      first = first ∙ ap (λ (ws : List (List ℕ)). word ∷ ws) (sym same);
      number = number;
      shorter = omega (arith, shorter, ap length behind, blanks.shorter);
    }

-- one number more
pub order_from-next : (numbers : List ℕ) (text : List ℕ) (n : ℕ) (rest : List ℕ) → BeginsWithOrderNumber text n rest → order_from numbers (words text) ≡ order_from (numbers ++ n ∷ []) (words rest)
unfolding order_from
order_from-next numbers text n rest h = rw h.first (rw h.number refl)

-- no number
pub order_from-none : (numbers : List ℕ) (text : List ℕ) → BeginsWithNoOrderNumber text → order_from numbers (words text) ≡ None
unfolding order_from
order_from-none numbers text h = rw h.first (rw h.number refl)

-- no word
pub order_from-nil : (numbers : List ℕ) (text : List ℕ) → words text ≡ [] → order_from numbers (words text) ≡ Some numbers
unfolding order_from
order_from-nil numbers text h = rw h refl

pub ruleset numbers = (BeginsWithOrderNumber-digits, order_from-next, order_from-none, order_from-nil)
