-- Kinds of line by their words, each of which its first two bytes tell from the others.
use Rattle.std.proofs.Common.{◌≡◌, ℕ, ◌<◌, ◌≤◌, Bool, true, false, cond, List, [], ◌∷◌, length, get_or, Option, Some, None, refl, sym, ap, subst, ◌∙◌, arith}
use Rattle.std.proofs.lemmas.Bool.{false≢true}
use Rattle.std.proofs.lemmas.Option.{none-some, same_Some}
use Rattle.std.specs.Option.{option_or}
use Rattle.rc_base.specs.Texts.{is_text}
use Rattle.script_text.specs.declared.kind.Kind.{Kind}
use Rattle.script_text.specs.declared.kind.Kind.TheVariants as kinds
use Rattle.script_text.specs.Kinds.{part_kind, command_kind, access_kind, kind_of, kind_name, kind_with}
use Rattle.rc_base.proofs.laws.Texts.{is_text-same}

-- a kind that was found by its name
abbrev Named : List ℕ → Option Kind → Type 0
Named word found = (k : Kind) → found ≡ Some k → is_text word (kind_name k) ≡ true

Named-none : (word : List ℕ) → Named word None
Named-none word k e = absurd (none-some k e)

-- one kind more
Named-if : (word : List ℕ) (j : Kind) (rest : Option Kind) → Named word rest → Named word (cond (is_text word (kind_name j)) (Some j) rest)
Named-if word j rest h = at (is_text word (kind_name j)) refl
  where
    at : (b : Bool) → is_text word (kind_name j) ≡ b → (k : Kind) → cond b (Some j) rest ≡ Some k → is_text word (kind_name k) ≡ true
    at true is k e = subst (λ (k : Kind). is_text word (kind_name k) ≡ true) (same_Some j k e) is
    at false is k e = h k e

Named-or : (word : List ℕ) (a b : Option Kind) → Named word a → Named word b → Named word (option_or a b)
Named-or word None b h g k e = g k e
Named-or word (Some j) b h g k e = h k e

-- the kind of a word has this word as its name
Named-kind_of : (word : List ℕ) → Named word (kind_of word)
unfolding kind_of part_kind command_kind access_kind
Named-kind_of word =
    Named-or word _ _
    (Named-if word kinds.Machine _ (Named-if word kinds.Tasks _ (Named-if word kinds.Phase _ (Named-if word kinds.Order _ (Named-if word kinds.Thread _ (Named-none word))))))
    (Named-or word _ _
    (Named-if word kinds.Mkdir _ (Named-if word kinds.Rmdir _ (Named-if word kinds.Write _ (Named-if word kinds.Read _ (Named-if word kinds.List _ (Named-if word kinds.Flush _ (Named-if word kinds.Tick _ (Named-if word kinds.Clflush _ (Named-none word)))))))))
    (Named-if word kinds.Access _ (Named-if word kinds.Sweep _ (Named-if word kinds.Touch _ (Named-none word)))))

-- the kind of the name of each kind
kind_of-kind_name : (k : Kind) → kind_of (kind_name k) ≡ Some k
unfolding kind_of part_kind command_kind access_kind is_text
kind_of-kind_name kinds.Machine = refl
kind_of-kind_name kinds.Tasks = refl
kind_of-kind_name kinds.Phase = refl
kind_of-kind_name kinds.Order = refl
kind_of-kind_name kinds.Thread = refl
kind_of-kind_name kinds.Mkdir = refl
kind_of-kind_name kinds.Rmdir = refl
kind_of-kind_name kinds.Write = refl
kind_of-kind_name kinds.Read = refl
kind_of-kind_name kinds.List = refl
kind_of-kind_name kinds.Flush = refl
kind_of-kind_name kinds.Tick = refl
kind_of-kind_name kinds.Clflush = refl
kind_of-kind_name kinds.Access = refl
kind_of-kind_name kinds.Sweep = refl
kind_of-kind_name kinds.Touch = refl

same_kind : (a b c d : ℕ) → a ≡ c → b ≡ d → kind_with a b ≡ kind_with c d
same_kind a b c d e f = ap (λ (first : ℕ). kind_with first b) e ∙ ap (λ (second : ℕ). kind_with c second) f

-- the first two bytes of the name of each kind
begins : (k : Kind) (first second : ℕ) (rest : List ℕ) → first ∷ second ∷ rest ≡ kind_name k → kind_with first second ≡ k
begins kinds.Machine first second rest e = same_kind first second 109 97 (cc) (cc)
begins kinds.Tasks first second rest e = same_kind first second 116 97 (cc) (cc)
begins kinds.Phase first second rest e = same_kind first second 112 104 (cc) (cc)
begins kinds.Order first second rest e = same_kind first second 111 114 (cc) (cc)
begins kinds.Thread first second rest e = same_kind first second 116 104 (cc) (cc)
begins kinds.Mkdir first second rest e = same_kind first second 109 107 (cc) (cc)
begins kinds.Rmdir first second rest e = same_kind first second 114 109 (cc) (cc)
begins kinds.Write first second rest e = same_kind first second 119 114 (cc) (cc)
begins kinds.Read first second rest e = same_kind first second 114 101 (cc) (cc)
begins kinds.List first second rest e = same_kind first second 108 105 (cc) (cc)
begins kinds.Flush first second rest e = same_kind first second 102 108 (cc) (cc)
begins kinds.Tick first second rest e = same_kind first second 116 105 (cc) (cc)
begins kinds.Clflush first second rest e = same_kind first second 99 108 (cc) (cc)
begins kinds.Access first second rest e = same_kind first second 97 99 (cc) (cc)
begins kinds.Sweep first second rest e = same_kind first second 115 119 (cc) (cc)
begins kinds.Touch first second rest e = same_kind first second 116 111 (cc) (cc)

-- each name has two bytes
length-kind_name : (k : Kind) → 2 ≤ length (kind_name k)
length-kind_name kinds.Machine = omega arith
length-kind_name kinds.Tasks = omega arith
length-kind_name kinds.Phase = omega arith
length-kind_name kinds.Order = omega arith
length-kind_name kinds.Thread = omega arith
length-kind_name kinds.Mkdir = omega arith
length-kind_name kinds.Rmdir = omega arith
length-kind_name kinds.Write = omega arith
length-kind_name kinds.Read = omega arith
length-kind_name kinds.List = omega arith
length-kind_name kinds.Flush = omega arith
length-kind_name kinds.Tick = omega arith
length-kind_name kinds.Clflush = omega arith
length-kind_name kinds.Access = omega arith
length-kind_name kinds.Sweep = omega arith
length-kind_name kinds.Touch = omega arith

-- a word that is this kind's
pub kind_of-named : (word : List ℕ) (k : Kind) → is_text word (kind_name k) ≡ true → kind_of word ≡ Some k
kind_of-named word k e = subst (λ (w : List ℕ). kind_of w ≡ Some k) (sym (is_text-same word (kind_name k) e)) (kind_of-kind_name k)

-- a word that is the name of none
kind_of-none : (word : List ℕ) → ((k : Kind) → is_text word (kind_name k) ≡ false) → kind_of word ≡ None
kind_of-none word none = at (kind_of word) refl
  where
    at : (found : Option Kind) → kind_of word ≡ found → found ≡ None
    at None e = refl
    at (Some k) e = absurd (false≢true (sym (none k) ∙ Named-kind_of word k e))

-- a test that cannot pass
never : (b : Bool) → (b ≡ true → ⊥) → b ≡ false
never true h = absurd (h refl)
never false h = refl

-- a word of one byte or none
pub kind_of-short : (word : List ℕ) → length word < 2 → kind_of word ≡ None
kind_of-short word short = kind_of-none word (λ k. never (is_text word (kind_name k)) (λ is.
    let same : length word ≡ length (kind_name k) = ap length (is_text-same word (kind_name k) is) in
    absurd (omega (arith, length-kind_name k, same))))

-- a word that is not the name of the only kind that it can be
kind_of-other : (first second : ℕ) (rest : List ℕ) → is_text (first ∷ second ∷ rest) (kind_name (kind_with first second)) ≡ false → kind_of (first ∷ second ∷ rest) ≡ None
kind_of-other first second rest differ = kind_of-none (first ∷ second ∷ rest) (λ k. never (is_text (first ∷ second ∷ rest) (kind_name k)) (λ is.
    let kind : kind_with first second ≡ k = begins k first second rest (is_text-same (first ∷ second ∷ rest) (kind_name k) is) in
    let same : is_text (first ∷ second ∷ rest) (kind_name (kind_with first second)) ≡ true = ap (λ (k : Kind). is_text (first ∷ second ∷ rest) (kind_name k)) kind ∙ is in
    absurd (false≢true (sym differ ∙ same))))

-- the same by the places of the word's bytes
pub kind_of-apart : (word : List ℕ) (k : Kind) → 2 ≤ length word → k ≡ kind_with (get_or word 0 0) (get_or word 1 0) → is_text word (kind_name k) ≡ false → kind_of word ≡ None
kind_of-apart [] k long kind differ = absurd (omega arith)
kind_of-apart (first ∷ []) k long kind differ = absurd (omega arith)
kind_of-apart (first ∷ second ∷ rest) k long kind differ = kind_of-other first second rest (subst (λ (k : Kind). is_text (first ∷ second ∷ rest) (kind_name k) ≡ false) kind differ)
