-- What a call passes on: what was handed out of a source's bytes, and how much of it the sink took.
use Rattle.std.proofs.Common.{◌≡◌, ℕ, suc, ◌+◌, ◌<◌, List, [], ◌∷◌, ◌++◌, length, take, drop, get_or, Option, refl, sym, ap, subst, ◌∙◌, append_assoc, arith}
use Rattle.std.proofs.KnownBytes.{Appends-nil, Appends-trans}
use Rattle.std.proofs.Math.Seq.{take-suc}
use Rattle.std.proofs.lemmas.List.{append-nil, take-append-drop}
use Rattle.std.specs.Io.KnownBytes.{Appends}
use Rattle.call_rim.specs.Outside.{AppendsSome}
use Rattle.call_rim.specs.Passing.{IsCut, IsHanded, IsHandedLast, Moves}

-- nothing is taken, and all waits
pub Moves-none : (taken : Option (List ℕ)) (waiting : List ℕ) → Moves taken taken waiting waiting
Moves-none taken waiting = record { part = []; split = refl; appended = Appends-nil taken }

-- all is taken, and nothing waits
pub Moves-all : (taken now : Option (List ℕ)) (waiting left : List ℕ) → left ≡ [] → Appends taken now waiting → Moves taken now waiting left
Moves-all taken now waiting left none all = record { part = waiting; split = sym (ap (λ (l : List ℕ). waiting ++ l) none ∙ append-nil waiting); appended = all }

-- a beginning of a text, after what was taken before
pub AppendsSome-after : (start before now : Option (List ℕ)) (written text : List ℕ) → Appends start before written → AppendsSome before now text → AppendsSome start now (written ++ text)
AppendsSome-after start before now written text first (given, rest, split, more) =
    (written ++ given, rest, append_assoc written given rest ∙ ap (λ (l : List ℕ). written ++ l) split, Appends-trans start before now written given first more)

-- the bytes before a place of a piece, the byte there, and those after it
pub piece-at : (bytes piece : List ℕ) (n : ℕ) → n < length piece → ((bytes ++ take n piece) ++ get_or piece n 0 ∷ []) ++ drop (n + 1) piece ≡ bytes ++ piece
piece-at bytes piece n within =
    let one = get_or piece n 0 ∷ [] in
    let more : n + 1 ≡ suc n = omega arith in
    let next : take (n + 1) piece ≡ take n piece ++ one = ap (λ (k : ℕ). take k piece) more ∙ take-suc piece n 0 within in
    ap (λ (l : List ℕ). l ++ drop (n + 1) piece) (append_assoc bytes (take n piece) one ∙ ap (λ (l : List ℕ). bytes ++ l) (sym next))
    ∙ (append_assoc bytes (take (n + 1) piece) (drop (n + 1) piece) ∙ ap (λ (l : List ℕ). bytes ++ l) (take-append-drop (n + 1) piece))

module _ (has_passed due : List ℕ → List ℕ → Type 0) (start taken now : Option (List ℕ)) (bytes waiting : List ℕ) (handed : IsHanded has_passed due start taken bytes waiting) where
  -- the sink takes the front of what waits
  pub IsHanded-moves : (left : List ℕ) → Moves taken now waiting left → IsHanded has_passed due start now bytes left
  IsHanded-moves left moves =
      let same : handed.written ++ waiting ≡ (handed.written ++ moves.part) ++ left =
      ap (λ (l : List ℕ). handed.written ++ l) moves.split ∙ sym (append_assoc handed.written moves.part left) in
      record {
        written = handed.written ++ moves.part;
        appended = Appends-trans start taken now handed.written moves.part handed.appended moves.appended;
        passed = subst (λ (text : List ℕ). has_passed bytes text) same handed.passed;
        is_due = subst (λ (text : List ℕ). due bytes text) same handed.is_due;
      }

  -- the sink fails, and takes a beginning of it
  pub IsCut-failed : AppendsSome taken now waiting → IsCut due start now bytes
  IsCut-failed some = record {
    first = bytes;
    later = [];
    text = handed.written ++ waiting;
    split = append-nil bytes;
    is_due = handed.is_due;
    some = AppendsSome-after start taken now handed.written waiting handed.appended some;
  }

-- bytes after those of which the sink took too little
pub IsCut-more : (due : List ℕ → List ℕ → Type 0) (start now : Option (List ℕ)) (bytes rest all : List ℕ) → bytes ++ rest ≡ all → IsCut due start now bytes → IsCut due start now all
IsCut-more due start now bytes rest all same cut = record {
  first = cut.first;
  later = cut.later ++ rest;
  text = cut.text;
  split = sym (append_assoc cut.first cut.later rest) ∙ (ap (λ (l : List ℕ). l ++ rest) cut.split ∙ same);
  is_due = cut.is_due;
  some = cut.some;
}

-- bytes after those that are refused
pub IsHandedLast-more : (refuses : List ℕ → List ℕ → Type 0) (start now : Option (List ℕ)) (bytes rest all waiting : List ℕ) → bytes ++ rest ≡ all
    → IsHandedLast refuses start now bytes waiting → IsHandedLast refuses start now all waiting
IsHandedLast-more refuses start now bytes rest all waiting same last = record {
  written = last.written;
  appended = last.appended;
  refused = λ more. subst (λ (bs : List ℕ). refuses bs (last.written ++ waiting)) (sym (append_assoc bytes rest more) ∙ ap (λ (l : List ℕ). l ++ more) same) (last.refused (rest ++ more));
}
