-- Scripts of inputs that begin with whole lines.
use Rattle.std.proofs.Common.{◌≡◌, ℕ, ◌+◌, ◌-◌, ◌<◌, ◌≤◌, List, [], ◌∷◌, ◌++◌, length, take, drop, Option, Some, None, Result, Ok, Err, refl, sym, ap, subst, ◌∙◌, arith, append_assoc}
use Rattle.std.specs.Prelude.{IfOk, count_by, slice_index}
use Rattle.std.proofs.Math.Seq.{take-append-add}
use Rattle.std.proofs.lemmas.List.{length-append, take-append-drop, take-append-le, take_more}
use Rattle.check_parts.proofs.Divisions.{division_from-later, division_from-none, newline}
use Rattle.check_parts.specs.BadInputs.{script_bytes}
use Rattle.check_parts.specs.Beginnings.{FindsAnyFault, FindsBadLine, FindsFault, HasFault}
use Rattle.check_parts.specs.Division.{after_line, division_from, division_of, nothing_before, script_part}
use Rattle.check_parts.specs.declared.division.Division.{Division}
use Rattle.check_parts.specs.declared.form.Form.TheVariants.{Check}
use Rattle.journal_text.specs.Readings.{parts_of}
use Rattle.rc_base.specs.Texts.{is_text}
use Rattle.script_lines.specs.declared.fault.ScriptFault.{ScriptFault}
use Rattle.script_text.specs.Reading.{script_of}
use Rattle.check_parts.proofs.BeginningDivisions.{bytes-passed, division_from-after, division_from-append, division_from-front, division_from-none_front, parts_len-slice_split, passed}
use Rattle.check_parts.proofs.BeginningLines.{script_of-bad, slice_split-append}

-- ---- scripts

module _ (head more : List ℕ) where
  -- whole lines with no line of journals, and more
  parts-more : parts_of (head ++ 10 ∷ more) ≡ parts_of head ++ parts_of more
  parts-more = slice_split-append newline head more 10 refl

  none-head : division_of (head ++ 10 ∷ []) ≡ None → division_from nothing_before (parts_of head) ≡ None
  none-head none = division_from-none_front nothing_before (parts_of head) ([] ∷ []) (ap (division_from nothing_before) (sym (slice_split-append newline head [] 10 refl)) ∙ none)

  -- the script's part begins with them
  script_bytes-begins : division_of (head ++ 10 ∷ []) ≡ None → (rest : List ℕ) × (script_bytes Check (head ++ 10 ∷ more) ≡ head ++ 10 ∷ rest)
  script_bytes-begins none = by (division_of (head ++ 10 ∷ more)) refl
    where
      by : (o : Option Division) → division_of (head ++ 10 ∷ more) ≡ o → (rest : List ℕ) × (script_bytes Check (head ++ 10 ∷ more) ≡ head ++ 10 ∷ rest)
      by None is = (more, ap (λ (o : Option Division). script_part o (head ++ 10 ∷ more)) is)
      by (Some d) is =
          let whole : division_from (passed nothing_before (parts_of head)) (parts_of more) ≡ Some d =
          sym (division_from-append nothing_before (parts_of head) (parts_of more) (none-head none)) ∙ (sym (ap (division_from nothing_before) parts-more) ∙ is) in
          let past = division_from-after (passed nothing_before (parts_of head)) d (parts_of more) whole in
          let n = d.bytes - length (head ++ 10 ∷ []) in
          let far : length (head ++ 10 ∷ []) + n ≡ d.bytes = omega (arith, past, bytes-passed nothing_before (parts_of head), parts_len-slice_split head, length-append head (10 ∷ [])) in
          let split : (head ++ 10 ∷ []) ++ more ≡ head ++ 10 ∷ more = append_assoc head (10 ∷ []) more in (
            take n more,
            ap (λ (o : Option Division). script_part o (head ++ 10 ∷ more)) is
                ∙ (ap (λ (k : ℕ). take k (head ++ 10 ∷ more)) (sym far)
                ∙ (ap (take (length (head ++ 10 ∷ []) + n)) (sym split)
                ∙ (take-append-add (head ++ 10 ∷ []) more n ∙ append_assoc head (10 ∷ []) (take n more)))),
          )

  -- a bad line of these whole lines
  pub script_of-begins : (fault : ScriptFault) → division_of (head ++ 10 ∷ []) ≡ None → script_of (head ++ 10 ∷ []) ≡ Err fault → fault.line ≤ count_by newline (head ++ 10 ∷ []) → script_of (script_bytes Check (head ++ 10 ∷ more)) ≡ Err fault
  script_of-begins fault none bad early =
      let part = script_bytes-begins none in
      ap script_of part.1 ∙ script_of-bad head part.0 fault bad early

  -- a script that is whole
  pub script_of-whole : (d : Division) (fault : ScriptFault) → division_of (head ++ 10 ∷ []) ≡ Some d → d.bytes ≤ length (head ++ 10 ∷ []) → script_of (script_part (Some d) (head ++ 10 ∷ [])) ≡ Err fault → script_of (script_bytes Check (head ++ 10 ∷ more)) ≡ Err fault
  unfolding is_text
  script_of-whole d fault some within bad =
      let own : division_from nothing_before (parts_of head) ≡ Some d = by_front (division_from nothing_before (parts_of head)) refl in
      let whole : division_of (head ++ 10 ∷ more) ≡ Some d = ap (division_from nothing_before) parts-more ∙ division_from-front nothing_before d (parts_of head) (parts_of more) own in
      let split : (head ++ 10 ∷ []) ++ more ≡ head ++ 10 ∷ more = append_assoc head (10 ∷ []) more in
      let text : script_bytes Check (head ++ 10 ∷ more) ≡ take d.bytes (head ++ 10 ∷ []) =
      ap (λ (o : Option Division). script_part o (head ++ 10 ∷ more)) whole ∙ (ap (take d.bytes) (sym split) ∙ take-append-le d.bytes (head ++ 10 ∷ []) more within) in
      ap script_of text ∙ bad
    where
      -- an empty last line is not that of journals
      by_front : (o : Option Division) → division_from nothing_before (parts_of head) ≡ o → division_from nothing_before (parts_of head) ≡ Some d
      by_front (Some e) is = (let more_of = division_from-front nothing_before e (parts_of head) ([] ∷ []) is in let all = ap (division_from nothing_before) (slice_split-append newline head [] 10 refl) in let same : Some e ≡ Some d = sym more_of ∙ (sym all ∙ some) in is ∙ same)
      by_front None is =
          absurd (let rest = division_from-append nothing_before (parts_of head) ([] ∷ []) is in
          let last = division_from-later (passed nothing_before (parts_of head)) [] [] refl in
          let none = division_from-none (after_line (passed nothing_before (parts_of head)) []) in
          let all = ap (division_from nothing_before) (slice_split-append newline head [] 10 refl) in
          let wrong : None ≡ Some d = sym none ∙ (sym last ∙ (sym rest ∙ (sym all ∙ some))) in cc)

-- ---- so many bytes, of which the last is a newline

module _ (bytes : List ℕ) (end : ℕ) (some : 0 < end) (within : end ≤ length bytes) (is : slice_index bytes (end - 1) ≡ 10) where
  -- the bytes before that newline
  abbrev front : List ℕ
  front = take (end - 1) bytes

  take-whole : take end bytes ≡ front ++ 10 ∷ []
  take-whole =
      let one : end - 1 + 1 ≡ end = omega (arith, some) in
      ap (λ (n : ℕ). take n bytes) (sym one) ∙ (take_more bytes (end - 1) 0 (omega (arith, some, within)) ∙ ap (λ (b : ℕ). front ++ b ∷ []) is)

  bytes-more : (more : List ℕ) → bytes ++ more ≡ front ++ 10 ∷ (drop end bytes ++ more)
  bytes-more more =
      ap (λ (bs : List ℕ). bs ++ more) (sym (take-append-drop end bytes))
      ∙ (append_assoc (take end bytes) (drop end bytes) more
      ∙ (ap (λ (bs : List ℕ). bs ++ (drop end bytes ++ more)) take-whole ∙ append_assoc front (10 ∷ []) (drop end bytes ++ more)))

  -- a bad line of a script that may go on
  HasFault-line : (fault : ScriptFault) → division_of (take end bytes) ≡ None → script_of (take end bytes) ≡ Err fault → fault.line ≤ count_by newline (take end bytes) → HasFault bytes fault
  HasFault-line fault none bad early = λ more.
      ap (λ (bs : List ℕ). script_of (script_bytes Check bs)) (bytes-more more)
      ∙ script_of-begins front (drop end bytes ++ more) fault (subst (λ (t : List ℕ). division_of t ≡ None) take-whole none) (subst (λ (t : List ℕ). script_of t ≡ Err fault) take-whole bad)
      (subst (λ (t : List ℕ). fault.line ≤ count_by newline t) take-whole early)

  -- a fault of a script that is over
  HasFault-whole : (d : Division) (fault : ScriptFault) → division_of (take end bytes) ≡ Some d → d.bytes ≤ length (take end bytes) → script_of (script_part (Some d) (take end bytes)) ≡ Err fault → HasFault bytes fault
  HasFault-whole d fault divides inside bad = λ more.
      ap (λ (bs : List ℕ). script_of (script_bytes Check bs)) (bytes-more more)
      ∙ script_of-whole front (drop end bytes ++ more) d fault (subst (λ (t : List ℕ). division_of t ≡ Some d) take-whole divides) (subst (λ (t : List ℕ). d.bytes ≤ length t) take-whole inside)
      (subst (λ (t : List ℕ). script_of (script_part (Some d) t) ≡ Err fault) take-whole bad)

  -- what was found of it
  pub FindsFault-line : {E : Type 0} (r : Result (Option ScriptFault) E) → division_of (take end bytes) ≡ None → IfOk r (λ found. FindsBadLine (take end bytes) found) → IfOk r (λ found. FindsFault bytes found)
  FindsFault-line (Ok (Some fault)) none found = HasFault-line fault none found.0 found.1
  FindsFault-line (Ok None) none found = tt
  FindsFault-line (Err error) none found = tt

  pub FindsFault-whole : {E : Type 0} (d : Division) (r : Result (Option ScriptFault) E) → division_of (take end bytes) ≡ Some d → d.bytes ≤ length (take end bytes) → IfOk r (λ found. FindsAnyFault (script_part (Some d) (take end bytes)) found) → IfOk r (λ found. FindsFault bytes found)
  FindsFault-whole d (Ok (Some fault)) divides inside found = HasFault-whole d fault divides inside found
  FindsFault-whole d (Ok None) divides inside found = tt
  FindsFault-whole d (Err error) divides inside found = tt
