-- What is kept of slices that were judged, with one slice more, and with all that are left.
use Rattle.std.proofs.Common.{◌≡◌, ℕ, ◌+◌, ◌-◌, ◌≤◌, inl, inr, List, [], ◌∷◌, ◌++◌, length, take, Option, Some, None, refl, sym, ap, ◌∙◌, subst, arith}
use Rattle.std.proofs.lemmas.Bool.{cases_lt}
use Rattle.std.proofs.lemmas.List.{get_or-append-add, get_or-append_right, get_or-take, get_or_append_left, get_or_past, length-append, length-take-le, length_push, take-append-le, take_all}
use Rattle.cache_core.specs.declared.entry.SliceEntry.{SliceEntry}
use Rattle.check_parts.proofs.SliceParts.{IsFound-both, IsFound-same}
use Rattle.check_parts.proofs.SliceRooms.{entries_in-push}
use Rattle.check_parts.specs.CrowdedSlices.{HasMoreEntries}
use Rattle.check_parts.specs.JudgedSlices.{AreJudged, AreLooks, AreParts, HaveLooks, IsFound, IsJudged, IsSoFar, earlier_of, entries_at, found_so_far, journals_of, looks_in, looks_so_far}
use Rattle.check_parts.specs.declared.judged_slices.JudgedSlices.{JudgedSlices}
use Rattle.journal_check.specs.declared.verdict.Clause.{Clause}
use Rattle.run_law.specs.TreeHistory.{TreeEntryValue}
use Rattle.script_ops.specs.Values.{ScriptValue}

-- slices that have more entries than the script weighs still do
pub HasMoreEntries-push : (script : ScriptValue) (slices : List (List SliceEntry)) (es : List SliceEntry) → HasMoreEntries script slices → HasMoreEntries script (slices ++ es ∷ [])
HasMoreEntries-push script slices es more = omega (arith, more, entries_in-push slices es)

-- a place within two lists, with one more at the end of both
entries_at-push : (one two : List (List SliceEntry)) (es : List SliceEntry) (i : ℕ) → length one ≡ length two → entries_at one i ≡ entries_at two i → entries_at (one ++ es ∷ []) i ≡ entries_at (two ++ es ∷ []) i
entries_at-push one two es i same here = elim (cases_lt i (length one)) [
  | inl within ↦ get_or_append_left one (es ∷ []) [] i within ∙ (here ∙ sym (get_or_append_left two (es ∷ []) [] i (omega (arith, within, same))))
  | inr past ↦ get_or-append_right one (es ∷ []) (length one) i [] refl past
      ∙ (ap (λ n. entries_at (es ∷ []) (i - n)) same ∙ sym (get_or-append_right two (es ∷ []) (length two) i [] refl (omega (arith, past, same))))
]

-- ---- first looks

module _ (script : ScriptValue) (all looks : List (List SliceEntry)) where
  -- looks of the slices before a place are those of them with more slices
  pub AreLooks-push : (n : ℕ) (es : List SliceEntry) → n ≤ length all → AreLooks script all n looks → AreLooks script (all ++ es ∷ []) n looks
  AreLooks-push n es few are = record {
    count = are.count;
    have = λ i below. subst (λ (entries : List SliceEntry). HaveLooks script entries (entries_at looks i)) (sym (get_or_append_left all (es ∷ []) [] i (omega (arith, below, few)))) (are.have i below);
  }

  -- looks of one slice more
  pub AreLooks-more : (n : ℕ) (more : List SliceEntry) → AreLooks script all n looks → HaveLooks script (entries_at all n) more → AreLooks script all (n + 1) (looks ++ more ∷ [])
  AreLooks-more n more are have =
      let count = are.count in
      record {
        count = omega (arith, length_push looks more, count);
        have = λ i below. elim (cases_lt i n) [
          | inl before ↦ subst (HaveLooks script (entries_at all i)) (sym (get_or_append_left looks (more ∷ []) [] i (omega (arith, before, count)))) (are.have i before)
          | inr last ↦ (let at : i ≡ n = omega (arith, below, last) in
              let end : length looks + 0 ≡ n = omega (arith, count) in
              let own : entries_at (looks ++ more ∷ []) n ≡ more = subst (λ k. entries_at (looks ++ more ∷ []) k ≡ more) end (get_or-append-add looks (more ∷ []) 0 []) in
              subst (λ k. HaveLooks script (entries_at all k) (entries_at (looks ++ more ∷ []) k)) (sym at) (subst (HaveLooks script (entries_at all n)) (sym own) have))
        ];
      }

  -- looks of all slices are those at each place
  pub HaveLooks-all : AreLooks script all (length all) looks → (i : ℕ) → HaveLooks script (entries_at all i) (entries_at looks i)
  HaveLooks-all are i = elim (cases_lt i (length all)) [
    | inl below ↦ are.have i below
    | inr past ↦ (let count = are.count in
        let none : entries_at looks i ≡ [] = get_or_past looks i [] (omega (arith, past, count)) in
        let none_too : entries_at all i ≡ [] = get_or_past all i [] past in
        subst (λ (es : List SliceEntry). HaveLooks script es (entries_at looks i)) (sym none_too) (subst (HaveLooks script []) (sym none) (λ t o rmid some. refl)))
  ]

-- ---- what is kept

module _ (script : ScriptValue) (judged : JudgedSlices) (tree : List TreeEntryValue) (all left : List (List SliceEntry)) (is : IsJudged script judged tree all left) where
  -- one slice more, which is left
  pub IsJudged-push : (es : List SliceEntry) → length left ≡ length all → IsJudged script judged tree (all ++ es ∷ []) (left ++ es ∷ [])
  IsJudged-push es same =
      let few = is.few in
      record {
        place = is.place;
        few = omega (arith, few, length-append all (es ∷ []));
        gone = λ i below. get_or_append_left left (es ∷ []) [] i (omega (arith, below, few, same)) ∙ is.gone i below;
        rest = λ i past. entries_at-push left all es i same (is.rest i past);
        found = subst (λ (slices : List (List SliceEntry)). IsFound script (journals_of tree slices) judged.found) (sym (take-append-le is.place all (es ∷ []) few)) is.found;
        looks = λ none. AreLooks-push script all (looks_in judged) is.place es few (is.looks none);
      }

  -- what was judged and what is left are parts of all
  AreParts-judged : AreParts all (take is.place all) left
  AreParts-judged i = elim (cases_lt i is.place) [
    | inl below ↦ inl (get_or-take is.place all i [] below, is.gone i below)
    | inr past ↦ inr (get_or_past (take is.place all) i [] (omega (arith, past, length-take-le is.place all is.few)), is.rest i past)
  ]

  -- it is of other slices that have the same left
  IsJudged-same : (other : List (List SliceEntry)) → ((i : ℕ) → entries_at other i ≡ entries_at left i) → IsJudged script judged tree all other
  IsJudged-same other same = record {
    place = is.place;
    few = is.few;
    gone = λ i below. same i ∙ is.gone i below;
    rest = λ i past. same i ∙ is.rest i past;
    found = is.found;
    looks = is.looks;
  }

module _ (script : ScriptValue) (tree : List TreeEntryValue) (all left : List (List SliceEntry)) where
  -- what is found of all, by what was found so far and what is found of the rest
  pub IsFound-so_far : (judged : Option JudgedSlices) (found : Option Clause) → IsSoFar script judged tree all left → IsFound script (journals_of tree left) found → IsFound script (journals_of tree all) (earlier_of (found_so_far judged) found)
  IsFound-so_far None found same here = IsFound-same script tree all left same found here
  IsFound-so_far (Some judged) found is here = IsFound-both script tree all (take is.place all) left (AreParts-judged script judged tree all left is) judged.found found is.found here

  -- the looks so far, where no clause was found, are of the slices before a place, and the others are left
  pub looks-so_far : (judged : Option JudgedSlices) → found_so_far judged ≡ None → IsSoFar script judged tree all left
      → (n : ℕ) × (n ≤ length all) × AreLooks script all n (looks_so_far judged) × ((i : ℕ) → n ≤ i → entries_at left i ≡ entries_at all i)
  looks-so_far None none same = (0, omega arith, record { count = refl; have = λ i below. absurd (omega (arith, below)) }, λ i past. same i)
  looks-so_far (Some judged) none is = (is.place, is.few, is.looks none, is.rest)

  -- so far is of other slices that have the same left
  pub IsSoFar-same : (judged : Option JudgedSlices) (other : List (List SliceEntry)) → ((i : ℕ) → entries_at other i ≡ entries_at left i) → IsSoFar script judged tree all left → IsSoFar script judged tree all other
  IsSoFar-same None other same is = λ i. same i ∙ is i
  IsSoFar-same (Some judged) other same is = IsJudged-same script judged tree all left is other same

-- nothing has to be left of slices that were all judged
pub IsJudged-all : (script : ScriptValue) (judged : JudgedSlices) (tree : List TreeEntryValue) (all left : List (List SliceEntry)) → ((i : ℕ) → entries_at left i ≡ []) → AreJudged script judged tree all → IsJudged script judged tree all left
IsJudged-all script judged tree all left gone are = record {
  place = length all;
  few = omega arith;
  gone = λ i below. gone i;
  rest = λ i past. gone i ∙ sym (get_or_past all i [] past);
  found = subst (λ (slices : List (List SliceEntry)). IsFound script (journals_of tree slices) judged.found) (sym (take_all (length all) all (omega arith))) are.found;
  looks = are.looks;
}
