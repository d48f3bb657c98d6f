-- The escapes of a written text read back.
use Rattle.std.proofs.Common.{◌≡◌, ℕ, Bool, true, false, cond, eqb, not, ◌||◌, List, [], ◌∷◌, ◌++◌, Some, refl, sym, ap, ◌∙◌}
use Rattle.std.specs.Prelude.{option_map}
use Rattle.std.specs.List.{flat_map, list_all, list_any}
use Rattle.std.proofs.lemmas.Bool.{and_parts, eqb-true}
use Rattle.std.proofs.lemmas.List.Folds.{list_any-append}
use Rattle.line_words.specs.Lines.{is_bad}
use Rattle.script_lines.specs.Escapes.{unescaped}
use Rattle.script_ops.specs.Canonical.{escaped, text_after}
use Rattle.plan_reading.specs.GroupWrites.{is_text_byte}

-- a byte that is no backslash stands for itself
unescaped-plain : (b : ℕ) (rest : List ℕ) → eqb b 92 ≡ false → unescaped (b ∷ rest) ≡ option_map (λ (bytes : List ℕ). b ∷ bytes) (unescaped rest)
unfolding unescaped
unescaped-plain b [] other = rw other refl
unescaped-plain b (c ∷ rest) other = rw other refl

-- a text that was escaped
pub unescaped-flat_map : (text : List ℕ) → unescaped (flat_map escaped text) ≡ Some text
unfolding unescaped
unescaped-flat_map [] = refl
unescaped-flat_map (b ∷ bs) = at (eqb b 10) (eqb b 92) refl refl (unescaped-flat_map bs)
  where
    at : (newline backslash : Bool) → eqb b 10 ≡ newline → eqb b 92 ≡ backslash → unescaped (flat_map escaped bs) ≡ Some bs
        → unescaped (cond newline (92 ∷ 110 ∷ []) (cond backslash (92 ∷ 92 ∷ []) (b ∷ [])) ++ flat_map escaped bs) ≡ Some (b ∷ bs)
    at true backslash n e again = ap (option_map (λ (bytes : List ℕ). 10 ∷ bytes)) again ∙ ap (λ (c : ℕ). Some (c ∷ bs)) (sym (eqb-true b 10 n))
    at false true n e again = ap (option_map (λ (bytes : List ℕ). 92 ∷ bytes)) again ∙ ap (λ (c : ℕ). Some (c ∷ bs)) (sym (eqb-true b 92 e))
    at false false n e again = unescaped-plain b (flat_map escaped bs) e ∙ ap (option_map (λ (bytes : List ℕ). b ∷ bytes)) again

-- a byte that is escaped is no bad one
list_any-escaped : (b : ℕ) → is_text_byte b ≡ true → list_any is_bad (escaped b) ≡ false
list_any-escaped b is = at (eqb b 10) (eqb b 92) (is_bad b) refl is
  where
    at : (newline backslash bad : Bool) → is_bad b ≡ bad → (newline || not bad) ≡ true → list_any is_bad (cond newline (92 ∷ 110 ∷ []) (cond backslash (92 ∷ 92 ∷ []) (b ∷ []))) ≡ false
    at true backslash bad e h = refl
    at false true bad e h = refl
    at false false true e h = absurd cc
    at false false false e h = rw e refl

-- so it is of a text
pub list_any-flat_map_escaped : (text : List ℕ) → list_all is_text_byte text ≡ true → list_any is_bad (flat_map escaped text) ≡ false
list_any-flat_map_escaped [] all = refl
list_any-flat_map_escaped (b ∷ bs) all =
    let both = and_parts (is_text_byte b) (list_all is_text_byte bs) all in
    list_any-append is_bad (escaped b) (flat_map escaped bs) ∙ rw (list_any-escaped b both.0, list_any-flat_map_escaped bs both.1) refl

-- and of a text after its path
pub list_any-text_after : (text : List ℕ) → list_all is_text_byte text ≡ true → list_any is_bad (text_after text) ≡ false
list_any-text_after [] all = refl
list_any-text_after (b ∷ bs) all = list_any-flat_map_escaped (b ∷ bs) all
