-- The bytes of components.
use Rattle.std.proofs.Common.{◌≡◌, ℕ, ◌<◌, Bool, true, false, List, [], ◌∷◌, length, refl, arith, leb}
use Rattle.std.specs.List.{list_all, list_any}
use Rattle.std.proofs.lemmas.Bool.{and_parts, leb-true, le-ltb, ne_eqb}
use Rattle.num_text.specs.Blanks.{is_blank}
use Rattle.line_words.specs.Lines.{is_bad}
use Rattle.path_names.specs.Components.{is_component, is_visible}

-- what no visible byte is, no byte of a component is
pub list_any-component : (q : ℕ → Bool) → ((b : ℕ) → is_visible b ≡ true → q b ≡ false) → (name : List ℕ) → is_component name ≡ true → list_any q name ≡ false
unfolding is_component
list_any-component q none name is = go name (and_parts _ _ (and_parts _ _ is).0).1
  where
    go : (bytes : List ℕ) → list_all is_visible bytes ≡ true → list_any q bytes ≡ false
    go [] all = refl
    go (b ∷ bs) all = let both = and_parts (is_visible b) (list_all is_visible bs) all in rw (none b both.0) (go bs both.1)

-- a component has some byte
pub some-component : (name : List ℕ) → is_component name ≡ true → 0 < length name
unfolding is_component
some-component name is = let one = leb-true 1 (length name) (and_parts _ _ (and_parts _ _ (and_parts _ _ is).0).0).0 in omega (arith, one)

-- no visible byte is a blank, or a bad byte
pub is_blank-visible : (b : ℕ) → is_visible b ≡ true → is_blank b ≡ false
is_blank-visible b is =
    let low = leb-true 33 b (and_parts (leb 33 b) (leb b 126) is).0 in
    rw (ne_eqb b 32 (λ e. absurd (omega (arith, e, low))), ne_eqb b 9 (λ e. absurd (omega (arith, e, low)))) refl

pub is_bad-visible : (b : ℕ) → is_visible b ≡ true → is_bad b ≡ false
is_bad-visible b is =
    let both = and_parts (leb 33 b) (leb b 126) is in
    let low = leb-true 33 b both.0 in
    let high = leb-true b 126 both.1 in
    rw (le-ltb b 32 (omega (arith, low)), le-ltb 126 b (omega (arith, high))) refl
