-- The numbers of names: what one more does.
use Rattle.std.proofs.Common.{◌≡◌, ℕ, Bool, true, false, cond, not, List, Option, Global, Vec, refl, sym, ap, subst, ◌∙◌}
use Rattle.std.specs.BTreeMap.{BTreeMap, UpdatesBy, get_by}
use Rattle.std.specs.Cmp.{eq_by_cmp_equiv}
use Rattle.std.specs.Cmp.Lexicographic.{slice_cmp}
use Rattle.std.specs.Map.{lookup, IsKeyTest, AreApart, KeepsOthers}
use Rattle.std.specs.Ordering.{is_eq, nat_cmp}
use Rattle.std.specs.Str.{bytes_eq}
use Rattle.std.proofs.lemmas.Cmp.{nat_list_cmp_total}
use Rattle.std.proofs.lemmas.Map.Text.{is_eq-slice_cmp}
use Rattle.std.proofs.lemmas.Slice.Eq.{bytes_eq-Decides}
use Rattle.path_names.specs.NameKeys.{has_key, key_of}
use Rattle.path_names.proofs.NameKeys.{is_eq-key_of}
use Rattle.path_names.proofs.NameTable.{IsEquivalence-bytes_eq}

-- a map of short names
abbrev ShortMap : Type 0
ShortMap = BTreeMap ℕ ℕ

-- a map of long names
abbrev LongMap : Type 0
LongMap = BTreeMap (Vec ℕ Global) ℕ

-- the number in a map of short names
abbrev at_key : ShortMap → List ℕ → Option ℕ
at_key short name = get_by (nat_cmp (key_of name)) short

-- the number in a map of long names
abbrev at_bytes : LongMap → List ℕ → Option ℕ
at_bytes long name = get_by (λ (key : Vec ℕ Global). slice_cmp nat_cmp name key.items) long

-- the number in the map where it would be
abbrev at_name : ShortMap → LongMap → List ℕ → Option ℕ
at_name short long name = cond (has_key name) (at_key short name) (at_bytes long name)

module _ {K X : Type 0} (eq : K → K → Bool) (test : K → Bool) where
  -- what another test finds stays
  lookup-others : (old new : List (K × X)) → KeepsOthers eq test old new → (other : K → Bool) → IsKeyTest eq other → AreApart test other → lookup other new ≡ lookup other old
  unfolding KeepsOthers
  lookup-others old new h = h

-- no key is two names
apart : (name other key : List ℕ) → bytes_eq name other ≡ false → is_eq (slice_cmp nat_cmp name key) ≡ true → is_eq (slice_cmp nat_cmp other key) ≡ false
apart name other key differ same =
    let at : bytes_eq name key ≡ true = sym (is_eq-slice_cmp name key) ∙ same in
    is_eq-slice_cmp other key ∙ IsEquivalence-bytes_eq.symm other key ∙ sym (IsEquivalence-bytes_eq.congr name key other at) ∙ differ

-- the number of any name in the map of long names, after one was given this number
at_bytes-updates : (name : List ℕ) (old new : LongMap) (number : Option ℕ)
    → UpdatesBy (λ (x y : Vec ℕ Global). slice_cmp nat_cmp x.items y.items) (λ (key : Vec ℕ Global). slice_cmp nat_cmp name key.items) old new number
    → (other : List ℕ) → at_bytes new other ≡ cond (bytes_eq name other) number (at_bytes old other)
at_bytes-updates name old new number h other = at (bytes_eq name other) refl
  where
    at : (b : Bool) → bytes_eq name other ≡ b → at_bytes new other ≡ cond b number (at_bytes old other)
    at true same = subst (λ (text : List ℕ). at_bytes new text ≡ number) ((bytes_eq-Decides name other).0 same) h.1
    at false differ = lookup-others _ _ _ _ h.3 _ (λ x y. (eq_by_cmp_equiv nat_list_cmp_total).congr other x.items y.items) (λ key. apart name other key.items differ)

-- no test answers both
b-not : (b : Bool) → b ≡ not b → ⊥
b-not true e = cc
b-not false e = cc

-- a name that another map would have is another name
bytes_eq-elsewhere : (name other : List ℕ) (b : Bool) → has_key name ≡ b → has_key other ≡ not b → bytes_eq name other ≡ false
bytes_eq-elsewhere name other b here there = at (bytes_eq name other) refl
  where
    at : (same : Bool) → bytes_eq name other ≡ same → same ≡ false
    at true same = absurd (b-not b (sym here ∙ ap has_key ((bytes_eq-Decides name other).0 same) ∙ there))
    at false same = refl

-- the number of any name after a short one was given this number
pub at_name-short : (name : List ℕ) (old new : ShortMap) (long : LongMap) (number : Option ℕ) → has_key name ≡ true → UpdatesBy nat_cmp (nat_cmp (key_of name)) old new number
    → (other : List ℕ) → at_name new long other ≡ cond (bytes_eq name other) number (at_name old long other)
at_name-short name old new long number keyed h other = at (has_key other) refl
  where
    at : (b : Bool) → has_key other ≡ b → cond b (at_key new other) (at_bytes long other) ≡ cond (bytes_eq name other) number (cond b (at_key old other) (at_bytes long other))
    at true there = h.0 (key_of other) ∙ ap (λ (b : Bool). cond b number (at_key old other)) (is_eq-key_of name other keyed there)
    at false there = rw (bytes_eq-elsewhere name other true keyed there) refl

-- the number of any name after a long one was given this number
pub at_name-long : (name : List ℕ) (short : ShortMap) (old new : LongMap) (number : Option ℕ) → has_key name ≡ false
    → UpdatesBy (λ (x y : Vec ℕ Global). slice_cmp nat_cmp x.items y.items) (λ (key : Vec ℕ Global). slice_cmp nat_cmp name key.items) old new number
    → (other : List ℕ) → at_name short new other ≡ cond (bytes_eq name other) number (at_name short old other)
at_name-long name short old new number keyed h other = at (has_key other) refl
  where
    at : (b : Bool) → has_key other ≡ b → cond b (at_key short other) (at_bytes new other) ≡ cond (bytes_eq name other) number (cond b (at_key short other) (at_bytes old other))
    at true there = rw (bytes_eq-elsewhere name other false keyed there) refl
    at false there = at_bytes-updates name old new number h other
