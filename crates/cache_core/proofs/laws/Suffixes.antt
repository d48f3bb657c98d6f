-- What places hold after a list of entries, read from its end: a place holds what its last fill put there.
use Rattle.std.proofs.Common.{◌≡◌, ℕ, Bool, true, false, cond, List, [], ◌∷◌, ◌++◌, Option, Some, None, refl, sym, ap, ◌∙◌}
use Rattle.std.specs.Prelude.{option_and_then, option_map, is_some}
use Rattle.std.specs.Option.{option_or}
use Rattle.cache_core.specs.declared.entry.SliceEntry.{SliceEntry}
use Rattle.cache_core.specs.declared.entry.What.{What}
use Rattle.cache_core.specs.declared.entry.What.TheVariants.{Access, Raise, Flush, Lock, Look, Drop}
use Rattle.cache_core.specs.Filled.{empties}
use Rattle.cache_core.specs.Fills.{Resident}
use Rattle.cache_core.specs.History.{Shape, decided, decides, held, last_such, left_by}
use Rattle.lists.proofs.Options.{option_or-assoc}

-- ---- choices

-- an option or none
option_or-none : {X : Type 0} (o : Option X) → option_or o None ≡ o
option_or-none None = refl
option_or-none (Some x) = refl

-- ---- the last entry that passes a test

-- of two lists
pub last_such-append : (p : SliceEntry → Bool) (xs ys : List SliceEntry) → last_such p (xs ++ ys) ≡ option_or (last_such p ys) (last_such p xs)
last_such-append p [] ys = sym (option_or-none (last_such p ys))
last_such-append p (x ∷ xs) ys =
    ap (λ o. option_or o (cond (p x) (Some x) None)) (last_such-append p xs ys) ∙ option_or-assoc (last_such p ys) (last_such p xs) (cond (p x) (Some x) None)

-- where one of the later list passes, the earlier one adds nothing
pub last_such-append_later : (p : SliceEntry → Bool) (xs ys : List SliceEntry) → is_some (last_such p ys) ≡ true → last_such p (xs ++ ys) ≡ last_such p ys
last_such-append_later p xs ys some = last_such-append p xs ys ∙ kept (last_such p ys) (last_such p xs) some
  where
    kept : (o q : Option SliceEntry) → is_some o ≡ true → option_or o q ≡ o
    kept None q some = absurd cc
    kept (Some x) q some = refl

-- ---- one entry before others

-- what is made of a choice of two entries
option_map-option_or : (f : SliceEntry → Option Resident) (o : Option SliceEntry) (b : Bool) (e : SliceEntry) → option_map f (option_or o (cond b (Some e) None)) ≡ option_or (option_map f o) (cond b (Some (f e)) None)
option_map-option_or f None true e = refl
option_map-option_or f None false e = refl
option_map-option_or f (Some x) b e = refl

-- what the later entries decide, or else the first one
pub decided-cons : (m : Shape) (e : SliceEntry) (es : List SliceEntry) (set way : ℕ) → decided m (e ∷ es) set way ≡ option_or (decided m es set way) (cond (decides m set way e.what) (Some (left_by m set way e.what)) None)
decided-cons m e es set way = option_map-option_or (λ (x : SliceEntry). left_by m set way x.what) (last_such (λ (x : SliceEntry). decides m set way x.what) es) (decides m set way e.what) e

-- a place holds what was decided, where it was
pub held-decided : (m : Shape) (es : List SliceEntry) (set way : ℕ) → held m es set way ≡ option_and_then (λ (o : Option Resident). o) (decided m es set way)
held-decided m es set way = go (λ (x : SliceEntry). left_by m set way x.what) (last_such (λ (x : SliceEntry). decides m set way x.what) es)
  where
    go : (f : SliceEntry → Option Resident) (o : Option SliceEntry) → option_and_then f o ≡ option_and_then (λ (o : Option Resident). o) (option_map f o)
    go f None = refl
    go f (Some x) = refl

-- an entry that empties every place decides of each
pub decides-empties : (m : Shape) (set way : ℕ) (what : What) → empties what ≡ true → decides m set way what ≡ true
decides-empties m set way (Access hit at owner rmid mask line) is = absurd cc
decides-empties m set way Raise is = absurd cc
decides-empties m set way Flush is = refl
decides-empties m set way (Lock mask first_line) is = refl
decides-empties m set way (Look rmid lines) is = absurd cc
decides-empties m set way (Drop line at) is = absurd cc

-- what stands before an entry that empties every place adds nothing
pub held-append_emptied : (m : Shape) (before : List SliceEntry) (e : SliceEntry) (es : List SliceEntry) (set way : ℕ) → empties e.what ≡ true
    → held m (before ++ e ∷ es) set way ≡ held m (e ∷ es) set way
held-append_emptied m before e es set way is =
    ap (option_and_then (λ (x : SliceEntry). left_by m set way x.what)) (last_such-append_later d before (e ∷ es) (some (last_such d es) (d e) (decides-empties m set way e.what is)))
  where
    d : SliceEntry → Bool
    d x = decides m set way x.what

    some : (o : Option SliceEntry) (b : Bool) → b ≡ true → is_some (option_or o (cond b (Some e) None)) ≡ true
    some (Some x) b is = refl
    some None b is = rw is refl
