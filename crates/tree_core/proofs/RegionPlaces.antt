-- Where the region of a pseudo-locked group stands.
use Rattle.std.proofs.Common.{◌≡◌, ◌≢◌, ℕ, suc, ◌<◌, Bool, true, false, cond, List, [], ◌∷◌, length, filter, get_or, Option, None, Some, IsSome, IfSome, refl, sym, ap, ◌∙◌, arith}
use Rattle.std.specs.Option.{option_map}
use Rattle.std.proofs.lemmas.Bool.{eqb-true}
use Rattle.group_tree.specs.Records.{has_mode}
use Rattle.group_tree.specs.declared.group.Group.{Group}
use Rattle.pseudo_lock.specs.declared.region.Region.{Region}
use Rattle.rc_base.specs.declared.names.Mode.TheVariants.{Locked}
use Rattle.tree_law.specs.Regions.{has_region_of}
use Rattle.tree_law.specs.Sound.{Differ}

-- the first place at which a test passes
abbrev pub place_of : {X : Type 0} → (X → Bool) → List X → Option ℕ
place_of p [] = None
place_of p (x ∷ xs) = cond (p x) (Some 0) (option_map suc (place_of p xs))

-- it passes there
abbrev Passes : {X : Type 0} → (X → Bool) → List X → ℕ → Type 0
Passes {X = X} p xs k = (k < length xs) × ((d : X) → p (get_or xs k d) ≡ true)

place_of-passes : {X : Type 0} (p : X → Bool) (xs : List X) → IfSome (place_of p xs) (Passes p xs)
place_of-passes p [] = tt
place_of-passes p (x ∷ xs) = at (p x) (place_of p xs) refl (place_of-passes p xs)
  where
    at : (b : Bool) (o : Option ℕ) → p x ≡ b → IfSome o (Passes p xs) → IfSome (cond b (Some 0) (option_map suc o)) (Passes p (x ∷ xs))
    at true o is rest = (omega arith, λ d. is)
    at false None is rest = tt
    at false (Some k) is rest = (let less = rest.0 in omega arith, λ d. rest.1 d)

-- and there is such a place where one passes
pub place_of-some : {X : Type 0} (p : X → Bool) (xs : List X) → 0 < length (filter p xs) → IsSome (place_of p xs)
place_of-some p [] some = absurd (omega arith)
place_of-some p (x ∷ xs) some = at (p x) (place_of-some p xs) some
  where
    mapped : (o : Option ℕ) → IsSome o → IsSome (option_map suc o)
    mapped None is = is
    mapped (Some k) is = refl

    at : (b : Bool) → (0 < length (filter p xs) → IsSome (place_of p xs)) → 0 < length (cond b (x ∷ filter p xs) (filter p xs)) → IsSome (cond b (Some 0) (option_map suc (place_of p xs)))
    at true rest some = refl
    at false rest some = mapped (place_of p xs) (rest some)

-- the first domain whose region is a pseudo-locked group's
abbrev pub region_place : List (Option Region) → Group → Option ℕ
region_place regions g = cond (has_mode Locked g) (place_of (has_region_of g.gid) regions) None

-- it is that group's
abbrev pub IsPlaceOf : List (Option Region) → Group → ℕ → Type 0
IsPlaceOf regions g = Passes (has_region_of g.gid) regions

pub region_place-passes : (regions : List (Option Region)) (g : Group) → IfSome (region_place regions g) (IsPlaceOf regions g)
region_place-passes regions g = at (has_mode Locked g)
  where
    at : (b : Bool) → IfSome (cond b (place_of (has_region_of g.gid) regions) None) (IsPlaceOf regions g)
    at true = place_of-passes (has_region_of g.gid) regions
    at false = tt

-- no two groups have the same region
pub region_place-differ : (regions : List (Option Region)) (a b : Group) → a.gid.0 ≢ b.gid.0 → Differ (region_place regions a) (region_place regions b)
region_place-differ regions a b differ = at (region_place regions a) (region_place regions b) (region_place-passes regions a) (region_place-passes regions b)
  where
    of_one : (r : Option Region) → has_region_of a.gid r ≡ true → has_region_of b.gid r ≡ true → ⊥
    of_one None is is' = let f : false ≡ true = is in cc
    of_one (Some r) is is' = differ (sym (eqb-true r.gid.0 a.gid.0 is) ∙ eqb-true r.gid.0 b.gid.0 is')

    at : (x y : Option ℕ) → IfSome x (IsPlaceOf regions a) → IfSome y (IsPlaceOf regions b) → Differ x y
    at None y is is' = tt
    at (Some k) None is is' = tt
    at (Some k) (Some j) is is' = λ same. of_one (get_or regions k None) (is.1 None) (ap (λ (n : ℕ). has_region_of b.gid (get_or regions n None)) same ∙ is'.1 None)
