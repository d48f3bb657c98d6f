-- What a text names, by its kind.
use Rattle.std.proofs.Common.{◌≡◌, ℕ, true, false, List, Some, None, codes, refl, ap}
use Rattle.path_names.specs.declared.dirs.DirRef.TheVariants.{Root}
use Rattle.path_names.specs.declared.path_ref.PathRef.{PathRef}
use Rattle.path_names.specs.declared.path_ref.PathRef.TheVariants.{Dir}
use Rattle.path_names.specs.Components.{components, components_of, is_well_formed}
use Rattle.rc_base.specs.Texts.{is_text}
use Rattle.path_names.specs.Reading.{or_nowhere, path_of, reached}

-- the root
pub path_of-root : (domains : ℕ) (names : List (List ℕ)) (text : List ℕ) → is_text text (codes "/") ≡ true → path_of domains names text ≡ Some (Dir Root, names)
unfolding components_of
path_of-root domains names text root = rw root refl

-- a text that is no path
pub path_of-bad : (domains : ℕ) (names : List (List ℕ)) (text : List ℕ) → is_text text (codes "/") ≡ false → is_well_formed text ≡ false → path_of domains names text ≡ None
unfolding components_of
path_of-bad domains names text other bad = rw (other, bad) refl

-- a path of components
pub path_of-components : (domains : ℕ) (names : List (List ℕ)) (text : List ℕ) (answer : PathRef × List (List ℕ)) → is_text text (codes "/") ≡ false → is_well_formed text ≡ true
    → or_nowhere text (reached domains names (components text)) ≡ answer → path_of domains names text ≡ Some answer
unfolding components_of
path_of-components domains names text answer other good said = rw (other, good) (ap Some said)
