-- The names of a path's components are short, and stay so while names come.
use Rattle.std.proofs.Common.{◌≡◌, ℕ, ◌<◌, ◌≤◌, Bool, true, false, cond, List, [], ◌∷◌, length, get_or, Option, Some, None, IfSome, refl, sym, ap, subst, ◌∙◌, arith, codes}
use Rattle.std.specs.Prelude.{unwrap_or, option_map}
use Rattle.std.specs.List.{list_all, slice_get}
use Rattle.std.proofs.lemmas.List.{get_or-take}
use Rattle.std.proofs.lemmas.List.Elements.{All-nil, All-push}
use Rattle.std.proofs.lemmas.Bool.{and_parts, leb-true}
use Rattle.std.proofs.lemmas.Option.{unwrap_or-slice_get, same_Some, none-some, slice_get_within}
use Rattle.rc_base.specs.Texts.{is_text}
use Rattle.path_names.specs.declared.components.TheConstants.{MOST_NAME_BYTES}
use Rattle.path_names.specs.declared.dirs.DirRef.{DirRef}
use Rattle.path_names.specs.declared.dirs.DirRef.TheVariants.{Root}
use Rattle.path_names.specs.declared.path_ref.PathRef.{PathRef}
use Rattle.path_names.specs.declared.path_ref.PathRef.TheVariants.{Dir, File, Free, Nowhere}
use Rattle.path_names.specs.Components.{components, components_of, is_component, is_well_formed}
use Rattle.path_names.specs.Interned.{Keeps, id_of, interned, number_of}
use Rattle.path_names.specs.NamesIn.{AreKnown, dir_ids, path_ids}
use Rattle.path_names.specs.PathTable.{entry_of}
use Rattle.path_names.specs.Reading.{Reached, entry_or_named, led, or_nowhere, path_of, reached, reached_from}
use Rattle.path_names.specs.ShortNames.{AreShort, IsShortName, component_ids}
use Rattle.path_names.proofs.NameTable.{slice_get-interned}
use Rattle.path_names.proofs.PathCounts.{path_ids-entry_of, length-interned_ge, Keeps-same, Keeps-interned, Keeps-trans, path_ids-named}

-- ---- names that were known

-- a short name stays short while names come
pub IsShortName-kept : (old new : List (List ℕ)) (id : ℕ) → Keeps old new → id < length old → IsShortName old id → IsShortName new id
IsShortName-kept old new id kept known short =
    let name : unwrap_or (slice_get new id) [] ≡ unwrap_or (slice_get old id) [] =
    unwrap_or-slice_get new id []
    ∙ sym (get_or-take (length old) new id [] known)
    ∙ ap (λ (names : List (List ℕ)). get_or names id []) kept
    ∙ sym (unwrap_or-slice_get old id []) in
    omega (arith, ap length name, short)

-- the same of several
pub AreShort-kept : (old new : List (List ℕ)) (ids : List ℕ) → Keeps old new → AreKnown (length old) ids → AreShort old ids → AreShort new ids
AreShort-kept old new ids kept known short = λ k d h. IsShortName-kept old new (get_or ids k d) kept (known k d h) (short k d h)

-- short components stay short while names come
pub AreShort-component_ids_kept : (old new : List (List ℕ)) (path : PathRef) → Keeps old new → AreKnown (length old) (path_ids path) → AreShort old (component_ids path) → AreShort new (component_ids path)
AreShort-component_ids_kept old new (Dir dir) kept known short = AreShort-kept old new (dir_ids dir) kept known short
AreShort-component_ids_kept old new (File dir kind) kept known short = AreShort-kept old new (dir_ids dir) kept known short
AreShort-component_ids_kept old new (Free dir free) kept known short = AreShort-kept old new (path_ids (Free dir free)) kept known short
AreShort-component_ids_kept old new (Nowhere whole) kept known short = All-nil (IsShortName new)

-- a name that comes and is short
pub IsShortName-interned : (name : List ℕ) (names : List (List ℕ)) → length name ≤ MOST_NAME_BYTES → IsShortName (interned name names) (number_of name names)
IsShortName-interned name names short = rw (slice_get-interned name names) short

-- ---- components

-- a component has few bytes
pub length-is_component : (name : List ℕ) → is_component name ≡ true → length name ≤ MOST_NAME_BYTES
unfolding is_component
length-is_component name is = leb-true (length name) MOST_NAME_BYTES (and_parts _ _ (and_parts _ _ (and_parts _ _ is).0).0).1

-- ---- where components lead

-- the names of a path are known, and short
abbrev HasShort : List (List ℕ) → PathRef → Type 0
HasShort names path = AreKnown (length names) (path_ids path) × AreShort names (path_ids path)

-- the same of what was reached
abbrev ReachesShort : Reached → Type 0
ReachesShort at = IfSome at.0 (HasShort at.1)

-- a fixed entry has the names of its directory, and a group or a free name has one more, which is short
ReachesShort-entry_or_named : (entry : Option PathRef) (dir : DirRef) (name : List ℕ) (names : List (List ℕ))
    → ((path : PathRef) → entry ≡ Some path → path_ids path ≡ dir_ids dir) → length name ≤ MOST_NAME_BYTES → HasShort names (Dir dir) → ReachesShort (entry_or_named entry dir name names)
ReachesShort-entry_or_named (Some path) dir name names same short at = subst (λ (ids : List ℕ). AreKnown (length names) ids × AreShort names ids) (sym (same path refl)) at
ReachesShort-entry_or_named None dir name names same short at =
    let after = interned name names in
    let kept = Keeps-interned name names in
    let id = number_of name names in
    subst (λ (ids : List ℕ). AreKnown (length after) ids × AreShort after ids) (sym (path_ids-named dir (id_of name names))) (
      All-push (λ i. i < length after) (dir_ids dir) id (λ k d h. omega (arith, at.0 k d h, length-interned_ge name names)) (slice_get_within after id name (slice_get-interned name names)),
      All-push (IsShortName after) (dir_ids dir) id (AreShort-kept names after (dir_ids dir) kept at.0 at.1) (IsShortName-interned name names short),
    )

-- a component leads on to short names
ReachesShort-led : (domains : ℕ) (at : Option PathRef) (names : List (List ℕ)) (name : List ℕ) → length name ≤ MOST_NAME_BYTES → ReachesShort (at, names) → ReachesShort (led domains at names name)
ReachesShort-led domains None names name short reaches = tt
ReachesShort-led domains (Some (Dir dir)) names name short reaches = ReachesShort-entry_or_named (entry_of domains dir name) dir name names (path_ids-entry_of domains dir name) short reaches
ReachesShort-led domains (Some (File dir kind)) names name short reaches = tt
ReachesShort-led domains (Some (Free dir free)) names name short reaches = tt
ReachesShort-led domains (Some (Nowhere whole)) names name short reaches = tt

-- so do several
ReachesShort-reached_from : (domains : ℕ) (at : Reached) (parts : List (List ℕ)) → list_all is_component parts ≡ true → ReachesShort at → ReachesShort (reached_from domains at parts)
ReachesShort-reached_from domains at [] all reaches = reaches
ReachesShort-reached_from domains at (name ∷ parts) all reaches =
    let both = and_parts (is_component name) (list_all is_component parts) all in
    ReachesShort-reached_from domains (led domains at.0 at.1 name) parts both.1 (ReachesShort-led domains at.0 at.1 name (length-is_component name both.0) reaches)

-- ---- names that are kept on the way

-- an entry is known, or its name comes
Keeps-entry_or_named : (entry : Option PathRef) (dir : DirRef) (name : List ℕ) (names : List (List ℕ)) → Keeps names (entry_or_named entry dir name names).1
Keeps-entry_or_named (Some path) dir name names = Keeps-same names
Keeps-entry_or_named None dir name names = Keeps-interned name names

-- a component keeps the names that were known, wherever it is
Keeps-led : (domains : ℕ) (at : Option PathRef) (names : List (List ℕ)) (name : List ℕ) → Keeps names (led domains at names name).1
Keeps-led domains None names name = Keeps-same names
Keeps-led domains (Some (Dir dir)) names name = Keeps-entry_or_named (entry_of domains dir name) dir name names
Keeps-led domains (Some (File dir kind)) names name = Keeps-same names
Keeps-led domains (Some (Free dir free)) names name = Keeps-same names
Keeps-led domains (Some (Nowhere whole)) names name = Keeps-same names

-- so do several
pub Keeps-reached_from : (domains : ℕ) (at : Reached) (parts : List (List ℕ)) → Keeps at.1 (reached_from domains at parts).1
Keeps-reached_from domains at [] = Keeps-same at.1
Keeps-reached_from domains at (name ∷ parts) =
    let next = led domains at.0 at.1 name in
    Keeps-trans at.1 next.1 (reached_from domains next parts).1 (Keeps-led domains at.0 at.1 name) (Keeps-reached_from domains next parts)

-- so does a path that leads nowhere
pub Keeps-or_nowhere : (text : List ℕ) (at : Reached) → Keeps at.1 (or_nowhere text at).1
Keeps-or_nowhere text (Some path, names) = Keeps-same names
Keeps-or_nowhere text (None, names) = Keeps-interned text names

-- the names of components are those of the path, and none below a file
AreShort-component_ids : (text : List ℕ) (at : Reached) → ReachesShort at → AreShort (or_nowhere text at).1 (component_ids (or_nowhere text at).0)
AreShort-component_ids text (Some (Dir dir), names) reaches = reaches.1
AreShort-component_ids text (Some (File dir kind), names) reaches = reaches.1
AreShort-component_ids text (Some (Free dir free), names) reaches = reaches.1
AreShort-component_ids text (Some (Nowhere whole), names) reaches = All-nil (IsShortName names)
AreShort-component_ids text (None, names) reaches = All-nil (IsShortName (interned text names))

-- ---- what a text names

-- the components of a path are those of a text that is well formed
list_all-components_of : (text : List ℕ) (parts : List (List ℕ)) → components_of text ≡ Some parts → list_all is_component parts ≡ true
unfolding components_of is_well_formed
list_all-components_of text parts read = at (is_text text (codes "/")) (is_well_formed text) refl read
  where
    at : (root good : Bool) → is_well_formed text ≡ good → cond root (Some []) (cond good (Some (components text)) None) ≡ Some parts → list_all is_component parts ≡ true
    at true good is e = subst (λ (ps : List (List ℕ)). list_all is_component ps ≡ true) (same_Some [] parts e) refl
    at false true is e = subst (λ (ps : List (List ℕ)). list_all is_component ps ≡ true) (same_Some (components text) parts e) (and_parts _ _ is).1
    at false false is e = absurd (none-some parts e)

module _ (domains : ℕ) (names : List (List ℕ)) (text : List ℕ) where
  -- what the components lead to is what is named
  pub option_map-or_nowhere : (parts : Option (List (List ℕ))) (path : PathRef) (after : List (List ℕ)) → option_map (λ ps. or_nowhere text (reached domains names ps)) parts ≡ Some (path, after)
      → (ps : List (List ℕ)) × (parts ≡ Some ps) × (or_nowhere text (reached domains names ps) ≡ (path, after))
  option_map-or_nowhere None path after e = absurd (none-some (path, after) e)
  option_map-or_nowhere (Some ps) path after e = (ps, refl, same_Some _ _ e)

  -- the names that were known are kept
  pub Keeps-path_of : (path : PathRef) (after : List (List ℕ)) → path_of domains names text ≡ Some (path, after) → Keeps names after
  Keeps-path_of path after read =
      let found = option_map-or_nowhere (components_of text) path after read in
      let at = reached domains names found.0 in
      subst (λ (known : List (List ℕ)). Keeps names known) (ap (λ (p : PathRef × List (List ℕ)). p.1) found.2)
      (Keeps-trans names at.1 (or_nowhere text at).1 (Keeps-reached_from domains (Some (Dir Root), names) found.0) (Keeps-or_nowhere text at))

  -- the names of the components are short
  pub AreShort-path_of : (path : PathRef) (after : List (List ℕ)) → path_of domains names text ≡ Some (path, after) → AreShort after (component_ids path)
  AreShort-path_of path after read =
      let found = option_map-or_nowhere (components_of text) path after read in
      let at = reached domains names found.0 in
      let start : ReachesShort (Some (Dir Root), names) = (All-nil _, All-nil _) in
      subst (λ (p : PathRef × List (List ℕ)). AreShort p.1 (component_ids p.0)) found.2
      (AreShort-component_ids text at (ReachesShort-reached_from domains (Some (Dir Root), names) found.0 (list_all-components_of text found.0 found.1) start))
