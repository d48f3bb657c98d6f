-- Names of control groups: the directory of each that a text names is found under its number, and stays so while names come.
use Rattle.std.proofs.Common.{◌≡◌, ℕ, Bool, true, false, cond, List, [], ◌∷◌, map, Option, Some, None, refl, sym, ap, subst, ◌∙◌}
use Rattle.std.specs.Prelude.{codes, unwrap_or}
use Rattle.std.specs.List.{AllByRecursion, list_all, list_any, onto_first, slice_split, range_with_len}
use Rattle.std.specs.Map.{lookup}
use Rattle.std.proofs.lemmas.Bool.{and_parts}
use Rattle.std.proofs.lemmas.Option.{none-some, same_Some, slice_get_within}
use Rattle.rc_base.specs.Texts.{is_text}
use Rattle.path_names.proofs.laws.ShortNames.{option_map-or_nowhere}
use Rattle.path_names.specs.Components.{components, components_of, is_component, is_slash, is_well_formed}
use Rattle.path_names.specs.Interned.{id_of, interned, number_of}
use Rattle.path_names.specs.PathTable.{Entry, domain_entry, entry_of, fixed_entries, named}
use Rattle.path_names.specs.PathTexts.{name_in}
use Rattle.path_names.specs.Reading.{Reached, entry_or_named, led, or_nowhere, path_of, reached, reached_from}
use Rattle.path_names.specs.declared.dirs.DirRef.{DirRef}
use Rattle.path_names.specs.declared.dirs.DirRef.TheVariants.{Root, Info, InfoL3, InfoL3Mon, Ctrl, MonGroups, Mon, MonData, MonDomain}
use Rattle.path_names.specs.declared.dirs.Holder.{Holder}
use Rattle.path_names.specs.declared.path_ref.PathRef.{PathRef}
use Rattle.path_names.specs.declared.path_ref.PathRef.TheVariants.{Dir, File, Free, Nowhere}
use Rattle.plan_reading.specs.GroupWrites.{IsGroupName}
use Rattle.plan_reading.proofs.laws.InternedNames.{slice_get-interned, number_of-interned}

-- a path is the directory of a control group only if its name may be one
abbrev pub IsNamedPath : List (List ℕ) → PathRef → Type 0
IsNamedPath names (Dir (Ctrl id)) = IsGroupName names id
IsNamedPath names path = Unit {0}

-- the same of what was reached
abbrev ReachesNamed : Reached → Type 0
ReachesNamed (Some path, names) = IsNamedPath names path
ReachesNamed (None, names) = Unit {0}

-- an entry of a list of which none is the directory of a control group
IsNamedPath-lookup : (names : List (List ℕ)) (test : List ℕ → Bool) (entries : List Entry) → AllByRecursion (λ e. IsNamedPath names e.1) entries → (path : PathRef) → lookup test entries ≡ Some path → IsNamedPath names path
IsNamedPath-lookup names test [] all path found = absurd (none-some path found)
IsNamedPath-lookup names test (e ∷ es) all path found = elim (test e.0) as (λ b. cond b (Some e.1) (lookup test es) ≡ Some path → IsNamedPath names path)
    [ true ↦ (λ here. subst (IsNamedPath names) (same_Some e.1 path here) all.0) | false ↦ (λ later. IsNamedPath-lookup names test es all.1 path later) ] found

-- the entries of these domains
IsNamedPath-domains : (names : List (List ℕ)) (holder : Holder) (ds : List ℕ) → AllByRecursion (λ e. IsNamedPath names e.1) (map (domain_entry holder) ds)
IsNamedPath-domains names holder [] = tt
IsNamedPath-domains names holder (d ∷ ds) = (tt, IsNamedPath-domains names holder ds)

-- the fixed entries of a directory
IsNamedPath-fixed : (names : List (List ℕ)) (domains : ℕ) (dir : DirRef) → AllByRecursion (λ e. IsNamedPath names e.1) (fixed_entries domains dir)
IsNamedPath-fixed names domains Root = (tt, (tt, (tt, (tt, (tt, (tt, (tt, (tt, (tt, tt)))))))))
IsNamedPath-fixed names domains Info = (tt, (tt, (tt, tt)))
IsNamedPath-fixed names domains InfoL3 = (tt, (tt, (tt, (tt, (tt, (tt, tt))))))
IsNamedPath-fixed names domains InfoL3Mon = (tt, (tt, (tt, tt)))
IsNamedPath-fixed names domains (Ctrl id) = (tt, (tt, (tt, (tt, (tt, (tt, (tt, (tt, tt))))))))
IsNamedPath-fixed names domains (MonGroups owner) = tt
IsNamedPath-fixed names domains (Mon owner id) = (tt, (tt, (tt, (tt, tt))))
IsNamedPath-fixed names domains (MonData holder) = IsNamedPath-domains names holder (range_with_len 0 domains)
IsNamedPath-fixed names domains (MonDomain holder domain) = (tt, tt)

-- the fixed entry of a name
IsNamedPath-entry_of : (names : List (List ℕ)) (domains : ℕ) (dir : DirRef) (name : List ℕ) (path : PathRef) → entry_of domains dir name ≡ Some path → IsNamedPath names path
unfolding entry_of
IsNamedPath-entry_of names domains dir name path found = IsNamedPath-lookup names (λ fixed. is_text name fixed) (fixed_entries domains dir) (IsNamedPath-fixed names domains dir) path found

-- the fixed entries of the root are the same on every machine
entry_of-Root : (domains other : ℕ) (name : List ℕ) → entry_of domains Root name ≡ entry_of other Root name
unfolding entry_of
entry_of-Root domains other name = refl

-- a component of a text
record IsPart (name : List ℕ) : Type 0 where
  component : is_component name ≡ true
  whole : list_any is_slash name ≡ false

-- a name that comes in the root
IsGroupName-interned : (domains : ℕ) (name : List ℕ) (names : List (List ℕ)) → IsPart name → entry_of domains Root name ≡ None → IsGroupName (interned name names) (id_of name names)
IsGroupName-interned domains name names part free =
    let at = slice_get-interned name names in
    let same : name_in (interned name names) (id_of name names) ≡ name = ap (λ (o : Option (List ℕ)). unwrap_or o []) at in
    record {
      component = subst (λ (x : List ℕ). is_component x ≡ true) (sym same) part.component;
      whole = subst (λ (x : List ℕ). list_any is_slash x ≡ false) (sym same) part.whole;
      free = λ other. subst (λ (x : List ℕ). entry_of other Root x ≡ None) (sym same) (entry_of-Root other domains name ∙ free);
      known = slice_get_within (interned name names) (number_of name names) name at;
      numbered = ap (λ (x : List ℕ). number_of x (interned name names)) same ∙ number_of-interned name names;
    }

-- what a name stands for that is no fixed entry
IsNamedPath-named : (domains : ℕ) (dir : DirRef) (name : List ℕ) (names : List (List ℕ)) → IsPart name → entry_of domains dir name ≡ None → IsNamedPath (interned name names) (named dir (id_of name names))
IsNamedPath-named domains Root name names part free = IsGroupName-interned domains name names part free
IsNamedPath-named domains Info name names part free = tt
IsNamedPath-named domains InfoL3 name names part free = tt
IsNamedPath-named domains InfoL3Mon name names part free = tt
IsNamedPath-named domains (Ctrl id) name names part free = tt
IsNamedPath-named domains (MonGroups owner) name names part free = tt
IsNamedPath-named domains (Mon owner id) name names part free = tt
IsNamedPath-named domains (MonData holder) name names part free = tt
IsNamedPath-named domains (MonDomain holder domain) name names part free = tt

-- a component leads to such a path
ReachesNamed-led : (domains : ℕ) (at : Option PathRef) (names : List (List ℕ)) (name : List ℕ) → IsPart name → ReachesNamed (led domains at names name)
ReachesNamed-led domains None names name part = tt
ReachesNamed-led domains (Some (Dir dir)) names name part = at (entry_of domains dir name) refl
  where
    at : (entry : Option PathRef) → entry_of domains dir name ≡ entry → ReachesNamed (entry_or_named entry dir name names)
    at (Some path) is = IsNamedPath-entry_of names domains dir name path is
    at None is = IsNamedPath-named domains dir name names part is
ReachesNamed-led domains (Some (File dir kind)) names name part = tt
ReachesNamed-led domains (Some (Free dir free)) names name part = tt
ReachesNamed-led domains (Some (Nowhere whole)) names name part = tt

-- so do several
ReachesNamed-reached_from : (domains : ℕ) (at : Reached) (parts : List (List ℕ)) → AllByRecursion IsPart parts → ReachesNamed at → ReachesNamed (reached_from domains at parts)
ReachesNamed-reached_from domains at [] all reaches = reaches
ReachesNamed-reached_from domains at (name ∷ parts) all reaches = ReachesNamed-reached_from domains (led domains at.0 at.1 name) parts all.1 (ReachesNamed-led domains at.0 at.1 name all.0)

-- a path that leads nowhere is no directory
IsNamedPath-or_nowhere : (text : List ℕ) (at : Reached) → ReachesNamed at → IsNamedPath (or_nowhere text at).1 (or_nowhere text at).0
IsNamedPath-or_nowhere text (Some path, names) reaches = reaches
IsNamedPath-or_nowhere text (None, names) reaches = tt

-- ---- the components of a text

-- what stands between separators has none
list_any-slice_split : (p : ℕ → Bool) (xs : List ℕ) → AllByRecursion (λ part. list_any p part ≡ false) (slice_split p xs)
list_any-slice_split p [] = (refl, tt)
list_any-slice_split p (x ∷ xs) = at (p x) (slice_split p xs) refl (list_any-slice_split p xs)
  where
    at : (b : Bool) (parts : List (List ℕ)) → p x ≡ b → AllByRecursion (λ part. list_any p part ≡ false) parts → AllByRecursion (λ part. list_any p part ≡ false) (cond b ([] ∷ parts) (onto_first x parts))
    at true parts is all = (refl, all)
    at false [] is all = (rw is refl, tt)
    at false (part ∷ parts) is all = (rw is all.0, all.1)

-- components that have no slash
IsPart-all : (parts : List (List ℕ)) → list_all is_component parts ≡ true → AllByRecursion (λ part. list_any is_slash part ≡ false) parts → AllByRecursion IsPart parts
IsPart-all [] all whole = tt
IsPart-all (part ∷ parts) all whole =
    let both = and_parts (is_component part) (list_all is_component parts) all in
    (record { component = both.0; whole = whole.0 }, IsPart-all parts both.1 whole.1)

-- the components of a text that is well formed
IsPart-components : (text : List ℕ) → list_all is_component (components text) ≡ true → AllByRecursion IsPart (components text)
IsPart-components [] all = tt
IsPart-components (b ∷ bs) all = IsPart-all (slice_split is_slash bs) all (list_any-slice_split is_slash bs)

-- the components of a path
IsPart-components_of : (text : List ℕ) (parts : List (List ℕ)) → components_of text ≡ Some parts → AllByRecursion IsPart parts
unfolding components_of is_well_formed
IsPart-components_of text parts read = at (is_text text (codes "/")) (is_well_formed text) refl read
  where
    at : (root good : Bool) → is_well_formed text ≡ good → cond root (Some []) (cond good (Some (components text)) None) ≡ Some parts → AllByRecursion IsPart parts
    at true good is e = subst (λ (ps : List (List ℕ)). AllByRecursion IsPart ps) (same_Some [] parts e) tt
    at false true is e = subst (λ (ps : List (List ℕ)). AllByRecursion IsPart ps) (same_Some (components text) parts e) (IsPart-components text (and_parts _ _ is).1)
    at false false is e = absurd (none-some parts e)

-- what a text names
pub IsNamedPath-path_of : (domains : ℕ) (names : List (List ℕ)) (text : List ℕ) (path : PathRef) (after : List (List ℕ)) → path_of domains names text ≡ Some (path, after) → IsNamedPath after path
IsNamedPath-path_of domains names text path after read =
    let found = option_map-or_nowhere domains names text (components_of text) path after read in
    let at = reached domains names found.0 in
    subst (λ (p : PathRef × List (List ℕ)). IsNamedPath p.1 p.0) found.2
    (IsNamedPath-or_nowhere text at (ReachesNamed-reached_from domains (Some (Dir Root), names) found.0 (IsPart-components_of text found.0 found.1) tt))
