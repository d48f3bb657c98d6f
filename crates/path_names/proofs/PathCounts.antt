-- The names in a path, and in one with a component more.
use Rattle.std.proofs.Common.{◌≡◌, ℕ, zero, suc, ◌+◌, ◌<◌, ◌≤◌, Bool, true, false, cond, List, [], ◌∷◌, ◌++◌, length, take, map, Some, refl, sym, ap, ◌∙◌, subst, arith, length-append, All}
use Rattle.std.proofs.lemmas.List.Elements.{All-push}
use Rattle.std.specs.List.{list_any, range_with_len, AllByRecursion}
use Rattle.std.specs.Map.{lookup}
use Rattle.std.specs.Str.{bytes_eq}
use Rattle.std.proofs.lemmas.Grind.{common_steps}
use Rattle.std.proofs.lemmas.Option.{same_Some, none-some}
use Rattle.path_names.specs.declared.dirs.DirRef.{DirRef}
use Rattle.path_names.specs.declared.dirs.DirRef.TheVariants.{Root, Info, InfoL3, InfoL3Mon, Ctrl, MonGroups, Mon, MonData, MonDomain}
use Rattle.path_names.specs.declared.dirs.Holder.{Holder}
use Rattle.path_names.specs.declared.dirs.Holder.TheVariants.{Control, Monitor}
use Rattle.path_names.specs.declared.dirs.Owner.{Owner}
use Rattle.path_names.specs.declared.dirs.Owner.TheVariants.{Default as TheDefault, Ctrl as Named}
use Rattle.path_names.specs.declared.names.NameId.{NameId}
use Rattle.path_names.specs.declared.path_ref.PathRef.{PathRef}
use Rattle.path_names.specs.declared.path_ref.PathRef.TheVariants.{Dir, File, Free, Nowhere}
use Rattle.rc_base.specs.Texts.{is_text}
use Rattle.path_names.specs.NamesIn.{owner_ids, holder_ids, dir_ids, path_ids}
use Rattle.path_names.specs.Interned.{Keeps, interned}
use Rattle.path_names.specs.PathTable.{Entry, domain_entry, entry_of, fixed_entries, named}

-- a control group has one name at most
length-owner_ids : (owner : Owner) → length (owner_ids owner) ≤ 1
length-owner_ids TheDefault = omega arith
length-owner_ids (Named name) = omega arith

-- a group has two names at most
length-holder_ids : (holder : Holder) → length (holder_ids holder) ≤ 2
length-holder_ids (Control owner) = omega (arith, length-owner_ids owner)
length-holder_ids (Monitor owner name) = omega (arith, length-owner_ids owner, length-append (owner_ids owner) (name.0 ∷ []))

-- a directory has two names at most
pub length-dir_ids : (dir : DirRef) → length (dir_ids dir) ≤ 2
length-dir_ids Root = omega arith
length-dir_ids Info = omega arith
length-dir_ids InfoL3 = omega arith
length-dir_ids InfoL3Mon = omega arith
length-dir_ids (Ctrl name) = omega arith
length-dir_ids (MonGroups owner) = omega (arith, length-owner_ids owner)
length-dir_ids (Mon owner name) = omega (arith, length-owner_ids owner, length-append (owner_ids owner) (name.0 ∷ []))
length-dir_ids (MonData holder) = length-holder_ids holder
length-dir_ids (MonDomain holder domain) = length-holder_ids holder

-- a path has three names at most
pub length-path_ids : (path : PathRef) → length (path_ids path) ≤ 3
length-path_ids (Dir dir) = omega (arith, length-dir_ids dir)
length-path_ids (File dir kind) = omega (arith, length-dir_ids dir)
length-path_ids (Free dir name) = omega (arith, length-dir_ids dir, length-append (dir_ids dir) (name.0 ∷ []))
length-path_ids (Nowhere name) = omega arith

-- an entry of a list of which all hold these names
path_ids-lookup : (test : List ℕ → Bool) (n : List ℕ) (entries : List Entry) → AllByRecursion (λ e. path_ids e.1 ≡ n) entries → (path : PathRef) → lookup test entries ≡ Some path → path_ids path ≡ n
path_ids-lookup test n [] all path found = absurd (none-some path found)
path_ids-lookup test n (e ∷ es) all path found = elim (test e.0) as (λ b. cond b (Some e.1) (lookup test es) ≡ Some path → path_ids path ≡ n)
    [ true ↦ (λ here. subst (λ p. path_ids p ≡ n) (same_Some e.1 path here) all.0) | false ↦ (λ later. path_ids-lookup test n es all.1 path later) ] found

-- the entries of domains have the names of their group
path_ids-domain_entries : (holder : Holder) (from n : ℕ) → AllByRecursion (λ e. path_ids e.1 ≡ holder_ids holder) (map (domain_entry holder) (range_with_len from n))
path_ids-domain_entries holder from zero = tt
path_ids-domain_entries holder from (suc n) = (refl, path_ids-domain_entries holder (from + 1) n)

-- the entries of a directory have its names
path_ids-fixed_entries : (domains : ℕ) (dir : DirRef) → AllByRecursion (λ e. path_ids e.1 ≡ dir_ids dir) (fixed_entries domains dir)
path_ids-fixed_entries domains Root = (refl, (refl, (refl, (refl, (refl, (refl, (refl, (refl, (refl, tt)))))))))
path_ids-fixed_entries domains Info = (refl, (refl, (refl, tt)))
path_ids-fixed_entries domains InfoL3 = (refl, (refl, (refl, (refl, (refl, (refl, tt))))))
path_ids-fixed_entries domains InfoL3Mon = (refl, (refl, (refl, tt)))
path_ids-fixed_entries domains (Ctrl name) = (refl, (refl, (refl, (refl, (refl, (refl, (refl, (refl, tt))))))))
path_ids-fixed_entries domains (MonGroups owner) = tt
path_ids-fixed_entries domains (Mon owner name) = (refl, (refl, (refl, (refl, tt))))
path_ids-fixed_entries domains (MonData holder) = path_ids-domain_entries holder 0 domains
path_ids-fixed_entries domains (MonDomain holder domain) = (refl, tt)

-- a fixed entry holds no name that its directory does not
pub path_ids-entry_of : (domains : ℕ) (dir : DirRef) (name : List ℕ) (path : PathRef) → entry_of domains dir name ≡ Some path → path_ids path ≡ dir_ids dir
unfolding entry_of
path_ids-entry_of domains dir name path found = path_ids-lookup (λ fixed. is_text name fixed) (dir_ids dir) (fixed_entries domains dir) (path_ids-fixed_entries domains dir) path found

-- a group or a free name is one name more
pub path_ids-named : (dir : DirRef) (name : NameId) → path_ids (named dir name) ≡ dir_ids dir ++ name.0 ∷ []
path_ids-named Root name = refl
path_ids-named Info name = refl
path_ids-named InfoL3 name = refl
path_ids-named InfoL3Mon name = refl
path_ids-named (Ctrl group) name = refl
path_ids-named (MonGroups owner) name = refl
path_ids-named (Mon owner group) name = refl
path_ids-named (MonData holder) name = refl
path_ids-named (MonDomain holder domain) name = refl

-- the same names are kept
pub Keeps-same : (names : List (List ℕ)) → Keeps names names
Keeps-same names = grind (arith, common_steps)

-- a name that comes keeps the others
pub Keeps-interned : (name : List ℕ) (names : List (List ℕ)) → Keeps names (interned name names)
Keeps-interned name names = elim (list_any (bytes_eq name) names) as (λ b. take (length names) (cond b names (names ++ name ∷ [])) ≡ names)
    [ true ↦ Keeps-same names | false ↦ grind (arith, common_steps) ]

-- the front of a front
take-take : (n m : ℕ) (xs : List (List ℕ)) → n ≤ m → take n (take m xs) ≡ take n xs
take-take zero m xs h = refl
take-take (suc n) zero xs h = absurd (omega arith)
take-take (suc n) (suc m) [] h = refl
take-take (suc n) (suc m) (x ∷ xs) h = ap (λ l. x ∷ l) (take-take n m xs (omega arith))

-- what is kept twice is kept
pub Keeps-trans : (a b c : List (List ℕ)) → Keeps a b → Keeps b c → Keeps a c
Keeps-trans a b c first second =
    let shorter : length a ≤ length b = let e = ap length first in grind (arith, common_steps) in
    sym (take-take (length a) (length b) c shorter) ∙ ap (take (length a)) second ∙ first

-- names are only added
pub length-interned_ge : (name : List ℕ) (names : List (List ℕ)) → length names ≤ length (interned name names)
length-interned_ge name names = elim (list_any (bytes_eq name) names) as (λ b. length names ≤ length (cond b names (names ++ name ∷ [])))
    [ true ↦ omega arith | false ↦ grind (arith, common_steps) ]

-- the names of a directory and one more
pub All-named : (dir : DirRef) (name : NameId) (before after : ℕ) → before ≤ after → name.0 < after → All (λ id. id < before) (dir_ids dir) → All (λ id. id < after) (path_ids (named dir name))
All-named dir name before after more known all = subst (λ (ids : List ℕ). All (λ id. id < after) ids) (sym (path_ids-named dir name))
    (All-push (λ id. id < after) (dir_ids dir) name.0 (λ k d h. omega (arith, all k d h, more)) known)
