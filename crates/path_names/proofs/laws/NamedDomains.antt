-- The domain that a path names exists.
use Rattle.std.proofs.Common.{◌≡◌, ℕ, zero, suc, ◌+◌, ◌≤◌, Bool, true, false, cond, List, [], ◌∷◌, map, Option, Some, None, IfSome, refl, subst, arith}
use Rattle.std.specs.Prelude.{option_map}
use Rattle.std.specs.List.{range_with_len, AllByRecursion}
use Rattle.std.specs.Map.{lookup}
use Rattle.std.proofs.lemmas.Option.{same_Some, none-some}
use Rattle.rc_base.specs.Texts.{is_text}
use Rattle.path_names.specs.declared.dirs.DirRef.{DirRef}
use Rattle.path_names.specs.declared.dirs.DirRef.TheVariants.{Root, Info, InfoL3, InfoL3Mon, Ctrl, MonGroups, Mon, MonData, MonDomain}
use Rattle.path_names.specs.declared.dirs.Holder.{Holder}
use Rattle.path_names.specs.declared.names.NameId.{NameId}
use Rattle.path_names.specs.declared.path_ref.PathRef.{PathRef}
use Rattle.path_names.specs.declared.path_ref.PathRef.TheVariants.{Dir, File, Free, Nowhere}
use Rattle.path_names.specs.Components.{components_of}
use Rattle.path_names.specs.Domains.{IsDirWithin, IsWithin}
use Rattle.path_names.specs.Interned.{id_of}
use Rattle.path_names.specs.PathTable.{Entry, domain_entry, entry_of, fixed_entries, named}
use Rattle.path_names.specs.Reading.{Reached, entry_or_named, led, or_nowhere, path_of, reached, reached_from}

-- an entry of a list of which all name domains that exist
IsWithin-lookup : (test : List ℕ → Bool) (domains : ℕ) (entries : List Entry) → AllByRecursion (λ e. IsWithin domains e.1) entries → (path : PathRef) → lookup test entries ≡ Some path → IsWithin domains path
IsWithin-lookup test domains [] all path found = absurd (none-some path found)
IsWithin-lookup test domains (e ∷ es) all path found = elim (test e.0) as (λ b. cond b (Some e.1) (lookup test es) ≡ Some path → IsWithin domains path)
    [ true ↦ (λ here. subst (IsWithin domains) (same_Some e.1 path here) all.0) | false ↦ (λ later. IsWithin-lookup test domains es all.1 path later) ] found

-- the entries of these domains
IsWithin-domain_entries : (holder : Holder) (domains from n : ℕ) → from + n ≤ domains → AllByRecursion (λ e. IsWithin domains e.1) (map (domain_entry holder) (range_with_len from n))
IsWithin-domain_entries holder domains from zero few = tt
IsWithin-domain_entries holder domains from (suc n) few = (omega (arith, few), IsWithin-domain_entries holder domains (from + 1) n (omega (arith, few)))

-- the fixed entries of a directory
IsWithin-fixed_entries : (domains : ℕ) (dir : DirRef) → IsDirWithin domains dir → AllByRecursion (λ e. IsWithin domains e.1) (fixed_entries domains dir)
IsWithin-fixed_entries domains Root within = (tt, (tt, (tt, (tt, (tt, (tt, (tt, (tt, (tt, tt)))))))))
IsWithin-fixed_entries domains Info within = (tt, (tt, (tt, tt)))
IsWithin-fixed_entries domains InfoL3 within = (tt, (tt, (tt, (tt, (tt, (tt, tt))))))
IsWithin-fixed_entries domains InfoL3Mon within = (tt, (tt, (tt, tt)))
IsWithin-fixed_entries domains (Ctrl name) within = (tt, (tt, (tt, (tt, (tt, (tt, (tt, (tt, tt))))))))
IsWithin-fixed_entries domains (MonGroups owner) within = tt
IsWithin-fixed_entries domains (Mon owner name) within = (tt, (tt, (tt, (tt, tt))))
IsWithin-fixed_entries domains (MonData holder) within = IsWithin-domain_entries holder domains 0 domains (omega arith)
IsWithin-fixed_entries domains (MonDomain holder domain) within = (within, tt)

-- the fixed entry of a name
IsWithin-entry_of : (domains : ℕ) (dir : DirRef) (name : List ℕ) → IsDirWithin domains dir → (path : PathRef) → entry_of domains dir name ≡ Some path → IsWithin domains path
unfolding entry_of
IsWithin-entry_of domains dir name within path found = IsWithin-lookup (λ fixed. is_text name fixed) domains (fixed_entries domains dir) (IsWithin-fixed_entries domains dir within) path found

-- a group, or a free name
IsWithin-named : (domains : ℕ) (dir : DirRef) (name : NameId) → IsDirWithin domains dir → IsWithin domains (named dir name)
IsWithin-named domains Root name within = tt
IsWithin-named domains Info name within = tt
IsWithin-named domains InfoL3 name within = tt
IsWithin-named domains InfoL3Mon name within = tt
IsWithin-named domains (Ctrl group) name within = tt
IsWithin-named domains (MonGroups owner) name within = tt
IsWithin-named domains (Mon owner group) name within = tt
IsWithin-named domains (MonData holder) name within = tt
IsWithin-named domains (MonDomain holder domain) name within = within

-- what was reached names domains that exist
abbrev ReachesWithin : ℕ → Reached → Type 0
ReachesWithin domains at = IfSome at.0 (IsWithin domains)

-- a component leads on to what does
ReachesWithin-entry_or_named : (domains : ℕ) (entry : Option PathRef) (dir : DirRef) (name : List ℕ) (names : List (List ℕ))
    → ((path : PathRef) → entry ≡ Some path → IsWithin domains path) → IsDirWithin domains dir → ReachesWithin domains (entry_or_named entry dir name names)
ReachesWithin-entry_or_named domains (Some path) dir name names each within = each path refl
ReachesWithin-entry_or_named domains None dir name names each within = IsWithin-named domains dir (id_of name names) within

ReachesWithin-led : (domains : ℕ) (at : Option PathRef) (names : List (List ℕ)) (name : List ℕ) → ReachesWithin domains (at, names) → ReachesWithin domains (led domains at names name)
ReachesWithin-led domains None names name reaches = tt
ReachesWithin-led domains (Some (Dir dir)) names name reaches = ReachesWithin-entry_or_named domains (entry_of domains dir name) dir name names (IsWithin-entry_of domains dir name reaches) reaches
ReachesWithin-led domains (Some (File dir kind)) names name reaches = tt
ReachesWithin-led domains (Some (Free dir free)) names name reaches = tt
ReachesWithin-led domains (Some (Nowhere whole)) names name reaches = tt

-- so do several
ReachesWithin-reached_from : (domains : ℕ) (at : Reached) (parts : List (List ℕ)) → ReachesWithin domains at → ReachesWithin domains (reached_from domains at parts)
ReachesWithin-reached_from domains at [] reaches = reaches
ReachesWithin-reached_from domains at (name ∷ parts) reaches = ReachesWithin-reached_from domains (led domains at.0 at.1 name) parts (ReachesWithin-led domains at.0 at.1 name reaches)

-- a path that leads nowhere names no domain
IsWithin-or_nowhere : (domains : ℕ) (text : List ℕ) (at : Reached) → ReachesWithin domains at → IsWithin domains (or_nowhere text at).0
IsWithin-or_nowhere domains text (Some path, names) reaches = reaches
IsWithin-or_nowhere domains text (None, names) reaches = tt

-- the domain that a text names exists
pub IsWithin-path_of : (domains : ℕ) (names : List (List ℕ)) (text : List ℕ) (path : PathRef) (after : List (List ℕ)) → path_of domains names text ≡ Some (path, after) → IsWithin domains path
IsWithin-path_of domains names text path after read = at (components_of text) read
  where
    at : (parts : Option (List (List ℕ))) → option_map (λ ps. or_nowhere text (reached domains names ps)) parts ≡ Some (path, after) → IsWithin domains path
    at None e = absurd (none-some (path, after) e)
    at (Some ps) e = subst (λ (p : PathRef × List (List ℕ)). IsWithin domains p.0) (same_Some _ _ e) (IsWithin-or_nowhere domains text (reached domains names ps) (ReachesWithin-reached_from domains (Some (Dir Root), names) ps tt))
