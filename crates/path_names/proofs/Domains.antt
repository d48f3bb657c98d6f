-- Looking for a domain's directory, from the least domain on.
use Rattle.std.proofs.Common.{◌≡◌, ℕ, suc, ◌+◌, ◌-◌, ◌<◌, ◌≤◌, true, false, List, ◌∷◌, map, Option, Some, None, refl, arith}
use Rattle.std.specs.List.{range_with_len}
use Rattle.std.specs.Map.{lookup}
use Rattle.path_names.specs.declared.dirs.DirRef.TheVariants.{MonDomain}
use Rattle.path_names.specs.declared.dirs.Holder.{Holder}
use Rattle.path_names.specs.declared.path_ref.PathRef.{PathRef}
use Rattle.path_names.specs.declared.path_ref.PathRef.TheVariants.{Dir}
use Rattle.rc_base.specs.Texts.{is_text}
use Rattle.path_names.specs.PathTable.{domain_entry, domain_name}

-- the entry of this name among the domains from here on
abbrev pub found_from : Holder → List ℕ → ℕ → ℕ → Option PathRef
found_from holder name domains domain = lookup (λ fixed. is_text name fixed) (map (domain_entry holder) (range_with_len domain (domains - domain)))

-- the domains from one on
range_with_len-cons : (domains domain : ℕ) → domain < domains → range_with_len domain (domains - domain) ≡ domain ∷ range_with_len (domain + 1) (domains - (domain + 1))
range_with_len-cons domains domain h = let e : domains - domain ≡ suc (domains - (domain + 1)) = omega arith in rw e refl

-- the name is that of this domain
pub found_from-here : (holder : Holder) (name : List ℕ) (domains domain : ℕ) → domain < domains → is_text name (domain_name domain) ≡ true → found_from holder name domains domain ≡ Some (Dir (MonDomain holder domain))
found_from-here holder name domains domain h is = rw (range_with_len-cons domains domain h, is) refl

-- the name is another
pub found_from-later : (holder : Holder) (name : List ℕ) (domains domain : ℕ) → domain < domains → is_text name (domain_name domain) ≡ false → found_from holder name domains domain ≡ found_from holder name domains (domain + 1)
found_from-later holder name domains domain h is = rw (range_with_len-cons domains domain h, is) refl

-- no domain is left
pub found_from-none : (holder : Holder) (name : List ℕ) (domains domain : ℕ) → domains ≤ domain → found_from holder name domains domain ≡ None
found_from-none holder name domains domain h = let e : domains - domain ≡ 0 = omega arith in rw e refl
