-- The lines of a listing, a name at a time.
use Rattle.std.proofs.Common.{◌≡◌, ℕ, zero, suc, ◌+◌, ◌<◌, ◌≤◌, true, false, cond, List, [], ◌∷◌, ◌++◌, length, map, take, Option, Some, None, refl, sym, ap, ◌∙◌, arith}
use Rattle.std.specs.Prelude.{filter, slice_get}
use Rattle.std.specs.List.{flat_map, range_with_len}
use Rattle.std.proofs.lemmas.List.{append-nil, take_all, take_more}
use Rattle.std.proofs.lemmas.Grind.{flat_map-append}
use Rattle.std.proofs.lemmas.Option.{get_or_from_slice_get, slice_get_within}
use Rattle.std.proofs.lemmas.List.Folds.{flat_map-map}
use Rattle.std.proofs.lemmas.Simd.{map-map}
use Rattle.machine.specs.declared.parameters.Parameters.{Parameters}
use Rattle.path_names.specs.PathTable.{Entry, domain_entry, domain_name, fixed_in, fixed_name}
use Rattle.path_names.specs.declared.dirs.DirRef.{DirRef}
use Rattle.path_names.specs.declared.dirs.DirRef.TheVariants.{MonData}
use Rattle.path_names.specs.declared.dirs.Holder.{Holder}
use Rattle.rc_base.specs.declared.names.Gid.{Gid}
use Rattle.file_view.specs.Lines.{on_line, on_lines}
use Rattle.file_view.specs.Listings.{fixed_names, group_line, group_name, is_listed, names_in}
use Rattle.group_tree.specs.declared.group.Group.{Group}

-- no place below the length is empty
pub slice_get-none : {X : Type 0} (xs : List X) (k : ℕ) → None ≡ slice_get xs k → k < length xs → ⊥
slice_get-none [] k is within = omega (arith, within)
slice_get-none (x ∷ xs) zero is within = cc
slice_get-none (x ∷ xs) (suc k) is within = slice_get-none xs k is (omega (arith, within))

-- ---- groups

-- the lines of those that stand in a directory are the lines of all
on_lines-names_in : (names : List (List ℕ)) (parent : Option Gid) (groups : List Group) → on_lines (names_in names parent groups) ≡ flat_map (group_line names parent) groups
on_lines-names_in names parent [] = refl
on_lines-names_in names parent (g ∷ groups) =
    let rest = on_lines-names_in names parent groups in
    elim (is_listed parent g) as (λ b. on_lines (map (group_name names) (cond b (g ∷ filter (is_listed parent) groups) (filter (is_listed parent) groups))) ≡ cond b (on_line (group_name names g)) [] ++ flat_map (group_line names parent) groups) [
      | true ↦ ap (λ t. on_line (group_name names g) ++ t) rest
      | false ↦ rest
    ]

-- the lines of the first groups are those of all, once there are no more
pub flat_map-group_line_take : (names : List (List ℕ)) (parent : Option Gid) (groups : List Group) (k : ℕ) → length groups ≤ k → flat_map (group_line names parent) (take k groups) ≡ on_lines (names_in names parent groups)
flat_map-group_line_take names parent groups k all = ap (flat_map (group_line names parent)) (take_all k groups all) ∙ sym (on_lines-names_in names parent groups)

-- the lines of one group more
pub flat_map-group_line_take_suc : (names : List (List ℕ)) (parent : Option Gid) (groups : List Group) (k : ℕ) (g : Group) → slice_get groups k ≡ Some g
    → flat_map (group_line names parent) (take (k + 1) groups) ≡ flat_map (group_line names parent) (take k groups) ++ group_line names parent g
flat_map-group_line_take_suc names parent groups k g is =
    let f = group_line names parent in
    let all : take (k + 1) groups ≡ take k groups ++ g ∷ [] = take_more groups k g (slice_get_within groups k g is) ∙ ap (λ y. take k groups ++ y ∷ []) (get_or_from_slice_get groups k g g is) in
    ap (flat_map f) all ∙ (flat_map-append f (take k groups) (g ∷ []) ∙ ap (λ (t : List ℕ). flat_map f (take k groups) ++ t) (append-nil (f g)))

-- ---- domains

-- the lines of all domains
pub flat_map-domain_lines : (domains k : ℕ) → k ≡ domains → flat_map (λ d. on_line (domain_name d)) (range_with_len 0 k) ≡ on_lines (map domain_name (range_with_len 0 domains))
flat_map-domain_lines domains k all = ap (λ n. flat_map (λ d. on_line (domain_name d)) (range_with_len 0 n)) all ∙ sym (flat_map-map on_line domain_name (range_with_len 0 domains))

-- they are the fixed entries of `mon_data`
pub fixed_names-mon_data : (m : Parameters) (holder : Holder) → fixed_names m (MonData holder) ≡ map domain_name (range_with_len 0 m.domains)
fixed_names-mon_data m holder = map-map (λ (e : Entry). e.0) (domain_entry holder) (range_with_len 0 m.domains)

-- the fixed entries of any other directory
pub fixed_names-other : (m : Parameters) (dir : DirRef) → ((holder : Holder) → dir ≡ MonData holder → ⊥) → fixed_names m dir ≡ map fixed_name (fixed_in dir)
fixed_names-other m (MonData holder) apart = absurd (apart holder refl)
fixed_names-other m dir apart = refl
