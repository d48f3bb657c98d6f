-- The text of `size`, an entry at a time.
use Rattle.std.proofs.Common.{◌≡◌, ℕ, ◌-◌, ◌≤◌, List, [], ◌∷◌, ◌++◌, length, map, get_or, take, drop, codes, refl, ap, ◌∙◌, arith}
use Rattle.std.specs.List.{flat_map}
use Rattle.std.proofs.lemmas.List.Folds.{flat_map-map}
use Rattle.std.proofs.lemmas.List.{take_all}
use Rattle.machine.specs.declared.parameters.Parameters.{Parameters}
use Rattle.num_text.proofs.laws.Pieces.{join_with_byte-cons}
use Rattle.schemata_text.specs.declared.assignment.Assignment.{Assignment}
use Rattle.file_view.specs.GroupFiles.{size_entry, size_line}

-- the entries after the first, each with its separator
abbrev pub others_text : Parameters → List Assignment → List ℕ
others_text m all = flat_map (λ (a : Assignment). 59 ∷ size_entry m a) all

-- no entry
pub size_line-none : (m : Parameters) → size_line m [] ≡ codes "L3:"
unfolding size_line
size_line-none m = refl

-- an entry, and the others
pub size_line-some : (m : Parameters) (a : Assignment) (all : List Assignment) → size_line m (a ∷ all) ≡ codes "L3:" ++ (size_entry m a ++ others_text m all)
unfolding size_line
size_line-some m a all = ap (λ (rest : List ℕ). codes "L3:" ++ rest) (join_with_byte-cons 59 (size_entry m a) (map (size_entry m) all) ∙ ap (λ (rest : List ℕ). size_entry m a ++ rest) (flat_map-map (λ (y : List ℕ). 59 ∷ y) (size_entry m) all))

-- the same at a list whose first is taken off
pub size_line-parts : (m : Parameters) (k : ℕ) (d : Assignment) (all : List Assignment) → 1 ≤ length all → length (take (length all - 1) (drop 1 all)) ≤ k
    → size_line m all ≡ codes "L3:" ++ (size_entry m (get_or all 0 d) ++ others_text m (take k (take (length all - 1) (drop 1 all))))
size_line-parts m k d [] some done = absurd (omega arith)
size_line-parts m k d (a ∷ all) some done =
    let rest : take (length (a ∷ all) - 1) all ≡ all = take_all (length (a ∷ all) - 1) all (omega arith) in
    let whole : take k (take (length (a ∷ all) - 1) all) ≡ all = take_all k (take (length (a ∷ all) - 1) all) done ∙ rest in
    rw whole (size_line-some m a all)
