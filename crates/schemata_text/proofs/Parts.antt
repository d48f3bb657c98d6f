-- The printed text of a list whose first entry is taken off.
use Rattle.std.proofs.Common.{◌≡◌, ℕ, ◌-◌, ◌≤◌, List, [], ◌∷◌, ◌++◌, length, get_or, take, drop, codes, arith, ◌∙◌}
use Rattle.std.proofs.lemmas.List.{take_all}
use Rattle.schemata_text.specs.declared.assignment.Assignment.{Assignment}
use Rattle.schemata_text.specs.Printed.{printed, entry_text}
use Rattle.schemata_text.proofs.laws.Entries.{others_text, printed-some}

-- the first entry, and the others so far as they are all printed
pub printed-parts : (ways k : ℕ) (d : Assignment) (all : List Assignment) → 1 ≤ length all → length (take (length all - 1) (drop 1 all)) ≤ k
    → printed ways all ≡ codes "L3:" ++ (entry_text ways (get_or all 0 d) ++ others_text ways (take k (take (length all - 1) (drop 1 all))))
printed-parts ways k d [] some done = absurd (omega arith)
printed-parts ways k d (a ∷ all) some done =
    let rest : take (length (a ∷ all) - 1) all ≡ all = take_all (length (a ∷ all) - 1) all (omega arith) in
    let whole : take k (take (length (a ∷ all) - 1) all) ≡ all = take_all k (take (length (a ∷ all) - 1) all) done ∙ rest in
    rw whole (printed-some ways a all)
