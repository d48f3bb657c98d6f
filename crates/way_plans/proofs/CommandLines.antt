-- The lines of a plan are the lines of its commands.
use Rattle.std.proofs.Common.{◌≡◌, ℕ, ◌+◌, Bool, true, false, cond, List, [], ◌∷◌, ◌++◌, map, refl, sym, ap, ◌∙◌, append_assoc}
use Rattle.std.specs.List.{flat_map}
use Rattle.group_tree.specs.declared.group.Group.{Group}
use Rattle.script_ops.specs.declared.op.Op.{Op}
use Rattle.way_plans.specs.PlanCommands.{LinesAreCommands, exclusive_op, op_line, schemata_ops, shareable_op, shareable_ops}
use Rattle.way_plans.specs.PlanTexts.{DomainPart, exclusive_line, is_exclusive, is_whole, schemata_line, schemata_lines, shareable_line}

-- the lines of some commands, and of others
lines-append : (names : List (List ℕ)) (ops more : List Op) → flat_map (op_line names) (ops ++ more) ≡ flat_map (op_line names) ops ++ flat_map (op_line names) more
lines-append names [] more = refl
lines-append names (op ∷ ops) more = ap (λ (rest : List ℕ). op_line names op ++ rest) (lines-append names ops more) ∙ sym (append_assoc (op_line names op) (flat_map (op_line names) ops) (flat_map (op_line names) more))

-- those that make groups shareable
lines-shareable : (names : List (List ℕ)) (groups : List Group) → flat_map (shareable_line names) groups ≡ flat_map (op_line names) (flat_map shareable_ops groups)
lines-shareable names [] = refl
lines-shareable names (g ∷ gs) = ap (λ (rest : List ℕ). shareable_line names g ++ rest) (lines-shareable names gs) ∙ at (is_exclusive g.mode)
  where
    at : (b : Bool) → cond b (op_line names (shareable_op g)) [] ++ flat_map (op_line names) (flat_map shareable_ops gs) ≡ flat_map (op_line names) (cond b (shareable_op g ∷ []) [] ++ flat_map shareable_ops gs)
    at true = refl
    at false = refl

-- those that give groups their ways
lines-schemata : (names : List (List ℕ)) (ways : ℕ) (parts : List DomainPart) (place : ℕ) (groups : List Group) → schemata_lines names ways parts place groups ≡ flat_map (op_line names) (schemata_ops ways parts place groups)
lines-schemata names ways parts place [] = refl
lines-schemata names ways parts place (g ∷ gs) = ap (λ (rest : List ℕ). schemata_line names ways parts place g ++ rest) (lines-schemata names ways parts (place + 1) gs)

-- those that make groups exclusive
lines-exclusive : (names : List (List ℕ)) (groups : List Group) → flat_map (exclusive_line names) groups ≡ flat_map (op_line names) (map exclusive_op groups)
lines-exclusive names [] = refl
lines-exclusive names (g ∷ gs) = ap (λ (rest : List ℕ). exclusive_line names g ++ rest) (lines-exclusive names gs)

-- all of them
pub lines-commands : LinesAreCommands
lines-commands names ways groups parts = at (is_whole parts)
  where
    at : (b : Bool) → cond b (flat_map (shareable_line names) groups ++ schemata_lines names ways parts 0 groups ++ flat_map (exclusive_line names) groups) []
        ≡ flat_map (op_line names) (cond b (flat_map shareable_ops groups ++ schemata_ops ways parts 0 groups ++ map exclusive_op groups) [])
    at false = refl
    at true =
        ap (λ (l : List ℕ). l ++ schemata_lines names ways parts 0 groups ++ flat_map (exclusive_line names) groups) (lines-shareable names groups)
        ∙ (ap (λ (l : List ℕ). flat_map (op_line names) (flat_map shareable_ops groups) ++ l ++ flat_map (exclusive_line names) groups) (lines-schemata names ways parts 0 groups)
        ∙ (ap (λ (l : List ℕ). flat_map (op_line names) (flat_map shareable_ops groups) ++ flat_map (op_line names) (schemata_ops ways parts 0 groups) ++ l) (lines-exclusive names groups)
        ∙ (ap (λ (l : List ℕ). l ++ flat_map (op_line names) (map exclusive_op groups)) (sym (lines-append names (flat_map shareable_ops groups) (schemata_ops ways parts 0 groups)))
        ∙ sym (lines-append names (flat_map shareable_ops groups ++ schemata_ops ways parts 0 groups) (map exclusive_op groups)))))
