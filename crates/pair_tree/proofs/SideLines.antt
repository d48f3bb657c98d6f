-- The line of a side in a schemata text, an entry at a time.
use Rattle.std.proofs.Common.{◌≡◌, Bool, true, false, cond, Option, None, Some, decimal, filter, ℕ, suc, ◌+◌, ◌-◌, ◌<◌, ◌≤◌, List, [], ◌∷◌, ◌++◌, length, map, refl, ap, ◌∙◌, arith, append_assoc, length-append}
use Rattle.std.specs.List.{flat_map, join_with_byte, range_with_len}
use Rattle.std.proofs.lemmas.List.Concat.{flat_map-cons}
use Rattle.std.proofs.lemmas.List.Folds.{flat_map-map}
use Rattle.num_text.proofs.laws.Pieces.{join_with_byte-cons}
use Rattle.pair_law.specs.Reading.{side_name}
use Rattle.machine.specs.declared.parameters.Parameters.{Parameters}
use Rattle.pair_law.specs.State.{PairGroup, PairState, group_named}
use Rattle.pair_law.specs.Texts.{file_text, side_line, text_of}
use Rattle.pair_text.specs.Values.{Machines, side_machine}
use Rattle.pair_text.specs.declared.file.PairFile.{PairFile}
use Rattle.pair_text.specs.declared.side.Side.{Side}
use Rattle.pair_text.specs.declared.side.Side.TheVariants.{First, Second}
use Rattle.pair_tree.specs.Printed.{entry_at, others_text, task_line}
use Rattle.rc_base.specs.declared.names.Gid.{Gid}
use Rattle.task_binding.specs.Bindings.{control_members, has_control}
use Rattle.task_binding.specs.declared.binding.Binding.{Binding}

module _ (m : Machines) (g : PairGroup) (side : Side) where
  -- the entry of a domain that the side has, and those after it
  others_from : (d k n : ℕ) → n ≡ suc k → flat_map (λ (i : ℕ). 59 ∷ entry_at m g side i) (range_with_len d n) ≡ 59 ∷ entry_at m g side d ++ flat_map (λ (i : ℕ). 59 ∷ entry_at m g side i) (range_with_len (d + 1) k)
  others_from d k n is = ap (λ (c : ℕ). flat_map (λ (i : ℕ). 59 ∷ entry_at m g side i) (range_with_len d c)) is ∙ flat_map-cons (λ (i : ℕ). 59 ∷ entry_at m g side i) d (range_with_len (d + 1) k)

  pub others_text-next : (d : ℕ) → d < (side_machine m side).domains → others_text m g side d ≡ 59 ∷ entry_at m g side d ++ others_text m g side (d + 1)
  unfolding others_text
  others_text-next d lt = others_from d ((side_machine m side).domains - (d + 1)) ((side_machine m side).domains - d) (omega arith)

  -- no domain is left
  pub others_text-end : (d : ℕ) → (side_machine m side).domains ≤ d → others_text m g side d ≡ []
  unfolding others_text
  others_text-end d le = let none : (side_machine m side).domains - d ≡ 0 = omega arith in rw none refl

  -- the line, by its parts
  line_from : (n k : ℕ) → n ≡ suc k → join_with_byte 59 (map (entry_at m g side) (range_with_len 0 n)) ≡ entry_at m g side 0 ++ flat_map (λ (i : ℕ). 59 ∷ entry_at m g side i) (range_with_len 1 k)
  line_from n k is =
      ap (λ (c : ℕ). join_with_byte 59 (map (entry_at m g side) (range_with_len 0 c))) is
      ∙ join_with_byte-cons 59 (entry_at m g side 0) (map (entry_at m g side) (range_with_len 1 k))
      ∙ ap (λ (rest : List ℕ). entry_at m g side 0 ++ rest) (flat_map-map (λ (y : List ℕ). 59 ∷ y) (entry_at m g side) (range_with_len 1 k))

  pub side_line-parts : 0 < (side_machine m side).domains → side_line m g side ≡ side_name m.l2 side ++ 58 ∷ (entry_at m g side 0 ++ others_text m g side 1) ++ 10 ∷ []
  unfolding others_text
  side_line-parts some = ap (λ (t : List ℕ). side_name m.l2 side ++ 58 ∷ t ++ 10 ∷ []) (line_from (side_machine m side).domains ((side_machine m side).domains - 1) (omega arith))

-- ---- texts that are put together

-- an entry after its separator
pub append-entry : (a e rest : List ℕ) → ((a ++ 59 ∷ []) ++ e) ++ rest ≡ a ++ (59 ∷ e ++ rest)
append-entry a e rest = simp append_assoc

-- a line
pub append-line : (a name e rest : List ℕ) → ((((a ++ name) ++ 58 ∷ []) ++ e) ++ rest) ++ 10 ∷ [] ≡ a ++ (name ++ 58 ∷ (e ++ rest) ++ 10 ∷ [])
append-line a name e rest = simp append_assoc

pub length-line : (name e rest : List ℕ) → length (name ++ 58 ∷ (e ++ rest) ++ 10 ∷ []) ≡ length name + length e + length rest + 2
length-line name e rest = omega (arith, length-append (name ++ 58 ∷ (e ++ rest)) (10 ∷ []), length-append name (58 ∷ (e ++ rest)), length-append e rest)

-- a side's name is short
pub length-side_name : (l2 : Option Parameters) (side : Side) → length (side_name l2 side) ≤ 6
length-side_name None First = omega arith
length-side_name None Second = omega arith
length-side_name (Some l2) First = omega arith
length-side_name (Some l2) Second = omega arith

-- ---- tasks

-- the lines of the tasks of a group
pub flat_map-task_line : (gid : Gid) (tasks : List Binding) → flat_map (task_line gid) tasks ≡ flat_map (λ (t : ℕ). decimal t ++ 10 ∷ []) (control_members gid tasks)
flat_map-task_line gid [] = refl
flat_map-task_line gid (b ∷ tasks) = at (has_control gid b) (flat_map-task_line gid tasks)
  where
    at : (own : Bool) → flat_map (task_line gid) tasks ≡ flat_map (λ (t : ℕ). decimal t ++ 10 ∷ []) (control_members gid tasks)
        → cond own (decimal b.task ++ 10 ∷ []) [] ++ flat_map (task_line gid) tasks ≡ flat_map (λ (t : ℕ). decimal t ++ 10 ∷ []) (map (λ (x : Binding). x.task) (cond own (b ∷ filter (has_control gid) tasks) (filter (has_control gid) tasks)))
    at true rest = ap (λ (l : List ℕ). (decimal b.task ++ 10 ∷ []) ++ l) rest
    at false rest = rest

-- ---- files

module _ (m : Machines) (s : PairState) (file : PairFile) where
  pub text_of-some : (g : PairGroup) → group_named s file.group ≡ Some g → text_of m s file ≡ file_text m s g file.kind
  unfolding text_of
  text_of-some g is = rw is refl

  pub text_of-none : group_named s file.group ≡ None → text_of m s file ≡ []
  unfolding text_of
  text_of-none none = rw none refl
