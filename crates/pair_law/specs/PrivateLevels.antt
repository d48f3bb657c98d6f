-- A private hierarchy of two levels: what a group's uses would do alone, from a flush on.
use Rattle.std.specs.Prelude.{ℕ, ◌+◌, ◌-◌, ◌%◌, Bool, not, ◌==◌, ◌&&◌, if◌then◌else◌, List, [], ◌∷◌, filter, map, length, Option, Some}
use Rattle.std.specs.List.{flat_map, range_with_len}
use Rattle.cbm.specs.Masks.{ways_of}
use Rattle.pair_text.specs.Values.{PairScriptValue, op_at, side_machine}
use Rattle.pair_text.specs.declared.op.PairOp.{PairOp}
use Rattle.pair_text.specs.declared.op.PairOp.TheVariants as ops
use Rattle.pair_text.specs.declared.side.Side.TheVariants.{First, Second}
use Rattle.pair_law.specs.LevelRuns.{domain_on, user_at}
use Rattle.private_lru.specs.Private.{private_hit}
use Rattle.private_lru.specs.declared.item.Item.{Item}
use Rattle.private_lru.specs.declared.item.Item.TheVariants as items

-- the uses of a set's lines; nothing is dropped from a line by itself
abbrev pub uses_of_set : ℕ → ℕ → List ℕ → List Item
uses_of_set sets set lines = map items.Use (filter (λ line. line % sets == set) lines)

-- the ops between two places
abbrev pub between : ℕ → ℕ → List ℕ
between from i = range_with_len (from + 1) (i - (from + 1))

module _ (script : PairScriptValue) (group : ℕ) (mask : ℕ) (masks : ℕ → ℕ) (from : ℕ) where
  -- the line of a use of the group in an L2 domain
  abbrev pub l2_line : ℕ → ℕ → Option PairOp → List ℕ
  l2_line x i (Some (ops.Use task cpu line code)) = if (domain_on script First cpu == x) && ((user_at script i task).0 == group) then line ∷ [] else []
  l2_line x i op = []

  -- the lines that the group used there before a place
  abbrev pub l2_lines : ℕ → ℕ → List ℕ
  l2_lines x i = flat_map (λ k. l2_line x k (op_at script k)) (between from i)

  -- a use of a line hits in the private L2
  abbrev pub l2_hits : ℕ → ℕ → ℕ → Bool
  l2_hits x i line = private_hit (length (ways_of (masks x))) (uses_of_set (side_machine script.machines First).sets (line % (side_machine script.machines First).sets) (l2_lines x i)) line

  -- the line of a use of the group, on a CPU of an L3 domain, that misses in the private L2
  abbrev pub l3_line : ℕ → ℕ → Option PairOp → List ℕ
  l3_line domain i (Some (ops.Use task cpu line code)) =
      if (domain_on script Second cpu == domain) && ((user_at script i task).0 == group) && not (l2_hits (domain_on script First cpu) i line) then line ∷ [] else []
  l3_line domain i op = []

  abbrev pub l3_lines : ℕ → ℕ → List ℕ
  l3_lines domain i = flat_map (λ k. l3_line domain k (op_at script k)) (between from i)

  -- a use of a line that misses in the private L2 hits in the private L3
  abbrev pub l3_hits : ℕ → ℕ → ℕ → Bool
  l3_hits domain i line = private_hit (length (ways_of mask)) (uses_of_set (side_machine script.machines Second).sets (line % (side_machine script.machines Second).sets) (l3_lines domain i)) line
