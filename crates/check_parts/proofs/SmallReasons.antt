-- A reason that has an argument of 64 bits.
use Rattle.std.proofs.Common.{◌^◌, ◌<◌, Bool, true, false, cond, List, find, Option, Some, None, option_map, arith}
use Rattle.std.specs.Option.{option_map_or, option_or}
use Rattle.group_tree.specs.declared.group.Group.{Group}
use Rattle.rc_base.specs.declared.replies.Why.{Why}
use Rattle.tree_law.specs.Refusals.{Refusal, first_of, plain}

-- a reason, where there is one, has an argument of 64 bits
abbrev pub IsSmall : Option Refusal → Type 0
IsSmall None = Unit {0}
IsSmall (Some r) = r.arg < 2 ^ 64

-- the first of two
pub IsSmall-or : (a b : Option Refusal) → IsSmall a → IsSmall b → IsSmall (option_or a b)
IsSmall-or None b first second = second
IsSmall-or (Some r) b first second = first

-- one of two
pub IsSmall-cond : (b : Bool) (x y : Option Refusal) → IsSmall x → IsSmall y → IsSmall (cond b x y)
IsSmall-cond true x y first second = first
IsSmall-cond false x y first second = second

-- one without an argument
pub IsSmall-plain : (why : Why) → IsSmall (Some (plain why))
IsSmall-plain why = omega arith

-- the first of some that have none
pub IsSmall-first_of : (holds : Why → Bool) (reasons : List Why) → IsSmall (first_of holds reasons)
IsSmall-first_of holds reasons = at (find holds reasons)
  where
    at : (o : Option Why) → IsSmall (option_map plain o)
    at None = tt
    at (Some why) = IsSmall-plain why

-- for the group of a directory, where it exists
pub IsSmall-option_map_or : (o : Option Group) (f : Group → Option Refusal) → ((g : Group) → IsSmall (f g)) → IsSmall (option_map_or f o None)
IsSmall-option_map_or None f each = tt
IsSmall-option_map_or (Some g) f each = each g
