-- Which ops are accesses.
use Rattle.std.proofs.Common.{◌≡◌, Bool, true, false, Option, Some, None, refl, sym, ap, ◌∙◌}
use Rattle.std.specs.Prelude.{not}
use Rattle.journal_check.specs.OpKinds.{is_access_of}
use Rattle.run_law.specs.Ops.{is_command}
use Rattle.script_ops.specs.declared.op.Op.{Op}

-- a negation, turned
turned : (b : Bool) → not b ≡ true → b ≡ false
turned true is = absurd cc
turned false is = refl

-- an access is there, and no command
pub is_access_of-true : (o : Option Op) → is_access_of o ≡ true → (c : Op) × (o ≡ Some c) × (is_command c ≡ false)
is_access_of-true None is = absurd cc
is_access_of-true (Some c) is = (c, refl, turned (is_command c) is)

-- and what is there and no command is an access
pub is_access_of-some : (o : Option Op) (c : Op) → o ≡ Some c → is_command c ≡ false → is_access_of o ≡ true
is_access_of-some o c is other = ap is_access_of is ∙ ap not other

-- what is there and no access is a command
pub is_access_of-false : (o : Option Op) (c : Op) → is_access_of o ≡ false → o ≡ Some c → is_command c ≡ true
is_access_of-false o c none is = back (is_command c) (sym (ap is_access_of is) ∙ none)
  where
    back : (b : Bool) → not b ≡ false → b ≡ true
    back true e = refl
    back false e = absurd cc
