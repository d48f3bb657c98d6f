use Rattle.path_names.proofs.NameTable.{IsDistinct-nil}
use Rattle.path_names.proofs.names.Names.create.Goals as goal

pub invariant_of-result : goal.invariant_of-result
invariant_of-result c = rw (c.create.ensures, c.create-2.ensures) (record { apart = IsDistinct-nil; numbered = tt }, tt)
