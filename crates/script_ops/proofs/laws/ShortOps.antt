-- Ops whose components have short names keep them while names come.
use Rattle.std.proofs.Common.{ℕ, List, length, get_or, All}
use Rattle.std.proofs.lemmas.List.Elements.{All-nil}
use Rattle.path_names.specs.Interned.{Keeps}
use Rattle.path_names.specs.ShortNames.{IsShortName}
use Rattle.path_names.proofs.laws.ShortNames.{AreShort-component_ids_kept}
use Rattle.script_ops.specs.Canonical.{AreAllShort, AreNamed, IsNamed, IsShort}
use Rattle.script_ops.specs.declared.op.Op.{Op}
use Rattle.script_ops.specs.declared.op.Op.TheVariants as ops

module _ (old new : List (List ℕ)) where
  -- an op whose names are known
  pub IsShort-kept : (op : Op) → Keeps old new → IsNamed (length old) op → IsShort old op → IsShort new op
  IsShort-kept (ops.Mkdir path) kept known short = AreShort-component_ids_kept old new path kept known short
  IsShort-kept (ops.Rmdir path) kept known short = AreShort-component_ids_kept old new path kept known short
  IsShort-kept (ops.Write path text) kept known short = AreShort-component_ids_kept old new path kept known short
  IsShort-kept (ops.Read path) kept known short = AreShort-component_ids_kept old new path kept known short
  IsShort-kept (ops.List path) kept known short = AreShort-component_ids_kept old new path kept known short
  IsShort-kept (ops.Flush domain) kept known short = All-nil (IsShortName new)
  IsShort-kept ops.Tick kept known short = All-nil (IsShortName new)
  IsShort-kept (ops.Access task cpu addr) kept known short = All-nil (IsShortName new)
  IsShort-kept (ops.Touch cpu path task offset) kept known short = AreShort-component_ids_kept old new path kept known short
  IsShort-kept (ops.DropLine addr) kept known short = All-nil (IsShortName new)
  IsShort-kept (ops.DropRegion path offset) kept known short = AreShort-component_ids_kept old new path kept known short

  -- ops
  pub AreAllShort-kept : (ops : List Op) → Keeps old new → AreNamed (length old) ops → AreAllShort old ops → AreAllShort new ops
  AreAllShort-kept ops kept known short = λ k d h. IsShort-kept (get_or ops k d) kept (known k d h) (short k d h)

  -- the ops of threads
  pub All-AreAllShort_kept : (threads : List (List Op)) → Keeps old new → All (AreNamed (length old)) threads → All (AreAllShort old) threads → All (AreAllShort new) threads
  All-AreAllShort_kept threads kept known short = λ k d h. AreAllShort-kept (get_or threads k d) kept (known k d h) (short k d h)
