use Rattle.std.proofs.Common.{◌≡◌, ℕ, List, subst}
use Rattle.path_names.specs.Interned.{number_of}
use Rattle.path_names.specs.NameList.{names_of}
use Rattle.path_names.proofs.NameTable.{number_of-only}
use Rattle.path_names.proofs.names.Names.text.Goals as goal

pub returns-clause-only : goal.returns-clause-only
returns-clause-only c = subst (λ (names : List (List ℕ)). number_of c.get.result.now names ≡ c.args.id.0) c.self.view_is
    (number_of-only (names_of c.self.inside.list) c.args.id.0 c.get.result.now c.self.invariant.0.apart c.get.ensures)
