use Rattle.std.proofs.Common.{ℕ, eqb, List, ap₂, eqb-true, sym, ◌∙◌}
use Rattle.std.specs.Cmp.Lexicographic.{bytes_decides, pointwise}
use Rattle.std.proofs.lemmas.Bool.{and_parts}
use Rattle.run_windows.specs.declared.exclusive_group.ExclusiveGroup.{ExclusiveGroup}
use Rattle.run_windows.proofs.exclusive_group.are_same.Goals as goal

pub returns : goal.returns
returns c = λ is.
    let a = c.args.one.now in
    let b = c.args.other.now in
    let parts = and_parts (eqb a.gid.0 b.gid.0) (pointwise eqb a.masks b.masks) (sym c.eq.ensures ∙ is) in
    ap₂ {C = ExclusiveGroup} (λ (n : ℕ) (l : List ℕ). record { gid = record { 0 = n }; masks = l }) (eqb-true a.gid.0 b.gid.0 parts.0) ((bytes_decides a.masks b.masks).0 parts.1)
