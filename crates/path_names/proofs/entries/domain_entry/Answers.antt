use Rattle.std.proofs.Common.{◌≡◌, ◌-◌, sym, refl, ◌∙◌, arith}
use Rattle.path_names.specs.PathTable.{entry_of}
use Rattle.path_names.proofs.Domains.{found_from-here, found_from-later, found_from-none}
use Rattle.path_names.proofs.entries.domain_entry.Goals as goal

pub loop-domain-preserved : goal.loop-domain-preserved
loop-domain-preserved c = c.loop-domain.invariant ∙ found_from-later c.args.holder c.args.name.now c.args.domains c.loop-domain.domain c.loop-domain-test.true (sym c.if-is_domain.ensures)

pub returns-then-is_domain : goal.returns-then-is_domain
unfolding entry_of
returns-then-is_domain c = let all : c.args.domains - 0 ≡ c.args.domains = omega arith in
    rw (← found_from-here c.args.holder c.args.name.now c.args.domains c.loop-domain.domain c.loop-domain-test.true (sym c.if-is_domain.ensures), ← c.loop-domain.invariant, all) refl

pub returns : goal.returns
unfolding entry_of
returns c = let all : c.args.domains - 0 ≡ c.args.domains = omega arith in
    rw (← found_from-none c.args.holder c.args.name.now c.args.domains c.loop-domain.domain (omega arith), ← c.loop-domain.invariant, all) refl
