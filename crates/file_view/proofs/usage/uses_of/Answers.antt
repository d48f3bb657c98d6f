use Rattle.std.proofs.Common.{◌≡◌, ℕ, ◌∷◌, [], None, map, subst, ap, arith, length-append}
use Rattle.std.specs.List.{range_with_len}
use Rattle.bit_usage.proofs.laws.SameWays.{letters_in, letters_of-same, usage_text-same}
use Rattle.machine.specs.declared.parameters.Parameters.{Parameters}
use Rattle.tree_law.specs.Space.{used_in}
use Rattle.file_view.proofs.Uses.{SameWays-told, letters_in-more}
use Rattle.file_view.proofs.usage.uses_of.Goals as goal

pub loop-domain-preserved : goal.loop-domain-preserved
loop-domain-preserved c =
    let m = c.args.tree.now.machine in
    let s = c.args.tree.now.state in
    let told = c.use_of.ensures in
    let ways = SameWays-told m s c.loop-domain.domain c.use_of.result told.hardware told.shared told.exclusive told.region in
    rw c.push.ensures.items (record {
      count = omega (arith, c.loop-domain.invariant.count, length-append c.loop-domain.all.items (c.use_of.result ∷ []));
      same = letters_in-more m.ways c.loop-domain.domain (used_in m s None) c.loop-domain.all.items c.use_of.result c.loop-domain.invariant.same (letters_of-same c.use_of.result (used_in m s None c.loop-domain.domain) m.ways ways);
    })

pub returns-clause-text : goal.returns-clause-text
returns-clause-text c =
    let m = c.args.tree.now.machine in
    let s = c.args.tree.now.state in
    let all : c.loop-domain.domain ≡ m.domains = omega (arith, ap (λ (p : Parameters). p.domains) c.machine.ensures) in
    usage_text-same m.ways c.loop-domain.all.items (map (used_in m s None) (range_with_len 0 m.domains)) (subst (λ (n : ℕ). letters_in m.ways c.loop-domain.all.items ≡ letters_in m.ways (map (used_in m s None) (range_with_len 0 n))) all c.loop-domain.invariant.same)
