use Rattle.std.proofs.Common.{◌≡◌, ◌+◌, ◌++◌, [], ◌∷◌, length, sym, ap, ◌∙◌, arith, length-append}
use Rattle.std.proofs.lemmas.List.{append-nil}
use Rattle.pair_tree.proofs.SideLines.{append-entry, others_text-end, others_text-next}
use Rattle.pair_tree.specs.Printed.{entry_at, others_text}
use Rattle.pair_tree.proofs.printing.push_others.Goals as goal

pub loop-domain-preserved : goal.loop-domain-preserved
loop-domain-preserved c =
    let m = c.args.m.now in let g = c.args.g.now in let side = c.args.side in let d = c.loop-domain.domain in
    let a = c.loop-domain.out.bytes in let e = entry_at m g side d in
    let new : c.push_domain.new.out.bytes ≡ (a ++ 59 ∷ []) ++ e = c.push_domain.ensures.bytes ∙ ap (λ t. t ++ e) c.push.ensures.bytes in
    let long = ap length new ∙ length-append (a ++ 59 ∷ []) e in
    let longer = length-append a (59 ∷ []) in
    record {
      bytes = ap (λ t. t ++ others_text m g side (d + 1)) new ∙ append-entry a e (others_text m g side (d + 1)) ∙ ap (λ t. a ++ t) (sym (others_text-next m g side d (omega (arith, c.domains-domain-end.ensures.domains)))) ∙ c.loop-domain.invariant.bytes;
      spare = omega (arith, long, longer, c.loop-domain.invariant.spare, c.push.ensures.spare, c.push_domain.ensures.spare);
      short = omega (arith, long, longer, c.loop-domain.invariant.short, c.push_domain.ensures.short, c.loop-domain.auto.domain);
      room = c.requires.room;
    }

pub returns-clause-bytes : goal.returns-clause-bytes
returns-clause-bytes c =
    let none = others_text-end c.args.m.now c.args.g.now c.args.side c.loop-domain.domain (omega (arith, c.domains-domain-end.ensures.domains, c.loop-domain-test.false)) in
    sym (append-nil c.loop-domain.out.bytes) ∙ ap (λ t. c.loop-domain.out.bytes ++ t) (sym none) ∙ c.loop-domain.invariant.bytes

pub returns-clause-spare : goal.returns-clause-spare
returns-clause-spare c =
    let others = others_text c.args.m.now c.args.g.now c.args.side 1 in
    let none = others_text-end c.args.m.now c.args.g.now c.args.side c.loop-domain.domain (omega (arith, c.domains-domain-end.ensures.domains, c.loop-domain-test.false)) in
    let whole = sym (append-nil c.loop-domain.out.bytes) ∙ ap (λ t. c.loop-domain.out.bytes ++ t) (sym none) ∙ c.loop-domain.invariant.bytes in
    omega (arith, ap length whole, length-append c.args.out.now.bytes others, c.loop-domain.invariant.spare)

pub returns-clause-short : goal.returns-clause-short
returns-clause-short c =
    let others = others_text c.args.m.now c.args.g.now c.args.side 1 in
    let none = others_text-end c.args.m.now c.args.g.now c.args.side c.loop-domain.domain (omega (arith, c.domains-domain-end.ensures.domains, c.loop-domain-test.false)) in
    let whole = sym (append-nil c.loop-domain.out.bytes) ∙ ap (λ t. c.loop-domain.out.bytes ++ t) (sym none) ∙ c.loop-domain.invariant.bytes in
    omega (arith, ap length whole, length-append c.args.out.now.bytes others, c.loop-domain.invariant.short, c.loop-domain.auto.domain-end, c.domains-domain-end.ensures.few, c.domains-domain-end.ensures.domains, c.requires.some)
