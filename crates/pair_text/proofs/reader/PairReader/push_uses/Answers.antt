use Rattle.std.proofs.Common.{◌≡◌, ◌+◌, ◌≤◌, List, ◌∷◌, [], ◌++◌, length, map, Ok, sym, subst, ap, ◌∙◌, arith}
use Rattle.std.proofs.lemmas.List.{append_assoc, append-nil, length-append, length-map, map-append}
use Rattle.lackey_text.specs.Uses.{uses_left}
use Rattle.lackey_text.specs.declared.uses.LineUse.{LineUse}
use Rattle.pair_text.specs.declared.op.PairOp.{PairOp}
use Rattle.pair_text.proofs.AddedUses.{Fails-with_uses, added, added-more, added-none, with_uses-added}
use Rattle.pair_text.specs.PairLines.{PairState, use_in, with_uses}
use Rattle.pair_text.specs.Readers.{state_of}
use Rattle.pair_text.proofs.reader.PairReader.push_uses.Goals as goal

pub loop-used-init : goal.loop-used-init
loop-used-init c = record {
  goes = tt;
  ends = tt;
  taken = ap uses_left c.into_iter-used-iterator.ensures.into_iter_gives;
  so_far = sym (added-none (state_of c.args.self.now));
  sound = c.requires.sound;
}

pub loop-used-preserved : goal.loop-used-preserved
loop-used-preserved c =
    let s : PairState = state_of c.args.self.now in
    let f : LineUse → PairOp = use_in c.args.task c.args.cpu in
    let before : List LineUse = c.loop-used.yielded in
    let used : LineUse = c.in-Some.used in
    let after : PairState = state_of c.push_use.new.self in
    let said : with_uses (added s (map f before)) 1 (f used ∷ []) ≡ Ok after = ap (λ (t : PairState). with_uses t 1 (f used ∷ [])) (sym c.loop-used.invariant.so_far) ∙ c.in-Ok.ensures.said in
    record {
      goes = tt;
      ends = tt;
      taken = append_assoc before (used ∷ []) (uses_left c.next.new.self) ∙ (ap (λ (l : List LineUse). before ++ l) (sym c.in-Some.ensures.steps) ∙ c.loop-used.invariant.taken);
      so_far = added-more s (map f before) (f used) after said ∙ ap (added s) (sym (map-append f before (used ∷ [])));
      sound = c.in-Ok.ensures.sound;
    }

pub returns-in-Err-clause-said : goal.returns-in-Err-clause-said
returns-in-Err-clause-said c =
    let s : PairState = state_of c.args.self.now in
    let f : LineUse → PairOp = use_in c.args.task c.args.cpu in
    let before : List LineUse = c.loop-used.yielded in
    let all : List LineUse = uses_left c.args.uses in
    let uses = ap (λ (t : PairState). t.uses) c.loop-used.invariant.so_far in
    let long : length all ≡ length before + length (uses_left c.loop-used.used-iterator) = sym (ap length c.loop-used.invariant.taken) ∙ length-append before (uses_left c.loop-used.used-iterator) in
    let left : length (uses_left c.loop-used.used-iterator) ≡ length (c.in-Some.used ∷ uses_left c.next.new.self) = ap length c.in-Some.ensures.steps in
    Fails-with_uses s (state_of c.loop-used.self) (f c.in-Some.used) (map f all) (length all) c.in-Err.stop (omega (arith, uses, long, left, length-map before f)) c.in-Err.ensures.said

pub returns-clause-said : goal.returns-clause-said
returns-clause-said c =
    let s : PairState = state_of c.args.self.now in
    let f : LineUse → PairOp = use_in c.args.task c.args.cpu in
    let before : List LineUse = c.loop-used.yielded in
    let all : List LineUse = uses_left c.args.uses in
    let whole : before ≡ all = sym (append-nil before) ∙ (ap (λ (l : List LineUse). before ++ l) (sym c.in-None.ensures.steps.0) ∙ c.loop-used.invariant.taken) in
    let is : state_of c.loop-used.self ≡ added s (map f all) = c.loop-used.invariant.so_far ∙ ap (λ (l : List LineUse). added s (map f l)) whole in
    let fits : s.uses + length (map f all) ≤ 2000000 = subst (λ (t : PairState). t.uses ≤ 2000000) is c.loop-used.invariant.sound.uses in
    with_uses-added s (map f all) (length all) (sym (length-map all f)) fits ∙ ap (λ (t : PairState). Ok t) (sym is)

pub returns-clause-sound : goal.returns-clause-sound
returns-clause-sound c = c.loop-used.invariant.sound
