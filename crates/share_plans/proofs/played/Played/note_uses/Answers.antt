use Rattle.std.proofs.Common.{◌≡◌, ◌+◌, ◌<◌, ◌^◌, List, [], ◌∷◌, All, Some, length, sym, ap, ◌∙◌, refl, subst, arith}
use Rattle.std.proofs.lemmas.List.Elements.{All-head, All-tail}
use Rattle.lackey_text.specs.Uses.{uses_left, uses_of}
use Rattle.lackey_text.specs.declared.uses.LineUse.{LineUse}
use Rattle.share_plans.specs.Played.{PlayUses}
use Rattle.share_plans.specs.Streams.{uses_by}
use Rattle.share_plans.specs.declared.program_use.ProgramUse.{ProgramUse}
use Rattle.share_plans.proofs.NearLines.{All-uses_of}
use Rattle.share_plans.proofs.Plays.{PlayUses-append, PlayUses-nil}
use Rattle.share_plans.proofs.played.Played.note_uses.Goals as goal

pub loop-used-init : goal.loop-used-init
loop-used-init c =
    let from : uses_left c.into_iter-used-iterator.result ≡ uses_of c.args.said.now = ap uses_left c.into_iter-used-iterator.ensures.into_iter_gives ∙ c.uses-used-items.ensures in
    record {
      next = tt;
      finite = tt;
      programs = refl;
      near = subst (λ (us : List LineUse). All (λ (u : LineUse). u.line < 2 ^ 42) us) (sym from) (All-uses_of c.args.said.now c.requires.memory);
      count = ap (λ (us : List LineUse). c.args.self.now.shared.uses + length us) from;
      played = λ now more. subst (λ (us : List LineUse). PlayUses c.args.self.now now (uses_by (Some c.args.program) us)) from more;
    }

pub note-requires : goal.note-requires
note-requires c =
    let rest = uses_left c.next.new.self in
    let before = c.loop-used.invariant in
    let first : uses_left c.loop-used.used-iterator ≡ c.in-Some.used ∷ rest = c.in-Some.ensures.steps in
    let near = subst (λ (us : List LineUse). All (λ (u : LineUse). u.line < 2 ^ 42) us) first before.near in
    record {
      program = omega (arith, before.programs, c.requires.program);
      line = All-head (λ (u : LineUse). u.line < 2 ^ 42) c.in-Some.used rest near;
      room = omega (arith, ap length first, before.count, c.requires.room);
    }

pub loop-used-preserved : goal.loop-used-preserved
loop-used-preserved c =
    let rest = uses_left c.next.new.self in
    let before = c.loop-used.invariant in
    let first : uses_left c.loop-used.used-iterator ≡ c.in-Some.used ∷ rest = c.in-Some.ensures.steps in
    let near = subst (λ (us : List LineUse). All (λ (u : LineUse). u.line < 2 ^ 42) us) first before.near in
    let one : ProgramUse = record { program = c.args.program; line = c.in-Some.used.line; code = c.in-Some.used.code } in
    record {
      next = tt;
      finite = tt;
      programs = c.note.ensures.count ∙ before.programs;
      near = All-tail (λ (u : LineUse). u.line < 2 ^ 42) c.in-Some.used rest near;
      count = omega (arith, ap length first, before.count, c.note.ensures.uses);
      played = λ now more. before.played now (subst (λ (us : List LineUse). PlayUses c.loop-used.self now (uses_by (Some c.args.program) us)) (sym first)
          (PlayUses-append c.loop-used.self c.note.new.self now (one ∷ []) (uses_by (Some c.args.program) rest) c.note.ensures.played more));
    }

pub returns-clause-played : goal.returns-clause-played
returns-clause-played c =
    let none : uses_left c.loop-used.used-iterator ≡ [] = c.in-None.ensures.steps.0 in
    c.loop-used.invariant.played c.loop-used.self (subst (λ (us : List LineUse). PlayUses c.loop-used.self c.loop-used.self (uses_by (Some c.args.program) us)) (sym none) (PlayUses-nil c.loop-used.self))
