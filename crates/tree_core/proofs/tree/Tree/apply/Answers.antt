use Rattle.std.proofs.Common.{◌≡◌, ◌≤◌, ◌<◌, length, refl, sym, subst, ap, arith}
use Rattle.std.specs.List.{All}
use Rattle.script_ops.specs.Fits.{Fits}
use Rattle.tree_core.proofs.Commands.{Takes-counted}
use Rattle.tree_core.proofs.KeptTables.{Keeps-from_IsKept}
use Rattle.tree_core.proofs.Outcomes.{IfSome-refusal}
use Rattle.tree_core.proofs.ReadyFollows.{after-ready}
use Rattle.tree_core.specs.Follows.{IsReady}
use Rattle.tree_core.specs.Values.{TreeValue}
use Rattle.tree_law.proofs.laws.Follows.{after-good}
use Rattle.tree_law.specs.Sound.{IsSound}
use Rattle.tree_law.specs.State.{tasks_of}
use Rattle.tree_law.specs.Steps.{follow_domain, needs}
use Rattle.tree_law.specs.declared.follow.Follow.{Follow}
use Rattle.tree_core.proofs.tree.Tree.apply.Goals as goal

pub take-reply-requires-clause-fits : goal.take-reply-requires-clause-fits
take-reply-requires-clause-fits c = subst (λ (v : TreeValue). Fits v.machine (tasks_of v.state) c.args.op.now) (sym c.count.ensures.tree) c.requires.fits

pub take-reply-requires-clause-looks : goal.take-reply-requires-clause-looks
take-reply-requires-clause-looks c = subst (λ (v : TreeValue). length c.args.looks.now ≡ length (needs v.machine v.state c.args.op.now)) (sym c.count.ensures.tree) c.requires.looks

pub take-reply-requires-clause-epoch : goal.take-reply-requires-clause-epoch
take-reply-requires-clause-epoch c =
    let few : c.args.self.now.epoch < 4000000 = c.requires.epoch in
    subst (λ (v : TreeValue). v.epoch ≤ 4000000) (sym c.count.ensures.tree) (omega (arith, few))

pub returns-clause-machine : goal.returns-clause-machine
returns-clause-machine c = ap (λ (v : TreeValue). v.machine) (Takes-counted c.args.self.now c.count.ensures.tree c.take-reply.ensures).tree

pub returns-clause-reply : goal.returns-clause-reply
returns-clause-reply c = (Takes-counted c.args.self.now c.count.ensures.tree c.take-reply.ensures).reply

pub returns-clause-state : goal.returns-clause-state
returns-clause-state c = ap (λ (v : TreeValue). v.state) (Takes-counted c.args.self.now c.count.ensures.tree c.take-reply.ensures).tree

pub returns-clause-refused : goal.returns-clause-refused
returns-clause-refused c =
    IfSome-refusal c.args.self.now.machine c.args.self.now.state c.args.op.now c.args.looks.now c.take-reply.new.self.state (ap (λ (v : TreeValue). v.state) (Takes-counted c.args.self.now c.count.ensures.tree c.take-reply.ensures).tree)

pub returns-clause-epoch : goal.returns-clause-epoch
returns-clause-epoch c = ap (λ (v : TreeValue). v.epoch) (Takes-counted c.args.self.now c.count.ensures.tree c.take-reply.ensures).tree

pub returns-clause-after : goal.returns-clause-after
returns-clause-after c = (Takes-counted c.args.self.now c.count.ensures.tree c.take-reply.ensures).after c.args.self.now.epoch refl

pub returns-clause-domains : goal.returns-clause-domains
returns-clause-domains c =
    let v = c.args.self.now in let is = (Takes-counted c.args.self.now c.count.ensures.tree c.take-reply.ensures).after v.epoch refl in
    subst (All (λ (f : Follow). follow_domain f < v.machine.domains)) (sym is) (λ k d within. (after-good v.machine v.state v.epoch c.args.op.now c.count.ensures.range c.count.ensures.sound c.requires.fits k d within).0)

pub returns-clause-ready : goal.returns-clause-ready
returns-clause-ready c =
    let v = c.args.self.now in let is = (Takes-counted c.args.self.now c.count.ensures.tree c.take-reply.ensures).after v.epoch refl in
    let locks = subst (λ (w : TreeValue). w.state.locks < w.epoch) c.count.ensures.tree c.count.ensures.locks in
    let commands : v.epoch < 4000000 = c.requires.epoch in
    let few : v.state.locks < 4000000 = omega (arith, locks, commands) in
    subst (All (IsReady v.machine)) (sym is) (after-ready v.machine v.state c.count.ensures.range c.count.ensures.sound few v.epoch c.args.op.now c.requires.fits)

pub returns-clause-sound : goal.returns-clause-sound
returns-clause-sound c = subst (λ (v : TreeValue). IsSound v.machine v.state) c.self.view_is (Keeps-from_IsKept c.self.invariant).sound
