use Rattle.std.proofs.Common.{◌∷◌, [], arith, refl, rules}
use Rattle.machine.specs.Maps.{parameters_of}
use Rattle.journal_text.proofs.laws.Taken.{IsNotJust-after, IsNotJust-more, Takes-append}
use Rattle.journal_text.proofs.Rests.{AccessSays-rest, IsRest-access, no_access}
use Rattle.journal_text.proofs.whats.access_of.Goals as goal

pub returns-in_err-gid : goal.returns-in_err-gid
returns-in_err-gid c =
    let rest = c.args.rest.now in
    rw c.from_residual.ensures (no_access (parameters_of c.args.machine.now) c.args.slice rest c.args.machine.now.in_range.way_limit (IsNotJust-more 3 6 rest (omega arith) c.in_err-gid.ensures))

pub returns-in_err-number : goal.returns-in_err-number
returns-in_err-number c =
    let rest = c.args.rest.now in
    let a = c.in_ok-gid in
    rw c.from_residual-in_err-number.ensures (no_access (parameters_of c.args.machine.now) c.args.slice rest c.args.machine.now.in_range.way_limit (IsNotJust-after 3 6 (a.gid ∷ a.id ∷ a.bits ∷ []) a.rest.now rest refl a.ensures c.in_err-number.ensures))

pub returns-in_err-owner : goal.returns-in_err-owner
returns-in_err-owner c =
    let a = c.in_ok-gid in
    let b = c.in_ok-number in
    let all = Takes-append (a.gid ∷ a.id ∷ a.bits ∷ []) (b.number ∷ b.outcome ∷ b.place ∷ []) a.rest.now [] c.args.rest.now a.ensures b.ensures in
    rw c.from_residual-in_err-owner.ensures (λ what is. (let says = AccessSays-rest (parameters_of c.args.machine.now) c.args.slice a.gid a.id a.bits b.number b.outcome b.place c.args.rest.now c.args.machine.now.in_range.way_limit all what is in c.in_err-owner.ensures says.owner))

pub returns-in_err-rmid : goal.returns-in_err-rmid
returns-in_err-rmid c =
    let a = c.in_ok-gid in
    let b = c.in_ok-number in
    let all = Takes-append (a.gid ∷ a.id ∷ a.bits ∷ []) (b.number ∷ b.outcome ∷ b.place ∷ []) a.rest.now [] c.args.rest.now a.ensures b.ensures in
    rw c.from_residual-in_err-rmid.ensures (λ what is. (let says = AccessSays-rest (parameters_of c.args.machine.now) c.args.slice a.gid a.id a.bits b.number b.outcome b.place c.args.rest.now c.args.machine.now.in_range.way_limit all what is in c.in_err-rmid.ensures says.rmid))

pub returns-in_err-mask : goal.returns-in_err-mask
returns-in_err-mask c =
    let a = c.in_ok-gid in
    let b = c.in_ok-number in
    let all = Takes-append (a.gid ∷ a.id ∷ a.bits ∷ []) (b.number ∷ b.outcome ∷ b.place ∷ []) a.rest.now [] c.args.rest.now a.ensures b.ensures in
    rw c.from_residual-in_err-mask.ensures (λ what is. (let says = AccessSays-rest (parameters_of c.args.machine.now) c.args.slice a.gid a.id a.bits b.number b.outcome b.place c.args.rest.now c.args.machine.now.in_range.way_limit all what is in c.in_err-mask.ensures says.mask))

pub returns-in_err-line : goal.returns-in_err-line
returns-in_err-line c =
    let a = c.in_ok-gid in
    let b = c.in_ok-number in
    let all = Takes-append (a.gid ∷ a.id ∷ a.bits ∷ []) (b.number ∷ b.outcome ∷ b.place ∷ []) a.rest.now [] c.args.rest.now a.ensures b.ensures in
    rw c.from_residual-in_err-line.ensures (λ what is. (let says = AccessSays-rest (parameters_of c.args.machine.now) c.args.slice a.gid a.id a.bits b.number b.outcome b.place c.args.rest.now c.args.machine.now.in_range.way_limit all what is in c.in_err-line.ensures says.line))

pub returns-in_err-hit : goal.returns-in_err-hit
returns-in_err-hit c =
    let a = c.in_ok-gid in
    let b = c.in_ok-number in
    let all = Takes-append (a.gid ∷ a.id ∷ a.bits ∷ []) (b.number ∷ b.outcome ∷ b.place ∷ []) a.rest.now [] c.args.rest.now a.ensures b.ensures in
    rw c.from_residual-in_err-hit.ensures (λ what is. (let says = AccessSays-rest (parameters_of c.args.machine.now) c.args.slice a.gid a.id a.bits b.number b.outcome b.place c.args.rest.now c.args.machine.now.in_range.way_limit all what is in c.in_err-hit.ensures says.hit.0 says.hit.1))

pub returns-in_err-way : goal.returns-in_err-way
returns-in_err-way c =
    let a = c.in_ok-gid in
    let b = c.in_ok-number in
    let all = Takes-append (a.gid ∷ a.id ∷ a.bits ∷ []) (b.number ∷ b.outcome ∷ b.place ∷ []) a.rest.now [] c.args.rest.now a.ensures b.ensures in
    rw c.from_residual-in_err-way.ensures (λ what is. (let says = AccessSays-rest (parameters_of c.args.machine.now) c.args.slice a.gid a.id a.bits b.number b.outcome b.place c.args.rest.now c.args.machine.now.in_range.way_limit all what is in c.in_err-way.ensures says.way))

pub returns : goal.returns
returns c =
    let a = c.in_ok-gid in
    let b = c.in_ok-number in
    let all = Takes-append (a.gid ∷ a.id ∷ a.bits ∷ []) (b.number ∷ b.outcome ∷ b.place ∷ []) a.rest.now [] c.args.rest.now a.ensures b.ensures in
    IsRest-access (parameters_of c.args.machine.now) c.args.slice a.gid a.id a.bits b.number b.outcome b.place c.args.rest.now c.in_ok-hit.hit c.in_ok-way.way c.in_ok-owner.owner c.in_ok-rmid.rmid c.in_ok-mask.mask c.in_ok-line.line all
    c.in_ok-owner.ensures (search rules) c.in_ok-rmid.ensures (search rules) c.in_ok-mask.ensures c.in_ok-line.ensures c.in_ok-hit.ensures c.in_ok-way.ensures
