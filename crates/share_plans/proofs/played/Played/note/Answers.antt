use Rattle.std.proofs.Common.{ℕ, ◌+◌, ◌*◌, ◌<◌, ◌∷◌, [], length, set, sym, ap, subst}
use Rattle.share_plans.specs.Played.{PlayUses, PlayedValue}
use Rattle.share_plans.proofs.Plays.{IsPlayable-note, PlayUses-note}
use Rattle.share_plans.proofs.played.Played.note.Goals as goal

pub returns-clause-played : goal.returns-clause-played
returns-clause-played c =
    let inside : PlayedValue = record { ways = c.self.inside.ways; programs = c.self.inside.programs.items; shared = c.self.inside.shared } in
    let own = c.note.new.self in
    let shared = c.note_hit-is_hit.new.curve in
    let within = subst (λ (v : PlayedValue). c.args.used.program < length v.programs) (sym c.self.view_is) c.requires.program in
    subst (λ (v : PlayedValue). PlayUses v (record { ways = inside.ways; programs = set inside.programs c.args.used.program own; shared = shared }) (c.args.used ∷ [])) c.self.view_is
    (PlayUses-note inside c.self.inside.far (c.from.result * c.self.inside.far + c.args.used.line) c.args.used c.note_hit-is_hit.result c.index_mut.result.now own shared
    within c.self.invariant.is_far (ap (λ (n : ℕ). n * c.self.inside.far + c.args.used.line) c.from.ensures)
    c.note_hit-is_hit.ensures.sets c.note_hit-is_hit.ensures.line c.note_hit-is_hit.ensures.hit c.index_mut.ensures.value c.note.ensures.sets c.note.ensures.line c.note.ensures.hits)

pub invariant_of-self : goal.invariant_of-self
invariant_of-self c =
    let within = subst (λ (v : PlayedValue). c.args.used.program < length v.programs) (sym c.self.view_is) c.requires.program in
    IsPlayable-note c.self.inside.ways c.self.inside.far c.self.inside.programs.items c.self.inside.shared c.note_hit-is_hit.new.curve c.args.used.program c.note.new.self c.index_mut.result.now
    c.self.invariant c.note_hit-is_hit.ensures.sets c.note_hit-is_hit.ensures.uses within c.index_mut.ensures.value c.note.ensures.uses
