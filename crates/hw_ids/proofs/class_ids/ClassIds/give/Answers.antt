use Rattle.std.proofs.Common.{◌≡◌, ℕ, ◌<◌, true, false, length, take, subst, sym, ap, arith, set, refl, List}
use Rattle.std.proofs.lemmas.Grind.{common_steps}
use Rattle.hw_ids.specs.Classes.{Classes}
use Rattle.hw_ids.specs.Ids.{contains, places, without}
use Rattle.hw_ids.proofs.FreeClasses.{seen}
use Rattle.hw_ids.proofs.Places.{places-set_no, contains-within}
use Rattle.hw_ids.proofs.class_ids.ClassIds.give.Goals as goal

pub bounds-self-inside-id : goal.bounds-self-inside-id
bounds-self-inside-id c =
    let taken : contains c.args.id (places (λ t. t) 0 (take c.self.inside.count c.self.inside.taken)) ≡ true
    = subst (λ (s : Classes). contains c.args.id s.taken ≡ true) (sym c.self.view_is) c.requires.taken in
    let within : c.args.id < length (take c.self.inside.count c.self.inside.taken) = contains-within _ _ _ taken in
    grind (arith, common_steps)

pub returns : goal.returns
returns c =
    let taken : contains c.args.id (places (λ t. t) 0 (take c.self.inside.count c.self.inside.taken)) ≡ true
    = subst (λ (s : Classes). contains c.args.id s.taken ≡ true) (sym c.self.view_is) c.requires.taken in
    let within : c.args.id < length (take c.self.inside.count c.self.inside.taken) = contains-within _ _ _ taken in
    let below : c.args.id < c.self.inside.count = grind (arith, common_steps) in
    let kept = places-set_no (λ t. t) c.self.inside.taken c.self.inside.count c.args.id false below refl in
    subst (λ (s : Classes). seen c.self.inside.count (set c.self.inside.taken c.args.id false) ≡ record s { taken = without c.args.id s.taken }) c.self.view_is
    (ap {B = Classes} (λ (l : List ℕ). record { count = c.self.inside.count; taken = l }) kept)
