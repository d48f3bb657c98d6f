use Rattle.std.proofs.Common.{◌≡◌, ℕ, ◌≤◌, true, not, List, length, take, set, position, Some, None, subst, sym, refl, ap, ◌∙◌, arith}
use Rattle.hw_ids.specs.Classes.{Classes, IsFree, NoneFree, IsLowestFree}
use Rattle.hw_ids.specs.Ids.{with_id}
use Rattle.hw_ids.proofs.FreeClasses.{seen, IsLowestFree-found, NoneFree-none, position-free}
use Rattle.hw_ids.proofs.Places.{places-set_yes}
use Rattle.hw_ids.proofs.class_ids.ClassIds.take.Goals as goal

pub returns-in_err-id-clause-none : goal.returns-in_err-id-clause-none
returns-in_err-id-clause-none c =
    let fits : c.self.inside.count ≤ length c.self.inside.taken = grind (arith, c.self.told) in
    let gone : position not (take c.self.inside.count c.self.inside.taken) ≡ None = sym c.lowest_free.ensures ∙ c.in_err-id.was in
    let none : NoneFree c.args.self.now = subst NoneFree c.self.view_is (NoneFree-none c.self.inside.count c.self.inside.taken fits gone) in
    (λ _. none, λ _. grind arith)

pub returns-clause-lowest : goal.returns-clause-lowest
returns-clause-lowest c =
    let fits : c.self.inside.count ≤ length c.self.inside.taken = grind (arith, c.self.told) in
    let found : position not (take c.self.inside.count c.self.inside.taken) ≡ Some c.in_ok-id.id = sym c.lowest_free.ensures ∙ c.in_ok-id.was in
    subst (λ (s : Classes). IsLowestFree s c.in_ok-id.id) c.self.view_is (IsLowestFree-found c.self.inside.count c.self.inside.taken c.in_ok-id.id fits found)

pub returns-clause-taken : goal.returns-clause-taken
returns-clause-taken c =
    let n = c.self.inside.count in
    let xs = c.self.inside.taken in
    let id = c.in_ok-id.id in
    let found : position not (take n xs) ≡ Some id = sym c.lowest_free.ensures ∙ c.in_ok-id.was in
    let fits : n ≤ length xs = grind (arith, c.self.told) in
    let free = position-free n xs id fits found in
    subst (λ (s : Classes). seen n (set xs id true) ≡ record s { taken = with_id id s.taken }) c.self.view_is
    (ap {B = Classes} (λ (l : List ℕ). record { count = n; taken = l }) (places-set_yes (λ t. t) xs n id true free.0 free.1 free.2 refl))

pub returns-clause-none : goal.returns-clause-none
returns-clause-none c =
    let fits : c.self.inside.count ≤ length c.self.inside.taken = grind (arith, c.self.told) in
    let found : position not (take c.self.inside.count c.self.inside.taken) ≡ Some c.in_ok-id.id = sym c.lowest_free.ensures ∙ c.in_ok-id.was in
    let free : IsFree c.args.self.now c.in_ok-id.id = subst (λ (s : Classes). IsFree s c.in_ok-id.id) c.self.view_is
    (IsLowestFree-found c.self.inside.count c.self.inside.taken c.in_ok-id.id fits found).free in
    (λ e. grind arith, λ none. absurd (none c.in_ok-id.id free))
