-- RMIDs that are freed: the limbo after it.
use Rattle.std.proofs.Common.{◌≡◌, ℕ, zero, suc, ◌*◌, ◌<◌, Bool, true, false, ◌||◌, cond, eqb, ltb, List, [], ◌∷◌, length, filter, get_or, take, drop, Option, None, Some, IfSome, sym, ap, ◌∙◌, arith}
use Rattle.std.specs.List.{All, AllPairs}
use Rattle.std.proofs.lemmas.Bool.{eqb-false, ltb-true, ne_eqb, or_parts}
use Rattle.std.proofs.lemmas.List.Elements.{All-append, All-cons, All-filter, All-head, All-tail, filter_passes}
use Rattle.std.proofs.lemmas.List.Kept.{AllPairs-cons, AllPairs-filter}
use Rattle.std.proofs.lemmas.Option.{IfSome_then}
use Rattle.group_tree.specs.declared.group.Group.{Group}
use Rattle.hw_ids.proofs.laws.Membership.{contains-with_id}
use Rattle.hw_ids.specs.Ids.{contains, with_id}
use Rattle.lists.proofs.Pairs.{AllPairs-append}
use Rattle.machine.specs.declared.parameters.Parameters.{Parameters}
use Rattle.tree_law.specs.Freeing.{greatest, limbo_after}
use Rattle.tree_law.specs.Sound.{AreNumbered, IsUsed}

-- an id more, at its place
AllPairs-with_id : (id : ℕ) (xs : List ℕ) → AllPairs (λ a b. a < b) xs → AllPairs (λ a b. a < b) (with_id id xs)
AllPairs-with_id id xs rising =
    let below = λ (other : ℕ). ltb other id in
    let above = λ (other : ℕ). ltb id other in
    AllPairs-append (λ a b. a < b) (filter below xs) (id ∷ filter above xs)
    (AllPairs-filter (λ a b. a < b) below xs rising)
    (AllPairs-cons (λ a b. a < b) id (filter above xs) (λ k d within. ltb-true id (get_or (filter above xs) k d) (filter_passes above xs k d within)) (AllPairs-filter (λ a b. a < b) above xs rising))
    (λ i j d lt within. let low = ltb-true (get_or (filter below xs) i d) id (filter_passes below xs i d lt) in across (get_or (filter below xs) i d) j d low within)
  where
    across : (x j d : ℕ) → x < id → j < suc (length (filter (λ (other : ℕ). ltb id other) xs)) → x < get_or (id ∷ filter (λ (other : ℕ). ltb id other) xs) j d
    across x zero d low within = low
    across x (suc j) d low within = (let high = ltb-true id (get_or (filter (λ (other : ℕ). ltb id other) xs) j d) (filter_passes (λ (other : ℕ). ltb id other) xs j d (omega arith)) in omega arith)

-- ---- the limbo after RMIDs were freed

-- no group has any of these RMIDs
abbrev pub HasNone : List ℕ → Group → Type 0
HasNone freed g = IfSome g.rmid (λ id. contains id freed ≡ false)

-- what holds of an id and of each in a list holds of each once the id is in it
All-with_id : (P : ℕ → Type 0) (id : ℕ) (xs : List ℕ) → P id → All P xs → All P (with_id id xs)
All-with_id P id xs p all = All-append P (filter (λ (o : ℕ). ltb o id) xs) (id ∷ filter (λ (o : ℕ). ltb id o) xs) (All-filter (λ (o : ℕ). ltb o id) P xs all)
    (All-cons P id (filter (λ (o : ℕ). ltb id o) xs) p (All-filter (λ (o : ℕ). ltb id o) P xs all))

module _ (m : Parameters) (groups : List Group) (threshold : ℕ) where
  -- one RMID goes into limbo
  AreNumbered-with_id : (limbo : List ℕ) (r : ℕ) → AreNumbered m groups limbo → r < m.rmids → All (λ (g : Group). IfSome g.rmid (λ id. eqb r id ≡ false)) groups → AreNumbered m groups (with_id r limbo)
  AreNumbered-with_id limbo r numbered exists none = record {
    ids = numbered.ids;
    classes = numbered.classes;
    rmids = λ k d within. both (get_or groups k d).rmid (numbered.rmids k d within) (none k d within);
    limbo_exists = All-with_id (λ id. id < m.rmids) r limbo exists numbered.limbo_exists;
    limbo_rising = AllPairs-with_id r limbo numbered.limbo_rising;
    apart = numbered.apart;
  }
    where
      both : (o : Option ℕ) → IfSome o (IsUsed m limbo) → IfSome o (λ id. eqb r id ≡ false) → IfSome o (IsUsed m (with_id r limbo))
      both None used other = tt
      both (Some id) used other = (used.0, contains-with_id r id limbo ∙ ap (λ (b : Bool). b || contains id limbo) (ne_eqb id r (λ e. eqb-false r id other (sym e))) ∙ used.1)

  -- ids that no group has any more go into limbo, and the ids stay in order
  pub AreNumbered-limbo_after : (freed limbo looks : List ℕ) → AreNumbered m groups limbo → All (λ id. id < m.rmids) freed → All (HasNone freed) groups → AreNumbered m groups (limbo_after m threshold limbo freed looks)
  AreNumbered-limbo_after [] limbo looks numbered exist none = numbered
  AreNumbered-limbo_after (r ∷ rs) limbo looks numbered exist none =
      AreNumbered-limbo_after rs (cond (ltb threshold (greatest (take m.domains looks) * 64)) (with_id r limbo) limbo) (drop m.domains looks)
      (at (ltb threshold (greatest (take m.domains looks) * 64)))
      (All-tail (λ id. id < m.rmids) r rs exist)
      (λ k d within. IfSome_then (get_or groups k d).rmid {P = λ id. contains id (r ∷ rs) ≡ false} {Q = λ id. contains id rs ≡ false} (none k d within) (λ id e. (or_parts (eqb r id) (contains id rs) e).1))
    where
      at : (b : Bool) → AreNumbered m groups (cond b (with_id r limbo) limbo)
      at true = AreNumbered-with_id limbo r numbered (All-head (λ id. id < m.rmids) r rs exist)
          (λ k d within. IfSome_then (get_or groups k d).rmid {P = λ id. contains id (r ∷ rs) ≡ false} {Q = λ id. eqb r id ≡ false} (none k d within) (λ id e. (or_parts (eqb r id) (contains id rs) e).0))
      at false = numbered
