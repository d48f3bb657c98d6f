-- A tick keeps a sound tree.
use Rattle.std.proofs.Common.{◌≡◌, ℕ, ◌*◌, ◌<◌, false, eqb, ltb, List, [], ◌∷◌, take, drop, get_or}
use Rattle.std.specs.List.{All, AllPairs}
use Rattle.std.proofs.lemmas.List.Elements.{All-cons, All-head, All-tail}
use Rattle.std.proofs.lemmas.List.Folds.{list_any_none}
use Rattle.std.proofs.lemmas.List.Kept.{AllPairs-cons}
use Rattle.std.proofs.lemmas.Option.{IfSome_then}
use Rattle.hw_ids.specs.Ids.{contains}
use Rattle.lists.proofs.Choices.{cond-both}
use Rattle.lists.proofs.Pairs.{AllPairs-head, AllPairs-tail}
use Rattle.lists.proofs.Tests.{All-from_none}
use Rattle.machine.specs.declared.parameters.Parameters.{Parameters}
use Rattle.tree_law.specs.Freeing.{greatest, staying_in_limbo}
use Rattle.tree_law.specs.Sound.{IsSound, IsUsed}
use Rattle.tree_law.specs.State.{State}
use Rattle.tree_law.specs.commands.Tick.{accepted}

-- those that stay in limbo are some of those that were there
module _ (m : Parameters) (threshold : ℕ) where
  -- what holds of each in limbo holds of those that stay
  All-staying_in_limbo : (P : ℕ → Type 0) (limbo looks : List ℕ) → All P limbo → All P (staying_in_limbo m threshold limbo looks)
  All-staying_in_limbo P [] looks all = all
  All-staying_in_limbo P (r ∷ rs) looks all = let rest = All-staying_in_limbo P rs (drop m.domains looks) (All-tail P r rs all) in
      cond-both (All P) (ltb threshold (greatest (take m.domains looks) * 64)) (r ∷ staying_in_limbo m threshold rs (drop m.domains looks)) (staying_in_limbo m threshold rs (drop m.domains looks))
      (All-cons P r (staying_in_limbo m threshold rs (drop m.domains looks)) (All-head P r rs all) rest) rest

  -- what holds of each two in limbo holds of those that stay
  AllPairs-staying_in_limbo : (R : ℕ → ℕ → Type 0) (limbo looks : List ℕ) → AllPairs R limbo → AllPairs R (staying_in_limbo m threshold limbo looks)
  AllPairs-staying_in_limbo R [] looks pairs = pairs
  AllPairs-staying_in_limbo R (r ∷ rs) looks pairs = let rest = AllPairs-staying_in_limbo R rs (drop m.domains looks) (AllPairs-tail R r rs pairs) in
      cond-both (AllPairs R) (ltb threshold (greatest (take m.domains looks) * 64)) (r ∷ staying_in_limbo m threshold rs (drop m.domains looks)) (staying_in_limbo m threshold rs (drop m.domains looks))
      (AllPairs-cons R r (staying_in_limbo m threshold rs (drop m.domains looks)) (All-staying_in_limbo (R r) rs (drop m.domains looks) (AllPairs-head R r rs pairs)) rest) rest

  -- an id that is not in limbo does not come in
  contains-staying_in_limbo : (id : ℕ) (limbo looks : List ℕ) → contains id limbo ≡ false → contains id (staying_in_limbo m threshold limbo looks) ≡ false
  contains-staying_in_limbo id limbo looks none =
      list_any_none (λ (other : ℕ). eqb other id) (staying_in_limbo m threshold limbo looks)
      (All-staying_in_limbo (λ (other : ℕ). eqb other id ≡ false) limbo looks (All-from_none (λ (other : ℕ). eqb other id) limbo none))

-- a tick keeps a sound tree
pub tick-sound : (m : Parameters) (s : State) (looks : List ℕ) → IsSound m s → IsSound m (accepted m s looks)
unfolding accepted
tick-sound m s looks sound = record {
  named = sound.named;
  numbered = record {
    ids = sound.numbered.ids;
    classes = sound.numbered.classes;
    rmids = λ k d within. IfSome_then (get_or s.groups k d).rmid {P = IsUsed m s.limbo} {Q = IsUsed m (staying_in_limbo m s.threshold s.limbo looks)} (sound.numbered.rmids k d within) (λ id used. (used.0, contains-staying_in_limbo m s.threshold id s.limbo looks used.1));
    limbo_exists = All-staying_in_limbo m s.threshold (λ id. id < m.rmids) s.limbo looks sound.numbered.limbo_exists;
    limbo_rising = AllPairs-staying_in_limbo m s.threshold (λ a b. a < b) s.limbo looks sound.numbered.limbo_rising;
    apart = sound.numbered.apart;
  };
  masks = sound.masks;
  regions = sound.regions;
  lines = sound.lines;
  threshold = sound.threshold;
  tasks = sound.tasks;
  cpus = sound.cpus;
}
