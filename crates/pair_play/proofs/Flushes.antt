-- Caches of which the first ones were flushed.
use Rattle.std.proofs.Common.{◌≡◌, ℕ, zero, suc, ◌+◌, ◌<◌, List, [], ◌∷◌, length, map, get_or, set, refl, sym, ap, ◌∙◌, arith}
use Rattle.std.proofs.lemmas.List.{get_or-map, length-map, map-set}
use Rattle.std.proofs.lemmas.List.Elements.{All-get_or, All-set}
use Rattle.cache_core.specs.declared.entry.SliceEntry.{SliceEntry}
use Rattle.pair_play.specs.Histories.{RecordedValue, KeepShapes, HasShape, histories_of, with_flush}

module _ {X : Type 0} (f : X → X) where
  -- a list whose first elements were replaced
  abbrev pub front_mapped : ℕ → List X → List X
  front_mapped zero xs = xs
  front_mapped (suc i) [] = []
  front_mapped (suc i) (x ∷ xs) = f x ∷ front_mapped i xs

  -- one more
  pub front_mapped-suc : (i : ℕ) (xs : List X) (d : X) → i < length xs → front_mapped (suc i) xs ≡ set (front_mapped i xs) i (f (get_or xs i d))
  front_mapped-suc i [] d within = absurd (omega arith)
  front_mapped-suc zero (x ∷ xs) d within = refl
  front_mapped-suc (suc i) (x ∷ xs) d within = ap (λ (ys : List X). f x ∷ ys) (front_mapped-suc i xs d (omega arith))

  -- the others are as they were
  pub get_or-front_mapped : (i : ℕ) (xs : List X) (d : X) → get_or (front_mapped i xs) i d ≡ get_or xs i d
  get_or-front_mapped zero xs d = refl
  get_or-front_mapped (suc i) [] d = refl
  get_or-front_mapped (suc i) (x ∷ xs) d = get_or-front_mapped i xs d

  -- all of them
  pub front_mapped-all : (xs : List X) → front_mapped (length xs) xs ≡ map f xs
  front_mapped-all [] = refl
  front_mapped-all (x ∷ xs) = ap (λ (ys : List X). f x ∷ ys) (front_mapped-all xs)

-- the first caches were flushed
pub record AreFlushed (op epoch i : ℕ) (old new : List RecordedValue) : Type 0 where
  pub shapes : KeepShapes old new
  pub histories : histories_of new ≡ front_mapped (with_flush op epoch) i (histories_of old)

-- the history of a cache that is still to be flushed
pub history-AreFlushed : (op epoch i : ℕ) (old new : List RecordedValue) (d : RecordedValue) → AreFlushed op epoch i old new → i < length new → (get_or new i d).history ≡ get_or (histories_of old) i d.history
history-AreFlushed op epoch i old new d flushed within =
    sym (get_or-map (λ (c : RecordedValue). c.history) new i d d.history within)
    ∙ (ap (λ (hs : List (List SliceEntry)). get_or hs i d.history) flushed.histories ∙ get_or-front_mapped (with_flush op epoch) i (histories_of old) d.history)

-- none
pub AreFlushed-none : (op epoch : ℕ) (caches : List RecordedValue) → AreFlushed op epoch 0 caches caches
AreFlushed-none op epoch caches = record { shapes = λ shape all. all; histories = refl }

-- another cache of the same shape in place of one
pub KeepShapes-set : (i : ℕ) (old new : List RecordedValue) (d c : RecordedValue) → KeepShapes old new → i < length new → c.shape ≡ (get_or new i d).shape → KeepShapes old (set new i c)
KeepShapes-set i old new d c keep within same shape all = All-set (HasShape shape) new i c (same ∙ All-get_or (HasShape shape) new i d within (keep shape all)) (keep shape all)

-- one more
pub AreFlushed-suc : (op epoch i : ℕ) (old new : List RecordedValue) (d c : RecordedValue) → AreFlushed op epoch i old new → i < length new → length new ≡ length old
    → c.shape ≡ (get_or new i d).shape → c.history ≡ with_flush op epoch (get_or new i d).history → AreFlushed op epoch (i + 1) old (set new i c)
AreFlushed-suc op epoch i old new d c flushed within count shape history = record {
  shapes = KeepShapes-set i old new d c flushed.shapes within shape;
  histories =
      let hs = histories_of old in
      let more : i < length hs = omega (arith, length-map old (λ (x : RecordedValue). x.history), within, count) in
      map-set (λ (x : RecordedValue). x.history) new i c
      ∙ (ap (λ (all : List (List SliceEntry)). set all i c.history) flushed.histories
      ∙ (ap (set (front_mapped (with_flush op epoch) i hs) i) (history ∙ ap (with_flush op epoch) (history-AreFlushed op epoch i old new d flushed within))
      ∙ (sym (front_mapped-suc (with_flush op epoch) i hs d.history more)
      ∙ ap (λ n. front_mapped (with_flush op epoch) n hs) (let e : suc i ≡ i + 1 = omega arith in e))));
}

-- all of them
pub histories_of-AreFlushed : (op epoch i : ℕ) (old new : List RecordedValue) → AreFlushed op epoch i old new → i ≡ length old → histories_of new ≡ map (with_flush op epoch) (histories_of old)
histories_of-AreFlushed op epoch i old new flushed all =
    flushed.histories
    ∙ (ap (λ n. front_mapped (with_flush op epoch) n (histories_of old)) (all ∙ sym (length-map old (λ (x : RecordedValue). x.history)))
    ∙ front_mapped-all (with_flush op epoch) (histories_of old))
