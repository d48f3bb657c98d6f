-- An entry that may come next in a slice is decided by what it pays: there is one at most.
use Rattle.std.proofs.Common.{◌≡◌, ℕ, ◌<◌, ◌≤◌, Bool, true, false, inl, inr, List, Option, Some, None, refl, sym, ap, ◌∙◌, subst, arith}
use Rattle.std.specs.Prelude.{◌%◌, IsSome}
use Rattle.std.proofs.lemmas.Bool.{cases_order}
use Rattle.cache_core.specs.Fills.{Holds, IsOutcome, IsPlaceOf, IsVictim, Resident}
use Rattle.cache_core.specs.History.{EntryMayFollow, MayHappen, Shape, held, lines_of, used}
use Rattle.cache_core.specs.declared.entry.SliceEntry.{SliceEntry}
use Rattle.cache_core.specs.declared.entry.What.{What}
use Rattle.cache_core.specs.declared.entry.What.TheVariants as whats
use Rattle.run_law.specs.Owed.{Owed, paid_by, undecided}
use Rattle.step_world.proofs.HeldLines.{HoldsOnce}

-- ---- one set

module _ (ways : ℕ) (residents : ℕ → Option Resident) where
  -- no line is in two ways
  abbrev IsOnce : Type 0
  IsOnce = (v w line : ℕ) → v < ways → w < ways → Holds residents line v → Holds residents line w → v ≡ w

  -- what is empty is not full
  not_full : (o : Option Resident) → o ≡ None → IsSome o → ⊥
  not_full None is some = absurd cc
  not_full (Some r) is some = absurd cc

  -- what is there is full
  full : (o : Option Resident) (r : Resident) → o ≡ Some r → IsSome o
  full None r is = absurd cc
  full (Some x) r is = refl

  -- of two ways that a fill can take neither is lower
  victim-lower : (mask : ℕ) (age : ℕ → ℕ) (v w : ℕ) → IsVictim ways mask residents age v → IsVictim ways mask residents age w → v < w → ⊥
  victim-lower mask age v w a b less = at (residents v) (residents w) refl refl
    where
      at : (x y : Option Resident) → residents v ≡ x → residents w ≡ y → ⊥
      at None None is its = not_full (residents v) is (b.lowest_empty its v less a.allowed)
      at None (Some r) is its = not_full (residents v) is (b.none_empty (full (residents w) r its) v a.within a.allowed)
      at (Some q) None is its = not_full (residents w) its (a.none_empty (full (residents v) q is) w b.within b.allowed)
      at (Some q) (Some r) is its =
          let younger : age w < age v = b.lowest (full (residents w) r its) v less a.allowed in
          let older : age v ≤ age w = a.oldest (full (residents v) q is) w b.within b.allowed in
          omega (arith, younger, older)

  -- a fill takes one way
  victim-one : (mask : ℕ) (age : ℕ → ℕ) (v w : ℕ) → IsVictim ways mask residents age v → IsVictim ways mask residents age w → v ≡ w
  victim-one mask age v w a b = elim (cases_order v w) [
    | inl same ↦ same
    | inr (inl less) ↦ absurd (victim-lower mask age v w a b less)
    | inr (inr more) ↦ absurd (victim-lower mask age w v b a more)
  ]

  -- an access has one outcome
  pub outcome-one : (mask : ℕ) (age : ℕ → ℕ) (line : ℕ) → IsOnce → (hit other : Bool) (v w : ℕ) → IsOutcome ways mask residents age line hit v → IsOutcome ways mask residents age line other w → (hit ≡ other) × (v ≡ w)
  outcome-one mask age line once true true v w a b = (refl, once v w line a.0 b.0 a.1 b.1)
  outcome-one mask age line once true false v w a b = absurd (b.0 v a.0 a.1)
  outcome-one mask age line once false true v w a b = absurd (a.0 w b.0 b.1)
  outcome-one mask age line once false false v w a b = (refl, victim-one mask age v w a.1 b.1)

  -- a drop has one place
  pub place-one : (line : ℕ) → IsOnce → (a b : Option ℕ) → IsPlaceOf ways residents line a → IsPlaceOf ways residents line b → a ≡ b
  place-one line once (Some v) (Some w) a b = ap (λ n. Some n) (once v w line a.0 b.0 a.1 b.1)
  place-one line once (Some v) None a b = absurd (b v a.0 a.1)
  place-one line once None (Some w) a b = absurd (a w b.0 b.1)
  place-one line once None None a b = refl

-- ---- one slice

module _ (m : Shape) (before : List SliceEntry) (once : HoldsOnce m before) where
  -- in each set
  once_in : (set : ℕ) → IsOnce m.ways (held m before set)
  once_in set v w line lv lw there here = once.once set v w line lv lw there here

  -- what may happen, by what is known of it before
  what-one : (epoch : ℕ) (a b : What) → undecided a ≡ undecided b → MayHappen m before epoch a → MayHappen m before epoch b → a ≡ b
  what-one epoch (whats.Access hit way owner rmid mask line) (whats.Access other at by id ways number) same may can =
      let line_is : line ≡ number = cc in
      let mask_is : mask ≡ ways = cc in
      let its : IsOutcome m.ways mask (held m before (line % m.sets)) (used m before (line % m.sets)) line other at =
      subst (λ k. IsOutcome m.ways k (held m before (line % m.sets)) (used m before (line % m.sets)) line other at) (sym mask_is)
      (subst (λ l. IsOutcome m.ways ways (held m before (l % m.sets)) (used m before (l % m.sets)) l other at) (sym line_is) can.1) in
      let one = outcome-one m.ways (held m before (line % m.sets)) mask (used m before (line % m.sets)) line (once_in (line % m.sets)) hit other way at may.1 its in
      access-same hit other way at owner by rmid id mask ways line number one.0 one.1 same
    where
      access-same : (hit other : Bool) (way at : ℕ) (owner by : _) (rmid id mask ways line number : ℕ) → hit ≡ other → way ≡ at → undecided (whats.Access hit way owner rmid mask line) ≡ undecided (whats.Access other at by id ways number)
          → whats.Access hit way owner rmid mask line ≡ whats.Access other at by id ways number
      access-same hit other way at owner by rmid id mask ways line number one two same = cc
  what-one epoch (whats.Look rmid lines) (whats.Look id others) same may can =
      let rmid_is : rmid ≡ id = cc in
      let lines_are : lines ≡ others = may ∙ sym (subst (λ r. others ≡ lines_of m before r) (sym rmid_is) can) in
      ap (λ r. whats.Look r lines) rmid_is ∙ ap (λ n. whats.Look id n) lines_are
  what-one epoch (whats.Drop line at) (whats.Drop number way) same may can =
      let line_is : line ≡ number = cc in
      let its : IsPlaceOf m.ways (held m before (line % m.sets)) line way = subst (λ l. IsPlaceOf m.ways (held m before (l % m.sets)) l way) (sym line_is) can.1 in
      ap (λ l. whats.Drop l at) line_is ∙ ap (λ o. whats.Drop number o) (place-one m.ways (held m before (line % m.sets)) line (once_in (line % m.sets)) at way may.1 its)
  what-one epoch whats.Raise whats.Raise same may can = refl
  what-one epoch whats.Flush whats.Flush same may can = refl
  what-one epoch (whats.Lock mask first_line) (whats.Lock ways number) same may can = same
  what-one epoch a b same may can = absurd cc

  -- two entries of one op that may come next and pay the same are the same
  pub entry-one : (a b : SliceEntry) → EntryMayFollow m before a → EntryMayFollow m before b → a.thread ≡ b.thread → a.op ≡ b.op → paid_by a ≡ paid_by b → a ≡ b
  entry-one a b may can thread op pays =
      let epoch : a.epoch ≡ b.epoch = ap (λ (o : Owed). o.epoch) pays in
      let what : a.what ≡ b.what = what-one a.epoch a.what b.what (ap (λ (o : Owed). o.what) pays) may (subst (λ n. MayHappen m before n b.what) (sym epoch) can) in
      ap (λ t. record { thread = t; op = a.op; epoch = a.epoch; what = a.what }) thread
      ∙ (ap (λ o. record { thread = b.thread; op = o; epoch = a.epoch; what = a.what }) op
      ∙ (ap (λ n. record { thread = b.thread; op = b.op; epoch = n; what = a.what }) epoch ∙ ap (λ w. record { thread = b.thread; op = b.op; epoch = b.epoch; what = w }) what))
