-- Where the windows that begin at a flush end, within the segment after it.
use Rattle.std.proofs.Common.{◌≡◌, ℕ, zero, suc, ◌+◌, ◌-◌, ◌<◌, ◌≤◌, Bool, true, false, eqb, ◌||◌, List, [], ◌∷◌, ◌++◌, length, take, Option, Some, None, ◌⊎◌, inl, inr, refl, sym, ap, ◌∙◌, arith}
use Rattle.std.specs.Prelude.{nat_lt}
use Rattle.std.specs.List.{position_or_len, range_with_len}
use Rattle.std.proofs.lemmas.Bool.{cases_Bool, lt-ltb, ltb-true}
use Rattle.cache_core.specs.declared.entry.SliceEntry.{SliceEntry}
use Rattle.pair_windows.specs.Joined.{joined, joined_of_op}
use Rattle.pair_windows.specs.JointWindows.{ends_window, keeps_at, last_epoch, window_end}
use Rattle.pair_windows.specs.Segments.{IsSegment}
use Rattle.pair_text.specs.Values.{PairScriptValue, commands_of, epoch_at, op_at}
use Rattle.pair_text.specs.declared.group.PairGroup.{PairGroup}
use Rattle.pair_text.specs.declared.op.PairOp.{PairOp}
use Rattle.pair_text.specs.declared.op.PairOp.TheVariants as ops
use Rattle.pair_text.specs.declared.side.Side.TheVariants.{Second}
use Rattle.pair_law.proofs.laws.Commands.{epoch_at-le}
use Rattle.pair_law.specs.JointWindows.{is_flush}
use Rattle.pair_law.specs.LevelRuns.{domain_on}
use Rattle.pair_windows.proofs.laws.RisingEpochs.{epoch_at-rises}
use Rattle.pair_windows.proofs.laws.WindowFronts.{firsts-more, firsts-stop}
use Rattle.private_lru.specs.Ends.{held_len}
use Rattle.private_lru.proofs.laws.LastEpochs.{last_within-fewer}
use Rattle.private_lru.specs.Spans.{last_within}

-- ---- the first number of a range that passes

-- it is that of a shorter range by a test that is the same there, where the first number after that passes
pub position_or_len-range_stop : (q p : ℕ → Bool) (a m n : ℕ) → m ≤ n → ((i : ℕ) → a ≤ i → i < a + m → q i ≡ p i) → (m < n → q (a + m) ≡ true)
    → position_or_len q (range_with_len a n) ≡ position_or_len p (range_with_len a m)
position_or_len-range_stop q p a zero zero le same stop = refl
position_or_len-range_stop q p a zero (suc n) le same stop = let here : a + 0 ≡ a = omega arith in let is : q a ≡ true = ap q (sym here) ∙ stop (omega arith) in rw is refl
position_or_len-range_stop q p a (suc m) zero le same stop = absurd (omega (arith, le))
position_or_len-range_stop q p a (suc m) (suc n) le same stop =
    let here : q a ≡ p a = same a (omega arith) (omega arith) in
    let next : a + suc m ≡ a + 1 + m = omega arith in
    let rest = position_or_len-range_stop q p (a + 1) m n (omega (arith, le)) (λ i low high. same i (omega arith) (omega arith)) (λ less. ap q (sym next) ∙ stop (omega arith)) in
    elim (cases_Bool (p a)) [
      | inl is ↦ let too : q a ≡ true = here ∙ is in rw (is, too) refl
      | inr is_not ↦ let too : q a ≡ false = here ∙ is_not in rw (is_not, too) (ap (λ n. 1 + n) rest)
    ]

-- ---- the entries of the uses before it

-- what an op that is no flush gives to the list: nothing, or one entry of its epoch
pub record IsOne (script : PairScriptValue) (i : ℕ) (es : List SliceEntry) : Type 0 where
  pub e : SliceEntry
  pub only : es ≡ e ∷ []
  pub epoch : e.epoch ≡ epoch_at script i

module _ (script : PairScriptValue) (domain : ℕ) (hits : ℕ → ℕ → ℕ → Bool) where
  joined_of_op-one : (i : ℕ) (o : Option PairOp) → is_flush o ≡ false → (joined_of_op script domain hits i o ≡ []) ⊎ IsOne script i (joined_of_op script domain hits i o)
  joined_of_op-one i (Some (ops.Use task cpu line code)) quiet = elim (cases_Bool (eqb (domain_on script Second cpu) domain)) [
    | inl is ↦ rw is (inr (record { e = _; only = refl; epoch = refl }))
    | inr is_not ↦ rw is_not (inl refl)
  ]
  joined_of_op-one i (Some ops.Flush) quiet = absurd (let f : true ≡ false = quiet in cc)
  joined_of_op-one i (Some (ops.Mkdir name)) quiet = inl refl
  joined_of_op-one i (Some (ops.Rmdir name)) quiet = inl refl
  joined_of_op-one i (Some (ops.Write file text)) quiet = inl refl
  joined_of_op-one i (Some (ops.Read file)) quiet = inl refl
  joined_of_op-one i None quiet = inl refl

  module _ (last : ℕ) where
    -- an entry past the last epoch
    abbrev is_past : SliceEntry → Bool
    is_past e = nat_lt last e.epoch

    -- the entries that a window holds
    abbrev held : List SliceEntry → List SliceEntry
    held es = take (held_len last es) es

    -- from an op of a later epoch on it holds none
    held-past : (a m : ℕ) → ((i : ℕ) → a ≤ i → i < a + m → is_flush (op_at script i) ≡ false) → last < epoch_at script a → held (joined script domain hits a m) ≡ []
    held-past a zero quiet late = refl
    held-past a (suc m) quiet late = elim (joined_of_op-one a (op_at script a) (quiet a (omega arith) (omega arith))) [
      | inl none ↦
          let rise = epoch_at-rises script a (a + 1) (omega arith) in
          let rest = held-past (a + 1) m (λ i low high. quiet i (omega arith) (omega arith)) (omega (arith, late, rise)) in
          ap (λ (es : List SliceEntry). held (es ++ joined script domain hits (a + 1) m)) none ∙ rest
      | inr one ↦
          let past : is_past one.e ≡ true = lt-ltb last one.e.epoch (let at = one.epoch in omega (arith, late, at)) in
          ap (λ (es : List SliceEntry). held (es ++ joined script domain hits (a + 1) m)) one.only ∙ firsts-stop is_past one.e (joined script domain hits (a + 1) m) past
    ]

    -- it holds those of the ops before the first of a later epoch
    pub held-joined : (a m : ℕ) → ((i : ℕ) → a ≤ i → i < a + m → is_flush (op_at script i) ≡ false)
        → held (joined script domain hits a m) ≡ joined script domain hits a (position_or_len (λ i. nat_lt last (epoch_at script i)) (range_with_len a m))
    held-joined a zero quiet = refl
    held-joined a (suc m) quiet = elim (cases_Bool (nat_lt last (epoch_at script a))) [
      | inl late ↦ rw late (held-past a (suc m) quiet (ltb-true last (epoch_at script a) late))
      | inr early ↦
          let J : List SliceEntry = joined script domain hits (a + 1) m in
          let n : ℕ = position_or_len (λ i. nat_lt last (epoch_at script i)) (range_with_len (a + 1) m) in
          let rest : held J ≡ joined script domain hits (a + 1) n = held-joined (a + 1) m (λ i low high. quiet i (omega arith) (omega arith)) in
          let count : position_or_len (λ i. nat_lt last (epoch_at script i)) (range_with_len a (suc m)) ≡ suc n = rw early (omega arith) in
          (elim (joined_of_op-one a (op_at script a) (quiet a (omega arith) (omega arith))) [
            | inl none ↦ ap (λ (es : List SliceEntry). held (es ++ J)) none ∙ (rest ∙ sym (ap (λ (es : List SliceEntry). es ++ joined script domain hits (a + 1) n) none))
            | inr one ↦
                let before : is_past one.e ≡ false = ap (nat_lt last) one.epoch ∙ early in
                ap (λ (es : List SliceEntry). held (es ++ J)) one.only
                ∙ (firsts-more is_past one.e J before ∙ (ap (λ (es : List SliceEntry). one.e ∷ es) rest ∙ sym (ap (λ (es : List SliceEntry). es ++ joined script domain hits (a + 1) n) one.only)))
          ]) ∙ ap (joined script domain hits a) (sym count)
    ]

-- ---- in the segment after a flush

module _ (script : PairScriptValue) (domain from last : ℕ) (segment : IsSegment script (from + 1) last) (first : ℕ) (opens : epoch_at script (from + 1) ≡ first) (g : PairGroup) where
  -- how many epochs more it has
  abbrev more : ℕ
  more = epoch_at script last - first

  -- the last epoch in the segment up to which the group keeps its masks
  abbrev final : ℕ
  final = last_within (keeps_at script domain g) first more

  -- the op after the window of a group
  abbrev to : ℕ
  to = window_end script domain from (last_epoch script domain first g)

  -- an op of the segment is past the last epoch just where it is past the last one in the segment
  is_later-within : (i : ℕ) → from + 1 ≤ i → i ≤ last → nat_lt (last_epoch script domain first g) (epoch_at script i) ≡ nat_lt final (epoch_at script i)
  is_later-within i low high =
      let known = epoch_at-le script last in
      let one = epoch_at-rises script (from + 1) i low in
      let two = epoch_at-rises script i last high in
      sym (last_within-fewer (keeps_at script domain g) first more (length (commands_of script) - first) (epoch_at script i) (omega (arith, known)) (omega (arith, one, two, opens)))

  -- how many ops the window goes over
  pub window-len : to - (from + 1) ≡ position_or_len (λ i. nat_lt final (epoch_at script i)) (range_with_len (from + 1) (last - (from + 1)))
  window-len =
      let later = segment.later in
      let within = segment.within in
      let q : ℕ → Bool = ends_window script domain (last_epoch script domain first g) in
      let p : ℕ → Bool = λ i. nat_lt final (epoch_at script i) in
      let same = position_or_len-range_stop q p (from + 1) (last - (from + 1)) (length script.ops - (from + 1)) (omega (arith, within))
      (λ i low high. let quiet = segment.quiet i low (omega (arith, high, later)) in ap (λ (b : Bool). b || nat_lt (last_epoch script domain first g) (epoch_at script i)) quiet ∙ is_later-within i low (omega (arith, high, later)))
      (λ less. let at : from + 1 + (last - (from + 1)) ≡ last = omega (arith, later) in let flush = segment.ends (omega (arith, less)) in ap (λ i. q i) at ∙ ap (λ (b : Bool). b || nat_lt (last_epoch script domain first g) (epoch_at script last)) flush) in
      let count : to - (from + 1) ≡ position_or_len q (range_with_len (from + 1) (length script.ops - (from + 1))) = omega arith in
      count ∙ same

  -- the entries that its stay holds
  pub held-window : (hits : ℕ → ℕ → ℕ → Bool)
      → take (held_len final (joined script domain hits (from + 1) (last - (from + 1)))) (joined script domain hits (from + 1) (last - (from + 1)))
      ≡ joined script domain hits (from + 1) (to - (from + 1))
  held-window hits =
      let later = segment.later in
      held-joined script domain hits final (from + 1) (last - (from + 1)) (λ i low high. segment.quiet i low (omega (arith, high, later)))
      ∙ ap (joined script domain hits (from + 1)) (sym window-len)
