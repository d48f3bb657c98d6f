-- A phase is made, and handed on.
use Rattle.std.proofs.Common.{◌≡◌, ℕ, ◌+◌, ◌-◌, ◌<◌, ◌≤◌, inl, inr, true, List, [], ◌∷◌, ◌++◌, length, refl, sym, ap, ◌∙◌, subst, arith}
use Rattle.std.proofs.lemmas.Bool.{cases_lt}
use Rattle.atomic_table.specs.Seated.{TableId}
use Rattle.live_law.proofs.laws.SeenJournals.{HasGrown-self, HasGrown-through}
use Rattle.live_law.specs.DoneOps.{AreEnded, HasEnded}
use Rattle.live_law.specs.SeenJournals.{HasGrown}
use Rattle.live_run.proofs.Endings.{HasEnded-taken, IsAtEnd-handed}
use Rattle.live_run.proofs.Growth.{HasGrown-taken}
use Rattle.live_run.proofs.laws.Phases.{AreEnded-in_phase, first_thread-next, phase_in-before}
use Rattle.live_run.specs.Names.{PassesValue, seen_by}
use Rattle.live_run.specs.Phases.{AreBefore, AreBegun, AreEndedIn, AreOfPhase, HasWorked, HaveEnded, HaveHandedOn, HaveWorked, IsAtEnd, MayAllWork, MayWork, passes_at}
use Rattle.live_run.specs.Sharing.{IsAtPhase, IsShareOf}
use Rattle.live_run.proofs.PhaseParts.{length-whole, at_front, at_own, at_later, by_part, AreParts}
use Rattle.schedule_law.specs.LiveParts.{live_phase}
use Rattle.schedule_law.specs.declared.part.Part.{Part}
use Rattle.script_ops.specs.Values.{ScriptValue, first_thread, threads_of}
use Rattle.shared_parts.specs.Shares.{ShareValue}

module _ (script : ScriptValue) (phase : ℕ) (ps front own later : List PassesValue) (parts : AreParts script phase ps front own later) (before_ps : AreBefore script phase ps) where
  before : AreBefore script phase (front ++ (own ++ later))
  before = subst (AreBefore script phase) parts.is before_ps

  count_is : length front + (length own + length later) ≡ length (threads_of script)
  count_is = sym (length-whole front own later) ∙ before.count

  next_first : first_thread script (phase + 1) ≡ length front + length own
  next_first = omega (arith, first_thread-next script phase parts.there, parts.front_count, parts.own_count)

  own_thread : (k : ℕ) → k < length own → (passes_at own k).seen.thread ≡ length front + k
  own_thread k within = subst (λ (p : PassesValue). p.seen.thread ≡ length front + k) (at_own front own later k within) (before.threads (length front + k) (omega (arith, within, length-whole front own later)))

  later_thread : (l : ℕ) → l < length later → (passes_at later l).seen.thread ≡ length front + (length own + l)
  later_thread l within = subst (λ (p : PassesValue). p.seen.thread ≡ length front + (length own + l)) (at_later front own later l) (before.threads (length front + (length own + l)) (omega (arith, within, length-whole front own later)))

  -- the threads are of the phase
  pub of_phase : (table : TableId) (turn : ShareValue Part) → IsAtPhase script table phase turn → AreOfPhase script table own turn
  of_phase table turn at = record {
    phase = phase;
    ended = first_thread script phase;
    share = at;
    each = λ k within.
        let to : (passes_at own k).seen.thread < first_thread script (phase + 1) = omega (arith, own_thread k within, within, next_first) in
        phase_in-before script.phases phase (passes_at own k).seen.thread to;
    earlier = λ k within.
        let t : ℕ = length front + k in
        let among : t < length (front ++ (own ++ later)) = omega (arith, within, length-whole front own later) in
        let from : first_thread script phase ≤ t = omega (arith, parts.front_count) in
        let p : PassesValue = passes_at (front ++ (own ++ later)) t in
        let to : t < first_thread script (phase + 1) = omega (arith, within, next_first) in
        let ended : AreEnded script (seen_by p.seen) p.seen.thread =
        subst (λ n. AreEnded script (seen_by p.seen) n) (sym (before.threads t among))
        (AreEnded-in_phase script (seen_by p.seen) phase t parts.there to (λ u early. before.seen t u among from early)) in
        subst (λ (q : PassesValue). AreEnded script (seen_by q.seen) q.seen.thread) (at_own front own later k within) ended;
  }

  -- so they may work once it is known that the phase has begun
  pub may_work : (begun : List PassesValue) → AreBegun (length own) own begun → MayAllWork script begun
  may_work begun are = record {
    each = λ k low.
        let within : k < length own = omega (arith, low, are.count) in
        let t : ℕ = length front + k in
        let among : t < length (front ++ (own ++ later)) = omega (arith, within, length-whole front own later) in
        let from : first_thread script phase ≤ t = omega (arith, parts.front_count) in
        let p : PassesValue = passes_at (front ++ (own ++ later)) t in
        let may : MayWork script (record p { begun = true }) = record {
          there = omega (arith, before.threads t among, among, before.count);
          fresh = before.fresh t among from;
          begun = refl;
        } in
        subst (MayWork script) (sym (are.each k within within)) (subst (λ (q : PassesValue). MayWork script (record q { begun = true })) (at_own front own later k within) may);
  }

  -- and when they have worked they are at their ends
  module _ (begun worked : List PassesValue) (are : AreBegun (length own) own begun) (work : HaveWorked script begun worked) where
    pub worked_own : HaveWorked script own worked
    worked_own = record {
      count = work.count ∙ are.count;
      each = λ k within.
          let one : HasWorked script (record (passes_at own k) { begun = true }) (passes_at worked k) = subst (λ (p : PassesValue). HasWorked script p (passes_at worked k)) (are.each k within within) (work.each k (omega (arith, within, are.count))) in
          record { thread = one.thread; at_end = one.at_end; grown = one.grown };
    }

    worked_count : length worked ≡ length own
    worked_count = work.count ∙ are.count

    pub ended_in : (table : TableId) (turn : ShareValue Part) → IsAtPhase script table phase turn → AreEndedIn script table worked turn
    ended_in table turn at = record {
      phase = phase;
      first = first_thread script phase;
      share = at;
      threads = λ k low.
          let within : k < length own = omega (arith, low, worked_count) in
          (worked_own.each k within).thread ∙ (own_thread k within ∙ ap (λ n. n + k) parts.front_count);
      ended = λ k low. (worked_own.each k (omega (arith, low, worked_count))).at_end;
    }

    -- of the phase all are
    pub all_ended : (table : TableId) (turn now : ShareValue Part) → IsAtPhase script table phase turn → HaveEnded (length worked) turn now → IsShareOf table (live_phase phase (first_thread script phase + length worked) ∷ []) now
    all_ended table turn now at had =
        let ended = had phase (first_thread script phase) at.parts_are in
        record {
          table_is = ended.0 ∙ at.table_is;
          words = at.words;
          parts_are = ended.1;
        }

    pub all_are : first_thread script phase + length worked ≡ first_thread script (phase + 1)
    all_are = omega (arith, worked_count, next_first, parts.front_count)

  -- and when they have handed on what they saw, so may those of the next
  module _ (worked own_now later_now : List PassesValue) (work : HaveWorked script own worked) (handed : HaveHandedOn script worked own_now later later_now) where
    counts : (length own_now ≡ length own) × (length later_now ≡ length later)
    counts = (handed.own_count ∙ work.count, handed.later_count)

    worked_within : (k : ℕ) → k < length own → k < length worked
    worked_within k within = omega (arith, within, work.count)

    now_thread : (k : ℕ) → k < length own → (passes_at own_now k).seen.thread ≡ length front + k
    now_thread k within = (handed.own_are k (worked_within k within)).taken.thread ∙ ((work.each k within).thread ∙ own_thread k within)

    seen_now : (l u : ℕ) → l < length later → u < length front + length own → HasEnded script (seen_by (passes_at later_now l).seen) u
    seen_now l u within early = elim (cases_lt u (length front)) [
      | inl first ↦
          let t : ℕ = length front + (length own + l) in
          let had : HasEnded script (seen_by (passes_at later l).seen) u = subst (λ (p : PassesValue). HasEnded script (seen_by p.seen) u) (at_later front own later l)
          (before.seen t u (omega (arith, within, length-whole front own later)) (omega (arith, parts.front_count)) (omega (arith, first, parts.front_count))) in
          HasEnded-taken script (passes_at later l).seen (passes_at later_now l).seen u (handed.later_are l within).taken had
      | inr behind ↦
          let k : ℕ = u - length front in
          let mine : k < length own = omega (arith, early, behind) in
          let is : (passes_at worked k).seen.thread ≡ u = (work.each k mine).thread ∙ (own_thread k mine ∙ omega (arith, behind)) in
          subst (HasEnded script (seen_by (passes_at later_now l).seen)) is (handed.seen k l (worked_within k mine) within (work.each k mine).at_end)
    ]

    own_within : (k : ℕ) → k < length own_now → k < length own
    own_within k within = omega (arith, within, counts.0)

    later_within : (l : ℕ) → l < length later_now → l < length later
    later_within l within = omega (arith, within, counts.1)

    pub AreBefore-next : AreBefore script (phase + 1) (front ++ (own_now ++ later_now))
    AreBefore-next = record {
      count = omega (arith, length-whole front own_now later_now, counts.0, counts.1, count_is);
      threads = by_part front own_now later_now (λ t p. p.seen.thread ≡ t)
          (λ t within. subst (λ (p : PassesValue). p.seen.thread ≡ t) (at_front front own later t within) (before.threads t (omega (arith, within, length-whole front own later))))
          (λ k within. now_thread k (own_within k within))
          (λ l within. (handed.later_are l (later_within l within)).taken.thread ∙ (later_thread l (later_within l within) ∙ ap (λ n. length front + (n + l)) (sym counts.0)));
      done = by_part front own_now later_now (λ t p. t < first_thread script (phase + 1) → IsAtEnd script p)
          (λ t within early. subst (IsAtEnd script) (at_front front own later t within) (before.done t (omega (arith, within, length-whole front own later)) (omega (arith, within, parts.front_count))))
          (λ k within early. IsAtEnd-handed script (passes_at worked k) (passes_at own_now k) (handed.own_are k (worked_within k (own_within k within))) (work.each k (own_within k within)).at_end)
          (λ l within early. absurd (omega (arith, early, next_first, counts.0)));
      fresh = by_part front own_now later_now (λ t p. first_thread script (phase + 1) ≤ t → p.next ≡ 0)
          (λ t within late. absurd (omega (arith, late, next_first, within)))
          (λ k within late. absurd (omega (arith, late, next_first, within, counts.0)))
          (λ l within late.
          let t : ℕ = length front + (length own + l) in
          (handed.later_are l (later_within l within)).next
          ∙ subst (λ (p : PassesValue). p.next ≡ 0) (at_later front own later l) (before.fresh t (omega (arith, within, counts.1, length-whole front own later)) (omega (arith, parts.front_count))));
      seen = λ t u within late early.
          by_part front own_now later_now (λ t p. first_thread script (phase + 1) ≤ t → HasEnded script (seen_by p.seen) u)
          (λ t within late. absurd (omega (arith, late, next_first, within)))
          (λ k within late. absurd (omega (arith, late, next_first, within, counts.0)))
          (λ l within late. seen_now l u (later_within l within) (omega (arith, early, next_first)))
          t within late;
    }

    -- each of them has seen what it had
    pub HasGrown-phase : (t : ℕ) → t < length ps → HasGrown (seen_by (passes_at ps t).seen) (seen_by (passes_at (front ++ (own_now ++ later_now)) t).seen)
    HasGrown-phase t =
        subst (λ (xs : List PassesValue). t < length xs → HasGrown (seen_by (passes_at xs t).seen) (seen_by (passes_at (front ++ (own_now ++ later_now)) t).seen)) (sym parts.is)
        (λ within. by_part front own later (λ t p. HasGrown (seen_by p.seen) (seen_by (passes_at (front ++ (own_now ++ later_now)) t).seen))
        (λ t there. subst (λ (p : PassesValue). HasGrown (seen_by (passes_at front t).seen) (seen_by p.seen)) (sym (at_front front own_now later_now t there)) (HasGrown-self (seen_by (passes_at front t).seen)))
        (λ k there.
        let work : HasGrown (seen_by (passes_at own k).seen) (seen_by (passes_at worked k).seen) = (work.each k there).grown in
        let hand : HasGrown (seen_by (passes_at worked k).seen) (seen_by (passes_at own_now k).seen) = HasGrown-taken (passes_at worked k).seen (passes_at own_now k).seen (handed.own_are k (worked_within k there)).taken in
        subst (λ (p : PassesValue). HasGrown (seen_by (passes_at own k).seen) (seen_by p.seen)) (sym (at_own front own_now later_now k (omega (arith, there, counts.0))))
        (HasGrown-through (seen_by (passes_at own k).seen) (seen_by (passes_at worked k).seen) (seen_by (passes_at own_now k).seen) work hand))
        (λ l there.
        let hand : HasGrown (seen_by (passes_at later l).seen) (seen_by (passes_at later_now l).seen) = HasGrown-taken (passes_at later l).seen (passes_at later_now l).seen (handed.later_are l there).taken in
        let place : passes_at (front ++ (own_now ++ later_now)) (length front + (length own + l)) ≡ passes_at later_now l = subst (λ n. passes_at (front ++ (own_now ++ later_now)) (length front + (n + l)) ≡ passes_at later_now l) counts.0 (at_later front own_now later_now l) in
        subst (λ (p : PassesValue). HasGrown (seen_by (passes_at later l).seen) (seen_by p.seen)) (sym place) hand)
        t within)
