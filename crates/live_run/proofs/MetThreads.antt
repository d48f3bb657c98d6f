-- One thread meets others, one after the other.
use Rattle.std.proofs.Common.{◌≡◌, ℕ, zero, suc, ◌+◌, ◌<◌, inl, inr, List, [], ◌∷◌, ◌++◌, length, get_or, set, sym, ◌∙◌, subst, arith}
use Rattle.std.proofs.lemmas.Bool.{cases_lt}
use Rattle.std.proofs.lemmas.List.{get_or-set_other, get_or-set_same, length-set}
use Rattle.live_law.specs.DoneOps.{HasEnded}
use Rattle.live_run.proofs.Endings.{HasEnded-taken, IsAtEnd-handed, IsHanded-through}
use Rattle.live_run.specs.Names.{PassesValue, seen_by}
use Rattle.live_run.specs.Phases.{HasMetEach, HaveHandedOn, IsAtEnd, IsHanded, no_passes, passes_at}
use Rattle.run_law.specs.Journals.{JournalsValue}
use Rattle.script_ops.specs.Values.{ScriptValue}

-- One has met another.
pub record HasMet (script : ScriptValue) (one one_now other other_now : PassesValue) : Type 0 where
  pub one_is : IsHanded one one_now
  pub other_is : IsHanded other other_now
  pub same : seen_by one_now.seen ≡ seen_by other_now.seen
  pub ended : IsAtEnd script one → HasEnded script (seen_by other_now.seen) one.seen.thread
  pub other_ended : IsAtEnd script other → HasEnded script (seen_by one_now.seen) other.seen.thread

-- and after one more
module _ (script : ScriptValue) (n : ℕ) (one mid now : PassesValue) (others others_mid : List PassesValue) (there : n < length others) (so_far : HasMetEach script n one mid others others_mid) (x : PassesValue) (met : HasMet script mid now (passes_at others_mid n) x) where
  abbrev pub others_now : List PassesValue
  others_now = set others_mid n x

  earlier_same : (k : ℕ) → k < n → passes_at others_now k ≡ passes_at others_mid k
  earlier_same k before = get_or-set_other others_mid n k x no_passes (λ same. absurd (omega (arith, before, same)))

  last_is : passes_at others_now n ≡ x
  last_is = get_or-set_same others_mid n x no_passes (omega (arith, there, so_far.count))

  last_was : passes_at others_mid n ≡ passes_at others n
  last_was = so_far.rest n (omega arith) there

  was_met : HasMet script mid now (passes_at others n) x
  was_met = subst (λ p. HasMet script mid now p x) last_was met

  -- each of the earlier, and the last
  by_place : (P : ℕ → PassesValue → Type 0) → ((k : ℕ) → k < n → P k (passes_at others_mid k)) → P n x → (k : ℕ) → k < n + 1 → P k (passes_at others_now k)
  by_place P each last k before = elim (cases_lt k n) [
    | inl less ↦ subst (P k) (sym (earlier_same k less)) (each k less)
    | inr most ↦
        let same : n ≡ k = omega (arith, before, most) in
        subst (λ k. P k (passes_at others_now k)) same (subst (P n) (sym last_is) last)
  ]

  pub HasMetEach-next : HasMetEach script (n + 1) one now others others_now
  HasMetEach-next = record {
    one_is = IsHanded-through one mid now so_far.one_is met.one_is;
    count = length-set others_mid n x ∙ so_far.count;
    each = λ k before within. by_place (λ k p. k < length others → IsHanded (passes_at others k) p) so_far.each (λ there. was_met.other_is) k before within;
    rest = λ k after within.
        get_or-set_other others_mid n k x no_passes (λ same. absurd (omega (arith, after, same))) ∙ so_far.rest k (omega (arith, after)) within;
    gathered = λ k before within at. elim (cases_lt k n) [
      | inl less ↦ HasEnded-taken script mid.seen now.seen (passes_at others k).seen.thread met.one_is.taken (so_far.gathered k less within at)
      | inr most ↦
          let same : n ≡ k = omega (arith, before, most) in
          subst (λ k. IsAtEnd script (passes_at others k) → HasEnded script (seen_by now.seen) (passes_at others k).seen.thread) same was_met.other_ended at
    ];
    given = λ k u before within ended.
        let last : HasEnded script (seen_by x.seen) u = subst (λ (v : JournalsValue). HasEnded script v u) met.same (HasEnded-taken script one.seen now.seen u (IsHanded-through one mid now so_far.one_is met.one_is).taken ended) in
        by_place (λ k p. HasEnded script (seen_by p.seen) u) (λ k less. so_far.given k u less (omega (arith, less, there)) ended) last k before;
    own = λ k before within at.
        let last : HasEnded script (seen_by x.seen) one.seen.thread = subst (HasEnded script (seen_by x.seen)) so_far.one_is.taken.thread (met.ended (IsAtEnd-handed script one mid so_far.one_is at)) in
        by_place (λ k p. HasEnded script (seen_by p.seen) one.seen.thread) (λ k less. so_far.own k less (omega (arith, less, there)) at) last k before;
  }

-- ---- all threads of a phase

module _ (script : ScriptValue) (a mid now : PassesValue) (others others_now later later_now : List PassesValue) (first : HasMetEach script (length others) a mid others others_now) (second : HasMetEach script (length later) mid now later later_now) where
  own_are : (k : ℕ) → k < length (a ∷ others) → IsHanded (passes_at (a ∷ others) k) (passes_at (now ∷ others_now) k)
  own_are zero within = IsHanded-through a mid now first.one_is second.one_is
  own_are (suc k) within = first.each k (omega (arith, within)) (omega (arith, within))

  later_see : (k l : ℕ) → k < length (a ∷ others) → l < length later → IsAtEnd script (passes_at (a ∷ others) k) → HasEnded script (seen_by (passes_at later_now l).seen) (passes_at (a ∷ others) k).seen.thread
  later_see zero l within there at = subst (HasEnded script (seen_by (passes_at later_now l).seen)) first.one_is.taken.thread (second.own l there there (IsAtEnd-handed script a mid first.one_is at))
  later_see (suc k) l within there at = second.given l (passes_at others k).seen.thread there there (first.gathered k (omega (arith, within)) (omega (arith, within)) at)

  all_handed : HaveHandedOn script (a ∷ others) (now ∷ others_now) later later_now
  all_handed = record {
    own_count = omega (arith, first.count);
    later_count = second.count;
    own_are = own_are;
    later_are = λ l there. second.each l there there;
    seen = later_see;
  }

-- the first of them gathers, and then gives
pub HaveHandedOn-first : (script : ScriptValue) (one others others_now later later_now own : List PassesValue) (d e mid now : PassesValue) → length one ≡ 1 → own ≡ one ++ others
    → HasMetEach script (length others) (get_or one 0 d) mid others others_now → HasMetEach script (length later) (get_or (set one 0 mid) 0 e) now later later_now
    → HaveHandedOn script own (set (set one 0 mid) 0 now ++ others_now) later later_now
HaveHandedOn-first script [] others others_now later later_now own d e mid now single is first second = absurd (omega (arith, single))
HaveHandedOn-first script (a ∷ []) others others_now later later_now own d e mid now single is first second =
    subst (λ own. HaveHandedOn script own (now ∷ others_now) later later_now) (sym is) (all_handed script a mid now others others_now later later_now first second)
HaveHandedOn-first script (a ∷ b ∷ more) others others_now later later_now own d e mid now single is first second = absurd (omega (arith, single))
