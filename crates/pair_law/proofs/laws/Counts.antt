-- The covered uses of a joint window hit at each level as often as they would alone.
use Rattle.std.proofs.Common.{◌≡◌, ℕ, ◌+◌, ◌-◌, ◌<◌, Bool, true, false, not, ◌==◌, ◌&&◌, length, Option, None, Some, inl, inr, refl, sym, ap, ap₂, ◌∙◌, arith}
use Rattle.std.specs.List.{range_with_len}
use Rattle.std.proofs.lemmas.Bool.{cases_Bool, eqb-true}
use Rattle.std.proofs.lemmas.List.Sums.{length-filter}
use Rattle.lists.proofs.Filters.{filter-same}
use Rattle.pair_text.specs.Values.{PairScriptValue, op_at}
use Rattle.pair_text.specs.declared.op.PairOp.{PairOp}
use Rattle.pair_text.specs.declared.op.PairOp.TheVariants as ops
use Rattle.pair_text.specs.declared.side.Side.TheVariants.{First, Second}
use Rattle.pair_law.proofs.laws.LevelWindows.{HitsAsPrivate-joint_window}
use Rattle.pair_law.specs.Entries.{slice_in}
use Rattle.pair_law.specs.JointWindows.{is_covered}
use Rattle.pair_law.specs.RunLaws.{HitsAsPrivate}
use Rattle.pair_law.specs.LevelRuns.{domain_on, has_at, is_hit, is_miss, user_at}
use Rattle.pair_law.specs.PrivateLevels.{l2_hits, l3_hits}
use Rattle.pair_law.specs.WindowLaws.{JointCountsAgree, count_uses, counts_use}

-- tests that agree on covered uses count the same
count_uses-same : (script : PairScriptValue) (domain group from to : ℕ) (p q : ℕ → ℕ → ℕ → Bool)
    → ((i task cpu line : ℕ) (code : Bool) → from < i → i < to → op_at script i ≡ Some (ops.Use task cpu line code) → (domain_on script Second cpu == domain) ≡ true → ((user_at script i task).0 == group) ≡ true → is_covered script domain group from to i ≡ true → p i cpu line ≡ q i cpu line)
    → count_uses script domain group from to p ≡ count_uses script domain group from to q
count_uses-same script domain group from to p q each =
    let r = range_with_len (from + 1) (to - (from + 1)) in
    let f : ℕ → Bool = λ i. counts_use script domain group from to (p i) i (op_at script i) in
    let g : ℕ → Bool = λ i. counts_use script domain group from to (q i) i (op_at script i) in
    sym (length-filter f r) ∙ (ap length (filter-same f g (from + 1) (to - (from + 1)) (λ i low high. at i (omega arith) (omega arith) (op_at script i) refl)) ∙ length-filter g r)
  where
    at : (i : ℕ) → from < i → i < to → (o : Option PairOp) → op_at script i ≡ o → counts_use script domain group from to (p i) i o ≡ counts_use script domain group from to (q i) i o
    at i low high (Some (ops.Use task cpu line code)) is = elim (cases_Bool (domain_on script Second cpu == domain)) [
      | inl a ↦ elim (cases_Bool ((user_at script i task).0 == group)) [
        | inl b ↦ elim (cases_Bool (is_covered script domain group from to i)) [
          | inl c ↦ ap (λ (r : Bool). ((domain_on script Second cpu == domain) && ((user_at script i task).0 == group)) && (is_covered script domain group from to i && r)) (each i task cpu line code low high is a b c)
          | inr c ↦ rw c refl
        ]
        | inr b ↦ rw (a, b) refl
      ]
      | inr a ↦ rw a refl
    ]
    at i low high (Some ops.Flush) is = refl
    at i low high (Some (ops.Mkdir name)) is = refl
    at i low high (Some (ops.Rmdir name)) is = refl
    at i low high (Some (ops.Write file text)) is = refl
    at i low high (Some (ops.Read file)) is = refl
    at i low high None is = refl

pub CountsAgree-joint_window : JointCountsAgree
CountsAgree-joint_window script j l2 domain from to group mask masks last lawful two run window = record {
  l2 = count_uses-same script domain group.0 from to _ _ (λ i task cpu line code low high is a b c. (hits i task cpu line code low high is a b c).l2);
  l3_asked = count_uses-same script domain group.0 from to _ _ (λ i task cpu line code low high is a b c. (hits i task cpu line code low high is a b c).asked);
  l3 = count_uses-same script domain group.0 from to _ _ (λ i task cpu line code low high is a b c. both i cpu line (hits i task cpu line code low high is a b c));
}
  where
    hits : (i task cpu line : ℕ) (code : Bool) → from < i → i < to → op_at script i ≡ Some (ops.Use task cpu line code) → (domain_on script Second cpu == domain) ≡ true → ((user_at script i task).0 == group.0) ≡ true → is_covered script domain group.0 from to i ≡ true → HitsAsPrivate script j domain from group mask masks i cpu line
    hits i task cpu line code low high is a b c = HitsAsPrivate-joint_window script j l2 domain from to group mask masks last i task cpu line code lawful two run window low high is (eqb-true (domain_on script Second cpu) domain a) (eqb-true (user_at script i task).0 group.0 b) c

    both : (i cpu line : ℕ) → HitsAsPrivate script j domain from group mask masks i cpu line
        → (has_at (slice_in j.l2 (domain_on script First cpu)) i is_miss && has_at (slice_in j.l3 domain) i is_hit) ≡ (not (l2_hits script group.0 mask masks from (domain_on script First cpu) i line) && l3_hits script group.0 mask masks from domain i line)
    both i cpu line h = elim (cases_Bool (l2_hits script group.0 mask masks from (domain_on script First cpu) i line)) [
      | inl e ↦ (let m : has_at (slice_in j.l2 (domain_on script First cpu)) i is_miss ≡ false = h.asked ∙ ap not e in rw (m, e) refl)
      | inr e ↦ ap₂ (λ (a b : Bool). a && b) h.asked (h.l3 e)
    ]
