use Rattle.std.proofs.Common.{◌≡◌, ℕ, ◌-◌, ◌<◌, inl, inr, Option, Some, sym, ap, ◌∙◌, subst, arith}
use Rattle.std.specs.Prelude.{IfSome}
use Rattle.std.proofs.lemmas.Bool.{cases_eq}
use Rattle.cache_core.specs.RmidCounts.{is_rmid}
use Rattle.lists.specs.Sums.{one_if}
use Rattle.journal_check.proofs.StampedCounts.{count_at-other, count_at-own, one_if-rmid_other, one_if-rmid_same}
use Rattle.journal_check.specs.RmidCounts.{count_at}
use Rattle.journal_check.proofs.rmid_counts.RmidCounts.take_one.Goals as goal

pub returns-in-Some-clause-counts : goal.returns-in-Some-clause-counts
returns-in-Some-clause-counts c r below =
    let old = c.args.self.now in
    let new = c.put.new.self in
    let rmid = c.in-Some.rmid in
    let some : 0 < count_at old rmid = subst (λ (o : Option ℕ). IfSome o (λ q. 0 < count_at old q)) c.in-Some.is c.requires in
    let is : is_rmid c.args.rmid r ≡ is_rmid (Some rmid) r = ap (λ (o : Option ℕ). is_rmid o r) c.in-Some.is in
    elim (cases_eq r rmid) [
      | inl same ↦
          let own = count_at-own old new rmid (c.of.result - 1) c.put.ensures.there c.put.ensures.generation c.put.ensures.counts in
          let mine : count_at new r ≡ c.of.result - 1 = ap (count_at new) same ∙ own in
          let before : count_at old r ≡ c.of.result = ap (count_at old) same ∙ sym c.of.ensures in
          omega (arith, mine, before, some, c.of.ensures, ap one_if is, one_if-rmid_same rmid r same)
      | inr apart ↦ omega (arith, count_at-other old new rmid (c.of.result - 1) r apart c.put.ensures.generation c.put.ensures.region_lines c.put.ensures.counts, ap one_if is, one_if-rmid_other rmid r apart)
    ]
