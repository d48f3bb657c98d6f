use Rattle.std.proofs.Common.{◌≡◌, List, [], ℕ, None, Some, sym, ap, ◌∙◌, subst}
use Rattle.std.specs.List.Sorted.{IsBinarySearchResult}
use Rattle.std.specs.Ordering.{nat_cmp}
use Rattle.std.specs.Prelude.{slice_get}
use Rattle.journal_check.proofs.NeedKeys.{found-needed, missed-needed}
use Rattle.journal_check.specs.Needs.{AreKeys, key_of, keys_in, pairs_in}
use Rattle.journal_check.specs.declared.needs.NeedLists.{NeedLists}
use Rattle.journal_check.proofs.needs.Needs.has.Goals as goal

pub returns-in-Some : goal.returns-in-Some
returns-in-Some c =
    let domain = c.args.domain in
    let rmid = c.args.rmid in
    let keys = keys_in c.self.inside.lists in
    let are : AreKeys c.args.self.now keys = subst (λ (ns : List (ℕ × ℕ)). AreKeys ns keys) c.self.view_is c.self.invariant in
    let found : c.deref-in-Some.result.now ≡ keys = c.deref-in-Some.ensures.value ∙ (ap (λ (l : NeedLists). l.keys.items) c.deref.ensures ∙ sym (ap keys_in c.in-Some.is)) in
    let is : IsBinarySearchResult (λ y. nat_cmp y (key_of (domain, rmid))) keys c.binary_search.result =
    subst (λ (ks : List ℕ). IsBinarySearchResult (λ y. nat_cmp y (key_of (domain, rmid))) ks c.binary_search.result) found
    (subst (λ n. IsBinarySearchResult (λ y. nat_cmp y n) c.deref-in-Some.result.now c.binary_search.result) c.key_of.ensures c.binary_search.ensures.position) in
    record {
      yes = λ shown. found-needed c.args.self.now keys are domain rmid c.ranges.rmid.fits c.binary_search.result is (sym c.is_ok.ensures.value ∙ shown);
      none = λ hidden. missed-needed c.args.self.now keys are domain rmid c.ranges.rmid.fits c.binary_search.result is (sym c.is_ok.ensures.value ∙ hidden);
    }

pub returns-in-None : goal.returns-in-None
returns-in-None c =
    let empty : c.args.self.now ≡ [] = sym c.self.view_is ∙ ap pairs_in c.in-None.is in
    record {
      yes = λ wrong. absurd cc;
      none = λ same k need at first second. (let gone : slice_get {X = ℕ × ℕ} [] k ≡ Some need = subst (λ (ns : List (ℕ × ℕ)). slice_get ns k ≡ Some need) empty at in let never : None ≡ Some need = gone in absurd cc);
    }
