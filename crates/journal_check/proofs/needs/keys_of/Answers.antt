use Rattle.std.proofs.Common.{◌≡◌, ℕ, ◌++◌, ◌∷◌, [], List, get_or, map, take, sym, ap, ◌∙◌, subst}
use Rattle.std.specs.Prelude.{IsPermutation}
use Rattle.std.proofs.lemmas.List.{map-append, take_all, take_more}
use Rattle.std.proofs.lemmas.List.Sorted.{IsNonDecreasingBy-from_sort}
use Rattle.journal_check.specs.Needs.{key_of}
use Rattle.journal_check.proofs.needs.keys_of.Goals as goal

pub loop-i-preserved : goal.loop-i-preserved
loop-i-preserved c =
    let pairs = c.args.pairs.now in
    let i = c.loop-i.i in
    c.in_ok-push.ensures.items
    ∙ (ap (λ (xs : List ℕ). xs ++ c.key_of.result ∷ []) c.loop-i.invariant
    ∙ (ap (λ n. map key_of (take i pairs) ++ n ∷ []) c.key_of.ensures
    ∙ (sym (map-append key_of (take i pairs) (get_or pairs i (0, 0) ∷ []))
    ∙ ap (map key_of) (sym (take_more pairs i (0, 0) c.loop-i-test.true)))))

pub returns : goal.returns
returns c =
    let pairs = c.args.pairs.now in
    let new = c.sort_unstable.new.self.items in
    let all : c.loop-i.keys.items ≡ map key_of pairs = c.loop-i.invariant ∙ ap (map key_of) (take_all c.loop-i.i pairs c.loop-i-test.false) in
    record {
      small = c.requires;
      same = subst (λ (ks : List ℕ). IsPermutation ks new) all c.sort_unstable.ensures.permutation;
      sorted = IsNonDecreasingBy-from_sort (λ n. n) new c.sort_unstable.ensures.sorted;
    }
