-- The rule holds at the start.
use Rattle.std.proofs.Common.{◌≡◌, inl, ℕ, zero, suc, List, [], ◌∷◌, refl, sym, ◌∙◌, subst, arith}
use mathlib.Core.Option.{some, some-injective, some-ne-none}
use lib.ListN.{get_elem?}
use Rattle.atomic_table.specs.Table.{opening}
use Rattle.seen_journal.specs.declared.view.View.{View}
use Rattle.seen_journal.specs.Views.{FitsList, holds, first_view}

module _ {E : Type 0} where
  -- of an empty journal, and its own seat alone
  pub opening_is_kept : (quotas : List ℕ) → holds {E = E} (opening (0 ∷ []) [] (first_view quotas))
  opening_is_kept quotas =
      let first : View E = first_view quotas in
      let only : (j : ℕ) (v : View E) → get_elem? (first ∷ []) j ≡ some v → (j ≡ 0) × (first ≡ v) = only_first first in
      record {
        all = [];
        next = 0;
        quotas = quotas;
        count = refl;
        fits = λ id v at. subst (λ (u : View E). FitsList 0 quotas [] (first ∷ []) u) (only id v at).1
            (record {
              seen = ([], refl);
              older = tt;
              own = λ _. refl;
              pass = λ pass. absurd (cc pass);
              claim = λ _. inl refl;
              place = record { next_is = λ _. refl; number = λ pass. absurd (cc pass); quota = λ pass. absurd (cc pass); quotas_are = λ _. refl };
            });
        one_own = λ j k v w a b _ _. (only j v a).0 ∙ sym (only k w b).0;
        one_pass = λ j k v w a b _ _ _. (only j v a).0 ∙ sym (only k w b).0;
        fresh = λ n _. refl;
        bound = λ n. omega arith;
      }
    where
      only_first : (first : View E) (j : ℕ) (v : View E) → get_elem? (first ∷ []) j ≡ some v → (j ≡ 0) × (first ≡ v)
      only_first first zero v at = (refl, some-injective first v at)
      only_first first (suc j) v at = absurd (some-ne-none v (sym at))
