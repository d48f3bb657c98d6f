-- The same numbers of lines, told alike.
use Rattle.std.proofs.Common.{◌≡◌, ℕ, zero, suc, ◌+◌, ◌<◌, [], ◌++◌, refl, sym, ap, ◌∙◌, arith}
use Rattle.lists.proofs.Ranges.{flat_map-range_suc}
use Rattle.machine.specs.declared.parameters.Parameters.{Parameters}
use Rattle.report_text.specs.Domains.{domain_told, rmid_text, rmids_told}

-- one more RMID
rmids_told-suc : (n : ℕ) (f : ℕ → ℕ) → rmids_told (n + 1) f ≡ rmids_told n f ++ rmid_text n (f n)
rmids_told-suc n f = sym (flat_map-range_suc (λ r. rmid_text r (f r)) n [] (rmids_told n f) (rmids_told n f ++ rmid_text n (f n)) refl refl)

-- the same numbers of lines
pub rmids_told-same : (n : ℕ) (f g : ℕ → ℕ) → ((r : ℕ) → r < n → f r ≡ g r) → rmids_told n f ≡ rmids_told n g
rmids_told-same zero f g same = refl
rmids_told-same (suc n) f g same =
    let next : suc n ≡ n + 1 = omega arith in
    let less : rmids_told n f ≡ rmids_told n g = rmids_told-same n f g (λ r lt. same r (omega arith)) in
    ap (λ k. rmids_told k f) next
    ∙ (rmids_told-suc n f ∙ (ap (λ t. t ++ rmid_text n (f n)) less ∙ (ap (λ k. rmids_told n g ++ rmid_text n k) (same n (omega arith)) ∙ (sym (rmids_told-suc n g) ∙ ap (λ k. rmids_told k g) (sym next)))))

-- the same line of a domain
pub domain_told-same : (m other : Parameters) (domain valid other_valid : ℕ) (f g : ℕ → ℕ) → m ≡ other → valid ≡ other_valid → ((r : ℕ) → r < other.rmids → f r ≡ g r)
    → domain_told m domain valid f ≡ domain_told other domain other_valid g
domain_told-same m other domain valid other_valid f g machine count lines =
    ap (λ (p : Parameters). domain_told p domain valid f) machine ∙ (ap (λ n. domain_told other domain n f) count ∙ line (rmids_told-same other.rmids f g lines))
  where
    line : rmids_told other.rmids f ≡ rmids_told other.rmids g → domain_told other domain other_valid f ≡ domain_told other domain other_valid g
    line same = rw same refl
