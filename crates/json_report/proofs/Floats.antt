-- No value of a report has a float.
use Rattle.std.proofs.Common.{◌≡◌, ℕ, Bool, true, false, cond, List, [], ◌∷◌, ◌++◌, refl, ap, ◌∙◌}
use Rattle.std.specs.List.{flat_map, range_with_len}
use Rattle.std.specs.Prelude.{codes, nat_lt}
use Rattle.json_report.specs.Domains.{domain_of_counts, rmid_value, rmid_values}
use Rattle.json_report.specs.Totals.{total_of_counts}
use Rattle.json_report.specs.Values.{object_of, whole}
use Rattle.run_counts.specs.declared.counts.Counts.{Counts}
use Rattle.serde_json.specs.Data.{Data}
use Rattle.serde_json.specs.View.{items_of}
use Rattle.serde_json.specs.Written.{has_float, items_have_float}

-- the total
pub has_float-total : (commands refused : ℕ) (counts : Counts) → has_float (total_of_counts commands refused counts) ≡ false
unfolding total_of_counts
has_float-total commands refused counts = refl

-- the RMIDs of a domain
items_have_float-rmids : (rmids : List ℕ) (lines : ℕ → ℕ) → items_have_float (items_of (flat_map (λ r. rmid_value r (lines r)) rmids)) ≡ false
items_have_float-rmids [] lines = refl
items_have_float-rmids (r ∷ rs) lines = elim (nat_lt 0 (lines r)) as (λ (b : Bool). items_have_float (items_of (cond b (object_of ((codes "lines", whole (lines r)) ∷ (codes "rmid", whole r) ∷ []) ∷ []) [] ++ flat_map (λ x. rmid_value x (lines x)) rs)) ≡ false) [
  | true ↦ items_have_float-rmids rs lines
  | false ↦ items_have_float-rmids rs lines
]

-- a domain
pub has_float-domain : (domain places rmids : ℕ) (lines : ℕ → ℕ) (valid : ℕ) → has_float (domain_of_counts domain places (rmid_values rmids lines) valid) ≡ false
unfolding domain_of_counts
has_float-domain domain places rmids lines valid = rw (items_have_float-rmids (range_with_len 0 rmids) lines) refl

-- a value that is that of a domain
pub has_float-counted : (d : Data) (domain places rmids valid : ℕ) (lines : ℕ → ℕ) (values : List Data) → d ≡ domain_of_counts domain places values valid → values ≡ rmid_values rmids lines → has_float d ≡ false
has_float-counted d domain places rmids valid lines values is all =
    ap has_float is ∙ (ap (λ (vs : List Data). has_float (domain_of_counts domain places vs valid)) all ∙ has_float-domain domain places rmids lines valid)
