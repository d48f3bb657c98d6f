-- What is printed of a plan that is compared.
use Rattle.std.specs.Prelude.{ℕ, ◌+◌, Bool, List, [], ◌∷◌, ◌++◌, codes, decimal}
use Rattle.group_tree.specs.declared.group.Group.{Group}
use Rattle.way_plans.specs.PlanTexts.{DomainPart, domain_text, script_lines}
use Rattle.way_plans.specs.declared.comparison.Comparison.{Comparison}

-- the line of what a domain's plan is compared with: `domain D WHAT: misses M`
abbrev pub compared_line : ℕ → List ℕ → ℕ → List ℕ
compared_line domain what misses = codes "domain " ++ decimal domain ++ what ++ (codes ": misses " ++ decimal misses ++ codes "\n")

-- `domain D as it is: misses M` and `domain D shared: misses M`
abbrev pub comparison_text : ℕ → Comparison → List ℕ
comparison_text domain c = compared_line domain (codes " as it is") c.as_it_is ++ compared_line domain (codes " shared") c.shared

-- what is told of each domain, numbered from this one, and after its plan what that is compared with
abbrev pub compared_domains : Bool → List (List ℕ) → ℕ → List Group → ℕ → List DomainPart → List Comparison → List ℕ
compared_domains only_used names ways groups domain [] comparisons = []
compared_domains only_used names ways groups domain (part ∷ parts) [] = []
compared_domains only_used names ways groups domain (part ∷ parts) (c ∷ comparisons) =
    domain_text only_used names ways groups domain part ++ comparison_text domain c ++ compared_domains only_used names ways groups (domain + 1) parts comparisons

-- The whole text: each domain with what its plan is compared with, and the lines of a script.
abbrev pub compared_text : (only_used : Bool) → List (List ℕ) → ℕ → List Group → List DomainPart → List Comparison → List ℕ
compared_text only_used names ways groups parts comparisons = compared_domains only_used names ways groups 0 parts comparisons ++ script_lines names ways groups parts
