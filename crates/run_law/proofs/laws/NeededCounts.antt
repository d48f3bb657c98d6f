-- How many counts a command can need.
use Rattle.std.proofs.Common.{◌≡◌, ◌≢◌, ℕ, zero, suc, ◌+◌, ◌*◌, ◌<◌, ◌≤◌, Bool, true, false, inl, inr, List, [], ◌∷◌, length, map, get_or, All, AllPairs, Option, Some, None, is_some, sym, ap, ◌∙◌, arith}
use Rattle.std.specs.Prelude.{if◌then◌else◌}
use Rattle.std.specs.List.{range_with_len}
use Rattle.std.specs.Option.{option_map_or, option_to_list}
use Rattle.std.proofs.lemmas.Bool.{cases_lt}
use Rattle.std.proofs.lemmas.List.{length-append, length-map}
use Rattle.std.proofs.lemmas.List.Elements.{All-map}
use Rattle.std.proofs.lemmas.List.FromFn.{length-map-range_with_len}
use Rattle.group_tree.specs.declared.group.Group.{Group}
use Rattle.lists.proofs.Choices.{cond-both}
use Rattle.lists.proofs.Pairs.{AllPairs-map, length-distinct}
use Rattle.machine.specs.declared.parameters.Parameters.{Parameters}
use Rattle.path_names.specs.declared.files.FileKind.TheVariants as kinds
use Rattle.path_names.specs.declared.path_ref.PathRef.{PathRef}
use Rattle.path_names.specs.declared.dirs.DirRef.TheVariants.{MonDomain}
use Rattle.path_names.specs.declared.path_ref.PathRef.TheVariants.{File}
use Rattle.rc_base.specs.declared.names.Mode.{Mode}
use Rattle.script_ops.specs.declared.op.Op.{Op}
use Rattle.script_ops.specs.declared.op.Op.TheVariants as ops
use Rattle.run_law.specs.Quotas.{most_counts, most_read, most_written}
use Rattle.tree_law.proofs.laws.Counts.{needs-exist}
use Rattle.tree_law.proofs.laws.DistinctCounts.{needs-distinct}
use Rattle.tree_law.specs.Freeing.{counts_of, rmids_of}
use Rattle.tree_law.specs.LawsCounts.{CanLook, NamesDomain}
use Rattle.tree_law.specs.Places.{control_at}
use Rattle.tree_law.specs.Sound.{IsSound}
use Rattle.tree_law.specs.State.{State}
use Rattle.tree_law.specs.Steps.{needs, needs_accepted, refusal}
use Rattle.tree_law.specs.commands.Mode as mode
use Rattle.tree_law.specs.commands.Reads as read
use Rattle.tree_law.specs.commands.Write as write

-- ---- pairs of a domain and an RMID

-- a pair as a number
abbrev number_of : Parameters → ℕ × ℕ → ℕ
number_of m pair = pair.0 * m.rmids + pair.1

-- a product grows with its first number
mul-suc-le : (a b c : ℕ) → a < b → (a + 1) * c ≤ b * c
mul-suc-le a b zero less = omega arith
mul-suc-le a b (suc c) less = omega (arith, less, mul-suc-le a b c less)

-- pairs of equal numbers have the same domain
same_domain : (m : Parameters) (a b : ℕ × ℕ) → a.1 < m.rmids → b.1 < m.rmids → number_of m a ≡ number_of m b → a.0 ≡ b.0
same_domain m a b below under same = elim (cases_lt a.0 b.0) [
  | inl less ↦ absurd (omega (arith, mul-suc-le a.0 b.0 m.rmids less, below, same, one a.0))
  | inr not_less ↦ elim (cases_lt b.0 a.0) [
    | inl more ↦ absurd (omega (arith, mul-suc-le b.0 a.0 m.rmids more, under, same, one b.0))
    | inr not_more ↦ omega (arith, not_less, not_more)
  ]
]
  where
    one : (x : ℕ) → (x + 1) * m.rmids ≡ x * m.rmids + m.rmids
    one x = omega arith

-- and are equal
same_pair : (m : Parameters) (a b : ℕ × ℕ) → a.1 < m.rmids → b.1 < m.rmids → number_of m a ≡ number_of m b → a ≡ b
same_pair m a b below under same =
    let domain : a.0 ≡ b.0 = same_domain m a b below under same in
    let rmid : a.1 ≡ b.1 = omega (arith, same, ap (λ d. d * m.rmids) domain) in
    ap (λ d. (d, a.1)) domain ∙ ap (λ r. (b.0, r)) rmid

-- there are no more than the machine has
pairs-few : (m : Parameters) (pairs : List (ℕ × ℕ)) → All (CanLook m) pairs → AllPairs (λ (a b : ℕ × ℕ). a ≢ b) pairs → length pairs ≤ m.domains * m.rmids
pairs-few m pairs exist distinct =
    let numbers : List ℕ = map (number_of m) pairs in
    let apart : AllPairs (λ (a b : ℕ). a ≢ b) numbers = AllPairs-map (λ (a b : ℕ). a ≢ b) (number_of m) pairs
    (λ p q d less within same. distinct p q d less within (same_pair m (get_or pairs p d) (get_or pairs q d) (exist p d (omega (arith, less, within))).1 (exist q d within).1 same)) in
    let below : All (λ n. n < m.domains * m.rmids) numbers = All-map (λ n. n < m.domains * m.rmids) (number_of m) pairs (λ p d within. under (get_or pairs p d) (exist p d within)) in
    omega (arith, length-distinct (m.domains * m.rmids) numbers apart below, length-map pairs (number_of m))
  where
    under : (pair : ℕ × ℕ) → CanLook m pair → number_of m pair < m.domains * m.rmids
    under pair can = omega (arith, mul-suc-le pair.0 m.domains m.rmids can.0, can.1, (let one : (pair.0 + 1) * m.rmids ≡ pair.0 * m.rmids + m.rmids = omega arith in one))

-- each RMID has as many counts as there are domains
length-counts_of : (m : Parameters) (rmids : List ℕ) → length (counts_of m rmids) ≡ length rmids * m.domains
length-counts_of m [] = let none : 0 * m.domains ≡ 0 = omega arith in sym none
length-counts_of m (r ∷ rs) =
    let one : length {A = ℕ × ℕ} (map (λ (domain : ℕ). (domain, r)) (range_with_len 0 m.domains)) ≡ m.domains = length-map-range_with_len (λ (domain : ℕ). (domain, r)) 0 m.domains in
    omega (arith, length-append (map (λ (domain : ℕ). (domain, r)) (range_with_len 0 m.domains)) (counts_of m rs), one, length-counts_of m rs)

-- ---- commands

module _ (m : Parameters) (s : State) where
  -- a write of a mode needs those of one RMID
  mode-few : (g : Group) (text : List ℕ) → length (mode.freed g text) ≤ 1
  unfolding mode.freed
  mode-few g text = at (mode.is_present g.mode text) (mode.mode_in text)
    where
      own : (o : Option ℕ) → length (option_to_list o) ≤ 1
      own None = omega arith
      own (Some id) = omega arith

      freed : (o : Option Mode) → length (mode.freed_by g o) ≤ 1
      freed None = omega arith
      freed (Some x) = cond-both (λ (ids : List ℕ). length ids ≤ 1) (mode.is_setup x) (rmids_of g) [] (own g.rmid) (omega arith)

      at : (b : Bool) (o : Option Mode) → length (if b then [] else mode.freed_by g o) ≤ 1
      at true o = omega arith
      at false o = freed o

  -- one RMID has a count in each domain
  one-few : (rmids : List ℕ) → length rmids ≤ 1 → length (counts_of m rmids) ≤ m.domains
  one-few [] few = omega arith
  one-few (r ∷ []) few = omega (arith, length-counts_of m (r ∷ []))
  one-few (r ∷ q ∷ rs) few = absurd (omega (arith, few))

  -- a write
  written-few : (path : PathRef) (text : List ℕ) → length (counts_of m (write.freed s path text)) ≤ most_written m path
  unfolding write.freed
  written-few (File dir kinds.Mode) text = at (control_at s dir)
    where
      at : (o : Option Group) → length (counts_of m (option_map_or (λ g. mode.freed g text) o [])) ≤ m.domains
      at None = omega arith
      at (Some g) = one-few (mode.freed g text) (mode-few g text)
  written-few path text = omega arith

  -- a read
  read-few : (path : PathRef) → All (CanLook m) (read.needs s path) → AllPairs (λ (a b : ℕ × ℕ). a ≢ b) (read.needs s path) → length (read.needs s path) ≤ most_read m path
  unfolding read.needs
  read-few (File (MonDomain holder domain) kinds.Occupancy) exist distinct = pairs-few m (read.needs s (File (MonDomain holder domain) kinds.Occupancy)) exist distinct
  read-few path exist distinct = omega arith

  -- an accepted command
  accepted-few : (op : Op) → All (CanLook m) (needs_accepted m s op) → AllPairs (λ (a b : ℕ × ℕ). a ≢ b) (needs_accepted m s op) → length (needs_accepted m s op) ≤ most_counts m op
  accepted-few (ops.Rmdir path) exist distinct = pairs-few m (needs_accepted m s (ops.Rmdir path)) exist distinct
  accepted-few (ops.Write path text) exist distinct = written-few path text
  accepted-few (ops.Read path) exist distinct = read-few path exist distinct
  accepted-few ops.Tick exist distinct = pairs-few m (needs_accepted m s ops.Tick) exist distinct
  accepted-few op exist distinct = omega arith

  -- a command needs no more counts than its list has room for
  pub needs-few : (op : Op) → IsSound m s → NamesDomain m op → length (needs m s op) ≤ most_counts m op
  unfolding needs
  needs-few op sound exists = at (is_some (refusal m s op)) (needs-exist m s op sound exists) (needs-distinct m s op sound)
    where
      at : (b : Bool) → All (CanLook m) (if b then [] else needs_accepted m s op) → AllPairs (λ (a b : ℕ × ℕ). a ≢ b) (if b then [] else needs_accepted m s op)
          → length (if b then [] else needs_accepted m s op) ≤ most_counts m op
      at true exist distinct = omega arith
      at false exist distinct = accepted-few op exist distinct
