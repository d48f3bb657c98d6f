-- How many entries a command owes to a slice.
use Rattle.std.proofs.Common.{◌≡◌, ◌≢◌, ℕ, suc, ◌<◌, ◌≤◌, Bool, true, false, cond, eqb, List, [], ◌∷◌, ◌++◌, length, map, filter, get_or, Option, Some, None, Result, Ok, Err, is_some, refl, sym, ◌∙◌, arith}
use Rattle.std.specs.List.{All, AllPairs, flat_map, range_with_len}
use Rattle.std.specs.Option.{option_map_or}
use Rattle.std.proofs.lemmas.Bool.{eqb-true}
use Rattle.std.proofs.lemmas.List.{length-map}
use Rattle.std.proofs.lemmas.List.Elements.{All-filter, All-map}
use Rattle.std.proofs.lemmas.List.FromFn.{length-range_with_len}
use Rattle.std.proofs.lemmas.List.Kept.{AllPairs-filter}
use Rattle.group_tree.specs.declared.group.Group.{Group}
use Rattle.lists.proofs.Choices.{cond-both}
use Rattle.lists.proofs.Pairs.{AllPairs-map, length-distinct}
use Rattle.lists.proofs.Tests.{All-kept}
use Rattle.machine.specs.Maps.{line_of}
use Rattle.machine.specs.Slices.{domain_in}
use Rattle.machine.specs.declared.parameters.Parameters.{Parameters}
use Rattle.path_names.specs.declared.files.FileKind.TheVariants as kinds
use Rattle.path_names.specs.declared.path_ref.PathRef.{PathRef}
use Rattle.path_names.specs.declared.path_ref.PathRef.TheVariants.{File}
use Rattle.rc_base.specs.declared.names.Mode.{Mode}
use Rattle.rc_base.specs.declared.names.Mode.TheVariants.{Shareable, Exclusive, LockSetup, Locked}
use Rattle.run_law.specs.Owed.{follow_in, is_entered_in, look_in}
use Rattle.schemata_text.specs.declared.assignment.Assignment.{Assignment}
use Rattle.schemata_text.specs.declared.fault.TextFault.{TextFault}
use Rattle.script_ops.specs.declared.op.Op.{Op}
use Rattle.script_ops.specs.declared.op.Op.TheVariants as ops
use Rattle.tree_law.specs.LawsCounts.{CanLook}
use Rattle.tree_law.specs.Places.{control_at}
use Rattle.tree_law.specs.State.{State}
use Rattle.tree_law.specs.Steps.{after, after_accepted, refusal}
use Rattle.tree_law.specs.commands.Drop as clflush
use Rattle.tree_law.specs.commands.Flush as flush
use Rattle.tree_law.specs.commands.Mode as mode
use Rattle.tree_law.specs.commands.Schemata as schemata
use Rattle.tree_law.specs.commands.Touch as touch
use Rattle.tree_law.specs.commands.Write as write
use Rattle.tree_law.specs.declared.follow.Follow.{Follow}
use Rattle.tree_law.specs.declared.follow.Follow.TheVariants as follows
use Rattle.run_law.proofs.laws.Pairs.{pair-same}

-- ---- lists

-- a filter keeps no more than there are
length-filter-le : {E : Type 0} (p : E → Bool) (xs : List E) → length (filter p xs) ≤ length xs
length-filter-le p [] = omega arith
length-filter-le p (x ∷ xs) = at (p x) (length-filter-le p xs)
  where
    at : (b : Bool) → length (filter p xs) ≤ length xs → length (cond b (x ∷ filter p xs) (filter p xs)) ≤ suc (length xs)
    at true le = omega (arith, le)
    at false le = omega (arith, le)

-- ---- what a command owes to a slice

-- a count in a domain
abbrev pub in_domain : ℕ → ℕ × ℕ → Bool
in_domain d need = eqb need.0 d

-- as many looks as counts in the domain
pub length-looks : (m : Parameters) (i epoch : ℕ) (pairs : List (ℕ × ℕ)) → length (flat_map (look_in m i epoch) pairs) ≤ length (filter (in_domain (domain_in m i)) pairs)
length-looks m i epoch [] = omega arith
length-looks m i epoch (p ∷ ps) = at (in_domain (domain_in m i) p) refl (length-looks m i epoch ps)
  where
    at : (b : Bool) → in_domain (domain_in m i) p ≡ b → length (flat_map (look_in m i epoch) ps) ≤ length (filter (in_domain (domain_in m i)) ps)
        → length (look_in m i epoch p ++ flat_map (look_in m i epoch) ps) ≤ length (cond b (p ∷ filter (in_domain (domain_in m i)) ps) (filter (in_domain (domain_in m i)) ps))
    at true is rest = rw is (omega (arith, rest))
    at false is rest = rw is (omega (arith, rest))

-- no more than RMIDs
pub length-needs : (m : Parameters) (d : ℕ) (pairs : List (ℕ × ℕ)) → All (CanLook m) pairs → AllPairs (λ (a b : ℕ × ℕ). a ≢ b) pairs → length (filter (in_domain d) pairs) ≤ m.rmids
length-needs m d pairs exist differ =
    let kept : List (ℕ × ℕ) = filter (in_domain d) pairs in
    let own : All (λ (p : ℕ × ℕ). p.0 ≡ d) kept = All-kept (λ (p : ℕ × ℕ). p.0 ≡ d) (in_domain d) pairs (λ k e within is. eqb-true (get_or pairs k e).0 d is) in
    let apart : AllPairs (λ (a b : ℕ × ℕ). a ≢ b) kept = AllPairs-filter (λ (a b : ℕ × ℕ). a ≢ b) (in_domain d) pairs differ in
    let rmids : AllPairs (λ (a b : ℕ). a ≢ b) (map (λ (p : ℕ × ℕ). p.1) kept) = AllPairs-map (λ (a b : ℕ). a ≢ b) (λ (p : ℕ × ℕ). p.1) kept
    (λ x y e below within same. apart x y e below within (pair-same (get_or kept x e) (get_or kept y e) (own x e (omega (arith, below, within)) ∙ sym (own y e within)) same)) in
    let few = length-distinct m.rmids (map (λ (p : ℕ × ℕ). p.1) kept) rmids (All-map (λ n. n < m.rmids) (λ (p : ℕ × ℕ). p.1) kept (λ k e within. (All-filter (in_domain d) (CanLook m) pairs exist k e within).1)) in
    let len = length-map kept (λ (p : ℕ × ℕ). p.1) in
    omega (arith, few, len)

-- no more entries than follow-ups
pub length-follows : (m : Parameters) (i epoch : ℕ) (fs : List Follow) → length (flat_map (follow_in m i epoch) fs) ≤ length fs
length-follows m i epoch [] = omega arith
length-follows m i epoch (f ∷ fs) = at (is_entered_in m i f) refl (length-follows m i epoch fs)
  where
    at : (b : Bool) → is_entered_in m i f ≡ b → length (flat_map (follow_in m i epoch) fs) ≤ length fs → length (follow_in m i epoch f ++ flat_map (follow_in m i epoch) fs) ≤ suc (length fs)
    at true is rest = rw is (omega (arith, rest))
    at false is rest = rw is (omega (arith, rest))

module _ (m : Parameters) (s : State) (few : m.domains ≤ 8) where
  -- one for each domain
  each-few : (f : ℕ → Follow) → length (map f (range_with_len 0 m.domains)) ≤ 8
  each-few f = let one = length-map (range_with_len 0 m.domains) f in let two = length-range_with_len 0 m.domains in omega (arith, one, two, few)

  schemata-few : (g : Group) (read : Result (List Assignment) TextFault) → length (schemata.after m s g read) ≤ 8
  unfolding schemata.after
  schemata-few g (Err fault) = omega arith
  schemata-few g (Ok all) = at g.mode all
    where
      raised : (all : List Assignment) → length (schemata.raises m all) ≤ 8
      raised all =
          let one = length-map (filter (schemata.names_domain all) (range_with_len 0 m.domains)) (λ d. follows.Raise d) in
          let two = length-filter-le (schemata.names_domain all) (range_with_len 0 m.domains) in
          let three = length-range_with_len 0 m.domains in
          omega (arith, one, two, three, few)

      at : (way : Mode) (all : List Assignment) → length (schemata.follow m s way all) ≤ 8
      at Shareable all = raised all
      at Exclusive all = raised all
      at LockSetup [] = omega arith
      at LockSetup (a ∷ all) = omega arith
      at Locked all = omega arith

  mode-few : (g : Group) (text : List ℕ) → length (mode.after m g text) ≤ 8
  unfolding mode.after
  mode-few g text = cond-both (λ (fs : List Follow). length fs ≤ 8) (mode.is_present g.mode text) [] (map (λ d. follows.Raise d) (range_with_len 0 m.domains)) (omega arith) (each-few (λ d. follows.Raise d))

  write-few : (path : PathRef) (text : List ℕ) → length (write.after m s path text) ≤ 8
  unfolding write.after
  write-few (File dir kinds.Schemata) text = at (control_at s dir)
    where
      at : (o : Option Group) → length (option_map_or (λ g. schemata.after m s g (schemata.schemata_read m text)) o []) ≤ 8
      at None = omega arith
      at (Some g) = schemata-few g (schemata.schemata_read m text)
  write-few (File dir kinds.Mode) text = at (control_at s dir)
    where
      at : (o : Option Group) → length (option_map_or (λ g. mode.after m g text) o []) ≤ 8
      at None = omega arith
      at (Some g) = mode-few g text
  write-few path text = omega arith

  after_accepted-few : (k : ℕ) (op : Op) → length (after_accepted m s k op) ≤ 8
  unfolding clflush.after_line clflush.after_region flush.after touch.after
  after_accepted-few k (ops.Rmdir path) = each-few (λ d. follows.Raise d)
  after_accepted-few k (ops.Write path text) = write-few path text
  after_accepted-few k (ops.Flush None) = each-few (λ d. follows.Flush d)
  after_accepted-few k (ops.Flush (Some domain)) = omega arith
  after_accepted-few k (ops.Touch cpu path task offset) = at (touch.touched s path)
    where
      at : (o : Option _) → length (touch.follow m s k offset task cpu o) ≤ 8
      at None = omega arith
      at (Some r) = omega arith
  after_accepted-few k (ops.DropLine addr) = each-few (λ d. follows.Drop d (line_of addr))
  after_accepted-few k (ops.DropRegion path offset) = at (touch.touched s path)
    where
      at : (o : Option _) → length (clflush.follow offset o) ≤ 8
      at None = omega arith
      at (Some r) = omega arith
  after_accepted-few k op = omega arith

  pub after-few : (k : ℕ) (op : Op) → length (after m s k op) ≤ 8
  unfolding after
  after-few k op = cond-both (λ (fs : List Follow). length fs ≤ 8) (is_some (refusal m s op)) [] (after_accepted m s k op) (omega arith) (after_accepted-few k op)
