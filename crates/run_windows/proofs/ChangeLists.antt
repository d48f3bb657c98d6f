-- The changes of the exclusive groups, one after the other.
use Rattle.std.proofs.Common.{◌≡◌, ℕ, ◌+◌, ◌-◌, ◌<◌, List, [], ◌∷◌, ◌++◌, length, map, filter, get_or, Option, None, Some, inl, inr, sym, subst, ap, ◌∙◌, arith}
use Rattle.std.specs.Prelude.{IfSome, IsSomeAnd, slice_get}
use Rattle.std.proofs.lemmas.Bool.{cases_lt}
use Rattle.std.proofs.lemmas.List.{length-append}
use Rattle.std.proofs.lemmas.List.Elements.{All-append}
use Rattle.std.proofs.lemmas.Option.{slice_get-get_or, slice_get_past, slice_get_within}
use Rattle.group_tree.specs.Records.{has_mode}
use Rattle.lists.proofs.Pairs.{AllPairs-append, AllPairs-one}
use Rattle.lists.proofs.Tests.{All-one}
use Rattle.rc_base.specs.declared.names.Mode.TheVariants.{Exclusive}
use Rattle.run_law.specs.Journals.{JournalsValue}
use Rattle.run_windows.specs.Changes.{AreChanges, IsReplayed, logged}
use Rattle.run_windows.specs.Edits.{Change, changes_of, edited}
use Rattle.run_windows.specs.Epochs.{state_at}
use Rattle.run_windows.specs.Stays.{exclusive_of, exclusive_in}
use Rattle.run_windows.specs.declared.changes.Log.{Log}
use Rattle.run_windows.specs.declared.changes.Past.{Past}
use Rattle.script_ops.specs.Values.{ScriptValue}
use Rattle.tree_core.specs.Values.{TreeValue}
use Rattle.tree_law.specs.State.{State}
use Rattle.run_windows.proofs.Logs.{logged-changed}
use Rattle.run_windows.proofs.LongerLists.{At-push, slice_get-push, slice_get-pushed}

module _ (script : ScriptValue) (j : JournalsValue) where
  -- the groups of an epoch
  abbrev AreAt : ℕ → Change → Type 0
  AreAt epoch c = c.exclusive ≡ exclusive_in (state_at script j epoch).groups

  -- none at first
  pub AreChanges-none : AreChanges script j 0 []
  AreChanges-none = record {
    some = λ lt. absurd (omega (arith, lt));
    first = λ c e. absurd (let none : None ≡ Some c = e in cc);
    known = λ k d within. absurd (omega arith);
    rising = λ a b d below within. absurd (omega arith);
    each = λ i epoch c e low high ends. absurd (let none : None ≡ Some c = e in cc);
  }

  -- one more
  pub AreChanges-push : (n : ℕ) (old now : List Change) (c : Change) → AreChanges script j n old → c.from ≡ n → AreAt n c → now ≡ old ++ c ∷ [] → AreChanges script j (n + 1) now
  AreChanges-push n old now c were from are made = subst (AreChanges script j (n + 1)) (sym made) (record {
    some = λ lt. omega (arith, length-append old (c ∷ []));
    first = λ x there. elim (At-push old c 0 x there) [
      | inl h ↦ were.first x h
      | inr h ↦ ap (λ (y : Change). y.from) h.1 ∙ (from ∙ elim (cases_lt 0 n) [
        | inl lt ↦ absurd (let some = were.some lt in let is = h.0 in omega (arith, some, is))
        | inr le ↦ omega (arith, le)
      ])
    ];
    known = All-append (λ (x : Change). x.from < n + 1) old (c ∷ []) (λ k d within. let lt = were.known k d within in omega (arith, lt)) (All-one (λ (x : Change). x.from < n + 1) c (omega (arith, from)));
    rising = AllPairs-append (λ (a b : Change). a.from < b.from) old (c ∷ []) were.rising (AllPairs-one (λ (a b : Change). a.from < b.from) c)
        (λ a b d within one. let lt = were.known a d within in All-one (λ (x : Change). (get_or old a d).from < x.from) c (omega (arith, lt, from)) b d one);
    each = λ i epoch x there low high ends. elim (At-push old c i x there) [
      | inl h ↦
          let within = slice_get_within old i x h in
          let next : (epoch < n) × IfSome (slice_get old (i + 1)) (λ (d : Change). epoch < d.from) = elim (cases_lt (i + 1) (length old)) [
            | inl lt ↦
                let here = get_or old (i + 1) c in
                let same : slice_get (old ++ c ∷ []) (i + 1) ≡ slice_get old (i + 1) = slice_get-push old c (i + 1) lt in
                let is : slice_get old (i + 1) ≡ Some here = slice_get-get_or old (i + 1) c lt in
                let less : epoch < here.from = subst (λ (o : Option Change). IfSome o (λ (d : Change). epoch < d.from)) (same ∙ is) ends in
                let bound = were.known (i + 1) c lt in
                (omega (arith, less, bound), subst (λ (o : Option Change). IfSome o (λ (d : Change). epoch < d.from)) same ends)
            | inr le ↦
                let is : slice_get (old ++ c ∷ []) (i + 1) ≡ Some c = slice_get-pushed old c (i + 1) (omega (arith, le, within)) in
                let less : epoch < c.from = subst (λ (o : Option Change). IfSome o (λ (d : Change). epoch < d.from)) is ends in
                (omega (arith, less, from), subst (λ (o : Option Change). IfSome o (λ (d : Change). epoch < d.from)) (sym (slice_get_past old (i + 1) le)) tt)
          ] in
          were.each i epoch x h low next.0 next.1
      | inr h ↦
          let same : n ≡ epoch = let is = h.1 in let its : x.from ≡ n = ap (λ (y : Change). y.from) is ∙ from in omega (arith, its, low, high) in
          subst (λ (y : Change). AreAt epoch y) (sym h.1) (subst (λ k. AreAt k c) same are)
    ];
  })

  -- the groups of the latest change are those of the latest epoch
  pub AreExclusive-latest : (n : ℕ) (all : List Change) → AreChanges script j (n + 1) all → IsSomeAnd (slice_get all (length all - 1)) (AreAt n)
  AreExclusive-latest n all are =
      let some = are.some (omega arith) in
      let d : Change = (change_of all (omega (arith, some))) in
      let c : Change = get_or all (length all - 1) d in
      let there : slice_get all (length all - 1) ≡ Some c = slice_get-get_or all (length all - 1) d (omega (arith, some)) in
      let known = are.known (length all - 1) d (omega (arith, some)) in
      let past : slice_get all (length all - 1 + 1) ≡ None = slice_get_past all (length all - 1 + 1) (omega (arith, some)) in
      subst (λ (o : Option Change). IsSomeAnd o (AreAt n)) (sym there)
      (are.each (length all - 1) n c there (omega (arith, known)) (omega arith) (subst (λ (o : Option Change). IfSome o (λ (x : Change). n < x.from)) (sym past) tt))
    where
      change_of : (l : List Change) → 0 < length l → Change
      change_of [] lt = absurd (omega (arith, lt))
      change_of (x ∷ xs) lt = x

  -- they are the same at one epoch more
  pub AreChanges-same : (n : ℕ) (all : List Change) → AreChanges script j n all → IsSomeAnd (slice_get all (length all - 1)) (AreAt n) → AreChanges script j (n + 1) all
  AreChanges-same n all were latest = record {
    some = λ lt. elim (cases_lt 0 (length all)) [
      | inl some ↦ some
      | inr none ↦ absurd (subst (λ (o : Option Change). IsSomeAnd o (AreAt n)) (slice_get_past all (length all - 1) (omega (arith, none))) latest)
    ];
    first = were.first;
    known = λ k d within. let lt = were.known k d within in omega (arith, lt);
    rising = were.rising;
    each = λ i epoch c there low high ends. elim (cases_lt epoch n) [
      | inl lt ↦ were.each i epoch c there low lt ends
      | inr le ↦
          let within = slice_get_within all i c there in
          let last : i ≡ length all - 1 = elim (cases_lt (i + 1) (length all)) [
            | inl lt ↦ absurd (
                let less : epoch < (get_or all (i + 1) c).from = subst (λ (o : Option Change). IfSome o (λ (d : Change). epoch < d.from)) (slice_get-get_or all (i + 1) c lt) ends in
                let bound = were.known (i + 1) c lt in
                omega (arith, less, bound, le))
            | inr past ↦ omega (arith, past, within)
          ] in
          let is : IsSomeAnd (slice_get all i) (AreAt n) = subst (λ k. IsSomeAnd (slice_get all k) (AreAt n)) (sym last) latest in
          let here : AreAt n c = subst (λ (o : Option Change). IsSomeAnd o (AreAt n)) there is in
          let same : n ≡ epoch = omega (arith, le, high) in
          subst (λ k. AreAt k c) same here
    ];
  }

  -- ---- by a tree that has taken the commands so far

  -- the groups of the tree are those of its epoch
  AreAt-tree : (t : TreeValue) (c : Change) → IsReplayed script j t → c.exclusive ≡ exclusive_in t.state.groups → AreAt t.epoch c
  AreAt-tree t c replayed are = subst (λ (s : State). c.exclusive ≡ exclusive_in s.groups) replayed.state are

  -- the first ones
  pub AreChanges-first : (t : TreeValue) (log : Log) → IsReplayed script j t → t.epoch ≡ 0 → log.pasts.items ≡ [] → log.from ≡ 0 → log.latest.items ≡ exclusive_in t.state.groups → AreChanges script j 1 (logged log)
  AreChanges-first t log replayed first none from are =
      let c : Change = record { from = log.from; exclusive = log.latest.items } in
      AreChanges-push 0 [] (logged log) c AreChanges-none from (subst (λ n. AreAt n c) first (AreAt-tree t c replayed are))
      (ap (λ (ps : List Past). changes_of log.latest.items ps ++ c ∷ []) none)

  -- where the latest ones are still those of the tree
  pub AreChanges-latest : (t : TreeValue) (log : Log) → IsReplayed script j t → log.latest.items ≡ exclusive_in t.state.groups → AreChanges script j t.epoch (logged log) → AreChanges script j (t.epoch + 1) (logged log)
  AreChanges-latest t log replayed are were =
      let c : Change = record { from = log.from; exclusive = log.latest.items } in
      let olds : List Change = changes_of log.latest.items log.pasts.items in
      let last : slice_get (logged log) (length (logged log) - 1) ≡ Some c = slice_get-pushed olds c (length (olds ++ c ∷ []) - 1) (omega (arith, length-append olds (c ∷ []))) in
      AreChanges-same t.epoch (logged log) were (subst (λ (o : Option Change). IsSomeAnd o (AreAt t.epoch)) (sym last) (AreAt-tree t c replayed are))

  -- where they are others
  pub AreChanges-changed : (t : TreeValue) (old new : Log) (p : Past) → IsReplayed script j t → new.latest.items ≡ exclusive_in t.state.groups → AreChanges script j t.epoch (logged old) → new.from ≡ t.epoch
      → p.from ≡ old.from → edited p.edit new.latest.items ≡ old.latest.items → new.pasts.items ≡ old.pasts.items ++ p ∷ [] → AreChanges script j (t.epoch + 1) (logged new)
  AreChanges-changed t old new p replayed are were from past before made =
      let c : Change = record { from = new.from; exclusive = new.latest.items } in
      AreChanges-push t.epoch (logged old) (logged new) c were from (AreAt-tree t c replayed are) (logged-changed old new p past before made)

  -- the latest ones of a log are those of the tree
  pub latest-exclusive : (t : TreeValue) (log : Log) → IsReplayed script j t → AreChanges script j (t.epoch + 1) (logged log) → log.latest.items ≡ exclusive_in t.state.groups
  latest-exclusive t log replayed are =
      let c : Change = record { from = log.from; exclusive = log.latest.items } in
      let olds : List Change = changes_of log.latest.items log.pasts.items in
      let last : slice_get (logged log) (length (logged log) - 1) ≡ Some c = slice_get-pushed olds c (length (olds ++ c ∷ []) - 1) (omega (arith, length-append olds (c ∷ []))) in
      let here : AreAt t.epoch c = subst (λ (o : Option Change). IsSomeAnd o (AreAt t.epoch)) last (AreExclusive-latest t.epoch (logged log) are) in
      subst (λ (s : State). log.latest.items ≡ exclusive_in s.groups) (sym replayed.state) here

  -- after a command that leaves the exclusive groups as they are
  pub AreChanges-kept : (t u : TreeValue) (all : List Change) → IsReplayed script j t → IsReplayed script j u → u.epoch ≡ t.epoch + 1 → filter (has_mode Exclusive) u.state.groups ≡ filter (has_mode Exclusive) t.state.groups
      → AreChanges script j (t.epoch + 1) all → AreChanges script j (u.epoch + 1) all
  AreChanges-kept t u all before after epoch kept were =
      subst (λ n. AreChanges script j (n + 1) all) (sym epoch) (AreChanges-same (t.epoch + 1) all were (of (slice_get all (length all - 1)) (AreExclusive-latest t.epoch all were)))
    where
      of : (o : Option Change) → IsSomeAnd o (AreAt t.epoch) → IsSomeAnd o (AreAt (t.epoch + 1))
      of None none = absurd none
      of (Some c) are =
          let old : c.exclusive ≡ exclusive_in t.state.groups = subst (λ (s : State). c.exclusive ≡ exclusive_in s.groups) (sym before.state) are in
          let new : c.exclusive ≡ exclusive_in u.state.groups = old ∙ ap (map exclusive_of) (sym kept) in
          subst (λ n. AreAt n c) epoch (AreAt-tree u c after new)
