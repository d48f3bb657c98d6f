use Rattle.std.proofs.Common.{◌≡◌, ℕ, List, [], ◌∷◌, ◌++◌, length, Some, None, cond, ap, ◌∙◌}
use Rattle.std.specs.Str.{bytes_eq}
use Rattle.path_names.specs.declared.names.NameId.{NameId}
use Rattle.path_names.specs.NameIndex.{number_at}
use Rattle.path_names.specs.NameList.{names_of}
use Rattle.path_names.proofs.NameTable.{AreNumbered-known, AreNumbered-push, Numbered, Numbered-known, Numbered-new, number-or_next}
use Rattle.path_names.proofs.names.intern_by.Goals as goal

abbrev numbered : ℕ → NameId
numbered n = record { 0 = n }

-- ---- a new name

-- the next number
next_is : (c : goal.After-push) → c.len-next.result ≡ length (names_of c.args.list.now)
next_is c = c.len-next.ensures ∙ ap (λ (names : List (List ℕ)). length names) c.in_ok-reserve.ensures.same

-- the name was not known
none : (c : goal.After-push) → None ≡ number_at c.args.index.now c.args.name.now
none c = (number-or_next (names_of c.args.list.now) (number_at c.args.index.now) c.requires.numbered c.args.name.now c.in_ok-number.number c.len-next.result (next_is c) c.in_ok-number.ensures.number).0 c.if-number-next.true

-- its number is the next one
number_is : (c : goal.After-push) → c.in_ok-number.number ≡ length (names_of c.args.list.now)
number_is c = c.if-number-next.true ∙ next_is c

-- the names after it came
names_after : (c : goal.After-push) → names_of c.push.new.self ≡ names_of c.args.list.now ++ c.args.name.now ∷ []
names_after c = c.push.ensures ∙ ap (λ (names : List (List ℕ)). names ++ c.args.name.now ∷ []) c.in_ok-reserve.ensures.same

new : (c : goal.After-push) → Numbered (names_of c.args.list.now) c.args.name.now c.in_ok-number.number (names_of c.push.new.self)
new c = rw (names_after c, number_is c) (Numbered-new (names_of c.args.list.now) (number_at c.args.index.now) c.requires.numbered c.args.name.now (none c))

pub returns-then-number-next-clause-id : goal.returns-then-number-next-clause-id
returns-then-number-next-clause-id c = ap numbered (new c).place

pub returns-then-number-next-clause-kept : goal.returns-then-number-next-clause-kept
returns-then-number-next-clause-kept c = (new c).known

pub returns-then-number-next-clause-named : goal.returns-then-number-next-clause-named
returns-then-number-next-clause-named c = (new c).named

pub returns-then-number-next-clause-numbered : goal.returns-then-number-next-clause-numbered
returns-then-number-next-clause-numbered c = rw (names_after c)
    (AreNumbered-push (names_of c.args.list.now) (number_at c.args.index.now) (number_at c.number_or.new.self) c.args.name.now c.requires.numbered (none c)
    (λ other. c.in_ok-number.ensures.ok other ∙ ap (λ (i : ℕ). cond (bytes_eq c.args.name.now other) (Some i) (number_at c.args.index.now other)) (number_is c)))

-- ---- a name that was known

-- its number is its own
own : (c : goal.Else-number-next) → Some c.in_ok-number.number ≡ number_at c.args.index.now c.args.name.now
own c = (number-or_next (names_of c.args.list.now) (number_at c.args.index.now) c.requires.numbered c.args.name.now c.in_ok-number.number c.len-next.result
    (c.len-next.ensures ∙ ap (λ (names : List (List ℕ)). length names) c.in_ok-reserve.ensures.same) c.in_ok-number.ensures.number).1 c.if-number-next.false

known : (c : goal.Else-number-next) → Numbered (names_of c.args.list.now) c.args.name.now c.in_ok-number.number (names_of c.reserve.new.self)
known c = rw c.in_ok-reserve.ensures.same (Numbered-known (names_of c.args.list.now) (number_at c.args.index.now) c.requires.numbered c.args.name.now c.in_ok-number.number (own c))

pub returns-else-number-next-clause-id : goal.returns-else-number-next-clause-id
returns-else-number-next-clause-id c = ap numbered (known c).place

pub returns-else-number-next-clause-kept : goal.returns-else-number-next-clause-kept
returns-else-number-next-clause-kept c = (known c).known

pub returns-else-number-next-clause-named : goal.returns-else-number-next-clause-named
returns-else-number-next-clause-named c = (known c).named

pub returns-else-number-next-clause-numbered : goal.returns-else-number-next-clause-numbered
returns-else-number-next-clause-numbered c = rw c.in_ok-reserve.ensures.same
    (AreNumbered-known (names_of c.args.list.now) (number_at c.args.index.now) (number_at c.number_or.new.self) c.args.name.now c.in_ok-number.number c.requires.numbered (own c) c.in_ok-number.ensures.ok)
