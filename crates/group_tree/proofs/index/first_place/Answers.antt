use Rattle.std.proofs.Common.{◌<◌, length, sym, ap, ◌∙◌, arith}
use Rattle.std.proofs.lemmas.List.{get_or_default}
use Rattle.group_tree.specs.Keys.{is_key}
use Rattle.group_tree.specs.declared.index.Entry.{Entry}
use Rattle.group_tree.proofs.IndexSearches.{position_or_len-absent, position_or_len-present}
use Rattle.group_tree.proofs.index.first_place.Goals as goal

pub returns-then-from-entries : goal.returns-then-from-entries
returns-then-from-entries c = λ key_of groups index.
    let entries = c.args.entries.now in
    let parts = c.count_below-from.ensures.parted index.rising in
    position_or_len-absent key_of groups entries index c.args.key c.count_below-from.result c.count_below-from.ensures.within parts.0 parts.1 (λ d inside. absurd (omega (arith, inside, c.if-from-entries.true)))

pub returns-then-is : goal.returns-then-is
returns-then-is c = λ key_of groups index.
    let entries = c.args.entries.now in
    let none : Entry = record { key = record { high = 0; low = 0 }; place = 0 } in
    let from = c.count_below-from.result in
    let parts = c.count_below-from.ensures.parted index.rising in
    let inside : from < length entries = omega (arith, c.count_below-from.ensures.within, c.if-from-entries.false) in
    position_or_len-present key_of groups entries index c.args.key from c.count_below-from.ensures.within parts.0 parts.1 none inside (sym c.is.ensures ∙ c.if-is.true)

pub returns-else-is : goal.returns-else-is
returns-else-is c = λ key_of groups index.
    let entries = c.args.entries.now in
    let none : Entry = record { key = record { high = 0; low = 0 }; place = 0 } in
    let from = c.count_below-from.result in
    let parts = c.count_below-from.ensures.parted index.rising in
    position_or_len-absent key_of groups entries index c.args.key from c.count_below-from.ensures.within parts.0 parts.1
    (λ d inside. ap (λ (e : Entry). is_key e.key c.args.key) (get_or_default entries from d none inside) ∙ sym c.is.ensures ∙ c.if-is.false)
