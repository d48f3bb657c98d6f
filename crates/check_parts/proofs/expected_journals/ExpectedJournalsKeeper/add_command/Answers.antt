use Rattle.std.proofs.Common.{◌≡◌, None, true, false, refl, sym, ◌∙◌}
use Rattle.check_parts.proofs.KeptParts.{KeepsExpected-command, KeepsExpected-unexpected, OnOk-map}
use Rattle.run_law.specs.Entries.{entry_value}
use Rattle.check_parts.proofs.expected_journals.ExpectedJournalsKeeper.add_command.Goals as goal

pub returns-then-expected : goal.returns-then-expected
returns-then-expected c =
    let old = c.args.self.now in
    let script = c.args.script.now in
    let h = entry_value c.args.entry in
    let new = record old { counts = c.add.new.self; left = c.keep_command.new.left } in
    OnOk-map c.keep_command.result
    (λ too parts slices keeps. KeepsExpected-command script old new h parts slices (c.add.ensures script parts.tree keeps.counts) too keeps)
    c.keep_command.ensures

pub returns-else-expected : goal.returns-else-expected
returns-else-expected c parts slices keeps =
    let old = c.args.self.now in
    let script = c.args.script.now in
    let h = entry_value c.args.entry in
    KeepsExpected-unexpected script (record old { counts = c.add.new.self; left = None }) h parts (c.add.ensures script parts.tree keeps.counts) refl
    (λ is. (let wrong : true ≡ false = sym ((c.expects-expected.ensures parts.tree keeps.counts).1 is) ∙ c.if-expected.false in cc))
