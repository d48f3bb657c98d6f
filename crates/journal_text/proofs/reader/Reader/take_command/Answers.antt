use Rattle.std.proofs.Common.{◌≡◌, ℕ, refl, subst}
use Rattle.journal_text.specs.Lines.{command_line}
use Rattle.journal_text.specs.Writable.{IsWritableCommand}
use Rattle.script_ops.specs.Values.{total_weight}
use Rattle.journal_text.proofs.Steps.{HasTaken-command}
use Rattle.journal_text.specs.States.{Holds, HoldsTree, state_at, with_command}
use Rattle.journal_text.specs.declared.line_position.LinePosition.{LinePosition}
use Rattle.run_law.specs.Entries.{entry_value}
use Rattle.journal_text.proofs.reader.Reader.take_command.Goals as goal

pub returns-in_ok-add_command-in-Some : goal.returns-in_ok-add_command-in-Some
returns-in_ok-add_command-in-Some g c =
    let script = c.args.weighed.now.script.now in
    let line = c.args.line.now in
    let from = c.args.self.now.position in
    let e = entry_value c.in-Some.entry in
    let found : IsWritableCommand c.args.weighed.now.weight e × (command_line e ≡ line) = rw c.in-Some.is at c.in_ok-entry.ensures in
    let writable : IsWritableCommand (total_weight script) e = subst (λ (w : ℕ). IsWritableCommand w e) c.requires.weight found.0 in
    λ lines parts kept read.
    let held : HoldsTree script lines parts = subst (λ (p : LinePosition). Holds script p lines parts) c.requires.position read.held in (
      with_command parts e,
      c.in_ok-add_command-in-Some.ensures parts held.slices kept,
      HasTaken-command script line (state_at from parts) (state_at from (with_command parts e)) e c.requires.position writable found.1 c.requires.position refl lines read,
    )
