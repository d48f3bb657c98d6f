use Rattle.std.proofs.Common.{refl, sym, ◌∙◌}
use Rattle.std.proofs.lemmas.Option.{none-some}
use Rattle.path_names.proofs.NamedPaths.{path_of-bad, path_of-root, path_of-components}
use Rattle.path_names.proofs.laws.NamedDomains.{IsWithin-path_of}
use Rattle.path_names.proofs.laws.ShortNames.{AreShort-path_of}
use Rattle.path_names.proofs.paths.read_anew.Goals as goal

pub returns-then-is_text-clause-path : goal.returns-then-is_text-clause-path
returns-then-is_text-clause-path c = path_of-root c.args.domains c.args.names.now c.args.text.now (sym c.if-is_text.ensures)

pub returns-then-is_text-clause-bad : goal.returns-then-is_text-clause-bad
returns-then-is_text-clause-bad c = (λ e. absurd (cc), λ e. absurd (none-some _ (sym e ∙ path_of-root c.args.domains c.args.names.now c.args.text.now (sym c.if-is_text.ensures))))

pub returns-then-not-is_well_formed-clause-bad : goal.returns-then-not-is_well_formed-clause-bad
returns-then-not-is_well_formed-clause-bad c = (λ _. path_of-bad c.args.domains c.args.names.now c.args.text.now (sym c.if-is_text.ensures) (sym c.if-not-is_well_formed.ensures), λ _. refl)

pub returns-in-Ok-clause-path : goal.returns-in-Ok-clause-path
returns-in-Ok-clause-path c = path_of-components c.args.domains c.args.names.now c.args.text.now _ (sym c.if-is_text.ensures) (sym c.if-not-is_well_formed.ensures) c.in-Ok.ensures.path

pub returns-in-Ok-clause-within : goal.returns-in-Ok-clause-within
returns-in-Ok-clause-within c =
    IsWithin-path_of c.args.domains c.args.names.now c.args.text.now c.in-Ok.path _
    (path_of-components c.args.domains c.args.names.now c.args.text.now _ (sym c.if-is_text.ensures) (sym c.if-not-is_well_formed.ensures) c.in-Ok.ensures.path)

pub returns-in-Ok-clause-short : goal.returns-in-Ok-clause-short
returns-in-Ok-clause-short c =
    AreShort-path_of c.args.domains c.args.names.now c.args.text.now c.in-Ok.path _
    (path_of-components c.args.domains c.args.names.now c.args.text.now _ (sym c.if-is_text.ensures) (sym c.if-not-is_well_formed.ensures) c.in-Ok.ensures.path)

pub returns-in-Ok-clause-bad : goal.returns-in-Ok-clause-bad
returns-in-Ok-clause-bad c = (
  λ e. absurd (cc),
  λ e. absurd (none-some _ (sym e ∙
      path_of-components c.args.domains c.args.names.now c.args.text.now _ (sym c.if-is_text.ensures) (sym c.if-not-is_well_formed.ensures) refl)),
)

pub returns-in-Err-clause-bad : goal.returns-in-Err-clause-bad
returns-in-Err-clause-bad c = (
  λ e. absurd (cc),
  λ e. absurd (none-some _ (sym e ∙
      path_of-components c.args.domains c.args.names.now c.args.text.now _ (sym c.if-is_text.ensures) (sym c.if-not-is_well_formed.ensures) refl)),
)
