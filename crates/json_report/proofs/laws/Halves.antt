-- The JSON report in two.
use Rattle.std.proofs.Common.{◌≡◌, ℕ, not, true, false, [], ◌∷◌, ◌++◌, List, refl, sym, ap, ◌∙◌}
use Rattle.std.specs.Prelude.{codes}
use Rattle.std.proofs.lemmas.List.{append_assoc}
use Rattle.json_report.proofs.Objects.{json_of-parts}
use Rattle.json_report.specs.Domains.{domain_values}
use Rattle.json_report.specs.Groups.{group_values}
use Rattle.json_report.specs.Halves.{head_of, tail_of}
use Rattle.json_report.specs.Pieces.{members_told}
use Rattle.json_report.specs.Reporting.{commands_part, json_of}
use Rattle.json_report.specs.SliceValues.{journal_part}
use Rattle.json_report.specs.Totals.{total_value}
use Rattle.json_report.specs.Values.{array_of}
use Rattle.json_report.specs.WindowValues.{windows_part}
use Rattle.run_law.specs.Journals.{JournalsValue}
use Rattle.report_pieces.specs.declared.flags.Flags.{Flags}
use Rattle.run_counts.specs.declared.window.Window.{Window}
use Rattle.script_ops.specs.Values.{ScriptValue}

-- the first part by its parts
pub head_of-parts : (script : ScriptValue) (j : JournalsValue) (flags : Flags) (old one two : List ℕ)
    → one ≡ old ++ codes "{"
    → two ≡ one ++ members_told false (commands_part script j flags.quiet)
    → two ≡ old ++ head_of script j flags
unfolding head_of
head_of-parts script j flags old one two a b =
    b ∙ (ap (λ s. s ++ members_told false (commands_part script j flags.quiet)) a ∙ append_assoc old (codes "{") (members_told false (commands_part script j flags.quiet)))

-- the rest by its parts
pub tail_of-parts : (script : ScriptValue) (j : JournalsValue) (flags : Flags) (windows : List Window) (old one two three four five six : List ℕ)
    → one ≡ old ++ members_told (not flags.quiet) ((codes "domains", array_of (domain_values script j)) ∷ [])
    → two ≡ one ++ members_told true ((codes "groups", array_of (group_values script j)) ∷ [])
    → three ≡ two ++ members_told true (journal_part script j flags.journal)
    → four ≡ three ++ members_told true ((codes "total", total_value script j) ∷ [])
    → five ≡ four ++ members_told true (windows_part flags.windows windows)
    → six ≡ five ++ codes "}\n"
    → six ≡ old ++ tail_of script j flags windows
unfolding tail_of
tail_of-parts script j flags windows old one two three four five six a b c d e f =
    parts old _ _ _ _ _ _ one two three four five six a b c d e f
  where
    parts : (old u v w x y z one two three four five six : List ℕ) → one ≡ old ++ u → two ≡ one ++ v → three ≡ two ++ w → four ≡ three ++ x → five ≡ four ++ y → six ≡ five ++ z → six ≡ old ++ (u ++ v ++ w ++ x ++ y ++ z)
    parts old u v w x y z one two three four five six a b c d e f =
        f ∙ (ap (λ s. s ++ z) (e ∙ ap (λ s. s ++ y) (d ∙ ap (λ s. s ++ x) (c ∙ ap (λ s. s ++ w) (b ∙ ap (λ s. s ++ v) a)))) ∙ simp append_assoc)

-- the report is its first part and the rest
pub json_of-halves : (script : ScriptValue) (j : JournalsValue) (flags : Flags) (windows : List Window) → json_of script j flags windows ≡ head_of script j flags ++ tail_of script j flags windows
unfolding head_of tail_of
json_of-halves script j flags windows =
    sym (json_of-parts script j flags windows [] _ _ _ _ _ _ _ _ refl refl refl refl refl refl refl refl)
    ∙ in_two (members_told false (commands_part script j flags.quiet)) (members_told (not flags.quiet) ((codes "domains", array_of (domain_values script j)) ∷ []))
    (members_told true ((codes "groups", array_of (group_values script j)) ∷ [])) (members_told true (journal_part script j flags.journal)) (members_told true ((codes "total", total_value script j) ∷ []))
    (members_told true (windows_part flags.windows windows)) (codes "}\n")
  where
    in_two : (b c d e f g z : List ℕ) → (((((((123 ∷ []) ++ b) ++ c) ++ d) ++ e) ++ f) ++ g) ++ z ≡ ((123 ∷ []) ++ b) ++ (c ++ d ++ e ++ f ++ g ++ z)
    in_two b c d e f g z = simp append_assoc
