-- The report in two.
use Rattle.std.proofs.Common.{◌≡◌, ℕ, ◌++◌, List, ap, ◌∙◌}
use Rattle.std.specs.List.{flat_map, range_with_len}
use Rattle.std.proofs.lemmas.List.{append_assoc}
use Rattle.report_text.specs.Domains.{domain_line}
use Rattle.report_text.specs.Halves.{head_of, tail_of}
use Rattle.report_text.specs.Reporting.{commands_part, group_line, report_of}
use Rattle.report_text.specs.SliceLines.{journal_part}
use Rattle.report_text.specs.Totals.{total_line}
use Rattle.report_text.specs.WindowLines.{windows_part}
use Rattle.run_law.specs.Journals.{JournalsValue}
use Rattle.report_pieces.specs.declared.flags.Flags.{Flags}
use Rattle.run_counts.specs.declared.window.Window.{Window}
use Rattle.run_replay.specs.Made.{controls}
use Rattle.script_ops.specs.Values.{ScriptValue}

-- the report is its first part and the rest
pub report_of-halves : (script : ScriptValue) (j : JournalsValue) (flags : Flags) (windows : List Window) → report_of script j flags windows ≡ head_of script j flags ++ tail_of script j flags windows
unfolding report_of head_of tail_of
report_of-halves script j flags windows =
    in_two (commands_part script j flags.quiet ++ journal_part script j flags.journal) (windows_part flags.windows windows) (flat_map (group_line script j) (controls script j.tree))
    (flat_map (domain_line script j) (range_with_len 0 script.machine.domains)) (total_line script j)
  where
    in_two : (u w x y z : List ℕ) → u ++ w ++ x ++ y ++ z ≡ u ++ (w ++ x ++ y ++ z)
    in_two u w x y z = simp append_assoc

-- the first part by its parts
pub head_of-parts : (script : ScriptValue) (j : JournalsValue) (flags : Flags) (old one two : List ℕ)
    → one ≡ old ++ commands_part script j flags.quiet
    → two ≡ one ++ journal_part script j flags.journal
    → two ≡ old ++ head_of script j flags
unfolding head_of
head_of-parts script j flags old one two a b =
    b ∙ (ap (λ s. s ++ journal_part script j flags.journal) a ∙ append_assoc old (commands_part script j flags.quiet) (journal_part script j flags.journal))

-- the rest by its parts
pub tail_of-parts : (script : ScriptValue) (j : JournalsValue) (flags : Flags) (windows : List Window) (old one two three four : List ℕ)
    → one ≡ old ++ windows_part flags.windows windows
    → two ≡ one ++ flat_map (group_line script j) (controls script j.tree)
    → three ≡ two ++ flat_map (domain_line script j) (range_with_len 0 script.machine.domains)
    → four ≡ three ++ total_line script j
    → four ≡ old ++ tail_of script j flags windows
unfolding tail_of
tail_of-parts script j flags windows old one two three four a b c d =
    parts old _ _ _ _ one two three four a b c d
  where
    parts : (old w x y z one two three four : List ℕ) → one ≡ old ++ w → two ≡ one ++ x → three ≡ two ++ y → four ≡ three ++ z → four ≡ old ++ (w ++ x ++ y ++ z)
    parts old w x y z one two three four a b c d = d ∙ (ap (λ s. s ++ z) (c ∙ ap (λ s. s ++ y) (b ∙ ap (λ s. s ++ x) a)) ∙ simp append_assoc)
