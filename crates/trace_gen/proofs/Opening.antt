-- The lines before the order, read.
use lib.Count.{ones}
use Rattle.std.proofs.Common.{◌≡◌, ℕ, List, [], ◌∷◌, ◌++◌, Bool, true, false, not, ◌&&◌, ltb, length, Ok, refl, ◌∙◌}
use Rattle.std.specs.Prelude.{codes}
use Rattle.std.specs.List.{AllByRecursion, list_all, list_any}
use Rattle.std.proofs.lemmas.Bool.{ltb-true}
use Rattle.machine.specs.Ranges.{is_machine}
use Rattle.path_names.specs.Components.{components_of, is_component, is_well_formed}
use Rattle.path_names.specs.PathTable.{entry_of}
use Rattle.rc_base.specs.Texts.{is_text}
use Rattle.script_ops.specs.declared.op.Op.{Op}
use Rattle.script_ops.specs.Values.{PhaseValue}
use Rattle.script_text.specs.declared.kind.LinePosition.{LinePosition}
use Rattle.script_text.specs.declared.kind.LinePosition.TheVariants.{Head, Opened}
use Rattle.script_lines.specs.declared.tasks.TaskRange.{TaskRange}
use Rattle.script_lines.specs.Escapes.{unescaped}
use Rattle.script_lines.specs.Keys.{cache_key, id_key, keys_from, mask_key, with_key}
use Rattle.script_text.specs.Kinds.{access_kind, command_kind, kind_of, part_kind}
use Rattle.script_text.specs.Meaning.{line_meaning, means, path_alone, word_means}
use Rattle.script_text.specs.Reading.{nothing_read}
use Rattle.script_text.specs.States.{ReaderState}
use Rattle.script_lines.specs.Tasks.{declared_from, tasks_of}
use Rattle.trace_gen.specs.Scripts.{opening_ops, trace_machine}
use Rattle.trace_gen.specs.Trace.{group_lines, machine_line, opening_lines}
use Rattle.trace_gen.proofs.Steps.{meaning_of, meaning_of-cons}
use Rattle.trace_gen.proofs.Words.{IsPlain, is_carriage_return, is_newline}

-- ---- plain lines

-- whether a line is plain
abbrev is_plain : List ℕ → Bool
is_plain line = ltb 0 (length line) && (not (list_any is_newline line) && not (list_any is_carriage_return line))

-- a line that passes
IsPlain-from_test : (line : List ℕ) → is_plain line ≡ true → IsPlain line
IsPlain-from_test line e = at (ltb 0 (length line)) (list_any is_newline line) (list_any is_carriage_return line) refl refl refl e
  where
    at : (a b c : Bool) → ltb 0 (length line) ≡ a → list_any is_newline line ≡ b → list_any is_carriage_return line ≡ c → (a && (not b && not c)) ≡ true → IsPlain line
    at true false false some newline return e = record { some = ltb-true 0 (length line) some; no_newline = newline; no_return = return }
    at true false true some newline return e = absurd cc
    at true true c some newline return e = absurd cc
    at false b c some newline return e = absurd cc

-- lines that pass, before others that are plain
AllByRecursion-plain : (xs ys : List (List ℕ)) → list_all is_plain xs ≡ true → AllByRecursion IsPlain ys → AllByRecursion IsPlain (xs ++ ys)
AllByRecursion-plain [] ys e all = all
AllByRecursion-plain (x ∷ xs) ys e all = at (is_plain x) refl e (λ f. AllByRecursion-plain xs ys f all)
  where
    at : (b : Bool) → is_plain x ≡ b → (b && list_all is_plain xs) ≡ true → (list_all is_plain xs ≡ true → AllByRecursion IsPlain (xs ++ ys)) → IsPlain x × AllByRecursion IsPlain (xs ++ ys)
    at true is f rest = (IsPlain-from_test x is, rest f)
    at false is f rest = absurd cc

-- the opening is plain
pub AllByRecursion-opening : (ys : List (List ℕ)) → AllByRecursion IsPlain ys → AllByRecursion IsPlain (opening_lines ++ ys)
AllByRecursion-opening ys all = AllByRecursion-plain opening_lines ys refl all

-- ---- what the opening means

-- the tasks, as a reader keeps them
abbrev pub trace_ranges : List TaskRange
trace_ranges = (record { first = 1; last = 4 }) ∷ []

-- the first phase
abbrev pub opening_phase : PhaseValue
opening_phase = record { order = []; threads = opening_ops ∷ [] }

-- the state in the second phase
abbrev pub second : LinePosition → List ℕ → List (List Op) → List Op → ℕ → ReaderState
second place order threads ops weight = record { place = place; machine = trace_machine; tasks = trace_ranges; names = codes "g1" ∷ codes "g2" ∷ []; phases = opening_phase ∷ []; order = order; threads = threads; ops = ops; weight = weight }

-- the state after the machine line
abbrev headed : ReaderState
headed = record nothing_read { place = Head; machine = trace_machine }

-- the machine line
line_meaning-machine : line_meaning nothing_read machine_line ≡ Ok headed
unfolding line_meaning word_means kind_of part_kind is_text means keys_from with_key cache_key id_key mask_key is_machine ones
line_meaning-machine = refl

-- the lines after it
meaning_of-groups : meaning_of headed group_lines ≡ Ok (second Opened [] [] [] 21)
unfolding line_meaning word_means kind_of part_kind command_kind access_kind is_text means path_alone unescaped declared_from tasks_of components_of is_well_formed is_component entry_of
meaning_of-groups = refl

-- the opening
pub meaning_of-opening : meaning_of nothing_read opening_lines ≡ Ok (second Opened [] [] [] 21)
meaning_of-opening = meaning_of-cons nothing_read headed machine_line group_lines line_meaning-machine ∙ meaning_of-groups
