-- Texts of objects, by their members in the order in which they are written.
use Rattle.std.proofs.Common.{◌≡◌, ℕ, Bool, true, false, not, List, [], ◌∷◌, ◌++◌, refl, sym, ap, ◌∙◌}
use Rattle.std.proofs.lemmas.List.{append_assoc, append-nil}
use Rattle.std.specs.Prelude.{codes}
use Rattle.json_report.proofs.laws.Objects.{Member, compact_text-members, members_told-then}
use Rattle.json_report.proofs.laws.Pieces.{compact_text-object}
use Rattle.json_report.specs.Domains.{domain_values}
use Rattle.json_report.specs.Pieces.{members_told}
use Rattle.json_report.specs.SliceValues.{journal_part}
use Rattle.json_report.specs.Totals.{total_value}
use Rattle.json_report.specs.Values.{array_of, whole}
use Rattle.json_report.specs.WindowValues.{windows_part}
use Rattle.json_report.specs.Commands.{command_members, command_value, command_values, text_member}
use Rattle.json_report.specs.Groups.{group_values}
use Rattle.json_report.specs.Reporting.{commands_part, json_of, report_members}
use Rattle.report_pieces.specs.Results.{result_of, words_of}
use Rattle.run_replay.specs.Playbacks.{given}
use Rattle.run_law.specs.Journals.{JournalsValue}
use Rattle.run_law.specs.TreeHistory.{TreeEntryValue}
use Rattle.report_pieces.specs.declared.flags.Flags.{Flags}
use Rattle.run_counts.specs.declared.window.Window.{Window}
use Rattle.script_ops.specs.Values.{ScriptValue}
use Rattle.serde_json.specs.Data.{string}
use Rattle.serde_json.specs.Written.{compact_text}
use Rattle.tree_law.specs.State.{State, opening}

-- ---- the value of a command

pub command_value-parts : (script : ScriptValue) (j : JournalsValue) (s : State) (p : ℕ) (h : TreeEntryValue) (old a b c d e f g new : List ℕ)
    → a ≡ old ++ 123 ∷ []
    → b ≡ a ++ members_told false ((codes "at", whole p) ∷ [])
    → c ≡ b ++ members_told true ((codes "op", whole h.op) ∷ [])
    → d ≡ c ++ members_told true ((codes "result", string (result_of script j h)) ∷ [])
    → e ≡ d ++ members_told true (text_member (given script s h))
    → f ≡ e ++ members_told true ((codes "thread", whole h.thread) ∷ [])
    → g ≡ f ++ members_told true ((codes "words", string (words_of script h)) ∷ [])
    → new ≡ g ++ 125 ∷ []
    → new ≡ old ++ compact_text (command_value script j s p h)
unfolding command_value
command_value-parts script j s p h old a b c d e f g new opens at op result text thread words closes =
    let m_at : Member = (codes "at", whole p) in
    let m_op : Member = (codes "op", whole h.op) in
    let m_result : Member = (codes "result", string (result_of script j h)) in
    let m_thread : Member = (codes "thread", whole h.thread) in
    let m_words : Member = (codes "words", string (words_of script h)) in
    let m_text : List Member = text_member (given script s h) in
    let c_is : c ≡ a ++ members_told false (m_at ∷ m_op ∷ []) = members_told-then m_at [] (m_op ∷ []) (m_op ∷ []) a b c refl at op in
    let d_is : d ≡ a ++ members_told false (m_at ∷ m_op ∷ m_result ∷ []) = members_told-then m_at (m_op ∷ []) (m_result ∷ []) (m_op ∷ m_result ∷ []) a c d refl c_is result in
    let e_is : e ≡ a ++ members_told false (m_at ∷ m_op ∷ m_result ∷ m_text) = members_told-then m_at (m_op ∷ m_result ∷ []) m_text (m_op ∷ m_result ∷ m_text) a d e refl d_is text in
    let f_is : f ≡ a ++ members_told false (m_at ∷ m_op ∷ m_result ∷ (m_text ++ m_thread ∷ [])) =
    members_told-then m_at (m_op ∷ m_result ∷ m_text) (m_thread ∷ []) (m_op ∷ m_result ∷ (m_text ++ m_thread ∷ [])) a e f refl e_is thread in
    let last : m_op ∷ m_result ∷ (m_text ++ m_thread ∷ m_words ∷ []) ≡ (m_op ∷ m_result ∷ (m_text ++ m_thread ∷ [])) ++ m_words ∷ [] = ap (λ (ms : List Member). m_op ∷ m_result ∷ ms) (sym (append_assoc m_text (m_thread ∷ []) (m_words ∷ []))) in
    let g_is : g ≡ a ++ members_told false (command_members script j s p h) =
    members_told-then m_at (m_op ∷ m_result ∷ (m_text ++ m_thread ∷ [])) (m_words ∷ []) (m_op ∷ m_result ∷ (m_text ++ m_thread ∷ m_words ∷ [])) a f g last f_is words in
    compact_text-members (command_members script j s p h) old a g new opens g_is closes

-- ---- the report

-- the members after the domains
members_told-rest : (m groups total : Member) (ms journal windows : List Member) (a c d e f g : List ℕ) → c ≡ a ++ members_told false (m ∷ ms) → d ≡ c ++ members_told true (groups ∷ []) → e ≡ d ++ members_told true journal
    → f ≡ e ++ members_told true (total ∷ []) → g ≡ f ++ members_told true windows → g ≡ a ++ members_told false (m ∷ (ms ++ groups ∷ (journal ++ total ∷ windows)))
members_told-rest m groups total ms journal windows a c d e f g c_is d_more e_more f_more g_more =
    let with_groups : List Member = ms ++ groups ∷ [] in
    let with_journal : List Member = with_groups ++ journal in
    let with_total : List Member = with_journal ++ total ∷ [] in
    members_told-then m with_total windows (ms ++ groups ∷ (journal ++ total ∷ windows)) a f g (simp append_assoc)
    (members_told-then m with_journal (total ∷ []) with_total a e f refl (members_told-then m with_groups journal with_journal a d e refl (members_told-then m ms (groups ∷ []) with_groups a c d refl c_is d_more) e_more) f_more) g_more

-- the report by its members
pub json_of-parts : (script : ScriptValue) (j : JournalsValue) (flags : Flags) (windows : List Window) (old a b c d e f g new : List ℕ)
    → a ≡ old ++ 123 ∷ []
    → b ≡ a ++ members_told false (commands_part script j flags.quiet)
    → c ≡ b ++ members_told (not flags.quiet) ((codes "domains", array_of (domain_values script j)) ∷ [])
    → d ≡ c ++ members_told true ((codes "groups", array_of (group_values script j)) ∷ [])
    → e ≡ d ++ members_told true (journal_part script j flags.journal)
    → f ≡ e ++ members_told true ((codes "total", total_value script j) ∷ [])
    → g ≡ f ++ members_told true (windows_part flags.windows windows)
    → new ≡ g ++ codes "}\n"
    → new ≡ old ++ json_of script j flags windows
unfolding json_of
json_of-parts script j flags windows old a b c d e f g new opens commands domains groups journal total told closes =
    closes
    ∙ (ap (λ (t : List ℕ). t ++ codes "}\n") (all flags.quiet commands domains ∙ ap (λ (t : List ℕ). t ++ members_told false (report_members script j flags windows)) opens)
    ∙ (between old (members_told false (report_members script j flags windows)) ∙ ap (λ (t : List ℕ). old ++ (t ++ codes "\n")) (sym (compact_text-object (report_members script j flags windows)))))
  where
    m_domains : Member
    m_domains = (codes "domains", array_of (domain_values script j))

    m_commands : Member
    m_commands = (codes "commands", array_of (command_values script j (opening script.machine script.tasks) 0 j.tree))

    m_groups : Member
    m_groups = (codes "groups", array_of (group_values script j))

    m_total : Member
    m_total = (codes "total", total_value script j)

    rest : List Member
    rest = m_groups ∷ (journal_part script j flags.journal ++ m_total ∷ windows_part flags.windows windows)

    all : (quiet : Bool) → b ≡ a ++ members_told false (commands_part script j quiet) → c ≡ b ++ members_told (not quiet) (m_domains ∷ []) → g ≡ a ++ members_told false (commands_part script j quiet ++ m_domains ∷ rest)
    all true none first =
        members_told-rest m_domains m_groups m_total [] (journal_part script j flags.journal) (windows_part flags.windows windows) a c d e f g
        (first ∙ ap (λ (t : List ℕ). t ++ members_told false (m_domains ∷ [])) (none ∙ append-nil a)) groups journal total told
    all false list first =
        members_told-rest m_commands m_groups m_total (m_domains ∷ []) (journal_part script j flags.journal) (windows_part flags.windows windows) a c d e f g (members_told-then m_commands [] (m_domains ∷ []) (m_domains ∷ []) a b c refl list first) groups journal
        total told

    between : (old members : List ℕ) → ((old ++ 123 ∷ []) ++ members) ++ 125 ∷ 10 ∷ [] ≡ old ++ ((123 ∷ (members ++ 125 ∷ [])) ++ 10 ∷ [])
    between old members = simp append_assoc
