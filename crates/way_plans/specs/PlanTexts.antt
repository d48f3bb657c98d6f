-- What is printed of a plan: the curves of each domain's groups, how many misses the domain has, and the lines of a script.
use Rattle.std.specs.Prelude.{ℕ, ◌+◌, ◌-◌, Bool, true, false, ◌&&◌, ◌==◌, is_some, if◌then◌else◌, List, [], ◌∷◌, ◌++◌, get_or, codes, decimal, Option, Some, None}
use Rattle.std.specs.List.{flat_map, range_with_len}
use Rattle.way_curve.specs.CurveTexts.{ways_line}
use Rattle.group_tree.specs.declared.group.Group.{Group}
use Rattle.path_names.specs.declared.dirs.DirRef.{DirRef}
use Rattle.path_names.specs.declared.dirs.DirRef.TheVariants.{Ctrl, Root}
use Rattle.path_names.specs.declared.files.FileKind.{FileKind}
use Rattle.path_names.specs.declared.files.FileKind.TheVariants.{Mode as ModeFile, Schemata as SchemataFile}
use Rattle.path_names.specs.declared.names.NameId.{NameId}
use Rattle.path_names.specs.declared.path_ref.PathRef.TheVariants.{Dir, File}
use Rattle.path_names.specs.PathTexts.{path_text}
use Rattle.way_plans.specs.Masks.{mask_of, span_at}
use Rattle.rc_base.specs.declared.names.Mode.{Mode}
use Rattle.rc_base.specs.declared.names.Mode.TheVariants.{Exclusive, LockSetup, Locked, Shareable}
use Rattle.schemata_text.specs.declared.assignment.Assignment.{Assignment}
use Rattle.schemata_text.specs.Printed.{printed}
use Rattle.script_ops.specs.Canonical.{op_text}
use Rattle.script_ops.specs.declared.op.Op.TheVariants.{Write}
use Rattle.way_plans.specs.Divisions.{misses_of}
use Rattle.way_plans.specs.declared.order.Order.{Order}
use Rattle.way_plans.specs.declared.order.Order.TheVariants.{Any, Creation}
use Rattle.way_plans.specs.declared.span.Span.{Span}

-- What is planned for a domain: the misses of each group, in order, with each number of ways from 0 to 32, and the ways that each
-- gets, or None where the ways of the domain do not suffice; and in which orders the groups were tried.
pub record DomainPart : Type 0 where
  pub misses : List (List ℕ)
  pub spans : Option (List Span)
  pub order : Order

-- the directory of the control group of this name, or of the default group
abbrev pub named_dir : Option NameId → DirRef
named_dir None = Root
named_dir (Some name) = Ctrl name

-- the directory of a control group
abbrev pub dir_of : Group → DirRef
dir_of g = named_dir g.name

-- ---- curves

-- the line of one number of ways, by the misses with each: with no ways all uses miss
abbrev pub row_line : List ℕ → ℕ → List ℕ
row_line misses ways = ways_line ways (get_or misses 0 0) (get_or misses 0 0 - get_or misses ways 0)

-- `domain D group GID PATH:`
abbrev pub group_heading : List (List ℕ) → ℕ → Group → List ℕ
group_heading names domain g = codes "domain " ++ decimal domain ++ codes " group " ++ decimal g.gid.0 ++ codes " " ++ path_text names (Dir (dir_of g)) ++ codes ":\n"

-- the heading of a group, and a line for each number of ways from 1 on, up to this one
abbrev pub curve_text : List (List ℕ) → ℕ → ℕ → Group → List ℕ → List ℕ
curve_text names ways domain g row = group_heading names domain g ++ flat_map (row_line row) (range_with_len 1 ways)

-- nothing of a group without uses, where only those with uses are asked for
abbrev pub asked_curve : Bool → List (List ℕ) → ℕ → ℕ → Group → List ℕ → List ℕ
asked_curve only_used names ways domain g row = if only_used && (get_or row 0 0 == 0) then [] else curve_text names ways domain g row

-- the same of each group
abbrev pub curve_texts : Bool → List (List ℕ) → ℕ → ℕ → List Group → List (List ℕ) → List ℕ
curve_texts only_used names ways domain [] rows = []
curve_texts only_used names ways domain (g ∷ gs) [] = []
curve_texts only_used names ways domain (g ∷ gs) (row ∷ rows) = asked_curve only_used names ways domain g row ++ curve_texts only_used names ways domain gs rows

-- ---- divisions

-- how many misses all groups have together, or that there is no division
abbrev pub division_told : List (List ℕ) → Option (List Span) → List ℕ
division_told misses None = codes ": no division\n"
division_told misses (Some spans) = codes ": misses " ++ decimal (misses_of misses spans) ++ codes "\n"

-- the line that the groups were tried in order of creation only, where that is so
abbrev pub order_line : ℕ → Order → List ℕ
order_line domain Any = []
order_line domain Creation = codes "domain " ++ decimal domain ++ codes ": the groups were tried in order of creation only\n"

-- `domain D: misses M` or `domain D: no division`, and where not all orders were tried a line that says so
abbrev pub division_line : ℕ → DomainPart → List ℕ
division_line domain part = codes "domain " ++ decimal domain ++ division_told part.misses part.spans ++ order_line domain part.order

-- the curves of a domain's groups, and the line of its division
abbrev pub domain_text : Bool → List (List ℕ) → ℕ → List Group → ℕ → DomainPart → List ℕ
domain_text only_used names ways groups domain part = curve_texts only_used names ways domain groups part.misses ++ division_line domain part

-- the same of each domain, numbered from this one
abbrev pub domain_texts : Bool → List (List ℕ) → ℕ → List Group → ℕ → List DomainPart → List ℕ
domain_texts only_used names ways groups domain [] = []
domain_texts only_used names ways groups domain (part ∷ parts) = domain_text only_used names ways groups domain part ++ domain_texts only_used names ways groups (domain + 1) parts

-- ---- the lines of a script

-- the line that writes a text to a file of a group, as a script may say it
abbrev pub write_line : List (List ℕ) → Group → FileKind → List ℕ → List ℕ
write_line names g file text = op_text names (Write (File (dir_of g) file) text) ++ codes "\n"

-- whether a mode is exclusive
abbrev pub is_exclusive : Mode → Bool
is_exclusive Exclusive = true
is_exclusive Shareable = false
is_exclusive LockSetup = false
is_exclusive Locked = false

-- the line that makes an exclusive group shareable
abbrev pub shareable_line : List (List ℕ) → Group → List ℕ
shareable_line names g = if is_exclusive g.mode then write_line names g ModeFile (codes "shareable") else []

-- the line that makes a group exclusive
abbrev pub exclusive_line : List (List ℕ) → Group → List ℕ
exclusive_line names g = write_line names g ModeFile (codes "exclusive")

-- the masks of the group at this place in domains, numbered from this one
abbrev pub masks_at : ℕ → ℕ → List DomainPart → List Assignment
masks_at place domain [] = []
masks_at place domain (part ∷ parts) = record { domain = domain; mask = mask_of (span_at part.spans place) } ∷ masks_at place (domain + 1) parts

-- the line that gives the group at this place its ways in every domain
abbrev pub schemata_line : List (List ℕ) → ℕ → List DomainPart → ℕ → Group → List ℕ
schemata_line names ways parts place g = write_line names g SchemataFile (printed ways (masks_at place 0 parts))

-- the same of each group, from this place on
abbrev pub schemata_lines : List (List ℕ) → ℕ → List DomainPart → ℕ → List Group → List ℕ
schemata_lines names ways parts place [] = []
schemata_lines names ways parts place (g ∷ gs) = schemata_line names ways parts place g ++ schemata_lines names ways parts (place + 1) gs

-- whether each domain has a division
abbrev pub is_whole : List DomainPart → Bool
is_whole [] = true
is_whole (part ∷ parts) = is_some part.spans && is_whole parts

-- Lines that can be put into a script, where each domain has a division: no group is exclusive, each gets its ways, and each becomes
-- exclusive.
abbrev pub script_lines : List (List ℕ) → ℕ → List Group → List DomainPart → List ℕ
script_lines names ways groups parts =
    if is_whole parts then flat_map (shareable_line names) groups ++ schemata_lines names ways parts 0 groups ++ flat_map (exclusive_line names) groups else []

-- The whole text: each domain, with the curves of all groups or of those that have uses, and the lines of a script.
abbrev pub plan_text : (only_used : Bool) → List (List ℕ) → ℕ → List Group → List DomainPart → List ℕ
plan_text only_used names ways groups parts = domain_texts only_used names ways groups 0 parts ++ script_lines names ways groups parts
