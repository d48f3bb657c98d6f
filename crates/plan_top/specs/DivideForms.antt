-- What the words after `divide` ask for: `--apply` alone, or flags of the report, each at most once, in this order.
use Rattle.std.specs.Prelude.{Bool, if◌then◌else◌, List, [], ◌∷◌, codes, String, Option, Some, None}
use Rattle.std.specs.declared.alloc.Global.{Global}
use Rattle.plan_top.specs.Flags.{after_flag, begins_with}
use Rattle.plan_top.specs.declared.divide_form.DivideForm.{DivideForm}
use Rattle.plan_top.specs.declared.divide_form.DivideForm.TheVariants.{Apply, Report}

-- a form, where no words are left
abbrev pub if_no_more : List (String Global) → DivideForm → Option DivideForm
if_no_more [] form = Some form
if_no_more (word ∷ words) form = None

-- what is asked for after `--compare`, by whether that stood there
abbrev pub report_after : Bool → List (String Global) → Option DivideForm
report_after compare words = if_no_more (after_flag (codes "--used") words) (Report (record { compare = compare; only_used = begins_with (codes "--used") words }))

-- what the words after `divide` ask for that are of the report
abbrev pub report_in : List (String Global) → Option DivideForm
report_in words = report_after (begins_with (codes "--compare") words) (after_flag (codes "--compare") words)

-- what the words after `divide` ask for, and None where the command line is not valid
abbrev pub divide_in : List (String Global) → Option DivideForm
divide_in words = if begins_with (codes "--apply") words then if_no_more (after_flag (codes "--apply") words) Apply else report_in words
