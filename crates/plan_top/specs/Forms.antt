-- What the words after the program's name ask for: `curve SETS WAYS [--l1 SETSxWAYS] [--l2 SETSxWAYS] [--one-of N [--scaled]] [--first]`,
-- `filter [--l1 SETSxWAYS] [--l2 SETSxWAYS]`, `divide [--compare] [--used]`, `divide --apply` or `share SETS WAYS [--l1 SETSxWAYS] [--l2 SETSxWAYS] [--ratio] WEIGHT:LEAST ..`.
use Rattle.std.specs.Prelude.{ℕ, ◌+◌, ◌==◌, false, if◌then◌else◌, List, [], ◌∷◌, ◌++◌, codes, string_bytes, String, Option, Some, None, option_map}
use Rattle.std.specs.Option.{option_and_then}
use Rattle.std.specs.declared.alloc.Global.{Global}
use Rattle.num_text.specs.Numbers.{below, dec_of}
use Rattle.rc_base.specs.Texts.{is_text}
use Rattle.way_curve.specs.FirstLevels.{no_levels}
use Rattle.plan_top.specs.CurveForms.{CurveWords, with_first, with_l1, with_l2, with_sample, with_scale}
use Rattle.plan_top.specs.DivideForms.{divide_in}
use Rattle.plan_top.specs.FilterForms.{filter_in}
use Rattle.plan_top.specs.Levels.{level_in}
use Rattle.plan_top.specs.declared.form.Form.{Form}
use Rattle.plan_top.specs.declared.form.Form.TheVariants.{Curve, Divide, Filter, Share}
use Rattle.plan_top.specs.Numbers.{sets_in, ways_in}
use Rattle.plan_top.specs.ShareForms.{share_in}

-- of how many lines a sample has one, for caches of so many sets: from 1 to as many as there are sets, in decimal digits
abbrev pub one_of_in : ℕ → List ℕ → Option ℕ
one_of_in sets text = option_and_then (λ n. if n == 0 then None else Some n) (below (sets + 1) (dec_of text))

-- what two numbers after `curve` ask for
abbrev pub curve_in : List ℕ → List ℕ → Option CurveWords
curve_in sets ways = option_and_then (λ s. option_map (λ w. record { sets = s; ways = w; levels = no_levels; one_of = None; is_scaled = false; has_first = false }) (ways_in ways)) (sets_in sets)

-- A form with what the words after it ask for: each of `--l1 SETSxWAYS`, `--l2 SETSxWAYS`, `--one-of N`, which `--scaled` may follow, and
-- `--first` may stand there, in this order, and nothing else. From behind: those from `--first` on, which is the last word,
abbrev pub from_first : CurveWords → List (String Global) → Option CurveWords
from_first form [] = Some form
from_first form (flag ∷ []) = if is_text (string_bytes flag) (codes "--first") then Some (with_first form) else None
from_first form words = None

-- those after `--one-of N`,
abbrev pub from_scaled : CurveWords → List (String Global) → Option CurveWords
from_scaled form [] = Some form
from_scaled form (flag ∷ rest) = if is_text (string_bytes flag) (codes "--scaled") then from_first (with_scale form) rest else from_first form (flag ∷ rest)

-- those from `--one-of` on,
abbrev pub from_sample : CurveWords → List (String Global) → Option CurveWords
from_sample form (flag ∷ one_of ∷ rest) =
    if is_text (string_bytes flag) (codes "--one-of") then option_and_then (λ n. from_scaled (with_sample form n) rest) (one_of_in form.sets (string_bytes one_of)) else from_first form (flag ∷ one_of ∷ rest)
from_sample form words = from_first form words

-- those from `--l2` on,
abbrev pub from_l2 : CurveWords → List (String Global) → Option CurveWords
from_l2 form (flag ∷ level ∷ rest) =
    if is_text (string_bytes flag) (codes "--l2") then option_and_then (λ l. from_sample (with_l2 form l) rest) (level_in (string_bytes level)) else from_sample form (flag ∷ level ∷ rest)
from_l2 form words = from_sample form words

-- and all of them.
abbrev pub from_l1 : CurveWords → List (String Global) → Option CurveWords
from_l1 form (flag ∷ level ∷ rest) =
    if is_text (string_bytes flag) (codes "--l1") then option_and_then (λ l. from_l2 (with_l1 form l) rest) (level_in (string_bytes level)) else from_l2 form (flag ∷ level ∷ rest)
from_l1 form words = from_l2 form words

-- what a command line that is of none of `divide`, `filter` and `share` asks for
abbrev pub curve_form_of : List (String Global) → Option Form
curve_form_of (command ∷ sets ∷ ways ∷ flags) =
    if is_text (string_bytes command) (codes "curve")
    then option_map Curve (option_and_then (λ (form : CurveWords). from_l1 form flags) (curve_in (string_bytes sets) (string_bytes ways)))
    else None
curve_form_of words = None

-- what a command line asks for, and None where it is not valid
abbrev pub form_of : List (String Global) → Option Form
form_of [] = None
form_of (command ∷ words) =
    if is_text (string_bytes command) (codes "divide") then option_map Divide (divide_in words)
    else (if is_text (string_bytes command) (codes "filter") then option_map Filter (filter_in words)
    else (if is_text (string_bytes command) (codes "share") then option_map Share (share_in words) else curve_form_of (command ∷ words)))

-- the line for a command line that is not valid
abbrev pub usage_line : List ℕ
usage_line = codes "usage: resctrl_plan curve SETS WAYS [--l1 SETSxWAYS] [--l2 SETSxWAYS] [--one-of N [--scaled]] [--first] | filter [--l1 SETSxWAYS] [--l2 SETSxWAYS] | divide [--compare] [--used] | divide --apply | share SETS WAYS [--l1 SETSxWAYS] [--l2 SETSxWAYS] [--ratio] WEIGHT:LEAST .." ++ 10 ∷ []
