use Rattle.std.proofs.Common.{◌≡◌, ◌<◌, ◌^◌, take}
use Rattle.std.specs.Str.Parse.{digits_value, AllDigits}
use Rattle.num_text.proofs.reading.few_digits.Given as goal

abbrev pub invariant-loop-b : goal.invariant-loop-b
invariant-loop-b l = record { fits : l.n < 2 ^ 64; value : l.n ≡ digits_value l.base (take l.b-index l.text); digits : AllDigits l.base (take l.b-index l.text) }
