-- How long the texts of numbers are.
use Rattle.num_text.proofs.laws.Prints.{length-decimal}

pub ruleset number_sizes = (length-decimal)
