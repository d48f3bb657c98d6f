use Rattle.path_names.proofs.PathsAgain.{path_of-again}
use Rattle.path_names.proofs.laws.NamedDomains.{IsWithin-path_of}
use Rattle.path_names.proofs.laws.ShortNames.{AreShort-path_of}
use Rattle.path_names.proofs.paths.read_path.Goals as goal

pub returns-in-Some-clause-within : goal.returns-in-Some-clause-within
returns-in-Some-clause-within c = IsWithin-path_of c.args.domains c.args.names.now c.args.text.now c.in-Some.path c.args.names.now c.in-Some.ensures.reads

pub returns-in-Some-clause-short : goal.returns-in-Some-clause-short
returns-in-Some-clause-short c = AreShort-path_of c.args.domains c.args.names.now c.args.text.now c.in-Some.path c.args.names.now c.in-Some.ensures.reads

pub keep_path-requires : goal.keep_path-requires
keep_path-requires c = record {
  reads = path_of-again c.args.domains c.args.names.now c.args.text.now c.in_ok-path.path c.read_anew.new.names c.in_ok-path.ensures.path;
  known = c.in_ok-path.ensures.ids;
}
