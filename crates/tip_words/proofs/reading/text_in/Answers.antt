use Rattle.std.proofs.Common.{◌∙◌, ap, List, [], Option, ℕ, unwrap_or}
use Rattle.clap.proofs.WalkLemmas.{first_value-rows}
use Rattle.clap.specs.Words.{found_of}
use Rattle.tip_words.proofs.reading.text_in.Goals as goal

pub returns-in-Some : goal.returns-in-Some
returns-in-Some c =
    let found = c.in-Some.ensures ∙ first_value-rows (found_of c.args.found.now) c.args.name.now in
    ap (λ (value : Option (List ℕ)). unwrap_or value []) found

pub returns-in-None : goal.returns-in-None
returns-in-None c =
    let found = c.in-None.ensures ∙ first_value-rows (found_of c.args.found.now) c.args.name.now in
    ap (λ (value : Option (List ℕ)). unwrap_or value []) found
