use Rattle.std.proofs.Common.{◌∙◌, codes, refl}
use Rattle.clap.proofs.WalkLemmas.{first_value-rows}
use Rattle.clap.specs.Words.{found_of}
use Rattle.tip_words.proofs.reading.order_to_operate.Goals as goal

pub returns : goal.returns
returns c = (
  refl,
  c.text_in.ensures,
  c.text_in-2.ensures,
  c.get_str.ensures ∙ first_value-rows (found_of c.args.found.now) (codes "first"),
  c.get_str-2.ensures ∙ first_value-rows (found_of c.args.found.now) (codes "second"),
  c.get_str-3.ensures ∙ first_value-rows (found_of c.args.found.now) (codes "third"),
)
