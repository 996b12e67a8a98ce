-- A text begins with a name, or there is none.
use Rattle.std.proofs.Common.{◌≡◌, ◌≢◌, Err}
use Rattle.tip_line.specs.Named.{head_of}
use Rattle.tip_line.specs.declared.fault.ParseFault.TheVariants.{Memory}
use Rattle.tip_line.specs.Words.{words_of}
use Rattle.tip_line.proofs.Heads.{name_said, no_name_said, none_said, refused_words}
use Rattle.tip_line.proofs.Texts.{hands_on, unclean_counts}
use Rattle.tip_line.proofs.named.named.Goals as goal

pub returns-in_err-words : goal.returns-in_err-words
returns-in_err-words g c = hands_on _ (λ fault. (head_of g.N.Name.spelled c.args.names.now c.args.text.now ≡ Err fault) × (fault ≢ Memory)) c.from_residual.result c.in_err-words.field-0.0 c.from_residual.ensures
    (refused_words g.N.Name.spelled c.args.names.now c.args.text.now c.in_err-words.field-0.0 c.in_err-words.ensures.0, unclean_counts c.args.text.now c.in_err-words.field-0.0 c.in_err-words.ensures.1)

pub returns-in_default : goal.returns-in_default
returns-in_default g c = (none_said g.N.Name.spelled c.args.names.now c.args.text.now (words_of c.in_ok-words.words.rest.now) c.in_ok-words.ensures c.in_default.ensures, λ e. absurd (cc))

pub returns-in-Some-among : goal.returns-in-Some-among
returns-in-Some-among g c = name_said g.N.Name.spelled c.args.names.now c.args.text.now c.in-Some.word.now (words_of c.in_ok-words.words.rest.now) (words_of c.next.new.self.rest.now) c.in-Some-among.name c.in_ok-words.ensures c.in-Some.ensures.0 c.in-Some-among.ensures

pub returns-in-None : goal.returns-in-None
returns-in-None g c = (no_name_said g.N.Name.spelled c.args.names.now c.args.text.now c.in-Some.word.now (words_of c.in_ok-words.words.rest.now) (words_of c.next.new.self.rest.now) c.in_ok-words.ensures c.in-Some.ensures.0 c.in-None.ensures, λ e. absurd (cc))
