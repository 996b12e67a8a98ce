use Rattle.std.proofs.Common.{◌≡◌, ◌∙◌, ap, refl, subst, sym, List, [], map, string_bytes, true, Option, Some, None, Ok, Err, Result}
use Rattle.std.specs.Prelude.{IfErr, IsErrAnd, IsSomeAnd}
use Rattle.clap.specs.Words.{App, Row, Text, fault_of, is_simple, is_simple_and_free, kind_of, subcommand_of, takes}
use Rattle.clap.specs.declared.error.Error.{Error}
use Rattle.clap.specs.declared.error.kind.ErrorKind.TheVariants.{OutOfMemory}
use Rattle.tip_words.proofs.Naming.{is_free_tipd, is_simple_tipd, names_order}
use Rattle.tip_words.specs.Commands.{tipd}
use Rattle.tip_words.specs.Orders.{Says, is_command}
use Rattle.tip_words.specs.declared.order.Order.{Order}
use Rattle.tip_words.proofs.reading.read_words.Goals as goal

-- `?` passes an error up as it is
passed_up : {T : Type 0} (r : Result T Error) (error : Error) (Q : Error → Type 0) → IsErrAnd r (λ passed. passed ≡ error) → Q error → IfErr r Q
passed_up (Ok order) error Q is q = tt
passed_up (Err passed) error Q is q = subst Q (sym is) q

pub returns-in_err-matches-clause-refused : goal.returns-in_err-matches-clause-refused
returns-in_err-matches-clause-refused c =
    let words = map (λ x. string_bytes x) c.args.words.now in
    let passes = subst (λ (app : App). takes app words ≡ true → kind_of c.in_err-matches.field-0.0 ≡ OutOfMemory) c.in_ok-tipd.ensures.0 c.in_err-matches.ensures.passes in
    passed_up c.from_residual-in_err-matches.result c.in_err-matches.field-0.0 (λ error. takes tipd words ≡ true → kind_of error ≡ OutOfMemory)
    c.from_residual-in_err-matches.ensures.1 passes

pub order_in-requires : goal.order_in-requires
order_in-requires c =
    let words = map (λ x. string_bytes x) c.args.words.now in
    let is = c.in_ok-tipd.ensures.0 in
    let faultless = subst (λ (app : App). fault_of app words ≡ []) is (c.in_ok-matches.ensures.kinds (ap is_simple_and_free is ∙ is_free_tipd)) in
    let found = (c.in_ok-matches.ensures.matches (ap is_simple is ∙ is_simple_tipd)).1 ∙ ap (λ (app : App). subcommand_of app words) is in
    subst (λ (found : Option (Text × List Row)). IsSomeAnd found (λ found. is_command found.0 ≡ true)) (sym found) (names_order words faultless)

some_said : (found : Option (Text × List Row)) (order : Order) → IsSomeAnd found (λ found. Says found order) → (x : Text × List Row) × (found ≡ Some x) × Says x order
some_said None order said = absurd said
some_said (Some x) order said = (x, refl, said)

pub returns-clause-order : goal.returns-clause-order
returns-clause-order c =
    let words = map (λ x. string_bytes x) c.args.words.now in
    let is = c.in_ok-tipd.ensures.0 in
    let found = (c.in_ok-matches.ensures.matches (ap is_simple is ∙ is_simple_tipd)).1 ∙ ap (λ (app : App). subcommand_of app words) is in
    some_said (subcommand_of tipd words) c.order_in.result
    (subst (λ (found : Option (Text × List Row)). IsSomeAnd found (λ found. Says found c.order_in.result)) found c.order_in.ensures)
