use Rattle.std.proofs.Common.{◌+◌, ◌∙◌, sym, ap}
use Rattle.tip_line.specs.Fields.{left_in}
use Rattle.tip_line.proofs.FieldLemmas.{field_cut, field_last, rest_from}
use Rattle.tip_line.proofs.fields.Fields.next.Goals as goal

pub returns-in-Some : goal.returns-in-Some
returns-in-Some g c =
    sym c.self.view_is ∙ ap (left_in g.row.MARK) c.in_ok-rest.was ∙ field_cut g.row.MARK c.in_ok-rest.rest.now _ c.in-Some.end (sym c.first_mark.ensures ∙ c.in-Some.is) (rest_from c.in_ok-rest.rest.now (c.in-Some.end + 1))

pub returns-in-None : goal.returns-in-None
returns-in-None g c =
    sym c.self.view_is ∙ ap (left_in g.row.MARK) c.in_ok-rest.was ∙ field_last g.row.MARK c.in_ok-rest.rest.now (sym c.first_mark.ensures ∙ c.in-None.is)
