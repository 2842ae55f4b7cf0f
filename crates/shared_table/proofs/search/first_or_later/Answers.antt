use Rattle.std.proofs.Common.{sym, ◌∙◌}
use Rattle.shared_table.specs.Looked.{places_in}
use Rattle.shared_table.proofs.Firsts.{first_where-keep, first_where-skip}
use Rattle.shared_table.proofs.search.first_or_later.Goals as goal

pub returns-in-Some : goal.returns-in-Some
returns-in-Some g c = λ ks e.
    sym (first_where-keep (g.T.Test.passes c.args.test.now) c.in-Some.place ks (places_in c.args.slots.now c.args.rest) (sym e ∙ c.in-Some.is))

pub returns-in-None : goal.returns-in-None
returns-in-None g c = λ ks e.
    c.first_of.ensures ∙ sym (first_where-skip (g.T.Test.passes c.args.test.now) ks (places_in c.args.slots.now c.args.rest) (sym e ∙ c.in-None.is))
