use Rattle.ct_step.proofs.Bundles.{behind_name}
use Rattle.ct_step.proofs.bundle.object_at.Goals as goal

pub returns-in_default-vector_4_at-clause-none : goal.returns-in_default-vector_4_at-clause-none
returns-in_default-vector_4_at-clause-none c = λ o r h e.
    c.in_default-vector_4_at.ensures.none o.1 r h.content
    (behind_name c.in-Some.name.now c.args.reader.now c.vector_2_at.new.reader o r c.in-Some.ensures.some.0 c.in-Some.ensures.some.1 h e)
