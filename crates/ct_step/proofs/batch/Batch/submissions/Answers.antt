use Rattle.std.proofs.Common.{◌∙◌, List, map, sym, ap}
use Rattle.std.proofs.lemmas.Slice.Zip.{firsts-zip}
use Rattle.ct_codec.specs.Submitted.{Submitted}
use Rattle.ct_step.proofs.Widths.{hashes_in}
use Rattle.ct_step.proofs.Batches.{Entry}
use Rattle.ct_step.proofs.batch.Batch.submissions.Goals as goal

pub returns : goal.returns
returns c =
    let submitted : List Submitted = c.self.inside.submissions.items in
    c.deref.ensures.value ∙ sym (firsts-zip submitted (map hashes_in c.self.inside.chains.items) c.self.invariant.all)
    ∙ ap (map (λ (p : Entry). p.0)) c.self.view_is
