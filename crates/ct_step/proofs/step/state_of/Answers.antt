use Rattle.std.proofs.Common.{ℕ, List, map, sym, subst}
use Rattle.ct_data_tiles.proofs.Rows.{text_in}
use Rattle.ct_step.proofs.Widths.{hashes_in}
use Rattle.ct_verify.proofs.Extending.{answered}
use Rattle.ct_step.specs.Steps.{AreBytesOf, StopsState, of_edge}
use Rattle.ct_step.proofs.Handed.{all-bytes, not_believed}
use Rattle.ct_step.proofs.step.state_of.Goals as goal

pub returns-in_err-believed : goal.returns-in_err-believed
returns-in_err-believed g c =
    let H = g.H.NodeHash.digest in
    let edge = map text_in c.args.edge.now in
    let fault = c.in_err-believed.field-0.0 in
    let answer = c.from_residual-in_err-believed.ensures in
    answered c.from_residual-in_err-believed.result _ (StopsState H c.args.line.now edge) (of_edge fault) answer.0 answer.1
    (not_believed H c.args.line.now (map hashes_in c.in_ok-tiles.tiles.items) edge fault c.in_ok-tiles.ensures.hashes c.in_err-believed.ensures)

pub returns : goal.returns
returns g c =
    let edge = map text_in c.args.edge.now in (
      map hashes_in c.in_ok-tiles.tiles.items,
      subst (λ (T : List (List (List ℕ))). AreBytesOf T edge) (sym c.in_ok-tiles.ensures.hashes) (all-bytes edge c.in_ok-tiles.ensures.whole),
      c.in_ok-believed.ensures,
    )
