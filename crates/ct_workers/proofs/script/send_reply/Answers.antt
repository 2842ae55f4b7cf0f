use Rattle.std.proofs.Common.{◌≡◌, ◌∙◌, List, ℕ, [], ◌∷◌, take, subst}
use Rattle.ct_lines.specs.Serving.{IsShort}
use Rattle.ct_lines.proofs.Pieces.{short_take}
use Rattle.ct_workers.specs.Output.{request_reply}
use Rattle.ct_workers.proofs.script.send_reply.Goals as goal

pub returns-then-not-write_whole-clause-some : goal.returns-then-not-write_whole-clause-some
returns-then-not-write_whole-clause-some g c =
    let bytes = c.deref.result.now in
    let same : bytes ≡ request_reply c.args.log.now c.args.request.now = c.deref.ensures.value ∙ c.in_ok-reply.ensures.reply in
    let (n, less, written) = c.write_whole.ensures.some c.if-not-write_whole.true in (
      take n bytes,
      subst (λ (r : List ℕ). IsShort (take n bytes) (r ∷ [])) same (short_take n bytes less),
      written,
    )
