use Rattle.std.proofs.Common.{◌≡◌, ◌+◌, [], ◌∷◌, length, Vec, Global, List, ap, sym, ◌∙◌, arith, length-append}
use Rattle.std.specs.Prelude.{slice_get}
use Rattle.ct_lines.specs.declared.request.FrontRequest.{FrontRequest}
use Rattle.ct_lines.proofs.PlanLemmas.{each_more}
use Rattle.ct_lines.proofs.plan.no_tasks.Goals as goal

pub loop-front-preserved : goal.loop-front-preserved
loop-front-preserved c =
    let e = c.in_ok-push.ensures.items in
    let size = length-append c.loop-front.lists.items (c.new.result ∷ []) in
    let same : length c.push.new.self.items ≡ length c.loop-front.lists.items + 1 = ap length e ∙ size in
    record {
      count = omega (arith, same, c.loop-front.invariant.count);
      empty = λ k v at. each_more (λ (w : Vec FrontRequest Global). w.items ≡ []) c.loop-front.lists.items c.new.result
          c.loop-front.invariant.empty c.new.ensures.items k v
          (ap (λ (l : List (Vec FrontRequest Global)). slice_get l k) (sym e) ∙ at);
    }
