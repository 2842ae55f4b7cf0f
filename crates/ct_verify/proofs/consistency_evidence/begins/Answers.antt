use Rattle.std.proofs.Common.{Vec, Global, ℕ, List, ◌∙◌, sym}
use Rattle.ct_verify.proofs.Extending.{begins_decides}
use Rattle.ct_verify.proofs.consistency_evidence.begins.Goals as goal

abbrev bytes : Vec ℕ Global → List ℕ
bytes l = l.items

pub returns : goal.returns
returns c =
    let d = begins_decides bytes c.args.old.now c.args.new.now in
    (λ t. d.0 (sym c.eq.ensures ∙ t), λ b. c.eq.ensures ∙ d.1 b)
