use Rattle.std.proofs.Common.{◌∙◌}
use Rattle.sha2.specs.Sha256.{sha256}
use Rattle.sha2.proofs.Facts256.{length-sha256}
use Rattle.ct_monitor.proofs.NoTexts.{no_hash, not_so, other_hash}
use Rattle.ct_monitor.proofs.reading.checked.Goals as goal

pub returns-in_default : goal.returns-in_default
returns-in_default c = no_hash sha256 length-sha256 c.args.bytes.now c.in_default.ensures.cases

pub returns-else-same : goal.returns-else-same
returns-else-same c =
    let other = not_so c.are_same-same.result _ _ c.are_same-same.ensures c.if-same.false in
    other_hash sha256 length-sha256 c.args.bytes.now c.in-Some.parts.now c.in-Some.check.now c.in-Some.ensures.cases.0 c.in-Some.ensures.cases.1
    (λ e. other (c.digest-expected.ensures ∙ e))
