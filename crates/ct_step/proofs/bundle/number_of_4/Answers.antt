use Rattle.std.proofs.Common.{rules, arith}
use Rattle.std.proofs.lemmas.Nat.{be_bytes_4}
use Rattle.ct_codec.specs.Bytes.{num}
use Rattle.ct_step.proofs.bundle.number_of_4.Goals as goal

pub returns : goal.returns
unfolding num
returns c = be_bytes_4 c.args.bytes.now c.from_be_bytes.result (search rules) (λ i. omega (arith, c.fits-bytes i)) c.from_be_bytes.ensures
